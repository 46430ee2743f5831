-- `explain_there::there::piece_there` meets its contract.
use mathlib.Core.Path.{ap, ◌∙◌}
use Rattle.text_piece.specs.Pieces.{piece_answer}
use Rattle.text_fields.specs.Gather.{is_there_by}
use Rattle.explain_fields.proofs.Pieces.{whole}
use Rattle.explain_there.proofs.there.piece_there.Goals as goal

pub returns : goal.returns
returns c = c.is_below.ensures ∙ ap (is_there_by _) (c.piece_of.ensures ∙ ap piece_answer (whole _))
