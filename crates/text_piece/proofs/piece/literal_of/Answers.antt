-- `text_piece::literal_of` meets its contract.
use mathlib.Core.Path.{sym, ap, ◌∙◌}
use Rattle.text_piece.specs.Pieces.{negative, positive}
use Rattle.text_piece.proofs.Pieces as pieces
use Rattle.text_piece.proofs.piece.literal_of.Goals as goal

pub returns-then-from-to : goal.returns-then-from-to
returns-then-from-to c = sym (pieces.literal_none c.args.s.now _ _ c.if-from-to.true)

pub returns-then-s-from-eq45 : goal.returns-then-s-from-eq45
returns-then-s-from-eq45 c = c.negative_literal.ensures ∙ ap negative c.figure_of.ensures ∙ sym (pieces.literal_minus c.args.s.now _ _ c.requires c.if-from-to.false c.if-s-from-eq45.true)

pub returns : goal.returns
returns c = c.positive_literal.ensures ∙ ap positive c.figure_of-2.ensures ∙ sym (pieces.literal_plain c.args.s.now _ _ c.requires c.if-from-to.false c.if-s-from-eq45.false)
