-- `explain_fields::piece::is_kinds` meets its contract.
use mathlib.Core.Path.{◌∙◌}
use Rattle.std.proofs.Common.{rules, tests}
use Rattle.std.proofs.lemmas.Iterator.{YieldsList-from_slice}
use Rattle.std.proofs.lemmas.Iterator.Search.{all_from_yields_List}
use Rattle.listing.specs.Lists.{is_some}
use Rattle.listing.specs.Form.{read_kind}
use Rattle.explain_fields.proofs.Pieces as pieces
use Rattle.explain_fields.proofs.piece.is_kinds.Goals as goal

pub returns-then-piece-eq0 : goal.returns-then-piece-eq0
returns-then-piece-eq0 c = pieces.no_kinds _ c.if-piece-eq0.true

pub returns-then-piece-eq45 : goal.returns-then-piece-eq45
returns-then-piece-eq45 c = pieces.dash_alone _ c.if-piece-eq0.false c.if-piece-eq45.true

pub returns : goal.returns
returns c =
    all_from_yields_List (λ b. is_some (read_kind b)) _ _ _ c.all.ensures.ran (YieldsList-from_slice _ c.iter.ensures.rest) (λ x b q k. search (rules, tests))
    ∙ pieces.letters_all _ ∙ pieces.letters_there _ c.if-piece-eq0.false c.if-piece-eq45.false
