-- `explain_fields::piece::is_kind` meets its contract.
use borrow.Author.Tests.{ne_eqb}
use mathlib.Core.Bool.{Bool, true, false, cond}
use mathlib.Core.Option.{some, none}
use mathlib.Core.Path.{◌≡◌, refl}
use Rattle.listing.specs.Lists.{is_some}
use Rattle.listing.specs.Listing.{by_value}
use Rattle.listing.specs.Form.{read_kind}
use Rattle.explain_fields.proofs.piece.is_kind.Goals as goal

go : (t : Bool) → t ≡ is_some (cond t (some by_value) none)
go true = refl
go false = refl

pub returns-then-b-eq114 : goal.returns-then-b-eq114
unfolding read_kind
returns-then-b-eq114 c = rw c.if-b-eq114.true

pub returns-else-b-eq114 : goal.returns-else-b-eq114
unfolding read_kind
returns-else-b-eq114 c = rw (ne_eqb _ 114 c.if-b-eq114.false) (go _)
