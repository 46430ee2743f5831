-- `page::turned_away` meets its contract.
use mathlib.Core.Path.{sym, ◌∙◌}
use Rattle.page.proofs.turned_away.Goals as goal

pub returns-then-none_falls : goal.returns-then-none_falls
returns-then-none_falls c = rw (sym c.none_falls.ensures ∙ c.if-none_falls.true)

pub returns : goal.returns
returns c = rw (sym c.none_falls.ensures ∙ c.if-none_falls.false)
