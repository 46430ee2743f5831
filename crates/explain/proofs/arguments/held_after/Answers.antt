-- `explain::arguments::held_after` meets its contract.
use mathlib.Core.Path.{sym, ◌∙◌}
use Rattle.explain.specs.Arguments.{held_after}
use Rattle.explain.proofs.arguments.held_after.Goals as goal

pub returns-then-held : goal.returns-then-held
unfolding held_after
returns-then-held c = rw c.if-held.true

pub returns-then-is_flag : goal.returns-then-is_flag
unfolding held_after
returns-then-is_flag c = rw (c.if-held.false, sym c.is_flag.ensures ∙ c.if-is_flag.true)

pub returns : goal.returns
unfolding held_after
returns c = rw (c.if-held.false, sym c.is_flag.ensures ∙ c.if-is_flag.false)
