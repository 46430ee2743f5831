-- `call_alike::pair_refusal` meets its contract.
use mathlib.Core.Path.{sym, ◌∙◌}
use Rattle.call_alike.proofs.Comparing.{second_passes, second_is_7, second_is_8}
use Rattle.call_alike.proofs.pair_refusal.Goals as goal

pub returns-in_default : goal.returns-in_default
returns-in_default c = second_passes _ _ _ c.in_default.is

pub returns-in-NoState : goal.returns-in-NoState
returns-in-NoState c = sym c.in-Err.is ∙ second_is_7 _ _ _ c.in-Err.is c.in-NoState.is

pub returns-in_default-refusal : goal.returns-in_default-refusal
returns-in_default-refusal c = c.and.ensures ∙ second_is_8 _ _ _ c.in-Err.is c.in_default-refusal.not-NoState
