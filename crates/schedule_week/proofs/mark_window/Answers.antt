-- `schedule_week::mark_window` meets its contract.
use native.Mathlib.Omega.{arith}
use Rattle.schedule_laws.proofs.Windows.{window_numbers}
use Rattle.schedule_week.proofs.mark_window.Goals as goal

pub overflow_add-midnight : goal.overflow_add-midnight
overflow_add-midnight c = let n = window_numbers _ c.requires.2 in omega arith

pub overflow_add-midnight-2 : goal.overflow_add-midnight-2
overflow_add-midnight-2 c = let n = window_numbers _ c.requires.2 in omega arith

pub overflow_add-midnight-3 : goal.overflow_add-midnight-3
overflow_add-midnight-3 c = let n = window_numbers _ c.requires.2 in omega arith

pub mark_minutes-requires : goal.mark_minutes-requires
mark_minutes-requires c = let n = window_numbers _ c.requires.2 in omega arith
