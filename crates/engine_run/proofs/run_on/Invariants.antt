use mathlib.Core.Path.{refl, ◌∙◌}
use native.Mathlib.Omega.{arith}
use borrow.Author.Rules.{rules}
use Rattle.engine_run_laws.specs.Going.{Going}
use Rattle.engine_run_laws.proofs.Going.{one_taken, going_begins, may_step_now, going_on, going_ends, going_halts, going_used_up}
use Rattle.engine_straight.proofs.OnTheWay.{may_run_on_now, may_go_alone, going_then, stops_then, went_to, went_to_stop}
use Rattle.engine_run.proofs.run_on.Given as goal

abbrev pub invariant-loop-left : goal.invariant-loop-left
invariant-loop-left l = Going l.t l.present.0 l.initial.m l.allowance l.initial.runs l.m l.left l.runs

abbrev pub decreases-loop-left : goal.decreases-loop-left
decreases-loop-left l = l.left
