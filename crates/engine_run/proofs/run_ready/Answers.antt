-- `engine_run::run_ready` meets its contract.
use mathlib.Core.Path.{◌∙◌}
use Rattle.engine_run.proofs.FirstReady.{may_pop_first, may_run_first, first_runs, first_ends, first_halts}
use borrow.Author.Rules.{rules}
use Rattle.engine_run.proofs.run_ready.Goals as goal

pub next_ready-stepped-requires : goal.next_ready-stepped-requires
next_ready-stepped-requires c = may_pop_first _ _ _ c.requires

pub run_on-requires : goal.run_on-requires
run_on-requires c = may_run_first _ _ _ c.next_ready-stepped.ensures c.requires c.in-Goes.is

pub shape_of-m-in-Goes : goal.shape_of-m-in-Goes
shape_of-m-in-Goes c = c.run_on.ensures.stays.outside.size ∙ c.next_ready-stepped.ensures.stays.outside.size

pub returns-in-Goes : goal.returns-in-Goes
returns-in-Goes c = first_runs _ _ _ c.next_ready-stepped.ensures c.in-Goes.is c.run_on.ensures

pub shape_of-m-in-Ends : goal.shape_of-m-in-Ends
shape_of-m-in-Ends c = c.next_ready-stepped.ensures.stays.outside.size

pub returns-in-Ends : goal.returns-in-Ends
returns-in-Ends c = first_ends _ _ _ c.next_ready-stepped.ensures c.requires c.in-Ends.is

pub shape_of-m-in-Stops : goal.shape_of-m-in-Stops
shape_of-m-in-Stops c = c.next_ready-stepped.ensures.stays.outside.size

pub returns-in-Stops : goal.returns-in-Stops
returns-in-Stops c = first_halts _ _ _ c.next_ready-stepped.ensures _ c.in-Stops.is
