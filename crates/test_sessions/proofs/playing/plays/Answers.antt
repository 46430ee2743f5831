-- `test_sessions::playing::plays` meets its contract. The measure is the number of steps that can still be made.
use mathlib.Core.Path.{sym, ◌∙◌}
use Rattle.session_replay.proofs.Ending.{made_as_long, still_long}
use Rattle.test_sessions.proofs.Steps.{begun, played, taken_on, taken_less, taken_wrong}
use Rattle.test_sessions.proofs.playing.plays.Goals as goal

pub loop-table-init : goal.loop-table-init
loop-table-init c = begun

pub take_step-requires : goal.take_step-requires
take_step-requires c = still_long (made_as_long c.loop-table.invariant.made) c.requires

pub shape_of-table-in_default : goal.shape_of-table-in_default
shape_of-table-in_default c = c.take_step.auto.table ∙ (made_as_long c.loop-table.invariant.made).table_is

pub shape_of-machine-in_default : goal.shape_of-machine-in_default
shape_of-machine-in_default c = c.take_step.auto.machine ∙ (made_as_long c.loop-table.invariant.made).machine_is_lem

pub shape_of-out-in_default : goal.shape_of-out-in_default
shape_of-out-in_default c = c.take_step.auto.out ∙ (made_as_long c.loop-table.invariant.made).out_is

pub returns-in_default : goal.returns-in_default
returns-in_default c =
    let is-going = sym c.is_over.ensures ∙ c.loop-table-test.true in
    let wrong = taken_wrong c.loop-table.invariant is-going c.take_step.ensures c.in_default.is in
    let long = made_as_long c.loop-table.invariant.made in
    let a = c.take_step.auto in
    (wrong, record { table_is = a.table ∙ long.table_is; machine_is_lem = a.machine ∙ long.machine_is_lem; out_is = a.out ∙ long.out_is })

pub loop-table-smaller : goal.loop-table-smaller
loop-table-smaller c =
    let is-going = sym c.is_over.ensures ∙ c.loop-table-test.true in
    taken_less c.loop-table.invariant is-going c.take_step.ensures c.in-Some.is

pub loop-table-preserved : goal.loop-table-preserved
loop-table-preserved c =
    let is-going = sym c.is_over.ensures ∙ c.loop-table-test.true in
    taken_on c.loop-table.invariant is-going c.take_step.ensures c.in-Some.is

pub shape_of-table : goal.shape_of-table
shape_of-table c = (made_as_long c.loop-table.invariant.made).table_is

pub shape_of-machine : goal.shape_of-machine
shape_of-machine c = (made_as_long c.loop-table.invariant.made).machine_is_lem

pub shape_of-out : goal.shape_of-out
shape_of-out c = (made_as_long c.loop-table.invariant.made).out_is

pub returns : goal.returns
returns c = (played c.loop-table.invariant (sym c.is_over.ensures ∙ c.loop-table-test.false), made_as_long c.loop-table.invariant.made)
