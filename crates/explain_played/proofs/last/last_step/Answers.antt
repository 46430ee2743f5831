-- `explain_played::last::last_step` meets its contract.
use mathlib.Core.Path.{sym, ◌∙◌}
use Rattle.session_replay.proofs.Ending.{made_as_long}
use Rattle.explain_played.proofs.Steps.{begun, never_short, steps_last, goes_on, fewer}
use Rattle.explain_played.proofs.last.last_step.Goals as goal

pub loop-next-init : goal.loop-next-init
loop-next-init c = begun

pub shape_of-table-in_default : goal.shape_of-table-in_default
shape_of-table-in_default c = c.table-1.given ∙ (made_as_long c.loop-next.invariant.made).table_is

pub shape_of-machine-in_default : goal.shape_of-machine-in_default
shape_of-machine-in_default c = c.machine-1.given ∙ (made_as_long c.loop-next.invariant.made).machine_is_lem

pub shape_of-out-in_default : goal.shape_of-out-in_default
shape_of-out-in_default c = c.out-1.given ∙ (made_as_long c.loop-next.invariant.made).out_is

pub returns-in_default : goal.returns-in_default
returns-in_default c =
    never_short c.loop-next.invariant
    (record { advances = c.advance-answer.ensures; as_long = record { table_is = c.table-1.given; machine_is_lem = c.machine-1.given; out_is = c.out-1.given } })
    c.requires c.in_default.is

pub shape_of-table-then-is_over : goal.shape_of-table-then-is_over
shape_of-table-then-is_over c = c.table-1.given ∙ (made_as_long c.loop-next.invariant.made).table_is

pub shape_of-machine-then-is_over : goal.shape_of-machine-then-is_over
shape_of-machine-then-is_over c = c.machine-1.given ∙ (made_as_long c.loop-next.invariant.made).machine_is_lem

pub shape_of-out-then-is_over : goal.shape_of-out-then-is_over
shape_of-out-then-is_over c = c.out-1.given ∙ (made_as_long c.loop-next.invariant.made).out_is

pub returns-then-is_over : goal.returns-then-is_over
returns-then-is_over c =
    steps_last c.loop-next.invariant
    (record { advances = c.advance-answer.ensures; as_long = record { table_is = c.table-1.given; machine_is_lem = c.machine-1.given; out_is = c.out-1.given } })
    c.in-Went.is (sym c.is_over.ensures ∙ c.if-is_over.true)

pub loop-next-smaller : goal.loop-next-smaller
loop-next-smaller c =
    fewer c.loop-next.invariant
    (record { advances = c.advance-answer.ensures; as_long = record { table_is = c.table-1.given; machine_is_lem = c.machine-1.given; out_is = c.out-1.given } })
    c.in-Went.is

pub loop-next-preserved : goal.loop-next-preserved
loop-next-preserved c =
    goes_on c.loop-next.invariant
    (record { advances = c.advance-answer.ensures; as_long = record { table_is = c.table-1.given; machine_is_lem = c.machine-1.given; out_is = c.out-1.given } })
    c.in-Went.is (sym c.is_over.ensures ∙ c.if-is_over.false)
