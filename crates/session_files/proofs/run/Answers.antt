-- `session_files::run` meets its contract: from turn to turn the lent memories keep their lengths.
use Rattle.std.proofs.Common.{sym, ◌∙◌}
use Rattle.std.proofs.lemmas.Bool.{not-false}
use Rattle.session_replay.proofs.Ending.{made_as_long, still_long}
use Rattle.session_files.proofs.Turning.{begun, run_ended, session_written, goes_on, run_stops, fewer, unwritten}
use Rattle.session_files.proofs.run.Goals as goal

pub loop-errors-init : goal.loop-errors-init
loop-errors-init g c = begun

pub turn-made-requires : goal.turn-made-requires
turn-made-requires g c = still_long (made_as_long c.loop-errors.invariant.made) c.requires

pub shape_of-table-then-not-made : goal.shape_of-table-then-not-made
shape_of-table-then-not-made g c = c.turn-made.auto.table ∙ (made_as_long c.loop-errors.invariant.made).table_is

pub shape_of-machine-then-not-made : goal.shape_of-machine-then-not-made
shape_of-machine-then-not-made g c = c.turn-made.auto.machine ∙ (made_as_long c.loop-errors.invariant.made).machine_is_lem

pub shape_of-out-then-not-made : goal.shape_of-out-then-not-made
shape_of-out-then-not-made g c = c.turn-made.auto.out ∙ (made_as_long c.loop-errors.invariant.made).out_is

pub returns-then-not-made : goal.returns-then-not-made
returns-then-not-made g c =
    record { steps = run_stops c.loop-errors.invariant (sym c.is_over.ensures ∙ c.loop-errors-test.true) c.turn-made.ensures.step; bytes = unwritten _ _ _ _ }

pub loop-errors-smaller : goal.loop-errors-smaller
loop-errors-smaller g c =
    fewer c.loop-errors.invariant (sym c.is_over.ensures ∙ c.loop-errors-test.true) c.turn-made.ensures.step

pub loop-errors-preserved : goal.loop-errors-preserved
loop-errors-preserved g c =
    goes_on c.loop-errors.invariant (sym c.is_over.ensures ∙ c.loop-errors-test.true) c.turn-made.ensures.bytes (not-false _ c.if-not-made.false)

pub shape_of-table : goal.shape_of-table
shape_of-table g c = (made_as_long c.loop-errors.invariant.made).table_is

pub shape_of-machine : goal.shape_of-machine
shape_of-machine g c = (made_as_long c.loop-errors.invariant.made).machine_is_lem

pub shape_of-out : goal.shape_of-out
shape_of-out g c = (made_as_long c.loop-errors.invariant.made).out_is

pub returns : goal.returns
returns g c =
    let over = sym c.is_over.ensures ∙ c.loop-errors-test.false in
    record { steps = run_ended c.loop-errors.invariant over; bytes = session_written c.loop-errors.invariant over }
