-- `session_replay::advancing::step_on` meets its contract.
use mathlib.Core.Path.{refl}
use Rattle.session_replay.specs.declared.phase.Phase.TheVariants.{Opening, Starting, Over}
use Rattle.session_replay.specs.After.{silent}
use Rattle.session_replay.specs.Phases.{memories}
use Rattle.session_replay.specs.Phases as phases
use Rattle.session_replay.proofs.Moving.{does_from}
use borrow.Author.Rules.{rules}
use Rattle.session_replay.proofs.advancing.step_on.Goals as goal

pub shape_of-table-in-Opening : goal.shape_of-table-in-Opening
shape_of-table-in-Opening c = c.table-1.given

pub shape_of-out-in-Opening : goal.shape_of-out-in-Opening
shape_of-out-in-Opening c = c.out-1.given

pub returns-in-Opening : goal.returns-in-Opening
returns-in-Opening c =
    let a = c.args in
    let s = c.from_opening in
    does_from a.listing.now a.trace.now (memories a.table.now a.machine.now a.out.now) (memories s.new.table a.machine.now s.new.out)
    s.result a.phase Opening c.in-Opening.is (phases.from_opening s.ensures refl)

pub shape_of-table-in-Starting : goal.shape_of-table-in-Starting
shape_of-table-in-Starting c = refl

pub shape_of-machine-in-Starting : goal.shape_of-machine-in-Starting
shape_of-machine-in-Starting c = c.machine-1.given

pub shape_of-out-in-Starting : goal.shape_of-out-in-Starting
shape_of-out-in-Starting c = c.out-in-Starting-1.given

pub returns-in-Starting : goal.returns-in-Starting
returns-in-Starting c =
    let a = c.args in
    let s = c.from_starting in
    does_from a.listing.now a.trace.now (memories a.table.now a.machine.now a.out.now) (memories a.table.now s.new.machine s.new.out)
    s.result a.phase Starting c.in-Starting.is (phases.from_starting s.ensures refl)

pub shape_of-table-in-Reading : goal.shape_of-table-in-Reading
shape_of-table-in-Reading c = refl

pub shape_of-machine-in-Reading : goal.shape_of-machine-in-Reading
shape_of-machine-in-Reading c = c.machine-in-Reading-1.given

pub shape_of-out-in-Reading : goal.shape_of-out-in-Reading
shape_of-out-in-Reading c = c.out-in-Reading-1.given

pub returns-in-Reading : goal.returns-in-Reading
returns-in-Reading c =
    let a = c.args in
    let s = c.from_reading in
    does_from a.listing.now a.trace.now (memories a.table.now a.machine.now a.out.now) (memories a.table.now s.new.machine s.new.out)
    s.result a.phase _ c.in-Reading.is (phases.from_reading s.ensures refl)

pub returns-in-Over : goal.returns-in-Over
returns-in-Over c =
    let a = c.args in
    does_from a.listing.now a.trace.now (memories a.table.now a.machine.now a.out.now) (memories a.table.now a.machine.now a.out.now)
    (silent Over) a.phase Over c.in-Over.is (phases.when_over refl refl)
