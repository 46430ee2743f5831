-- `session_replay::reading::from_reading` meets its contract.
use mathlib.Core.Path.{refl}
use Prim.Native.Nat.{◌≤◌}
use lib.ListN.{length}
use native.Mathlib.Omega.{arith}
use Rattle.session_replay.specs.Phases as phases
use Rattle.session_replay.proofs.Calling.{kept_few, read_call_lem, read_last, read_broken}
use borrow.Author.Rules.{rules}
use Rattle.session_replay.proofs.reading.from_reading.Goals as goal

pub returns-then-at-trace : goal.returns-then-at-trace
returns-then-at-trace c = phases.FromReading.past_end (omega arith) refl refl refl

pub toward_call-requires : goal.toward_call-requires
toward_call-requires c =
    let n = c.next_call-next in
    let few = kept_few n.ensures _ _ _ c.in-Call.is in
    let ns : 17 ≤ length n.new.numbers = search rules in
    let vs : 17 ≤ length n.new.values = search rules in
    (search rules, search rules, omega arith, omega arith, search rules)

pub shape_of-machine-in-Call : goal.shape_of-machine-in-Call
shape_of-machine-in-Call c = c.machine-1.given

pub shape_of-out-in-Call : goal.shape_of-out-in-Call
shape_of-out-in-Call c = c.out-1.given

pub returns-in-Call : goal.returns-in-Call
returns-in-Call c =
    let a = c.args in
    let n = c.next_call-next in
    let t = c.toward_call in
    read_call_lem n.ensures a.table.now a.machine.now a.out.now a.clock t.new.machine t.new.out t.result _ _ _ c.in-Call.is t.ensures.0 t.ensures.1

pub shape_of-machine-in-Last : goal.shape_of-machine-in-Last
shape_of-machine-in-Last c = c.machine-in-Last-1.given

pub shape_of-out-in-Last : goal.shape_of-out-in-Last
shape_of-out-in-Last c = c.out-in-Last-1.given

pub returns-in-Last : goal.returns-in-Last
returns-in-Last c =
    let a = c.args in
    let n = c.next_call-next in
    let t = c.until_end in
    read_last n.ensures a.table.now a.machine.now a.out.now a.clock t.new.machine t.new.out t.result _ _ c.in-Last.is t.ensures.0 t.ensures.1

pub shape_of-out-in-Broken : goal.shape_of-out-in-Broken
shape_of-out-in-Broken c = c.out-in-Broken-1.given

pub returns-in-Broken : goal.returns-in-Broken
returns-in-Broken c =
    let a = c.args in
    let n = c.next_call-next in
    let t = c.end_with in
    read_broken n.ensures a.table.now a.machine.now a.out.now a.clock a.machine.now t.new.out t.result c.in-Broken.is refl t.ensures
