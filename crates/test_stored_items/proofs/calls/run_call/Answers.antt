use mathlib.Core.Path.{◌≡◌}
use Prim.Native.Nat.{min}
use native.Mathlib.Omega.{arith}
use lib.ListN.{length}
use Rattle.test_stored_items.proofs.Agreeing.{answer_fails, by_machine}
use Rattle.test_stored_items.proofs.calls.run_call.Goals as goal

pub shape_of-machine-then-not-answer_right : goal.shape_of-machine-then-not-answer_right
shape_of-machine-then-not-answer_right c = c.make_stored-found.auto.machine

pub returns-then-not-answer_right : goal.returns-then-not-answer_right
returns-then-not-answer_right c = answer_fails c.make_stored-found.ensures c.answer_place.ensures c.answer_right.ensures c.if-not-answer_right.true

pub shape_of-machine : goal.shape_of-machine
shape_of-machine c = c.make_stored-found.auto.machine

pub returns : goal.returns
returns c =
    let made = c.make_stored-found in
    let copy = c.copy_of-before in
    let words = c.min-words in
    let machine = c.args.machine.now in
    let is = words.ensures in
    let long = made.auto.machine in
    let room = copy.ensures.0 in
    let e : words.result ≡ min (length machine) 12300 = omega arith in
    by_machine made.ensures c.answer_place.ensures c.answer_right.ensures copy.result words.result c.if-not-answer_right.false e copy.ensures.1 c.machine_right.ensures
