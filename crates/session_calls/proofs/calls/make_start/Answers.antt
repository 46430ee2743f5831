-- `session_calls::calls::make_start` meets its contract.
use native.Mathlib.Omega.{arith}
use Rattle.call_conclude.specs.Answers.{result_of}
use Rattle.session_calls.proofs.Walking.{made_of, start_walks}
use borrow.Author.Rules.{rules}
use Rattle.session_calls.proofs.calls.make_start.Goals as goal

pub shape_of-machine : goal.shape_of-machine
shape_of-machine c = c.machine-1.given

pub shape_of-numbers : goal.shape_of-numbers
shape_of-numbers c = c.numbers-1.given

pub shape_of-values : goal.shape_of-values
shape_of-values c = c.values-1.given

pub returns : goal.returns
returns c =
    let s = c.start-answer in
    let p = c.requires in
    let made = made_of (result_of s.result) s.ensures (λ k. omega (arith, c.type_inv.machine k)) c.told_at.ensures in
    record { made = made; walks = start_walks p.0 p.1 p.2 p.3 made }
