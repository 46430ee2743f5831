-- `session_calls::calls::make_instant` meets its contract.
use mathlib.Core.Path.{sym, ◌∙◌}
use native.Mathlib.Omega.{arith}
use lib.Seq.{length-take-le}
use Rattle.call_conclude.specs.Answers.{result_of}
use Rattle.session_calls.proofs.Walking.{made_of, instant_walks}
use borrow.Author.Rules.{rules}
use Rattle.session_calls.proofs.calls.make_instant.Goals as goal

pub slice_bounds-instant-end : goal.slice_bounds-instant-end
slice_bounds-instant-end c = let a = c.args in sym (length-take-le a.count a.in_numbers.now c.requires.2)

pub slice_bounds-instant-end-2 : goal.slice_bounds-instant-end-2
slice_bounds-instant-end-2 c = let a = c.args in sym (length-take-le a.count a.in_values.now c.requires.3)

pub shape_of-machine : goal.shape_of-machine
shape_of-machine c = c.machine-1.given

pub shape_of-numbers : goal.shape_of-numbers
shape_of-numbers c = c.numbers-1.given

pub shape_of-values : goal.shape_of-values
shape_of-values c = c.values-1.given

pub returns : goal.returns
returns c =
    let s = c.instant-answer in
    let a = c.args in
    let p = c.requires in
    let same = length-take-le a.count a.in_numbers.now p.2 ∙ sym (length-take-le a.count a.in_values.now p.3) in
    let made = made_of (result_of s.result) s.ensures (λ k. omega (arith, c.type_inv.machine k)) c.told_at.ensures in
    record { made = made; walks = instant_walks p.0 p.1 p.4 p.5 _ _ _ same made }
