use mathlib.Core.Path.{ap, ◌∙◌}
use Prim.Native.Nat.{ℕ, ◌<◌}
use native.Mathlib.Omega.{arith}
use lib.ListN.{length}
use Rattle.test_cases.specs.Frame.{word_at, onward}
use Rattle.test_cases.proofs.Reading.{reading_begun, reading_on}
use Rattle.test_stored_answers.proofs.inputs.read_pairs.Goals as goal

pub loop-k-init : goal.loop-k-init
loop-k-init c = (reading_begun _ _ _ _, reading_begun _ _ _ _)

pub loop-k-preserved : goal.loop-k-preserved
loop-k-preserved c =
    let v = c.loop-k in
    let a = c.args in
    let s = a.s.now in
    let inside : v.k < length a.numbers.now = omega arith in
    let values_inside : v.k < length a.values.now = omega arith in (
      reading_on (word_at s) (λ (i : ℕ). onward s i 8) a.from _ _ _ _ v.invariant.0 inside _ _ c.word_at.ensures c.past-at.ensures,
      reading_on (λ (i : ℕ). word_at s (onward s i 4)) (λ (i : ℕ). onward s i 8) a.from _ _ _ _ v.invariant.1 values_inside _ _
          (c.word_at-in-loop-k.ensures ∙ ap (word_at s) c.past.ensures) c.past-at.ensures,
    )
