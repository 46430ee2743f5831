use mathlib.Core.Path.{ap, ◌∙◌}
use Prim.Native.Nat.{ℕ, ◌<◌}
use native.Mathlib.Omega.{arith}
use lib.ListN.{length}
use Rattle.test_cases.specs.Frame.{onward}
use Rattle.test_cases.proofs.Reading.{reading_begun, reading_on}
use Rattle.test_cases.proofs.entries.read_entries.Goals as goal

pub loop-entry-init : goal.loop-entry-init
loop-entry-init g c = let s = c.args.s.now in reading_begun (g.T.Entry.entry s) (λ (p : ℕ). onward s p g.T.Entry.BYTES) c.args.at c.args.list.now

pub loop-entry-preserved : goal.loop-entry-preserved
loop-entry-preserved g c =
    let s = c.args.s.now in
    let v = c.loop-entry in
    let inside : v.entry-index < length c.args.list.now = omega (arith, c.loop-entry-test.true, v.invariant.long) in
    let next = c.past-place.ensures ∙ ap (λ (n : ℕ). onward s v.place n) c.BYTES.ensures in
    reading_on (g.T.Entry.entry s) (λ (p : ℕ). onward s p g.T.Entry.BYTES) c.args.at _ _ _ _ v.invariant inside _ _ c.entry_at.ensures next
