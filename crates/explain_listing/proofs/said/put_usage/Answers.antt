-- `explain::said::put_usage` meets its contract.
use Prim.Native.Nat.{◌-◌}
use mathlib.Core.Path.{◌≡◌, ap, ◌∙◌}
use native.Mathlib.Omega.{arith}
use Rattle.listing.specs.Bytes.{bytes_of}
use Rattle.session_print.proofs.LineBytes as line
use Rattle.session_print.proofs.ListedWrites.{still_long}
use Rattle.explain_listing.specs.Said.{opening, rules}
use Rattle.explain_listing.proofs.Sayings.{ruling_begun, ruling_on}
use Rattle.explain_listing.proofs.said.put_usage.Goals as goal

pub loop-done-init : goal.loop-done-init
loop-done-init c = ruling_begun _ _ (omega (arith, c.put_text-at.ensures.1))

pub loop-done-preserved : goal.loop-done-preserved
loop-done-preserved c = ruling_on c.loop-done.invariant c.put_figure-a.ensures c.put_byte.ensures c.put_rule-at.ensures

pub shape_of-out : goal.shape_of-out
shape_of-out c = still_long c.loop-done.invariant.puts ∙ still_long c.put_text-at.ensures.0

pub returns : goal.returns
unfolding opening bytes_of
returns c =
    let v = c.loop-done in
    let all : v.done ≡ 5 = omega (arith, c.loop-done-test.false) in
    (line.then_bytes c.put_text-at.ensures.0 (line.same_bytes (ap rules all) v.invariant.puts), omega (arith, v.invariant.few, v.invariant.early, all))
