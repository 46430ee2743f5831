-- `windows_trace::put_input_lines` meets its contract.
use mathlib.Core.Path.{◌≡◌, ap}
use native.Mathlib.Omega.{arith}
use lib.ListN.{length}
use Rattle.session_print.proofs.LineBytes as line
use Rattle.windows_trace.specs.Trace.{trace_lines}
use Rattle.windows_trace.proofs.PutLines as put
use Rattle.windows_trace.proofs.lines.put_input_lines.Goals as goal

pub loop-k-init : goal.loop-k-init
loop-k-init c = put.putting_begun _ _ _ _ _

pub loop-k-preserved : goal.loop-k-preserved
loop-k-preserved c =
    let v = c.loop-k in
    let l = c.loop-k-test.true in
    let pre = c.requires in
    let e = c.put_input_line-place.ensures in
    put.putting_on _ _ _ _ _ _ _ _ v.invariant l (omega arith) (omega (arith, l, pre.1)) (omega (arith, l, pre.2)) _ _ e.0 e.1

pub returns : goal.returns
returns c =
    let a = c.args in
    let v = c.loop-k in
    let pre = c.requires in
    let e : v.k ≡ length a.moments.now = omega arith in
    (line.same_bytes (ap trace_lines (put.edges_all a.moments.now a.inputs.now a.values.now v.k e (omega (arith, pre.1)) (omega (arith, pre.2)))) v.invariant.puts, omega (arith, v.invariant.few, e))
