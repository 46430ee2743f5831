-- `windows_trace::put_hour` meets its contract.
use mathlib.Core.Path.{sym, ap, ◌∙◌}
use lib.Seq.{length-take-le}
use native.Mathlib.Omega.{arith}
use Rattle.session_print.proofs.LineBytes.{same_bytes}
use Rattle.windows_trace.specs.Trace.{trace_lines}
use Rattle.windows_trace.proofs.ListedEdges.{hour_held}
use Rattle.windows_trace.proofs.hours.put_hour.Goals as goal

pub slice_bounds-moments-end : goal.slice_bounds-moments-end
slice_bounds-moments-end c =
    let call = c.list_windows-answer in
    let a = c.moment_list-moments.ensures in
    let b = c.word_list-inputs.ensures in
    let d = c.word_list-values.ensures in
    let few = (hour_held _ _ _ _ _ _ _ _ _ _ c.requires (sym a) (sym b) (sym d) call.ensures).few in
    let kept = call.auto in
    omega (arith, few, a, kept.moments)

pub slice_bounds-put_input_lines-end : goal.slice_bounds-put_input_lines-end
slice_bounds-put_input_lines-end c =
    let call = c.list_windows-answer in
    let a = c.moment_list-moments.ensures in
    let b = c.word_list-inputs.ensures in
    let d = c.word_list-values.ensures in
    let few = (hour_held _ _ _ _ _ _ _ _ _ _ c.requires (sym a) (sym b) (sym d) call.ensures).few in
    let kept = call.auto in
    omega (arith, length-take-le call.result.listed call.new.moments (omega (arith, few, a, kept.moments)))

pub slice_bounds-inputs-end : goal.slice_bounds-inputs-end
slice_bounds-inputs-end c =
    let call = c.list_windows-answer in
    let a = c.moment_list-moments.ensures in
    let b = c.word_list-inputs.ensures in
    let d = c.word_list-values.ensures in
    let few = (hour_held _ _ _ _ _ _ _ _ _ _ c.requires (sym a) (sym b) (sym d) call.ensures).few in
    let kept = call.auto in
    omega (arith, few, b, kept.inputs)

pub slice_bounds-put_input_lines-end-2 : goal.slice_bounds-put_input_lines-end-2
slice_bounds-put_input_lines-end-2 c =
    let call = c.list_windows-answer in
    let a = c.moment_list-moments.ensures in
    let b = c.word_list-inputs.ensures in
    let d = c.word_list-values.ensures in
    let few = (hour_held _ _ _ _ _ _ _ _ _ _ c.requires (sym a) (sym b) (sym d) call.ensures).few in
    let kept = call.auto in
    omega (arith, length-take-le call.result.listed call.new.inputs (omega (arith, few, b, kept.inputs)))

pub slice_bounds-values-end : goal.slice_bounds-values-end
slice_bounds-values-end c =
    let call = c.list_windows-answer in
    let a = c.moment_list-moments.ensures in
    let b = c.word_list-inputs.ensures in
    let d = c.word_list-values.ensures in
    let few = (hour_held _ _ _ _ _ _ _ _ _ _ c.requires (sym a) (sym b) (sym d) call.ensures).few in
    let kept = call.auto in
    omega (arith, few, d, kept.values)

pub slice_bounds-put_input_lines-end-3 : goal.slice_bounds-put_input_lines-end-3
slice_bounds-put_input_lines-end-3 c =
    let call = c.list_windows-answer in
    let a = c.moment_list-moments.ensures in
    let b = c.word_list-inputs.ensures in
    let d = c.word_list-values.ensures in
    let few = (hour_held _ _ _ _ _ _ _ _ _ _ c.requires (sym a) (sym b) (sym d) call.ensures).few in
    let kept = call.auto in
    omega (arith, length-take-le call.result.listed call.new.values (omega (arith, few, d, kept.values)))

pub put_input_lines-requires : goal.put_input_lines-requires
put_input_lines-requires c =
    let call = c.list_windows-answer in
    let a = c.moment_list-moments.ensures in
    let b = c.word_list-inputs.ensures in
    let d = c.word_list-values.ensures in
    let few = (hour_held _ _ _ _ _ _ _ _ _ _ c.requires (sym a) (sym b) (sym d) call.ensures).few in
    let kept = call.auto in
    let n = call.result.listed in
    let x = length-take-le n call.new.moments (omega (arith, few, a, kept.moments)) in
    let y = length-take-le n call.new.inputs (omega (arith, few, b, kept.inputs)) in
    let z = length-take-le n call.new.values (omega (arith, few, d, kept.values)) in
    (omega (arith, x, few), x ∙ sym y, x ∙ sym z)

pub returns : goal.returns
returns c =
    let call = c.list_windows-answer in
    let a = c.moment_list-moments.ensures in
    let hold = hour_held _ _ _ _ _ _ _ _ _ _ c.requires (sym a) (sym c.word_list-inputs.ensures) (sym c.word_list-values.ensures) call.ensures in
    let put = c.put_input_lines.ensures in
    let x = length-take-le call.result.listed call.new.moments (omega (arith, hold.few, a, call.auto.moments)) in
    (same_bytes (ap trace_lines hold.are) put.0, omega (arith, put.1, hold.few, x))
