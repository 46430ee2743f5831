-- `session_trace::joining` meets its contract.
use borrow.Enum.Refused.{opened}
use mathlib.Core.Path.{sym, ◌∙◌}
use Rattle.session_trace.proofs.Groups as groups
use Rattle.session_trace.proofs.Scripts as scripts
use Rattle.session_trace.proofs.group.joining.Goals as goal

pub returns-in_default : goal.returns-in_default
returns-in_default c =
    let a = c.args in
    let s = a.trace.now in
    groups.no_input_apart s a.at a.time _ c.read_trace_line.ensures (opened c.in_default.in_default-own.keys2)

pub returns-then-stop-ne10 : goal.returns-then-stop-ne10
returns-then-stop-ne10 c =
    let a = c.args in
    let s = a.trace.now in
    groups.broken_apart a.time _ (scripts.input_open s a.at _ _ _ _ _ (sym c.in-Input.is ∙ c.read_trace_line.ensures) c.if-stop-ne10.true)

pub returns-then-t-time : goal.returns-then-t-time
returns-then-t-time c =
    let a = c.args in
    let s = a.trace.now in
    rw (← c.if-t-time.true) (scripts.from_input s a.at _ _ _ _ _ (sym c.in-Input.is ∙ c.read_trace_line.ensures) c.if-stop-ne10.false)

pub returns : goal.returns
returns c =
    let a = c.args in
    let s = a.trace.now in
    groups.other_time s a.at a.time _ _ _ _ _ (sym c.in-Input.is ∙ c.read_trace_line.ensures) c.if-stop-ne10.false c.if-t-time.false
