-- `explain_schedule_said::told::put_reasoned` meets its contract.
use mathlib.Core.Path.{ap}
use Rattle.session_print.proofs.LineBytes as line
use Rattle.std.specs.Prelude.{Option}
use Rattle.explain_fields.specs.declared.reasons.Fault.{Fault}
use Rattle.explain_schedule.specs.declared.reasons.Reason.{Reason}
use Rattle.explain_schedule_said.specs.Said.{told_line}
use Rattle.explain_schedule_said.proofs.told.put_reasoned.Goals as goal

pub returns : goal.returns
returns c =
    let p = c.put_told.ensures in
    let l = c.args.line.now in
    (line.same_bytes (ap (λ (f : Option (Fault Reason)). told_line l f) c.reason_at-fault.ensures) p.0, p.1)
