-- The lines of so many hours, put hour by hour, are the lines of all their inputs.
use mathlib.Core.Path.{◌≡◌, refl, sym, ap, ◌∙◌}
use mathlib.Core.List.{List, [], ◌++◌, append-nil}
use mathlib.Core.Option.{none, some}
use Prim.Native.Nat.{ℕ, zero, suc, ◌+◌, ◌*◌}
use native.Mathlib.Omega.{arith}
use Rattle.schedule.specs.Schedule.{Schedule}
use Rattle.schedule.specs.Edges.{edges_in}
use Rattle.schedule_laws.proofs.Spans.{joined, no_span}
use Rattle.windows_trace.specs.Trace.{trace_lines, edges_read, hours_lines}
use Rattle.windows_trace.proofs.PutLines.{lines_append}

pub hours_joined : (s : Schedule) (hours : ℕ) → hours_lines (some s) hours ≡ trace_lines (edges_in s 0 (hours * 3600000))
unfolding hours_lines edges_read trace_lines
hours_joined s zero = sym (ap trace_lines (no_span s 0 (0 * 3600000) (omega arith)))
hours_joined s (suc hours) =
    let e : hours * 3600000 + 3600000 ≡ suc hours * 3600000 = omega arith in
    ap (λ (l : List ℕ). l ++ trace_lines (edges_in s (hours * 3600000) (hours * 3600000 + 3600000))) (hours_joined s hours)
    ∙ sym (lines_append (edges_in s 0 (hours * 3600000)) (edges_in s (hours * 3600000) (hours * 3600000 + 3600000)))
    ∙ ap trace_lines (joined s 0 (hours * 3600000) (hours * 3600000 + 3600000) (omega arith) (omega arith) ∙ ap (edges_in s 0) e)

-- a schedule that question 19 turns away has none
pub hours_none : (hours : ℕ) → hours_lines none hours ≡ []
unfolding hours_lines edges_read trace_lines
hours_none zero = refl
hours_none (suc hours) = append-nil (hours_lines none hours) ∙ hours_none hours
