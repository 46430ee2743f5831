-- What 7 and 8 refuse or let pass, by question 7's answer. Letters: k the refusal, d the next moment due.
use mathlib.Core.Path.{◌≡◌, ap, ◌∙◌}
use mathlib.Core.Option.{Option}
use Prim.Native.Nat.{ℕ}
use native.Mathlib.Omega.{arith}
use Rattle.std.specs.Prelude.{Ok, Err}
use Rattle.walk.specs.Calls.{Machine}
use Rattle.machine_check.specs.Answer.{answer_of, check_of}
use Rattle.machine_check.specs.declared.MachineCheck.{MachineCheck}
use Rattle.machine_check.specs.declared.MachineCheck.TheVariants.{NotAState, Stopped, Running}
use Rattle.call_arguments.specs.declared.questions.Refusal.{Refusal}
use Rattle.call_arguments.specs.declared.questions.Refusal.TheVariants.{NoState, Halted}
use Rattle.call_arguments.specs.Asked.{machine_refusal}
use Rattle.call_arguments.proofs.Refusals.{refusal_none, refusal_stopped, refusal_running}
use Rattle.call_questions.specs.Running.{running_or_refused}

pub refuses : (check : MachineCheck) (o : Option Machine) (k : Refusal) → Err k ≡ running_or_refused check → check_of check ≡ answer_of o → Err k ≡ machine_refusal o
refuses NotAState o k e a = let same : k ≡ NoState = cc in ap Err same ∙ refusal_none o a
refuses (Stopped j) o k e a = let same : k ≡ Halted = cc in ap Err same ∙ refusal_stopped o j a
refuses (Running d) o k e a = let z : ◌≡◌ {A = ℕ} 0 1 = cc in absurd (omega arith)

pub passes : (check : MachineCheck) (d : ℕ) → Ok d ≡ running_or_refused check → check ≡ Running d
passes NotAState d e = let z : ◌≡◌ {A = ℕ} 0 1 = cc in absurd (omega arith)
passes (Stopped j) d e = let z : ◌≡◌ {A = ℕ} 0 1 = cc in absurd (omega arith)
passes (Running x) d e = let same : x ≡ d = cc in ap Running same

pub none_refuses : (check : MachineCheck) (o : Option Machine) (d : ℕ) → Ok d ≡ running_or_refused check → check_of check ≡ answer_of o → Ok tt ≡ machine_refusal o
none_refuses check o d e a = refusal_running o d (rw (passes check d e) at a)
