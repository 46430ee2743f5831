-- The question before a call's run that refuses it, if they do not all pass.
use Rattle.std.specs.Prelude.{◌≡◌, Bool, true, ◌&&◌, List, [], ◌∷◌, ℕ, suc, ltb, leb, length, Result, Ok, Err, is_ok, ⊤}
use Rattle.std.proofs.Math.Option.{Option, none, some}
use Rattle.listing.specs.Listing.{Listing}
use Rattle.walk.specs.State.{State}
use Rattle.walk.specs.Instant.{environment_size, start, instant}
use Rattle.walk.specs.Calls.{Machine, halted, running, Outcome, refused, found, unstopped, answered, inputs_of, instant_from, start_call, instant_call, first_words}
use Rattle.table.specs.Areas.{table_size}
use Rattle.table.specs.Decode.{table_listing}
use Rattle.machine.specs.Words.{state_of, machine_size}
use Rattle.machine.specs.ReadMachine.{read_machine}
use Rattle.machine_words.specs.Tests.{Dues}
use Rattle.layout.specs.Layout.{layout}
use Rattle.call_arguments.specs.Refusals.{number_of}
use Rattle.call_arguments.specs.declared.questions.Refusal.{Refusal}
use Rattle.call_arguments.specs.declared.questions.Refusal.TheVariants.{NoState, Halted}

-- 7 and 8, of what a machine's words stand for.
unfoldable pub machine_refusal : Option Machine → Result ⊤ Refusal
machine_refusal none = Err NoState
machine_refusal (some (halted k)) = Err Halted
machine_refusal (some (running s)) = Ok tt

-- 1, of the lengths of table, machine and output lists
unfoldable pub long_enough : ℕ → ℕ → ℕ → ℕ → Bool
long_enough table machine numbers values = leb table_size table && (leb machine_size machine && (leb 16 numbers && leb 16 values))

-- 11, of the list of input numbers alone
unfoldable pub numbers_rise : ℕ → ℕ → List ℕ → Bool
numbers_rise inputs least [] = true
numbers_rise inputs least (n ∷ ns) = leb least n && (ltb n inputs && numbers_rise inputs (suc n) ns)

-- The call is refused under the question's number; if none refuses, its outcome is the next one.
unfoldable pub asked : Result ⊤ Refusal → Outcome → Outcome
asked (Ok passed) next = next
asked (Err k) next = refused (number_of k)

-- r answers 7 to 12 of a machine's 12,288 words; if none refuses, `dues` has the soonest moment due of each block.
pub record MachineAsked (listing : Listing) (machine : List ℕ) (t : ℕ) (in_numbers : List ℕ) (allowance : ℕ) (dues : List ℕ) (r : Result ⊤ Refusal) : Type 0 where
  pub outcome : (in_values : List ℕ) → length in_numbers ≡ length in_values →
      asked r (answered (instant listing (state_of listing machine) t (inputs_of in_numbers in_values) allowance)) ≡
      found 7 (read_machine listing machine) (λ (m : Machine).
      unstopped m λ (s : State). instant_from listing s t (inputs_of in_numbers in_values) allowance)
  pub each : is_ok r ≡ true → Dues (environment_size listing) machine dues
  pub places : length dues ≡ 65

-- r answers all questions of the instant call, likewise.
pub record InstantAsked (table machine : List ℕ) (t : ℕ) (in_numbers in_values outNumbers outValues : List ℕ) (allowance : ℕ) (dues : List ℕ) (r : Result ⊤ Refusal) : Type 0 where
  pub outcome :
      asked r (answered (instant (table_listing (first_words table)) (state_of (table_listing (first_words table)) (first_words machine)) t (inputs_of in_numbers in_values) allowance)) ≡
      instant_call layout table machine t in_numbers in_values outNumbers outValues allowance
  pub each : is_ok r ≡ true → Dues (environment_size (table_listing (first_words table))) (first_words machine) dues
  pub places : length dues ≡ 65

-- r answers all questions of the start.
pub record StartAsked (table machine outNumbers outValues : List ℕ) (allowance : ℕ) (r : Result ⊤ Refusal) : Type 0 where
  pub outcome : asked r (answered (start (table_listing (first_words table)) allowance)) ≡ start_call layout table machine outNumbers outValues allowance
