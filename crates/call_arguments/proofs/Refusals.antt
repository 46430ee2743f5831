-- What 7 and 8 let pass is running, as the state that its words stand for.
use mathlib.Core.Path.{◌≡◌, refl}
use mathlib.Core.Bool.{Bool, true, false}
use mathlib.Core.List.{List}
use mathlib.Core.Option.{Option, none, some}
use Prim.Native.Nat.{ℕ}
use native.Mathlib.Omega.{arith}
use lib.ListN.{get_or}
use Rattle.listing.specs.Listing.{Listing}
use Rattle.walk.specs.State.{State}
use Rattle.walk.specs.Instant.{NextDue, next_due}
use Rattle.walk.specs.Calls.{Machine, halted, running}
use Rattle.machine.specs.Words.{running_words, state_of}
use Rattle.machine.specs.Due.{due_at}
use Rattle.machine.specs.ReadMachine.{stopped_words, machine_by, read_machine}
use Rattle.machine_check.specs.Answer.{runs, answer_of, check_of}
use Rattle.machine_check.specs.declared.MachineCheck.TheVariants.{NotAState, Stopped, Running}
use Rattle.std.specs.Prelude.{Ok, Err, is_ok}
use Rattle.call_arguments.specs.declared.questions.Refusal.TheVariants.{NoState, Halted}
use Rattle.call_arguments.specs.Asked.{machine_refusal}

module _ (listing : Listing) (w : List ℕ) (pass : is_ok (machine_refusal (read_machine listing w)) ≡ true) where
  by_tests : (a b : Bool) (k : ℕ) (s : State) → is_ok (machine_refusal (machine_by a b k s)) ≡ true → (a ≡ false) × (b ≡ true)
  unfolding machine_refusal machine_by
  by_tests true b k s e = let z : ◌≡◌ {A = ℕ} 0 1 = cc in absurd (omega arith)
  by_tests false true k s e = (refl, refl)
  by_tests false false k s e = let z : ◌≡◌ {A = ℕ} 0 1 = cc in absurd (omega arith)

  tests : (stopped_words w ≡ false) × (running_words listing w ≡ true)
  unfolding read_machine
  tests = by_tests (stopped_words w) (running_words listing w) (get_or w 0 0) (state_of listing w) pass

  pub running_by_refusal : running_words listing w ≡ true
  running_by_refusal = tests.1

  pub read_by_refusal : read_machine listing w ≡ some (running (state_of listing w))
  unfolding read_machine machine_by
  read_by_refusal = rw (tests.0, tests.1)

-- The next moment due that question 7 gives is that of the state.
pub due_by_answer : (listing : Listing) (w : List ℕ) (t : ℕ) (s : State) → check_of (Running t) ≡ answer_of (read_machine listing w) →
    read_machine listing w ≡ some (running s) → due_at t ≡ next_due s
unfolding answer_of check_of
due_by_answer listing w t s e f = same (rw f at e)
  where
    same : {x y : NextDue} → runs x ≡ runs y → x ≡ y
    same g = cc

-- ── the refusal for each case of question 7's answer ───────────────────────────────────────────────
pub refusal_none : (o : Option Machine) → check_of NotAState ≡ answer_of o → Err NoState ≡ machine_refusal o
unfolding answer_of check_of machine_refusal
refusal_none none e = refl
refusal_none (some (halted k)) e = let z : ◌≡◌ {A = ℕ} 0 1 = cc in absurd (omega arith)
refusal_none (some (running s)) e = let z : ◌≡◌ {A = ℕ} 0 1 = cc in absurd (omega arith)

pub refusal_stopped : (o : Option Machine) (k : ℕ) → check_of (Stopped k) ≡ answer_of o → Err Halted ≡ machine_refusal o
unfolding answer_of check_of machine_refusal
refusal_stopped none j e = let z : ◌≡◌ {A = ℕ} 0 1 = cc in absurd (omega arith)
refusal_stopped (some (halted k)) j e = refl
refusal_stopped (some (running s)) j e = let z : ◌≡◌ {A = ℕ} 0 1 = cc in absurd (omega arith)

pub refusal_running : (o : Option Machine) (t : ℕ) → check_of (Running t) ≡ answer_of o → Ok tt ≡ machine_refusal o
unfolding answer_of check_of machine_refusal
refusal_running none t e = let z : ◌≡◌ {A = ℕ} 0 1 = cc in absurd (omega arith)
refusal_running (some (halted k)) t e = let z : ◌≡◌ {A = ℕ} 0 1 = cc in absurd (omega arith)
refusal_running (some (running s)) t e = refl
