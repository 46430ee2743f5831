-- The questions of the calls, one after the other. Letters: i the number of inputs, w a machine's 12,288 words, n a number, ns numbers.
use mathlib.Core.Path.{◌≡◌, refl, sym, ap, ◌∙◌}
use mathlib.Core.Bool.{Bool, true, false, ◌&&◌, not}
use mathlib.Core.List.{List, [], ◌∷◌}
use mathlib.Core.Option.{Option, none, some}
use Prim.Native.Nat.{ℕ, zero, suc, ◌+◌, ◌≤◌, ◌<◌}
use native.Mathlib.Omega.{arith}
use native.Mathlib.Numerals.{add-one}
use lib.Dec.{leb, ltb}
use lib.ListN.{length, get_or, take, drop, drop_of_length-le}
use lib.Seq.{drop-cons, get_or-take}
use borrow.Author.Tests.{le-leb, lt-leb, lt-ltb, le-ltb}
use Rattle.listing.specs.Listing.{Listing}
use Rattle.walk.specs.State.{State}
use Rattle.walk.specs.Instant.{environment_size}
use Rattle.walk.specs.Calls.{Machine, halted, running, Outcome, refused, ask, found, unstopped, due_before, inputs_rise, inputs_of, allowed, instant_from}
use Rattle.table.specs.Decode.{table_listing}
use Rattle.machine.specs.Records.{state_from}
use Rattle.machine.specs.Words.{moment_at, state_of}
use Rattle.machine.specs.ReadMachine.{read_machine}
use Rattle.machine.specs.Due.{due_at}
use Rattle.machine_words.specs.Tests.{Dues}
use Rattle.machine_check.specs.Answer.{answer_of, check_of, Answered}
use Rattle.machine_check.specs.declared.MachineCheck.{MachineCheck}
use Rattle.machine_check.specs.declared.MachineCheck.TheVariants.{Running}
use Rattle.std.specs.Prelude.{Result, Ok, Err, is_ok, ⊤}
use Rattle.call_arguments.specs.Refusals.{number_of}
use Rattle.call_arguments.specs.declared.questions.Refusal.{Refusal}
use Rattle.call_arguments.specs.declared.questions.Refusal.TheVariants.{NotLater, Overdue, Inputs, Allowance}
use Rattle.call_arguments.specs.Asked.{machine_refusal, long_enough, numbers_rise, asked, MachineAsked}
use Rattle.call_arguments.proofs.Refusals.{read_by_refusal, due_by_answer, refusal_running}

-- ── 1 ─────────────────────────────────────────────────────────────────────────────────────────────
module _ (table machine numbers values : ℕ) where
  pub short_table : table < 12288 → false ≡ long_enough table machine numbers values
  unfolding long_enough
  short_table h = rw (lt-leb _ _ h)

  pub short_machine : 12288 ≤ table → machine < 12288 → false ≡ long_enough table machine numbers values
  unfolding long_enough
  short_machine g h = rw (le-leb _ _ g, lt-leb _ _ h)

  pub short_numbers : 12288 ≤ table → 12288 ≤ machine → numbers < 16 → false ≡ long_enough table machine numbers values
  unfolding long_enough
  short_numbers f g h = rw (le-leb _ _ f, le-leb _ _ g, lt-leb _ _ h)

  pub all_but_values : 12288 ≤ table → 12288 ≤ machine → 16 ≤ numbers → leb 16 values ≡ long_enough table machine numbers values
  unfolding long_enough
  all_but_values f g h = rw (le-leb _ _ f, le-leb _ _ g, le-leb _ _ h)

-- ── 10 ────────────────────────────────────────────────────────────────────────────────────────────
pub none_due : (d t : ℕ) → d ≡ 0 → false ≡ due_before (due_at d) t
unfolding due_at due_before
none_due d t z = rw z

pub some_due : (d t : ℕ) → (d ≡ 0 → ⊥) → ltb d t ≡ due_before (due_at d) t
unfolding due_at due_before
some_due zero t z = absurd (z refl)
some_due (suc d) t z = refl

-- ── 11 ────────────────────────────────────────────────────────────────────────────────────────────
pub rise_of_inputs : (i least : ℕ) (ns vs : List ℕ) → length ns ≡ length vs → inputs_rise i least (inputs_of ns vs) ≡ numbers_rise i least ns
unfolding inputs_rise inputs_of numbers_rise
rise_of_inputs i least [] vs e = refl
rise_of_inputs i least (n ∷ ns) [] e = absurd (omega arith)
rise_of_inputs i least (n ∷ ns) (v ∷ vs) e = rw (rise_of_inputs i (suc n) ns vs (omega arith))

module _ (i least : ℕ) (ns : List ℕ) (k n : ℕ) (more : k < length ns) (is : n ≡ get_or ns k 0) where
  rise_step : (x y : Bool) → leb least n ≡ x → ltb n i ≡ y →
      numbers_rise i least (drop k ns) ≡ x && (y && numbers_rise i (n + 1) (drop (k + 1) ns))
  unfolding numbers_rise
  rise_step x y e f = rw (drop-cons ns k 0 more, ← is, e, f, add-one n, add-one k)

  pub rise_more : least ≤ n → n < i → numbers_rise i least (drop k ns) ≡ numbers_rise i (n + 1) (drop (k + 1) ns)
  rise_more g h = rise_step true true (le-leb _ _ g) (lt-ltb _ _ h)

  pub not_rising_lem : n < least → numbers_rise i least (drop k ns) ≡ false
  not_rising_lem h = rise_step false (ltb n i) (lt-leb _ _ h) refl

  pub not_below_lem : least ≤ n → i ≤ n → numbers_rise i least (drop k ns) ≡ false
  not_below_lem g h = rise_step true false (le-leb _ _ g) (le-ltb _ _ h)

pub rise_ends : (i least : ℕ) (ns : List ℕ) (k : ℕ) → length ns ≤ k → numbers_rise i least (drop k ns) ≡ true
unfolding numbers_rise
rise_ends i least ns k h = rw (drop_of_length-le ns {i = k} h)

-- ── 12 ────────────────────────────────────────────────────────────────────────────────────────────
pub none_allowed : (a : ℕ) → a < 1 → false ≡ allowed a
unfolding allowed
none_allowed a h = rw (lt-leb _ _ h)

pub some_allowed : (a : ℕ) → 1 ≤ a → leb a 1000000 ≡ allowed a
unfolding allowed
some_allowed a h = rw (le-leb _ _ h)

-- ── 9 to 12, by the numbers that refuse ───────────────────────────────────────────────────────────
pub refused_9 : (a : Bool) (rest next : Outcome) → a ≡ false → asked (Err NotLater) next ≡ ask 9 a rest
unfolding ask asked
refused_9 a rest next e = rw e

module _ (a b c d : Bool) (next : Outcome) where
  abbrev pub Four : Outcome
  Four = ask 9 a (ask 10 (not b) (ask 11 c (ask 12 d next)))

  pub refused_10 : a ≡ true → b ≡ true → asked (Err Overdue) next ≡ Four
  unfolding ask asked
  refused_10 e f = rw (e, f)

  pub refused_11 : a ≡ true → b ≡ false → c ≡ false → asked (Err Inputs) next ≡ Four
  unfolding ask asked
  refused_11 e f g = rw (e, f, g)

  pub refused_12 : a ≡ true → b ≡ false → c ≡ true → d ≡ false → asked (Err Allowance) next ≡ Four
  unfolding ask asked
  refused_12 e f g h = rw (e, f, g, h)

  pub none_refused : a ≡ true → b ≡ false → c ≡ true → d ≡ true → asked (Ok tt) next ≡ Four
  unfolding ask asked
  none_refused e f g h = rw (e, f, g, h)

inputs_of_table : (table : List ℕ) → get_or table 0 0 ≡ (table_listing (take 12288 table)).inputs
unfolding table_listing
inputs_of_table table = sym (get_or-take 12288 table 0 0 (omega arith))

-- ── 7 to 12 ───────────────────────────────────────────────────────────────────────────────────────
refused_some : (o : Option Machine) (k : Refusal) (go : State → Outcome) → Err k ≡ machine_refusal o →
    refused (number_of k) ≡ found 7 o (λ (m : Machine). unstopped m go)
unfolding machine_refusal found unstopped
refused_some none k go e = ap (λ (r : Result ⊤ Refusal). number r) e
  where
    number : Result ⊤ Refusal → Outcome
    number (Ok passed) = refused 0
    number (Err j) = refused (number_of j)
refused_some (some (halted j)) k go e = ap (λ (r : Result ⊤ Refusal). number r) e
  where
    number : Result ⊤ Refusal → Outcome
    number (Ok passed) = refused 0
    number (Err j) = refused (number_of j)
refused_some (some (running s)) k go e = let z : ◌≡◌ {A = ℕ} 0 1 = cc in absurd (omega arith)

now_is : (listing : Listing) (w : List ℕ) → (state_of listing w).now ≡ moment_at w 1
unfolding state_of state_from
now_is listing w = refl

module _ (listing : Listing) (w : List ℕ) (t : ℕ) (ns : List ℕ) (allowance : ℕ) (dues : List ℕ) (places : length dues ≡ 65) where
  pub machine_refused : (k : Refusal) → Err k ≡ machine_refusal (read_machine listing w) → MachineAsked listing w t ns allowance dues (Err k)
  unfolding asked
  machine_refused k e = record {
    outcome = λ vs same. refused_some (read_machine listing w) k _ e;
    each = λ z. let y : ◌≡◌ {A = ℕ} 0 1 = cc in absurd (omega arith);
    places = places;
  }

  pub machine_passed : (r : Result ⊤ Refusal) (due : ℕ) → check_of (Running due) ≡ answer_of (read_machine listing w) →
      ((next : Outcome) → asked r next ≡ Four (ltb (moment_at w 1) t) (due_before (due_at due) t) (numbers_rise listing.inputs 0 ns) (allowed allowance) next) →
      Dues (environment_size listing) w dues → MachineAsked listing w t ns allowance dues r
  unfolding found unstopped instant_from
  machine_passed r due answer asks each =
      let read = read_by_refusal listing w (ap is_ok (sym (refusal_running (read_machine listing w) due answer))) in
      record {
        outcome = λ vs same.
            asks _ ∙ rw (read, rise_of_inputs listing.inputs 0 ns vs same, ← due_by_answer listing w due (state_of listing w) answer read, now_is listing w) refl;
        each = λ z. each;
        places = places;
      }

-- The same with the number of inputs read from a table that may be longer.
pub machine_passed_with : (table w : List ℕ) (t : ℕ) (ns : List ℕ) (allowance : ℕ) {before : List ℕ} (dues : List ℕ) (r : Result ⊤ Refusal) (due : ℕ) (check : MachineCheck) →
    Answered (table_listing (take 12288 table)) w before dues check → check ≡ Running due → (i : ℕ) → i ≡ get_or table 0 0 →
    ((next : Outcome) → asked r next ≡ Four (ltb (moment_at w 1) t) (due_before (due_at due) t) (numbers_rise i 0 ns) (allowed allowance) next) →
    MachineAsked (table_listing (take 12288 table)) w t ns allowance dues r
machine_passed_with table w t ns allowance dues r due check A runs i f asks =
    machine_passed (table_listing (take 12288 table)) w t ns allowance dues A.places r due (ap check_of (sym runs) ∙ A.answer)
    (λ next. rw (← inputs_of_table table, ← f) (asks next)) (A.each due runs)
