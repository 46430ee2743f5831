-- What a call tells, and the place after an item.
use mathlib.Core.Path.{◌≡◌, sym, ap, subst, ◌∙◌}
use mathlib.Core.Bool.{Bool, true, false}
use mathlib.Core.List.{List}
use Prim.Native.Nat.{ℕ, ◌<◌, min}
use native.Mathlib.Omega.{arith}
use lib.ListN.{length, get_or, take}
use borrow.Author.Tests.{eq-eqb, ne_eqb, lt-ltb, le-ltb}
use Rattle.walk.specs.Promises.{result_of}
use Rattle.test_cases.specs.Frame.{word_at, onward}
use Rattle.test_cases.specs.Words.{Tells}
use Rattle.test_cases.proofs.Telling.{tells_same, tells_else}
use Rattle.test_lending.specs.Memories.{MachineRight}
use Rattle.test_lending.specs.Places.{spoilt_first, spoilt_table, spoilt_machine}
use Rattle.test_stored_calls.specs.Calls.{CallAt, answer_place, numbers_left, values_left, Made}
use Rattle.test_stored_calls.specs.Reports.{report_of}
use Rattle.test_stored_calls.specs.declared.calls.Call.{Call}
use Rattle.test_stored_answers.specs.declared.Report.{Report}
use Rattle.test_stored_answers.specs.Answers.{unlisted, AnswerRight}
use Rattle.test_stored_items.specs.Calls.{outcome_of, RanCall, RanSpoilt}
use Rattle.test_stored_items.specs.Items.{after_call, after_item}

module _ {s : List ℕ} {c : Call} {table machine machine' numbers values : List ℕ} {found : Report} {place : ℕ} {b : Bool}
    (m : Made c table machine unlisted unlisted machine' numbers values (outcome_of s c table machine) found)
    (e : place ≡ answer_place s c) (t : Tells b (AnswerRight s place found numbers values)) where
  -- what was found is what is defined
  defined : (AnswerRight s place found numbers values → AnswerRight s (answer_place s c) (report_of (result_of (outcome_of s c table machine))) (numbers_left c (outcome_of s c table machine) unlisted) (values_left c (outcome_of s c table machine) unlisted))
  defined a =
      let o = outcome_of s c table machine in
      subst (λ (v : List ℕ). AnswerRight s (answer_place s c) (report_of (result_of o)) (numbers_left c o unlisted) v) m.values_are
      (subst (λ (n : List ℕ). AnswerRight s (answer_place s c) (report_of (result_of o)) n values) m.numbers_are
      (subst (λ (f : Report). AnswerRight s (answer_place s c) f numbers values) m.report (subst (λ (p : ℕ). AnswerRight s p found numbers values) e a)))

  found_so : AnswerRight s (answer_place s c) (report_of (result_of (outcome_of s c table machine))) (numbers_left c (outcome_of s c table machine) unlisted) (values_left c (outcome_of s c table machine) unlisted) → AnswerRight s place found numbers values
  found_so a =
      let o = outcome_of s c table machine in
      subst (λ (p : ℕ). AnswerRight s p found numbers values) (sym e)
      (subst (λ (f : Report). AnswerRight s (answer_place s c) f numbers values) (sym m.report)
      (subst (λ (n : List ℕ). AnswerRight s (answer_place s c) (report_of (result_of o)) n values) (sym m.numbers_are)
      (subst (λ (v : List ℕ). AnswerRight s (answer_place s c) (report_of (result_of o)) (numbers_left c o unlisted) v) (sym m.values_are) a)))

  pub answer_fails : b ≡ false → RanCall s c table machine machine' false
  answer_fails f = record { left = m.machine_is; tells = tells_else t f (λ a. found_so a.stored) }

  -- words is how much of the machine was kept
  pub by_machine : {r : Bool} (before : List ℕ) (words : ℕ) → b ≡ true → words ≡ min (length machine) 12300 → take (min (length machine) 12300) before ≡ take 12300 machine
      → Tells r (MachineRight machine' (take words before) found.number) → RanCall s c table machine machine' r
  by_machine {r} before words f w k u =
      let same : take words before ≡ take 12300 machine = ap (λ (n : ℕ). take n before) w ∙ k in
      let number : found.number ≡ (result_of (outcome_of s c table machine)).number = ap (λ (x : Report). x.number) m.report in
      let v : Tells r (MachineRight machine' (take 12300 machine) (result_of (outcome_of s c table machine)).number) =
      subst (λ (n : ℕ). Tells r (MachineRight machine' (take 12300 machine) n)) number (subst (λ (l : List ℕ). Tells r (MachineRight machine' l found.number)) same u) in
      record { left = m.machine_is; tells = tells_same (λ x. record { stored = defined (t.means f); machine_is = x }) (λ a. a.machine_is) v }

-- with first words spoilt, and the machine's put back
pub ran_spoilt : (s : List ℕ) (at : ℕ) (c : Call) (table machine table₁ machine₁ after machine' : List ℕ) (w : ℕ) {r : Bool} → CallAt s at c → table₁ ≡ spoilt_table c.spoil table
    → machine₁ ≡ spoilt_machine c.spoil machine → w ≡ get_or machine 0 0 → RanCall s c table₁ machine₁ after r → machine' ≡ spoilt_first c.spoil 7 w after
    → RanSpoilt s at table machine machine' r
ran_spoilt s at c table machine table₁ machine₁ after machine' w {r} x et em ew k e = record {
  call = c;
  is = x;
  after = after;
  ran =
      subst (λ (l : List ℕ). RanCall s c (spoilt_table c.spoil table) l after r) em
      (subst (λ (l : List ℕ). RanCall s c l machine₁ after r) et k);
  machine_is = e ∙ ap (λ (v : ℕ). spoilt_first c.spoil 7 v after) ew;
}

-- the place after an item, by its kind
pub after_a_call : (s : List ℕ) (at kind r : ℕ) → kind ≡ word_at s at → kind < 2 → r ≡ after_call s at → r ≡ after_item s at
unfolding after_item
after_a_call s at kind r k h e = rw (lt-ltb (word_at s at) 2 (omega arith)) e

pub after_a_copy : (s : List ℕ) (at kind r : ℕ) → kind ≡ word_at s at → kind ≡ 2 → r ≡ onward s at 4 → r ≡ after_item s at
unfolding after_item
after_a_copy s at kind r k h e = rw (le-ltb (word_at s at) 2 (omega arith), eq-eqb (word_at s at) 2 (omega arith)) e

pub after_a_comparison : (s : List ℕ) (at kind r : ℕ) → kind ≡ word_at s at → 2 < kind → r ≡ onward s at 12 → r ≡ after_item s at
unfolding after_item
after_a_comparison s at kind r k h e = rw (le-ltb (word_at s at) 2 (omega arith), ne_eqb (word_at s at) 2 (λ z. omega arith)) e
