-- Items and cases, one after the other: how many fail of those run and of those still to be run.
use mathlib.Core.Path.{◌≡◌, refl, sym, ap, subst, ◌∙◌}
use mathlib.Core.Bool.{Bool, true, false}
use mathlib.Core.List.{List}
use Prim.Native.Nat.{ℕ, suc, ◌+◌, ◌-◌, ◌≤◌, ◌<◌}
use native.Mathlib.Omega.{arith}
use Rattle.test_stored_items.specs.Items.{after_item, RanItem}
use Rattle.test_calls.specs.Cases.{after_items, ItemsFailing, after_case, CaseFailing, Failing}
use Rattle.test_calls.specs.Cases as C

-- ── items ─────────────────────────────────────────────────────────────────────────────────────────
-- from a place on, so many of the items done and so many of these failed
pub record Rest (s table machine₀ kept₀ : List ℕ) (start count : ℕ) (machine kept : List ℕ) (at done failed : ℕ) : Type 0 where
  pub place : after_items s at (count - done) ≡ after_items s start count
  pub whole : (m p : List ℕ) (k : ℕ) → ItemsFailing s table m p machine kept at (count - done) k → ItemsFailing s table m p machine₀ kept₀ start count (failed + k)

-- the same numbers
as_many : {s table m p machine kept : List ℕ} {at n n' k k' : ℕ} → n ≡ n' → k ≡ k' → ItemsFailing s table m p machine kept at n k → ItemsFailing s table m p machine kept at n' k'
as_many {s} {table} {m} {p} {machine} {kept} {at} {n} {n'} {k} {k'} e f a =
    subst (λ (x : ℕ). ItemsFailing s table m p machine kept at x k') e (subst (λ (x : ℕ). ItemsFailing s table m p machine kept at n x) f a)

-- an item told of the table that it found
pub told_of : {s table table₁ machine kept machine' kept' : List ℕ} {at : ℕ} {b b' : Bool} → table₁ ≡ table → b ≡ b' → RanItem s at table₁ machine kept machine' kept' b
    → RanItem s at table machine kept machine' kept' b'
told_of {s} {table} {table₁} {machine} {kept} {machine'} {kept'} {at} {b} {b'} e f i =
    subst (λ (x : Bool). RanItem s at table machine kept machine' kept' x) f (subst (λ (x : List ℕ). RanItem s at x machine kept machine' kept' b) e i)

next_place : (s : List ℕ) (start count at next done : ℕ) → next ≡ after_item s at → done < count → after_items s at (count - done) ≡ after_items s start count
    → after_items s next (count - (done + 1)) ≡ after_items s start count
unfolding after_items
next_place s start count at next done e h k =
    let n : count - done ≡ suc (count - (done + 1)) = omega arith in
    ap (λ (x : ℕ). after_items s x (count - (done + 1))) e ∙ (ap (after_items s at) (sym n) ∙ k)

-- from the next place on
rest_from : {s table m p machine kept : List ℕ} {at next n k : ℕ} → next ≡ at → ItemsFailing s table m p machine kept next n k → ItemsFailing s table m p machine kept at n k
rest_from {s} {table} {m} {p} {machine} {kept} {at} {next} {n} {k} e a = subst (λ (x : ℕ). ItemsFailing s table m p machine kept x n k) e a

module _ {s table machine₀ kept₀ : List ℕ} {start count : ℕ} where
  pub begun : Rest s table machine₀ kept₀ start count machine₀ kept₀ start 0 0
  begun =
      let n : count - 0 ≡ count = omega arith in
      record { place = ap (after_items s start) n; whole = λ m p k a. as_many n (let z : k ≡ 0 + k = omega arith in z) a }

  module _ {machine kept machine' kept' : List ℕ} {at next done failed before : ℕ} (e : next ≡ after_item s at) (h : done < count)
      (r : Rest s table machine₀ kept₀ start count machine kept at done before) where
    pub one_agrees : RanItem s at table machine kept machine' kept' true → failed ≡ before → Rest s table machine₀ kept₀ start count machine' kept' next (done + 1) failed
    one_agrees i f = record {
      place = next_place s start count at next done e h r.place;
      whole = λ m p k a.
          let n : suc (count - (done + 1)) ≡ count - done = omega arith in
          as_many refl (let z : before + k ≡ failed + k = omega arith in z) (r.whole m p k (as_many n refl (C.agrees i (rest_from e a))));
    }

    pub one_fails : RanItem s at table machine kept machine' kept' false → failed ≡ before + 1 → Rest s table machine₀ kept₀ start count machine' kept' next (done + 1) failed
    one_fails i f = record {
      place = next_place s start count at next done e h r.place;
      whole = λ m p k a.
          let n : suc (count - (done + 1)) ≡ count - done = omega arith in
          as_many refl (let z : before + suc k ≡ failed + k = omega arith in z) (r.whole m p (suc k) (as_many n refl (C.fails i (rest_from e a))));
    }

  pub ended : {machine kept : List ℕ} {at done failed : ℕ} → count ≤ done → Rest s table machine₀ kept₀ start count machine kept at done failed
      → ItemsFailing s table machine kept machine₀ kept₀ start count failed
  ended {machine = machine} {kept = kept} {done = done} {failed = failed} h r =
      as_many refl (let z : failed + 0 ≡ failed = omega arith in z) (r.whole machine kept 0 (as_many (let n : 0 ≡ count - done = omega arith in n) refl C.none))

  pub ended_place : {machine kept : List ℕ} {at done failed : ℕ} → count ≤ done → Rest s table machine₀ kept₀ start count machine kept at done failed → at ≡ after_items s start count
  unfolding after_items
  ended_place {at = at} {done = done} h r =
      let n : 0 ≡ count - done = omega arith in
      ap (after_items s at) n ∙ r.place

-- ── cases ─────────────────────────────────────────────────────────────────────────────────────────
pub record CasesLeft (s : List ℕ) (start count at done failed : ℕ) : Type 0 where
  pub whole : (k : ℕ) → Failing s at (count - done) k → Failing s start count (failed + k)

same_counts : {s : List ℕ} {at n n' k k' : ℕ} → n ≡ n' → k ≡ k' → Failing s at n k → Failing s at n' k'
same_counts {s} {at} {n} {n'} {k} {k'} e f a = subst (λ (x : ℕ). Failing s at x k') e (subst (λ (x : ℕ). Failing s at n x) f a)

from_next : {s : List ℕ} {at next n k : ℕ} → next ≡ at → Failing s next n k → Failing s at n k
from_next {s} {at} {next} {n} {k} e a = subst (λ (p : ℕ). Failing s p n k) e a

module _ {s : List ℕ} {start count : ℕ} where
  pub cases_begun : {at : ℕ} → at ≡ start → CasesLeft s start count at 0 0
  cases_begun {at} e = record {
    whole = λ k a. subst (λ (p : ℕ). Failing s p count (0 + k)) e (same_counts (let n : count - 0 ≡ count = omega arith in n) (let z : k ≡ 0 + k = omega arith in z) a);
  }

  module _ {at next done failed before found : ℕ} (e : next ≡ after_case s at) (h : done < count) (x : CaseFailing s at found) (r : CasesLeft s start count at done before) where
    pub case_agrees : found ≡ 0 → failed ≡ before → CasesLeft s start count next (done + 1) failed
    case_agrees z f = record {
      whole = λ k a.
          let n : suc (count - (done + 1)) ≡ count - done = omega arith in
          same_counts refl (let y : before + k ≡ failed + k = omega arith in y)
          (r.whole k (same_counts n refl (C.agrees (subst (λ (m : ℕ). CaseFailing s at m) z x) (from_next e a))));
    }

    pub case_fails : (found ≡ 0 → ⊥) → failed ≡ before + 1 → CasesLeft s start count next (done + 1) failed
    case_fails z f = record {
      whole = λ k a.
          let n : suc (count - (done + 1)) ≡ count - done = omega arith in
          let some : found ≡ suc (found - 1) = omega arith in
          same_counts refl (let y : before + suc k ≡ failed + k = omega arith in y)
          (r.whole (suc k) (same_counts n refl (C.fails (subst (λ (m : ℕ). CaseFailing s at m) some x) (from_next e a))));
    }

  pub cases_ended : {at done failed : ℕ} → count ≤ done → CasesLeft s start count at done failed → Failing s start count failed
  cases_ended {done = done} {failed = failed} h r =
      same_counts refl (let z : failed + 0 ≡ failed = omega arith in z) (r.whole 0 (same_counts (let n : 0 ≡ count - done = omega arith in n) refl C.none))
