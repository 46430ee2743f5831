-- Question 9: no moment falls exactly if the moments are sorted. Letters: ms moments, k a place.
use Rattle.std.proofs.Common.{◌≡◌, ℕ, ◌+◌, ◌<◌, ◌≤◌, Bool, true, false, List, [], ◌∷◌, length, get_or, zero, suc, refl, sym, arith, add-one, ◌&&◌}
use Rattle.std.specs.Bool.{MatchBool}
use Rattle.std.specs.List.Sorted.{IsNonDecreasing}
use borrow.Author.Tests.{le-leb, lt-leb}
use lib.Dec.{leb}
use Rattle.openings.specs.Questions.{none_falls, rise_from}

rises : (least : ℕ) (ms : List ℕ) → ((k : ℕ) → suc k < length (least ∷ ms) → get_or (least ∷ ms) k 0 ≤ get_or (least ∷ ms) (suc k) 0) → rise_from least ms ≡ true
unfolding rise_from
rises least [] h = refl
rises least (m ∷ ms) h = rw (le-leb least m (h 0 (omega arith))) (rises m ms (λ k a. h (suc k) (omega arith)))

falls : (least : ℕ) (ms : List ℕ) (k : ℕ) → suc k < length (least ∷ ms) → get_or (least ∷ ms) (suc k) 0 < get_or (least ∷ ms) k 0 → rise_from least ms ≡ false
unfolding rise_from
falls least [] k h l = absurd (omega arith)
falls least (m ∷ ms) zero h l = rw (lt-leb least m l)
falls least (m ∷ ms) (suc k) h l = rw (falls m ms k (omega arith) l) (elim (leb least m) as (λ b. b && false ≡ false) [ true ↦ refl | false ↦ refl ])

pub answers : (ms : List ℕ) (r : Bool) → MatchBool r (IsNonDecreasing ms) ((k : ℕ) × (k + 1 < length ms) × ((d : ℕ) → get_or ms (k + 1) d < get_or ms k d)) → r ≡ none_falls ms
answers ms true h = sym (rises 0 ms next)
  where
    next : (k : ℕ) → suc k < length (0 ∷ ms) → get_or (0 ∷ ms) k 0 ≤ get_or (0 ∷ ms) (suc k) 0
    next zero a = omega arith
    next (suc k) a = h k (suc k) 0 (omega arith) (omega arith)
answers ms false h = sym (falls 0 ms (suc h.0) (omega (arith, h.1)) (rw (← add-one h.0) (h.2 0)))
