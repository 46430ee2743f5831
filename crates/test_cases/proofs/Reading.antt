-- Entries read one behind another. Letters: read and next as in specs/Entries, at the first place, k how many are read, l the list that they are stored in.
use mathlib.Core.Path.{◌≡◌, refl, sym, ap, ◌∙◌}
use mathlib.Core.List.{List, [], ◌∷◌, ◌++◌}
use Prim.Native.Nat.{ℕ, zero, suc, ◌+◌, ◌<◌}
use native.Mathlib.Numerals.{add-one}
use lib.ListN.{length, set, drop, length-set}
use Rattle.test_cases.specs.Entries.{entries_from, place_after_lem}
use Rattle.test_cases.proofs.Storing.{put_next}

module _ {A : Type 0} (read : ℕ → A) (next : ℕ → ℕ) where
  pub entries_length : (at k : ℕ) → length (entries_from read next at k) ≡ k
  unfolding entries_from
  entries_length at zero = refl
  entries_length at (suc k) = ap (λ (n : ℕ). suc n) (entries_length (next at) k)

  place_next : (at k : ℕ) → place_after_lem next at (suc k) ≡ next (place_after_lem next at k)
  unfolding place_after_lem
  place_next at zero = refl
  place_next at (suc k) = place_next (next at) k

  one_more : (at k : ℕ) → entries_from read next at (suc k) ≡ entries_from read next at k ++ (read (place_after_lem next at k) ∷ [])
  unfolding entries_from place_after_lem
  one_more at zero = refl
  one_more at (suc k) = ap (λ (l : List A). read at ∷ l) (one_more (next at) k)

  -- k entries are stored, the next stands at `place`
  pub record Reading (at : ℕ) (before l : List A) (place k : ℕ) : Type 0 where
    pub long : length l ≡ length before
    pub stands : place ≡ place_after_lem next at k
    pub stored : l ≡ entries_from read next at k ++ drop k before

  pub reading_begun : (at : ℕ) (l : List A) → Reading at l l at 0
  unfolding entries_from place_after_lem
  reading_begun at l = record { long = refl; stands = refl; stored = refl }

  pub reading_on : (at : ℕ) (before l : List A) (place k : ℕ) → Reading at before l place k → k < length before → (v : A) (place' : ℕ) → v ≡ read place → place' ≡ next place →
      Reading at before (set l k v) place' (k + 1)
  reading_on at before l place k r h v place' e f =
      let n : k + 1 ≡ suc k = add-one k in
      let last : v ≡ read (place_after_lem next at k) = e ∙ ap read r.stands in
      record {
        long = length-set l k v ∙ r.long;
        stands = f ∙ ap next r.stands ∙ sym (place_next at k) ∙ ap (place_after_lem next at) (sym n);
        stored =
            ap (λ (x : List A). set x k v) r.stored
            ∙ (put_next (entries_from read next at k) before k v (entries_length at k) h
            ∙ ap (λ (x : List A). x ++ drop (k + 1) before)
            (ap (λ (x : A). entries_from read next at k ++ (x ∷ [])) last ∙ (sym (one_more at k) ∙ ap (entries_from read next at) (sym n))));
      }
