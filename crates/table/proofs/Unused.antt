-- "The loader clears the table's unused words among the 12,288": they are 0 in the table of every listing that loads.
use mathlib.Core.Path.{◌≡◌, refl, sym, ap, ◌∙◌}
use mathlib.Core.List.{List, [], ◌∷◌, ◌++◌}
use Prim.Native.Nat.{ℕ, zero, suc, ◌+◌, ◌*◌, ◌-◌, ◌≤◌, ◌<◌}
use lib.ListN.{length, get_or, drop, replicate, length-append, length-replicate, get_or-append}
use lib.Seq.{get_or-drop, get_or-append-add}
use native.Mathlib.Omega.{arith}
use Rattle.listing.specs.Listing.{Listing}
use Rattle.table.specs.Areas.{padded, all_routines, all_code, all_cells, all_entries, header_words, laid_out, table_words}
use Rattle.table.specs.Unused.{Unused, behind_header, behind_routines, behind_entries, behind_cells}
use Rattle.table.proofs.Lengths.{routines_length, entries_length}
use Rattle.table.proofs.ReadBack.{at_routines, at_entries, at_cells, header_short}
use Rattle.table.proofs.Table.{Meets}

zero_at : (n i : ℕ) → get_or {A = ℕ} (replicate n 0) i 0 ≡ 0
zero_at zero zero = refl
zero_at zero (suc i) = refl
zero_at (suc n) zero = refl
zero_at (suc n) (suc i) = zero_at n i

-- behind the words that are padded up to n, and before what follows
zero_in_padding : (n : ℕ) (xs rest : List ℕ) (i : ℕ) → length xs ≤ i → i < n → get_or (padded n xs ++ rest) i 0 ≡ 0
unfolding padded
zero_in_padding n xs rest i l m =
    let whole = length-append xs (replicate (n - length xs) 0) in
    let zeros = length-replicate {A = ℕ} (n - length xs) 0 in
    let inside : i < length (xs ++ replicate (n - length xs) 0) = omega (arith, whole, zeros) in
    let place : length xs + (i - length xs) ≡ i = omega (arith, l) in
    get_or-append (xs ++ replicate (n - length xs) 0) rest 0 i inside ∙
    ap (λ k. get_or (xs ++ replicate (n - length xs) 0) k 0) (sym place) ∙
    get_or-append-add xs (replicate (n - length xs) 0) (i - length xs) 0 ∙ zero_at (n - length xs) (i - length xs)

zero_in_header : (listing : Listing) (r e c : List ℕ) (k : ℕ) → 3 ≤ k → k < 8 → get_or (laid_out (header_words listing) r e c) k 0 ≡ 0
unfolding laid_out header_words
zero_in_header listing r e c k l h = zero_in_padding 8 (header_words listing) _ k (let long : length (header_words listing) ≡ 3 = refl in omega (arith, long, l)) h

append_nothing : (xs : List ℕ) → xs ++ [] ≡ xs
append_nothing [] = refl
append_nothing (x ∷ xs) = ap (λ ys. x ∷ ys) (append_nothing xs)

-- the word at a + i of a list whose rest from a on is known
word_behind : (w : List ℕ) (a k : ℕ) (xs : List ℕ) → a ≤ k → drop a w ≡ xs → get_or w k 0 ≡ get_or xs (k - a) 0
word_behind w a k xs l e =
    let place : a + (k - a) ≡ k = omega (arith, l) in
    ap (λ j. get_or w j 0) (sym place) ∙ sym (get_or-drop a w (k - a) 0) ∙ ap (λ (ys : List ℕ). get_or ys (k - a) 0) e

module _ (listing : Listing) (m : Meets listing) where
  abbrev header : List ℕ
  header = header_words listing

  abbrev routines : List ℕ
  routines = all_routines 0 listing.routines

  abbrev entries : List ℕ
  entries = all_entries 2888 (all_code listing.routines)

  abbrev cells : List ℕ
  cells = all_cells (all_code listing.routines)

  few_routines : length routines ≤ 320
  few_routines = let l = routines_length listing.routines 0 in let h = m.routine_count in omega (arith, l, h)

  few_entries : length entries ≤ 2560
  few_entries = let l = entries_length (all_code listing.routines) 2888 in let h = m.instruction_count in omega (arith, l, h)

  pub unused_words_are_0 : (k : ℕ) → Unused listing k → get_or (table_words listing) k 0 ≡ 0
  unfolding table_words
  unused_words_are_0 k (behind_header l h) = zero_in_header listing routines entries cells k l h
  unused_words_are_0 k (behind_routines l h) =
      let n = routines_length listing.routines 0 in
      word_behind (table_words listing) 8 k _ (omega (arith, l)) (at_routines header routines entries cells (header_short listing) few_routines few_entries) ∙
      zero_in_padding 320 routines _ (k - 8) (omega (arith, l, n)) (omega (arith, l, h))
  unused_words_are_0 k (behind_entries l h) =
      let n = entries_length (all_code listing.routines) 2888 in
      word_behind (table_words listing) 328 k _ (omega (arith, l)) (at_entries header routines entries cells (header_short listing) few_routines few_entries) ∙
      zero_in_padding 2560 entries _ (k - 328) (omega (arith, l, n)) (omega (arith, l, h))
  unused_words_are_0 k (behind_cells l h) =
      word_behind (table_words listing) 2888 k _ (omega (arith, l))
      (at_cells header routines entries cells (header_short listing) few_routines few_entries ∙ sym (append_nothing (padded 9400 cells))) ∙
      zero_in_padding 9400 cells [] (k - 2888) (omega (arith, l)) (omega (arith, l, h))
