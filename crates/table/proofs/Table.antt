-- Tables and listings: words that pass question 6 are the table of their listing, a listing that meets its conditions has such words,
-- and each determines the other.
use mathlib.Core.Path.{◌≡◌, refl, sym, ap, ◌∙◌}
use mathlib.Core.Bool.{true}
use mathlib.Core.List.{List, [], ◌∷◌, map}
use Prim.Native.Nat.{ℕ, ◌≤◌}
use native.Mathlib.Omega.{arith}
use lib.Dec.{eqb, leb}
use lib.ListN.{length, length-append}
use borrow.Author.Tests.{eqb-true, eq-eqb, leb-true}
use Rattle.listing.specs.Lists.{all, total, all_yes}
use Rattle.listing.specs.Listing.{Routine, Listing, name_count}
use Rattle.listing.specs.Questions.{there_answers, ending_answers}
use Rattle.listing.specs.WellFormed.{has_form, meets_counts, routine_instructions, routine_pieces, well_formed_but_for_length, well_formed}
use Rattle.listing.proofs.ShortText.{length_needs_no_test}
use Rattle.table.specs.Areas.{all_code, table_words}
use Rattle.table.specs.Decode.{table_listing}
use Rattle.table.specs.Question6.{same_words, is_table}
use Rattle.table.proofs.Tests.{and_left, and_right, and_four}
use Rattle.table.proofs.ReadBack.{table_back}

-- ── equal words ──────────────────────────────────────────────────────────────────
pub same_equal : (xs ys : List ℕ) → same_words xs ys ≡ true → xs ≡ ys
unfolding same_words
same_equal [] [] h = refl
same_equal [] (y ∷ ys) h = absurd (let z : ◌≡◌ {A = ℕ} 0 1 = cc in omega arith)
same_equal (x ∷ xs) [] h = absurd (let z : ◌≡◌ {A = ℕ} 0 1 = cc in omega arith)
same_equal (x ∷ xs) (y ∷ ys) h =
    let first = eqb-true x y (and_left (eqb x y) (same_words xs ys) h) in
    let rest = same_equal xs ys (and_right (eqb x y) (same_words xs ys) h) in
    rw (first, rest)

pub equal_same : (xs : List ℕ) → same_words xs xs ≡ true
unfolding same_words
equal_same [] = refl
equal_same (x ∷ xs) = rw (eq-eqb x x refl, equal_same xs)

-- ── the limits of a listing that meets its conditions ────────────────────────────
pub instructions_total : (rs : List Routine) → total (map routine_instructions rs) ≡ length (all_code rs)
unfolding total all_code
instructions_total [] = refl
instructions_total (r ∷ rs) = rw (length-append, instructions_total rs)

-- what the test of a listing asks, part by part
pub record Meets (listing : Listing) : Type 0 where
  pub form : has_form listing ≡ true
  pub routine_count : length listing.routines ≤ 64
  pub instruction_count : length (all_code listing.routines) ≤ 512
  pub piece_count : total (map routine_pieces listing.routines) ≤ 4096
  pub names : all (λ (r : Routine). leb (name_count r) 16) listing.routines ≡ true
  pub there : all_yes (there_answers listing) ≡ true
  pub ending : all_yes (ending_answers listing) ≡ true

pub meets : (listing : Listing) → well_formed_but_for_length listing ≡ true → Meets listing
unfolding well_formed_but_for_length meets_counts
meets listing h =
    let rs = listing.routines in
    let parts = and_four (has_form listing) (meets_counts listing) (all_yes (there_answers listing)) (all_yes (ending_answers listing)) h in
    let counts =
    and_four (leb (length rs) 64) (leb (total (map routine_instructions rs)) 512) (leb (total (map routine_pieces rs)) 4096)
    (all (λ (r : Routine). leb (name_count r) 16) rs) parts.1 in
    let few : total (map routine_instructions rs) ≤ 512 = leb-true _ _ counts.1 in
    record {
      form = parts.0;
      routine_count = leb-true _ _ counts.0;
      instruction_count = rw (instructions_total rs) at few;
      piece_count = leb-true _ _ counts.2;
      names = counts.3;
      there = parts.2;
      ending = parts.3;
    }

-- ── tables ───────────────────────────────────────────────────────────────────────
pub table_is_laid_out : (w : List ℕ) → is_table w ≡ true → w ≡ table_words (table_listing w)
unfolding is_table
table_is_laid_out w h =
    same_equal w (table_words (table_listing w)) (and_right (well_formed (table_listing w)) (same_words w (table_words (table_listing w))) h)

pub table_well_formed : (w : List ℕ) → is_table w ≡ true → well_formed (table_listing w) ≡ true
unfolding is_table
table_well_formed w h = and_left (well_formed (table_listing w)) (same_words w (table_words (table_listing w))) h

pub table_meets : (w : List ℕ) → is_table w ≡ true → Meets (table_listing w)
table_meets w h = meets (table_listing w) (sym (length_needs_no_test (table_listing w)) ∙ table_well_formed w h)

-- decoding a listing's table gives the listing
pub listing_back : (l : Listing) → well_formed l ≡ true → table_listing (table_words l) ≡ l
listing_back l h = let m = meets l (sym (length_needs_no_test l) ∙ h) in table_back l m.routine_count m.instruction_count

pub listing_has_table : (l : Listing) → well_formed l ≡ true → is_table (table_words l) ≡ true
unfolding is_table
listing_has_table l h = rw (listing_back l h, h, equal_same (table_words l))

pub one_listing_per_table : (l m : Listing) → well_formed l ≡ true → well_formed m ≡ true → table_words l ≡ table_words m → l ≡ m
one_listing_per_table l m g h e = sym (listing_back l g) ∙ (ap table_listing e ∙ listing_back m h)

pub one_table_per_listing : (v w : List ℕ) → is_table v ≡ true → is_table w ≡ true → table_listing v ≡ table_listing w → v ≡ w
one_table_per_listing v w g h e = table_is_laid_out v g ∙ (ap table_words e ∙ sym (table_is_laid_out w h))
