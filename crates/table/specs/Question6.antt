-- Question 6, "Is the table one that loading some listing leaves?"
use Rattle.std.specs.Prelude.{◌≡◌, Bool, true, false, cond, ◌&&◌, List, [], ◌∷◌, ℕ, eqb}
use Rattle.std.proofs.Math.Option.{Option, none, some}
use Rattle.listing.specs.Bytes.{Bytes}
use Rattle.listing.specs.Listing.{Listing}
use Rattle.listing.specs.Load.{Loads}
use Rattle.listing.specs.WellFormed.{well_formed}
use Rattle.table.specs.Areas.{table_words}
use Rattle.table.specs.Decode.{table_listing}

-- The sentence: some text loads with number 0 to a listing whose table these words are.
pub record LeftByLoading (w : List ℕ) : Type 0 where
  pub text : Bytes
  pub listing : Listing
  pub loads : Loads text listing
  pub words : w ≡ table_words listing

-- ── the test that decides it (proofs Question6 `question_6_exactly_if`) ──────────
unfoldable pub same_words : List ℕ → List ℕ → Bool
same_words [] [] = true
same_words [] (y ∷ ys) = false
same_words (x ∷ xs) [] = false
same_words (x ∷ xs) (y ∷ ys) = eqb x y && same_words xs ys

-- The words are the table of the listing that they stand for, and some text loads to that listing (questions 2 to 5).
unfoldable pub is_table : List ℕ → Bool
is_table w = well_formed (table_listing w) && same_words w (table_words (table_listing w))

-- the listing that a table's words stand for, if they pass question 6
unfoldable pub read_table : List ℕ → Option Listing
read_table w = cond (is_table w) (some (table_listing w)) none
