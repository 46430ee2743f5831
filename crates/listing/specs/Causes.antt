-- The one cause of each number of the loader: the questions before it are answered yes for the whole listing, and its own is answered no,
-- first at the place.
use Rattle.std.specs.Prelude.{◌≡◌, Bool, true, false, List, ℕ, ◌-◌, ◌≤◌, ◌<◌, get_or}
use Rattle.listing.specs.Bytes.{Bytes}
use Rattle.listing.specs.Listing.{Listing}
use Rattle.listing.specs.Limits.{limit_answers}
use Rattle.listing.specs.Questions.{closed_lines, records_of, listing_in, form_answers, there_answers, ending_answers}

-- ── answers, one for each line from 1 ────────────────────────────────────────────
-- where nothing is asked of a line, the answer is yes
abbrev pub answer_for : List Bool → ℕ → Bool
answer_for answers line = get_or answers (line - 1) true

abbrev pub AllYes : List Bool → Type 0
AllYes answers = (line : ℕ) → answer_for answers line ≡ true

-- "the place is the first line, from 1, where the answer is no": all before it are yes
pub record FirstNo (answers : List Bool) (place : ℕ) : Type 0 where
  pub line : 1 ≤ place
  pub no : answer_for answers place ≡ false
  pub before : (line : ℕ) → 1 ≤ line → line < place → answer_for answers line ≡ true

-- the answers to questions 2 to 5
abbrev pub answers2 : Bytes → List Bool
answers2 text = form_answers text

abbrev pub answers3 : Bytes → List Bool
answers3 text = limit_answers (closed_lines text) (records_of text)

abbrev pub answers4 : Bytes → List Bool
answers4 text = there_answers (listing_in text)

abbrev pub answers5 : Bytes → List Bool
answers5 text = ending_answers (listing_in text)

-- ── the cause of each number ─────────────────────────────────────────────────────
-- "The loader puts each question to the whole listing before the next"
module _ (long_enough : Bool) (text : Bytes) (place : ℕ) where
  -- "(question 1: place 0)"
  abbrev pub Cause1 : Type 0
  Cause1 = (long_enough ≡ false) × (place ≡ 0)

  abbrev pub Cause2 : Type 0
  Cause2 = (long_enough ≡ true) × FirstNo (answers2 text) place

  abbrev pub Cause3 : Type 0
  Cause3 = (long_enough ≡ true) × AllYes (answers2 text) × FirstNo (answers3 text) place

  abbrev pub Cause4 : Type 0
  Cause4 = (long_enough ≡ true) × AllYes (answers2 text) × AllYes (answers3 text) × FirstNo (answers4 text) place

  abbrev pub Cause5 : Type 0
  Cause5 = (long_enough ≡ true) × AllYes (answers2 text) × AllYes (answers3 text) × AllYes (answers4 text) × FirstNo (answers5 text) place

-- and of loading a listing: every answer is yes, and the lines make it
abbrev pub AllPass : Bool → Bytes → Listing → Type 0
AllPass long_enough text listing =
    (long_enough ≡ true) × AllYes (answers2 text) × AllYes (answers3 text) × AllYes (answers4 text) × AllYes (answers5 text) × (listing_in text ≡ listing)
