-- What the functions of the test program tell of a stored case.
use Rattle.std.specs.Prelude.{◌≡◌, List, ◌++◌, ℕ, take, drop}
use Rattle.listing.specs.Bytes.{Bytes, bytes_of, figure}
use Rattle.schedule.specs.Form.{place19}
use Rattle.windows.specs.Call.{WindowsFigures}
use Rattle.windows.specs.declared.answer.Listed.{Listed}
use Rattle.test_stored_answers.specs.Pairs.{numbers_at, values_at, fitting}
use Rattle.test_stored_windows.specs.Cases.{schedule_in}
use Rattle.test_stored_windows.specs.Lists.{junk_moments, junk_words, moments_put}
use Rattle.test_stored_windows.specs.declared.cases.Case.{Case}

-- the figures stored with a case
abbrev pub stored_figures : Case → Listed
stored_figures c = record { number = c.number; place = c.place; listed = c.listed }

-- The inputs and the values that a case stores, in the first places of these lists; the other places stay.
abbrev pub stored_inputs : List ℕ → Case → List ℕ → List ℕ → List ℕ
stored_inputs s c inputs values = let n = fitting c.listed inputs values in numbers_at s c.pairs n ++ drop n inputs

abbrev pub stored_values : List ℕ → Case → List ℕ → List ℕ → List ℕ
stored_values s c inputs values = let n = fitting c.listed inputs values in values_at s c.pairs n ++ drop n values

-- The call's defined outcome on these lists, which hold junk, is the one stored: the figures, and every place of every list.
abbrev pub ListsRight : List ℕ → Case → List ℕ → List ℕ → List ℕ → Type 0
ListsRight s c moments inputs values =
    WindowsFigures (schedule_in s c) c.first c.end moments inputs values
    (moments_put s c.edges c.listed moments) (stored_inputs s c inputs values) (stored_values s c inputs values) (stored_figures c)

-- lists as the case's call leaves them, whatever it answers
pub record Called (s : List ℕ) (c : Case) (moments inputs values moments' inputs' values' : List ℕ) : Type 0 where
  pub answer : Listed
  pub as_defined : WindowsFigures (schedule_in s c) c.first c.end moments inputs values moments' inputs' values' answer

-- the first line where question 19 says no, or 0
abbrev pub LineRight : List ℕ → Case → Type 0
LineRight s c = place19 (schedule_in s c) ≡ c.line

-- both, of lists as long as the case says
pub record CaseAgrees (s : List ℕ) (c : Case) : Type 0 where
  pub lists : ListsRight s c (take c.moments junk_moments) (take c.inputs junk_words) (take c.values junk_words)
  pub line : LineRight s c

-- what is said of a case that fails
unfoldable pub failure_line : ℕ → Bytes
failure_line name = bytes_of "case " ++ (figure name ++ bytes_of " fails\n")
