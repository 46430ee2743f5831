-- A comparison as the file has it, and what one that agrees shows.
use Rattle.std.specs.Prelude.{◌≡◌, Bool, List, ℕ}
use Rattle.walk.specs.Comparison.{Compared, compared_number, compared_alike, alike_call}
use Rattle.layout.specs.Layout.{layout}
use Rattle.call_figures.specs.Figures.{bit}
use Rattle.test_cases.specs.Frame.{word_at, onward}
use Rattle.test_cases.specs.Words.{Tells}
use Rattle.test_lending.specs.Places.{lent_part, spoilt_table, spoilt_machine}

-- number and word stored at a place
pub record ComparedRight (s : List ℕ) (at : ℕ) (o : Compared) : Type 0 where
  pub number_is_lem : word_at s at ≡ compared_number o
  pub alike_is : word_at s (onward s at 4) ≡ bit (compared_alike o)

-- The defined outcome of a comparison of this kind: of the copy at most 12,287 words are lent (4), or a first word is spoilt as for a call
-- (6 the table's, 7 the machine's).
abbrev pub comparison_outcome : ℕ → List ℕ → List ℕ → List ℕ → Compared
comparison_outcome kind table machine kept =
    alike_call layout (spoilt_table kind table) (spoilt_machine kind machine) (lent_part kind 4 12287 kept)

-- The number and the word stored after a comparison's kind are those of its defined outcome.
abbrev pub ComparisonAgrees : List ℕ → ℕ → List ℕ → List ℕ → List ℕ → Type 0
ComparisonAgrees s at table machine kept = ComparedRight s (onward s at 4) (comparison_outcome (word_at s at) table machine kept)

pub record RanComparison (s : List ℕ) (at : ℕ) (table machine kept table' machine' : List ℕ) (r : Bool) : Type 0 where
  pub table_is_lem : table' ≡ table
  pub machine_is : machine' ≡ machine
  pub tells : Tells r (ComparisonAgrees s at table machine kept)
