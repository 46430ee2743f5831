-- What the functions of the test program answer, and what they leave in the tables.
use Rattle.std.specs.Prelude.{Bool, ◌≡◌, List, ℕ, zero, suc, ◌-◌, ◌≤◌, length, take, drop, replicate}
use Rattle.listing.specs.Load.{Loading, loading_number, loading_place, loading, is_long_enough}
use Rattle.walk.specs.Calls.{memory_words, first_words, later_words}
use Rattle.walk.specs.Promises.{TableAfter}
use Rattle.layout.specs.Layout.{layout}
use Rattle.test_cases.specs.Frame.{word_at, onward}
use Rattle.test_cases.specs.Words.{Tells, Begin}
use Rattle.test_load.specs.declared.Case.{Case}
use Rattle.test_load.specs.declared.figures.Figures.{Figures}

-- number and place of a loader's outcome
pub record FiguresOf (o : Loading) (r : Figures) : Type 0 where
  pub number_is_lem : r.number ≡ loading_number o
  pub place_is_lem : r.place ≡ loading_place o

-- ── a case of the file ────────────────────────────────────────────────────────────────────────────
-- at a place: its name (a word), its listing (a part), number and place (words); the next case follows
pub record CaseAt (s : List ℕ) (at : ℕ) (r : Case) : Type 0 where
  pub name_is : r.name ≡ word_at s at
  pub begins : r.from ≡ onward s (onward s at 4) 4
  pub ends : r.to ≡ onward s r.from (word_at s (onward s at 4))
  pub ordered : r.from ≤ r.to
  pub within : r.to ≤ length s
  pub number_is_lem : r.number ≡ word_at s r.to
  pub place_is_lem : r.place ≡ word_at s (onward s r.to 4)
  pub next_is : r.next ≡ onward s (onward s r.to 4) 4

-- its listing, and the figures stored with it
abbrev pub listing_of : List ℕ → Case → List ℕ
listing_of s c = take (c.to - c.from) (drop c.from s)

abbrev pub stored_in : Case → Figures
stored_in c = record { number = c.number; place = c.place }

-- ── the tables after a call, one filled with a pattern before it, one with 0 ──────────────────────
abbrev pub pattern : ℕ
pattern = 2779096485

-- "Up to 12 a refusal leaves all lent memory untouched"
pub record Untouched (table other : List ℕ) : Type 0 where
  pub first : table ≡ replicate (length table) pattern
  pub second : other ≡ replicate (length other) 0

-- "Words past 12,288 are never touched"; the others are the same, whatever the tables held before;
-- "The loader clears the table's unused words among the 12,288": no listing uses those from 11,080 on (docs/LAYOUT.md)
pub record Written (table other : List ℕ) : Type 0 where
  pub first_past : later_words table ≡ replicate (length (later_words table)) pattern
  pub second_past : later_words other ≡ replicate (length (later_words other)) 0
  pub same : Begin table other memory_words
  pub unused : drop 11080 (first_words table) ≡ replicate (length (drop 11080 (first_words table))) 0

unfoldable pub TablesRight : ℕ → List ℕ → List ℕ → Type 0
TablesRight zero table other = Written table other
TablesRight (suc number) table other = Untouched table other

-- ── a case that was run ───────────────────────────────────────────────────────────────────────────
-- the defined outcome on either table has the figures expected, and the tables are as they must be
pub record Agrees (text table other table' other' : List ℕ) (expected : Figures) : Type 0 where
  pub first : FiguresOf (loading (is_long_enough table) text) expected
  pub second : FiguresOf (loading (is_long_enough other) text) expected
  pub tables : TablesRight expected.number table' other'

-- the tables hold what loading leaves of a table so filled, and r says whether the case agrees
pub record Ran (text table other table' other' : List ℕ) (expected : Figures) (r : Bool) : Type 0 where
  pub table_is_lem : TableAfter layout (replicate (length table) pattern) table' (loading (is_long_enough table) text)
  pub other_is : TableAfter layout (replicate (length other) 0) other' (loading (is_long_enough other) text)
  pub tells : Tells r (Agrees text table other table' other' expected)
