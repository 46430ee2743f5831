-- What a run of all cases of a file shows.
use Rattle.std.specs.Prelude.{◌≡◌, Bool, true, List, ℕ, suc, ◌≤◌, ◌<◌, length, take}
use Rattle.listing.specs.Load.{loading, is_long_enough}
use Rattle.test_cases.specs.Frame.{word_at, onward}
use Rattle.test_load.specs.Cases.{FiguresOf, CaseAt, listing_of, stored_in, Untouched}
use Rattle.test_load.specs.declared.Case.{Case}
use Rattle.test_cases.specs.declared.report.Tally.{Tally}

-- of so many cases from a place on, each has the figures of its defined outcome stored with it
pub data AllAgree (long_enough : Bool) (s : List ℕ) : ℕ → ℕ → Type 0 where
  none : {at : ℕ} → AllAgree long_enough s at 0
  one : {at n : ℕ} (c : Case) → CaseAt s at c → FiguresOf (loading long_enough (listing_of s c)) (stored_in c) →
      AllAgree long_enough s c.next n → AllAgree long_enough s at (suc n)

-- All cases of a file were run on two tables: their number stands first, and if none of them failed, all agree.
pub record RanFile (s table other table' other' : List ℕ) (r : Tally) : Type 0 where
  pub count : r.cases ≡ word_at s 0
  pub few : r.cases < 4294967296
  pub failed : r.failed ≤ r.cases
  pub agree : r.failed ≡ 0 → AllAgree (is_long_enough table) s (onward s 0 4) r.cases
  pub as_long : length table' ≡ length table
  pub other_as_long : length other' ≡ length other

-- The same of a file whose bytes nothing is known of.
pub record RanSome (table other table' other' : List ℕ) (r : Tally) : Type 0 where
  pub bytes : List ℕ
  pub ran : RanFile bytes table other table' other' r

-- The case of tables with one word too few: if it agrees, this shows that nothing was touched.
pub record RanShort (table other table' other' : List ℕ) (r : Bool) : Type 0 where
  pub agrees : r ≡ true → Untouched (take 12287 table') (take 12287 other')
  pub as_long : length table' ≡ length table
  pub other_as_long : length other' ≡ length other
