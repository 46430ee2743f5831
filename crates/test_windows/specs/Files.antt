-- What a run of all cases of a file shows.
use Rattle.std.specs.Prelude.{◌≡◌, List, ℕ, suc, ◌≤◌, ◌<◌}
use Rattle.test_cases.specs.Frame.{word_at, onward}
use Rattle.test_stored_windows.specs.Cases.{CaseAt}
use Rattle.test_stored_windows.specs.declared.cases.Case.{Case}
use Rattle.test_windows.specs.Cases.{CaseAgrees}
use Rattle.test_cases.specs.declared.report.Tally.{Tally}

-- of so many cases from a place on, each agrees
pub data AllAgree (s : List ℕ) : ℕ → ℕ → Type 0 where
  none : {at : ℕ} → AllAgree s at 0
  one : {at n : ℕ} (c : Case) → CaseAt s at c → CaseAgrees s c → AllAgree s c.next n → AllAgree s at (suc n)

-- All cases of a file were run: their number stands first, and if none of them failed, all agree.
pub record RanFile (s : List ℕ) (r : Tally) : Type 0 where
  pub count : r.cases ≡ word_at s 0
  pub few : r.cases < 4294967296
  pub failed : r.failed ≤ r.cases
  pub agree : r.failed ≡ 0 → AllAgree s (onward s 0 4) r.cases
