-- The cases of the file.
use Rattle.std.specs.Prelude.{◌≡◌, List, ℕ, suc, ◌-◌, ◌≤◌, ◌<◌, length, take, drop}
use Rattle.walk.specs.Session.{session}
use Rattle.test_cases.specs.Frame.{word_at, onward}
use Rattle.test_sessions.specs.declared.Case.{Case}
use Rattle.test_cases.specs.declared.report.Tally.{Tally}

-- A case at a place: its name (a word), then listing, trace and print (parts). The next case follows the print.
pub record CaseAt (s : List ℕ) (at : ℕ) (r : Case) : Type 0 where
  pub name_is : r.name ≡ word_at s at
  pub listing_begins : r.listing ≡ onward s (onward s at 4) 4
  pub listing_ends : r.listing_to ≡ onward s r.listing (word_at s (onward s at 4))
  pub trace_begins : r.trace ≡ onward s r.listing_to 4
  pub trace_ends : r.trace_to ≡ onward s r.trace (word_at s r.listing_to)
  pub print_begins : r.print ≡ onward s r.trace_to 4
  pub print_ends : r.print_to ≡ onward s r.print (word_at s r.trace_to)

-- listing, trace and print of a case lie within the file
pub record Inside (s : List ℕ) (r : Case) : Type 0 where
  pub listing_ordered : r.listing ≤ r.listing_to
  pub listing_within : r.listing_to ≤ length s
  pub trace_ordered : r.trace ≤ r.trace_to
  pub trace_within : r.trace_to ≤ length s
  pub print_ordered : r.print ≤ r.print_to
  pub print_within : r.print_to ≤ length s

abbrev pub between : List ℕ → ℕ → ℕ → List ℕ
between s from to = take (to - from) (drop from s)

-- what is stored is what the defined session prints
abbrev pub Agrees : List ℕ → Case → Type 0
Agrees s c = between s c.print c.print_to ≡ session (between s c.listing c.listing_to) (between s c.trace c.trace_to)

-- of so many cases from a place on so many fail
pub data Failing (s : List ℕ) : ℕ → ℕ → ℕ → Type 0 where
  none : {at : ℕ} → Failing s at 0 0
  agrees : {at n k : ℕ} (c : Case) → CaseAt s at c → Agrees s c → Failing s c.print_to n k → Failing s at (suc n) k
  fails : {at n k : ℕ} (c : Case) → CaseAt s at c → (Agrees s c → ⊥) → Failing s c.print_to n k → Failing s at (suc n) (suc k)

-- All cases of a file were run: their number stands first, and so many of them fail.
pub record Ran (s : List ℕ) (r : Tally) : Type 0 where
  pub count : r.cases ≡ word_at s 0
  pub few : r.cases < 4294967296
  pub failed : r.failed ≤ r.cases
  pub counts : Failing s (onward s 0 4) r.cases r.failed
