-- The cases of a file, each a list of items.
use Rattle.std.specs.Prelude.{◌≡◌, Bool, true, false, List, ℕ, zero, suc, ◌+◌, ◌-◌, ◌≤◌, ◌<◌, take, drop}
use Rattle.listing.specs.Load.{loading, loaded, is_long_enough}
use Rattle.listing.specs.Questions.{listing_in}
use Rattle.walk.specs.Promises.{TableAfter}
use Rattle.layout.specs.Layout.{layout}
use Rattle.test_cases.specs.Frame.{word_at, onward}
use Rattle.test_lending.specs.Memories.{unused_memory}
use Rattle.test_stored_items.specs.Items.{after_item, RanItem}
use Rattle.test_calls.specs.declared.Run.{Run}
use Rattle.test_cases.specs.declared.report.Tally.{Tally}

-- whether the text is loaded; and the table is as loading leaves it
pub data LoadsInto (text table table' : List ℕ) : Bool → Type 0 where
  loads : loading (is_long_enough table) text ≡ loaded (listing_in text) → TableAfter layout table table' (loading (is_long_enough table) text) → LoadsInto text table table' true
  refuses : (loading (is_long_enough table) text ≡ loaded (listing_in text) → ⊥) → TableAfter layout table table' (loading (is_long_enough table) text) → LoadsInto text table table' false

-- how many failures that is
abbrev pub failures : Bool → ℕ
failures true = 0
failures false = 1

-- ── the items of a case, one after the other ──────────────────────────────────────────────────────
unfoldable pub after_items : List ℕ → ℕ → ℕ → ℕ
after_items s at zero = at
after_items s at (suc n) = after_items s (after_item s at) n

-- Of so many items from a place on so many fail and the others agree, on this table; the first finds the machine and the copy of one that stand
-- behind, each next what the item before left, and the last leaves the two before.
pub data ItemsFailing (s table machine_after keptAfter : List ℕ) : List ℕ → List ℕ → ℕ → ℕ → ℕ → Type 0 where
  none : {at : ℕ} → ItemsFailing s table machine_after keptAfter machine_after keptAfter at 0 0
  agrees : {machine kept machine' kept' : List ℕ} {at n k : ℕ} → RanItem s at table machine kept machine' kept' true
      → ItemsFailing s table machine_after keptAfter machine' kept' (after_item s at) n k → ItemsFailing s table machine_after keptAfter machine kept at (suc n) k
  fails : {machine kept machine' kept' : List ℕ} {at n k : ℕ} → RanItem s at table machine kept machine' kept' false
      → ItemsFailing s table machine_after keptAfter machine' kept' (after_item s at) n k → ItemsFailing s table machine_after keptAfter machine kept at (suc n) (suc k)

-- so many items were run: the place after them, how many failed, and the machine and the copy that they leave; the table is as it was
pub record RanItems (s : List ℕ) (from : ℕ) (table machine kept table' machine' kept' : List ℕ) (count : ℕ) (r : Run) : Type 0 where
  pub table_is_lem : table' ≡ table
  pub next : r.next ≡ after_items s from count
  pub few : r.failed ≤ count
  pub counts : ItemsFailing s table machine' kept' machine kept from count r.failed

-- ── a case: its name, its listing (a part), the number of its items and the items ────────────────
abbrev pub listing_from : List ℕ → ℕ → ℕ
listing_from s at = onward s (onward s at 4) 4

abbrev pub listing_to : List ℕ → ℕ → ℕ
listing_to s at = onward s (listing_from s at) (word_at s (onward s at 4))

abbrev pub listing_text : List ℕ → ℕ → List ℕ
listing_text s at = take (listing_to s at - listing_from s at) (drop (listing_from s at) s)

abbrev pub items_at : List ℕ → ℕ → ℕ
items_at s at = onward s (listing_to s at) 4

abbrev pub item_count : List ℕ → ℕ → ℕ
item_count s at = word_at s (listing_to s at)

abbrev pub after_case : List ℕ → ℕ → ℕ
after_case s at = after_items s (items_at s at) (item_count s at)

-- Of the case at a place so much fails: its listing, if it does not load, and so many of its items, on the table that loading leaves and unused
-- memories.
pub data CaseFailing (s : List ℕ) (at : ℕ) : ℕ → Type 0 where
  case : {table machine kept : List ℕ} {b : Bool} {k n : ℕ} → LoadsInto (listing_text s at) unused_memory table b
      → ItemsFailing s table machine kept unused_memory unused_memory (items_at s at) (item_count s at) k → n ≡ failures b + k → CaseFailing s at n

pub record RanCase (s : List ℕ) (at : ℕ) (r : Run) : Type 0 where
  pub next : r.next ≡ after_case s at
  pub counts : CaseFailing s at r.failed

-- of so many cases from a place on so many fail, and in the others nothing does
pub data Failing (s : List ℕ) : ℕ → ℕ → ℕ → Type 0 where
  none : {at : ℕ} → Failing s at 0 0
  agrees : {at n k : ℕ} → CaseFailing s at 0 → Failing s (after_case s at) n k → Failing s at (suc n) k
  fails : {at n k j : ℕ} → CaseFailing s at (suc j) → Failing s (after_case s at) n k → Failing s at (suc n) (suc k)

-- All cases of a file were run: their number stands first, and so many of them fail.
pub record RanFile (s : List ℕ) (r : Tally) : Type 0 where
  pub count : r.cases ≡ word_at s 0
  pub few : r.cases < 4294967296
  pub failed : r.failed ≤ r.cases
  pub counts : Failing s (onward s 0 4) r.cases r.failed
