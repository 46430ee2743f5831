-- The items of a case, one after the other.
use Rattle.std.specs.Prelude.{◌≡◌, Bool, true, cond, List, ℕ, ◌*◌, ◌<◌, min, ltb, eqb, length}
use Rattle.test_cases.specs.Frame.{word_at, onward}
use Rattle.test_cases.specs.Words.{Tells, copied}
use Rattle.test_stored_comparisons.specs.Comparisons.{ComparisonAgrees}
use Rattle.test_stored_items.specs.Calls.{RanSpoilt}

-- the place after the call at a place, and after the item
abbrev pub after_call : List ℕ → ℕ → ℕ
after_call s at =
    let answer = onward s (onward s at 24) (word_at s (onward s at 20) * 8) in
    onward s (onward s answer 24) (word_at s (onward s answer 8) * 8)

unfoldable pub after_item : List ℕ → ℕ → ℕ
after_item s at = cond (ltb (word_at s at) 2) (after_call s at) (cond (eqb (word_at s at) 2) (onward s at 4) (onward s at 12))

-- The item at a place was run on this table: it found this machine and this copy of one and left those, and r says whether it agrees.
pub data RanItem (s : List ℕ) (at : ℕ) (table machine kept machine' kept' : List ℕ) (r : Bool) : Type 0 where
  call : word_at s at < 2 → RanSpoilt s at table machine machine' r → kept' ≡ kept → RanItem s at table machine kept machine' kept' r
  copy : word_at s at ≡ 2 → machine' ≡ machine → kept' ≡ copied machine kept (min (length machine) (length kept)) → r ≡ true → RanItem s at table machine kept machine' kept' r
  comparison : 2 < word_at s at → machine' ≡ machine → kept' ≡ kept → Tells r (ComparisonAgrees s at table machine kept) → RanItem s at table machine kept machine' kept' r
