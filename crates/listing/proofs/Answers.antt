-- A question's place is 0 exactly if all its answers are yes; a running total stays within a limit exactly if the whole does.
use mathlib.Core.Path.{◌≡◌, refl}
use mathlib.Core.Bool.{Bool, true, false, ◌&&◌}
use mathlib.Core.List.{List, [], ◌∷◌, ◌++◌, map}
use Prim.Native.Nat.{ℕ, suc, ◌+◌, ◌≤◌}
use native.Mathlib.Omega.{arith}
use lib.Dec.{leb}
use lib.ListN.{length}
use borrow.Author.Tests.{leb-true, le-leb}
use Rattle.listing.specs.Lists.{all, total, running_totals, all_yes, both, first_no_from}
use Rattle.listing.specs.Limits.{within}
use Rattle.listing.proofs.Tests.{and_left, and_right, all_head, all_tail, all_append, all_left, all_right}

-- ── answers in a row ─────────────────────────────────────────────────────────────
pub yes_head : (answer : Bool) (answers : List Bool) → all_yes (answer ∷ answers) ≡ true → answer ≡ true
yes_head = all_head (λ answer. answer)

pub yes_tail : (answer : Bool) (answers : List Bool) → all_yes (answer ∷ answers) ≡ true → all_yes answers ≡ true
yes_tail = all_tail (λ answer. answer)

pub yes_append : (answers others : List Bool) → all_yes answers ≡ true → all_yes others ≡ true → all_yes (answers ++ others) ≡ true
yes_append = all_append (λ answer. answer)

pub yes_left : (answers others : List Bool) → all_yes (answers ++ others) ≡ true → all_yes answers ≡ true
yes_left = all_left (λ answer. answer)

pub yes_right : (answers others : List Bool) → all_yes (answers ++ others) ≡ true → all_yes others ≡ true
yes_right = all_right (λ answer. answer)

-- a test of each element, as answers
pub yes_map : {A : Type 0} (test : A → Bool) (xs : List A) → all_yes (map test xs) ≡ all test xs
unfolding all
yes_map test [] = refl
yes_map test (x ∷ xs) = rw (yes_map test xs)

-- ── places ───────────────────────────────────────────────────────────────────────
pub passes_means_yes : (line : ℕ) (answers : List Bool) → 1 ≤ line → first_no_from line answers ≡ 0 → all_yes answers ≡ true
unfolding first_no_from all
passes_means_yes line [] h e = refl
passes_means_yes line (true ∷ answers) h e = passes_means_yes (suc line) answers (omega arith) e
passes_means_yes line (false ∷ answers) h e = absurd (let z : ⊥ = omega arith in z)

pub yes_means_passes : (line : ℕ) (answers : List Bool) → all_yes answers ≡ true → first_no_from line answers ≡ 0
unfolding first_no_from all
yes_means_passes line [] e = refl
yes_means_passes line (true ∷ answers) e = yes_means_passes (suc line) answers e
yes_means_passes line (false ∷ answers) e = absurd (let z : ◌≡◌ {A = ℕ} 0 1 = cc in omega arith)

-- ── two answers for each line ────────────────────────────────────────────────────
pub yes_both : (xs ys : List Bool) → all_yes xs ≡ true → all_yes ys ≡ true → all_yes (both xs ys) ≡ true
unfolding both all
yes_both [] ys p q = refl
yes_both (x ∷ xs) [] p q = refl
yes_both (x ∷ xs) (y ∷ ys) p q =
    rw (and_left x (all_yes xs) p, and_left y (all_yes ys) q) (yes_both xs ys (and_right x (all_yes xs) p) (and_right y (all_yes ys) q))

pub both_yes : (xs ys : List Bool) → length xs ≡ length ys → all_yes (both xs ys) ≡ true → (all_yes xs ≡ true) × (all_yes ys ≡ true)
unfolding both all
both_yes [] [] l h = (refl, refl)
both_yes [] (y ∷ ys) l h = absurd (let z : ⊥ = omega arith in z)
both_yes (x ∷ xs) [] l h = absurd (let z : ⊥ = omega arith in z)
both_yes (x ∷ xs) (y ∷ ys) l h =
    let here = and_left (x && y) (all_yes (both xs ys)) h in
    let r = both_yes xs ys (omega arith) (and_right (x && y) (all_yes (both xs ys)) h) in
    (rw (and_left x y here) r.0, rw (and_right x y here) r.1)

pub both_length : (xs ys : List Bool) → length xs ≡ length ys → length (both xs ys) ≡ length xs
unfolding both
both_length [] ys l = refl
both_length (x ∷ xs) [] l = absurd (let z : ⊥ = omega arith in z)
both_length (x ∷ xs) (y ∷ ys) l = let r = both_length xs ys (omega arith) in omega arith

-- ── running totals ───────────────────────────────────────────────────────────────
module _ (limit : ℕ) where
  sums_within : (before : ℕ) (counts : List ℕ) → before + total counts ≤ limit → all_yes (map (λ sum. leb sum limit) (running_totals before counts)) ≡ true
  unfolding total running_totals all
  sums_within before [] h = refl
  sums_within before (n ∷ counts) h = rw (le-leb (before + n) limit (omega arith)) (sums_within (before + n) counts (omega arith))

  within_sums : (before : ℕ) (counts : List ℕ) → before ≤ limit → all_yes (map (λ sum. leb sum limit) (running_totals before counts)) ≡ true
      → before + total counts ≤ limit
  unfolding total running_totals all
  within_sums before [] b h = omega arith
  within_sums before (n ∷ counts) b h =
      let rest : Bool = all_yes (map (λ sum. leb sum limit) (running_totals (before + n) counts)) in
      let here : before + n ≤ limit = leb-true (before + n) limit (and_left (leb (before + n) limit) rest h) in
      omega (arith, within_sums (before + n) counts here (and_right (leb (before + n) limit) rest h))

  pub total_within : (counts : List ℕ) → total counts ≤ limit → all_yes (within limit counts) ≡ true
  unfolding within
  total_within counts h = sums_within 0 counts (omega arith)

  pub within_total : (counts : List ℕ) → all_yes (within limit counts) ≡ true → total counts ≤ limit
  unfolding within
  within_total counts h = omega (arith, within_sums 0 counts (omega arith) h)

  running_totals-length : (before : ℕ) (counts : List ℕ) → length (running_totals before counts) ≡ length counts
  unfolding running_totals
  running_totals-length before [] = refl
  running_totals-length before (n ∷ counts) = let r = running_totals-length (before + n) counts in omega arith

  pub within_length : (counts : List ℕ) → length (within limit counts) ≡ length counts
  unfolding within
  within_length counts = rw (lib.ListN.length-map (running_totals 0 counts) (λ sum. leb sum limit)) (running_totals-length 0 counts)
