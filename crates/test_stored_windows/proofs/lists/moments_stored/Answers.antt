-- `test_stored_windows::moments_stored` meets its contract.
use mathlib.Core.Path.{◌≡◌, ap, ◌∙◌}
use mathlib.Core.List.{List, ◌++◌}
use Prim.Native.Nat.{ℕ, min}
use native.Mathlib.Omega.{arith}
use borrow.Author.Rules.{rules}
use lib.ListN.{length, take, drop, length-take}
use Rattle.test_cases.specs.Words.{Tells}
use Rattle.test_stored_windows.specs.Lists.{moments_at, moments_put}
use Rattle.test_stored_windows.proofs.lists.moments_stored.Goals as goal

put : (s : List ℕ) (at listed n : ℕ) (list filled : List ℕ) → n ≡ min (length list) listed → filled ≡ moments_at s at (length (take n list))
    → filled ++ drop n list ≡ moments_put s at listed list
unfolding moments_put
put s at listed n list filled e f =
    let k : length (take n list) ≡ min listed (length list) = omega (arith, length-take n list) in
    let m : n ≡ min listed (length list) = omega arith in
    ap (λ (l : List ℕ). l ++ drop n list) (f ∙ ap (moments_at s at) k) ∙ ap (λ (i : ℕ). moments_at s at (min listed (length list)) ++ drop i list) m

pub returns : goal.returns
returns c =
    let a = c.args in
    let left = c.read_entries.new.list ++ drop c.min-count.result a.stored.now in
    let stored : left ≡ moments_put a.s.now a.at a.listed a.stored.now = put _ _ _ _ _ _ c.min-count.ensures c.read_entries.ensures.filled in
    let told : Tells c.eq.result (a.found.now ≡ left) = search rules in
    (rw stored at told, stored)
