-- The cases of a file, one after the other: how many fail of those run and of those still to be run.
use mathlib.Core.Path.{◌≡◌, refl, subst}
use mathlib.Core.List.{List}
use Prim.Native.Nat.{ℕ, suc, ◌+◌, ◌-◌, ◌≤◌, ◌<◌}
use native.Mathlib.Omega.{arith}
use Rattle.test_sessions.specs.Cases.{CaseAt, Agrees, Failing, none, agrees, fails}
use Rattle.test_sessions.specs.declared.Case.{Case}

-- from a place on, so many of the cases done and so many of these failed
pub record Rest (s : List ℕ) (start count at done failed : ℕ) : Type 0 where
  pub whole : (k : ℕ) → Failing s at (count - done) k → Failing s start count (failed + k)

-- the same numbers
as_many : {s : List ℕ} {at n n' k k' : ℕ} → n ≡ n' → k ≡ k' → Failing s at n k → Failing s at n' k'
as_many {s} {at} {n} {n'} {k} {k'} e f a = subst (λ (x : ℕ). Failing s at x k') e (subst (λ (x : ℕ). Failing s at n x) f a)

module _ {s : List ℕ} {start count : ℕ} where
  pub begun : {at : ℕ} → at ≡ start → Rest s start count at 0 0
  begun {at} e = record {
    whole = λ k a. subst (λ (p : ℕ). Failing s p count (0 + k)) e (as_many (let n : count - 0 ≡ count = omega arith in n) (let z : k ≡ 0 + k = omega arith in z) a);
  }

  module _ {at done failed before : ℕ} (c : Case) (x : CaseAt s at c) (h : done < count) (k : Rest s start count at done before) where
    pub one_agrees : Agrees s c → failed ≡ before → Rest s start count c.print_to (done + 1) failed
    one_agrees f e = record {
      whole = λ j a.
          let n : suc (count - (done + 1)) ≡ count - done = omega arith in
          as_many refl (let z : before + j ≡ failed + j = omega arith in z) (k.whole j (as_many n refl (agrees c x f a)));
    }

    pub one_fails : (Agrees s c → ⊥) → failed ≡ before + 1 → Rest s start count c.print_to (done + 1) failed
    one_fails f e = record {
      whole = λ j a.
          let n : suc (count - (done + 1)) ≡ count - done = omega arith in
          as_many refl (let z : before + suc j ≡ failed + j = omega arith in z) (k.whole (suc j) (as_many n refl (fails c x f a)));
    }

  pub ended : {at done failed : ℕ} → count ≤ done → Rest s start count at done failed → Failing s start count failed
  ended {at} {done} {failed} h k =
      as_many refl (let z : failed + 0 ≡ failed = omega arith in z) (k.whole 0 (as_many (let n : 0 ≡ count - done = omega arith in n) refl none))
