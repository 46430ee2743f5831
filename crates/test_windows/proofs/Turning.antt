-- The cases of a file, one after the other: if those still to be run agree, all do.
use mathlib.Core.Path.{◌≡◌, sym, subst, ◌∙◌}
use mathlib.Core.List.{List}
use Prim.Native.Nat.{ℕ, suc, ◌+◌, ◌-◌, ◌≤◌, ◌<◌}
use native.Mathlib.Omega.{arith}
use Rattle.test_stored_windows.specs.Cases.{CaseAt}
use Rattle.test_stored_windows.specs.declared.cases.Case.{Case}
use Rattle.test_windows.specs.Cases.{CaseAgrees}
use Rattle.test_windows.specs.Files.{AllAgree, none, one}

-- from a place on, so many of the cases done and so many of these failed
pub record Rest (s : List ℕ) (start count at done failed : ℕ) : Type 0 where
  pub whole : failed ≡ 0 → AllAgree s at (count - done) → AllAgree s start count

module _ {s : List ℕ} {start count : ℕ} where
  pub begun : {at : ℕ} → at ≡ start → Rest s start count at 0 0
  begun {at} e = record {
    whole = λ z a.
        let n : count - 0 ≡ count = omega arith in
        subst (λ (p : ℕ). AllAgree s p count) e (subst (λ (k : ℕ). AllAgree s at k) n a);
  }

  pub one_agrees : {at done failed before : ℕ} (c : Case) → CaseAt s at c → CaseAgrees s c → done < count → failed ≡ before
      → Rest s start count at done before → Rest s start count c.next (done + 1) failed
  one_agrees {at} {done} c x g h e k = record {
    whole = λ z a.
        let n : suc (count - (done + 1)) ≡ count - done = omega arith in
        k.whole (sym e ∙ z) (subst (λ (m : ℕ). AllAgree s at m) n (one c x g a));
  }

  pub one_fails : {at done failed : ℕ} (before : ℕ) → failed ≡ before + 1 → Rest s start count at done failed
  one_fails before e = record { whole = λ z. absurd (let n : ⊥ = omega arith in n) }

  pub ended : {at done failed : ℕ} → count ≤ done → Rest s start count at done failed → failed ≡ 0 → AllAgree s start count
  ended {at} {done} h k z =
      let n : 0 ≡ count - done = omega arith in
      k.whole z (subst (λ (m : ℕ). AllAgree s at m) n none)
