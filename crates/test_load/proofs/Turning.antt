-- The cases of a file, one after the other: if those still to be run agree, all do.
use mathlib.Core.Path.{◌≡◌, sym, subst, ◌∙◌}
use mathlib.Core.Bool.{Bool}
use mathlib.Core.List.{List}
use Prim.Native.Nat.{ℕ, suc, ◌+◌, ◌-◌, ◌≤◌, ◌<◌}
use native.Mathlib.Omega.{arith}
use Rattle.listing.specs.Load.{loading}
use Rattle.test_load.specs.Cases.{FiguresOf, CaseAt, listing_of, stored_in}
use Rattle.test_load.specs.Files.{AllAgree, none, one}
use Rattle.test_load.specs.declared.Case.{Case}

-- from a place on, so many of the cases done and so many of these failed
pub record Rest (long : Bool) (s : List ℕ) (start count at done failed : ℕ) : Type 0 where
  pub whole : failed ≡ 0 → AllAgree long s at (count - done) → AllAgree long s start count

module _ {long : Bool} {s : List ℕ} {start count : ℕ} where
  pub begun : {at : ℕ} → at ≡ start → Rest long s start count at 0 0
  begun {at} e = record {
    whole = λ z a.
        let n : count - 0 ≡ count = omega arith in
        subst (λ (p : ℕ). AllAgree long s p count) e (subst (λ (k : ℕ). AllAgree long s at k) n a);
  }

  pub one_agrees : {at done failed before : ℕ} {b : Bool} (c : Case) → CaseAt s at c → b ≡ long → FiguresOf (loading b (listing_of s c)) (stored_in c) → done < count
      → failed ≡ before → Rest long s start count at done before → Rest long s start count c.next (done + 1) failed
  one_agrees {at} {done} c x l f h e k = record {
    whole = λ z a.
        let n : suc (count - (done + 1)) ≡ count - done = omega arith in
        let g : FiguresOf (loading long (listing_of s c)) (stored_in c) = subst (λ (y : Bool). FiguresOf (loading y (listing_of s c)) (stored_in c)) l f in
        k.whole (sym e ∙ z) (subst (λ (m : ℕ). AllAgree long s at m) n (one c x g a));
  }

  pub one_fails : {at done failed : ℕ} (before : ℕ) → failed ≡ before + 1 → Rest long s start count at done failed
  one_fails before e = record { whole = λ z. absurd (let n : ⊥ = omega arith in n) }

  pub ended : {at done failed : ℕ} → count ≤ done → Rest long s start count at done failed → failed ≡ 0 → AllAgree long s start count
  ended {at} {done} h k z =
      let n : 0 ≡ count - done = omega arith in
      k.whole z (subst (λ (m : ℕ). AllAgree long s at m) n none)
