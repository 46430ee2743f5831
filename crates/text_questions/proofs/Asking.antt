-- Questions in their order: the first place that is not 0 refuses.
use Rattle.std.specs.Prelude.{Some, None}
use Rattle.std.proofs.Common.{arith, eqb}
use Rattle.std.proofs.lemmas.Bool.{eqb-true, eqb-false}
use mathlib.Core.Path.{◌≡◌, refl, sym, ◌∙◌}
use mathlib.Core.Bool.{Bool, true, false, cond}
use mathlib.Core.List.{List}
use Prim.Native.Nat.{ℕ, zero, suc}
use Rattle.listing.specs.Questions.{place2, place3, place4, place5, listing_in}
use Rattle.text_records.specs.Lines.{some_place}
use Rattle.listing.specs.Load.{Loading, refused, loaded, ask, questions2to5, loading}

-- ── a place that is there, and none ──────────────────────────────────────────────
no_clash : {A B : Type 0} {b : B} → None ≡ Some b → A
no_clash e = absurd (let z : ◌≡◌ {A = ℕ} 0 1 = cc in omega arith)

pub placed : (p q : ℕ) → Some p ≡ some_place q → (p ≡ q) × (p ≡ 0 → ⊥)
placed p q e = go (eqb q 0) refl e
  where
    go : (t : Bool) → eqb q 0 ≡ t → Some p ≡ cond t None (Some q) → (p ≡ q) × (p ≡ 0 → ⊥)
    go true i e = no_clash (sym e)
    go false i e = let same : p ≡ q = cc in (same, λ z. eqb-false q 0 i (sym same ∙ z))

pub not_placed : (q : ℕ) → None ≡ some_place q → q ≡ 0
not_placed q e = go (eqb q 0) refl e
  where
    go : (t : Bool) → eqb q 0 ≡ t → None ≡ cond t None (Some q) → q ≡ 0
    go true i e = eqb-true q 0 i
    go false i e = no_clash e

-- ── questions ────────────────────────────────────────────────────────────────────
refuses : (number place : ℕ) (others : Loading) → (place ≡ 0 → ⊥) → ask number place others ≡ refused number place
refuses number zero others n = absurd (n refl)
refuses number (suc line) others n = refl

pub refused_1 : (long : Bool) → long ≡ false → (s : List ℕ) → refused 1 0 ≡ loading long s
unfolding loading
refused_1 long e s = sym (rw e)

module _ (long : Bool) (yes : long ≡ true) (s : List ℕ) where
  is_asked : loading long s ≡ questions2to5 s
  unfolding loading
  is_asked = rw yes

  pub refused_2 : (p : ℕ) → Some p ≡ some_place (place2 s) → refused 2 p ≡ loading long s
  unfolding questions2to5
  refused_2 p e = let q = placed p (place2 s) e in sym (is_asked ∙ rw (← q.0) (refuses 2 p _ q.1))

  module _ (two : place2 s ≡ 0) where
    pub refused_3 : (p : ℕ) → Some p ≡ some_place (place3 s) → refused 3 p ≡ loading long s
    unfolding questions2to5
    refused_3 p e = let q = placed p (place3 s) e in sym (is_asked ∙ rw (two, ← q.0) (refuses 3 p _ q.1))

    module _ (three : place3 s ≡ 0) where
      pub refused_4 : (p : ℕ) → Some p ≡ some_place (place4 s) → refused 4 p ≡ loading long s
      unfolding questions2to5
      refused_4 p e = let q = placed p (place4 s) e in sym (is_asked ∙ rw (two, three, ← q.0) (refuses 4 p _ q.1))

      module _ (four : place4 s ≡ 0) where
        pub refused_5 : (p : ℕ) → Some p ≡ some_place (place5 s) → refused 5 p ≡ loading long s
        unfolding questions2to5
        refused_5 p e = let q = placed p (place5 s) e in sym (is_asked ∙ rw (two, three, four, ← q.0) (refuses 5 p _ q.1))

        pub all_passed : place5 s ≡ 0 → loaded (listing_in s) ≡ loading long s
        unfolding questions2to5
        all_passed five = rw (is_asked, two, three, four, five)
