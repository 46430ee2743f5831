-- The trigger lists made at the beginning of an instant: right for whoever is marked asleep.
-- Letters as in Place and Held.
use mathlib.Core.Path.{◌≡◌, refl, sym, ap, ◌∙◌}
use mathlib.Core.Bool.{Bool, true, false, ◌||◌}
use mathlib.Core.List.{List, [], ◌∷◌}
use Prim.Native.Nat.{ℕ, zero, suc, ◌<◌}
use native.Mathlib.Omega.{arith}
use native.Mathlib.Decide.{ℕ_discrete}
use Rattle.listing.specs.Listing.{Listing}
use Rattle.engine_rows.specs.Rows.{Owner, Rows, owner_of}
use Rattle.engine_rows.specs.Triggers.{same_owner, awaited_by, cons_if, list_names, list_if, triggers_below, triggers_of}
use Rattle.engine_rows.proofs.Place.{Tree}
use Rattle.engine_rows.proofs.Priority.{Range}
use Rattle.engine_rows.proofs.Sorted.{In, Either, this, that}
use Rattle.engine_rows.proofs.Waking.{Triggers, row_awaits, cons_if-cases, cons_if-here, cons_if-there}
use Rattle.engine_rows.proofs.Owners.{awaits_owner}
use Rattle.engine_rows.proofs.Kept.{Known, slots_small}

pub or_right : (a b : Bool) → b ≡ true → a || b ≡ true
or_right true b e = refl
or_right false b e = e

pub or_cases : (a b : Bool) → a || b ≡ true → Either (a ≡ true) (b ≡ true)
or_cases true b e = this refl
or_cases false b e = that e

names_only : (bindings_are : List Owner) (n : ℕ) (ws : List ℕ) (o : Owner) (ss : List ℕ) (s : ℕ) → In s (list_names bindings_are n ws o ss) →
    Either ((s ≡ n) × (awaits_owner bindings_are ws o ≡ true)) (In s ss)
unfolding list_names awaits_owner owner_of
names_only bindings_are n [] o ss s i = that i
names_only bindings_are n (w ∷ ws) o ss s i = go (names_only bindings_are n ws o (cons_if (same_owner (owner_of bindings_are w) o) n ss) s i)
  where
    two : Either ((same_owner (owner_of bindings_are w) o ≡ true) × (s ≡ n)) (In s ss) →
        Either ((s ≡ n) × (same_owner (owner_of bindings_are w) o || awaits_owner bindings_are ws o ≡ true)) (In s ss)
    two (this h) = this (h.1, rw h.0)
    two (that j) = that j

    go : Either ((s ≡ n) × (awaits_owner bindings_are ws o ≡ true)) (In s (cons_if (same_owner (owner_of bindings_are w) o) n ss)) →
        Either ((s ≡ n) × (same_owner (owner_of bindings_are w) o || awaits_owner bindings_are ws o ≡ true)) (In s ss)
    go (this h) = this (h.0, or_right (same_owner (owner_of bindings_are w) o) (awaits_owner bindings_are ws o) h.1)
    go (that j) = two (cons_if-cases (same_owner (owner_of bindings_are w) o) n ss j)

names_keep : (bindings_are : List Owner) (n : ℕ) (ws : List ℕ) (o : Owner) (ss : List ℕ) (s : ℕ) → In s ss → In s (list_names bindings_are n ws o ss)
unfolding list_names
names_keep bindings_are n [] o ss s i = i
names_keep bindings_are n (w ∷ ws) o ss s i = names_keep bindings_are n ws o (cons_if (same_owner (owner_of bindings_are w) o) n ss) s
    (cons_if-there (same_owner (owner_of bindings_are w) o) n ss i)

names_in : (bindings_are : List Owner) (n : ℕ) (ws : List ℕ) (o : Owner) (ss : List ℕ) → awaits_owner bindings_are ws o ≡ true →
    In n (list_names bindings_are n ws o ss)
unfolding list_names awaits_owner owner_of
names_in bindings_are n [] o ss e = let z : ◌≡◌ {A = ℕ} 0 1 = cc in absurd (omega arith)
names_in bindings_are n (w ∷ ws) o ss e = go (or_cases (same_owner (owner_of bindings_are w) o) (awaits_owner bindings_are ws o) e)
    (names_in bindings_are n ws o (cons_if (same_owner (owner_of bindings_are w) o) n ss))
  where
    go : Either (same_owner (owner_of bindings_are w) o ≡ true) (awaits_owner bindings_are ws o ≡ true) →
        (awaits_owner bindings_are ws o ≡ true → In n (list_names bindings_are n ws o (cons_if (same_owner (owner_of bindings_are w) o) n ss))) →
        In n (list_names bindings_are n ws o (cons_if (same_owner (owner_of bindings_are w) o) n ss))
    go (this h) deep = names_keep bindings_are n ws o (cons_if (same_owner (owner_of bindings_are w) o) n ss) n
        (cons_if-here (same_owner (owner_of bindings_are w) o) n ss h)
    go (that h) deep = deep h

module _ (listing : Listing) (σ : Rows) (o : Owner) where
  pub below_only : (n s : ℕ) → In s (triggers_below listing σ n o) → row_awaits listing (σ s) o ≡ true
  unfolding triggers_below list_if row_awaits awaited_by
  below_only zero s i = elim i [ ]
  below_only (suc n) s i = go (σ n).asleep i (below_only n s)
    where
      two : Either ((s ≡ n) × (awaits_owner (σ n).bindings (awaited_by listing (σ n)) o ≡ true)) (In s (triggers_below listing σ n o)) →
          (In s (triggers_below listing σ n o) → row_awaits listing (σ s) o ≡ true) → row_awaits listing (σ s) o ≡ true
      two (this h) deep = ap (λ z. row_awaits listing (σ z) o) h.0 ∙ h.1
      two (that j) deep = deep j

      go : (b : Bool) → In s (list_if b (σ n).bindings n (awaited_by listing (σ n)) o (triggers_below listing σ n o)) →
          (In s (triggers_below listing σ n o) → row_awaits listing (σ s) o ≡ true) → row_awaits listing (σ s) o ≡ true
      go true j deep = two (names_only (σ n).bindings n (awaited_by listing (σ n)) o (triggers_below listing σ n o) s j) deep
      go false j deep = deep j

  pub below_in : (n s : ℕ) → s < n → (σ s).asleep ≡ true → row_awaits listing (σ s) o ≡ true → In s (triggers_below listing σ n o)
  unfolding triggers_below list_if row_awaits awaited_by
  below_in zero s l a h = absurd (omega arith)
  below_in (suc n) s l a h = go (ℕ_discrete s n) (below_in n s)
    where
      later : (b : Bool) → In s (triggers_below listing σ n o) →
          In s (list_if b (σ n).bindings n (awaited_by listing (σ n)) o (triggers_below listing σ n o))
      later true j = names_keep (σ n).bindings n (awaited_by listing (σ n)) o (triggers_below listing σ n o) s j
      later false j = j

      now' : s ≡ n → (b : Bool) → (σ n).asleep ≡ b → In s (list_if b (σ n).bindings n (awaited_by listing (σ n)) o (triggers_below listing σ n o))
      now' e true q = rw e (names_in (σ n).bindings n (awaited_by listing (σ n)) o (triggers_below listing σ n o)
          (ap (λ z. row_awaits listing (σ z) o) (sym e) ∙ h))
      now' e false q = let z : ◌≡◌ {A = Bool} true false = sym a ∙ ap (λ z. (σ z).asleep) e ∙
          q in let w : ◌≡◌ {A = ℕ} 0 1 = cc in absurd (omega arith)

      go : Dec (s ≡ n) → (s < n → (σ s).asleep ≡ true → row_awaits listing (σ s) o ≡ true → In s (triggers_below listing σ n o)) →
          In s (list_if (σ n).asleep (σ n).bindings n (awaited_by listing (σ n)) o (triggers_below listing σ n o))
      go (yes e) deep = now' e (σ n).asleep refl
      go (no e) deep = later (σ n).asleep (deep (omega arith) a h)

pub triggers_made : (listing : Listing) {σ : Rows} {lo hi : ℕ} (t : Tree) → Range lo hi t → Known σ t → Triggers listing σ (triggers_of listing σ)
unfolding triggers_of
triggers_made listing {σ} t r K =
    record { sound = λ s o a i. below_only listing σ o 64 s i; full = λ s o a h. below_in listing σ o 64 s (slots_small s r (K.all s a)) a h }
