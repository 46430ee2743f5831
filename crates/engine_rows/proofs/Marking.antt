-- Marks and trigger lists: who is on a variable's list, and who wakes after one variable is changed.
-- Letters: σ rows, s a slot, o, p and q owners of variables, x the variable put at p.
use mathlib.Core.Path.{◌≡◌, refl, sym, ap, ◌∙◌}
use mathlib.Core.Bool.{Bool, true, false, ◌||◌}
use mathlib.Core.List.{List, [], ◌∷◌}
use Prim.Native.Nat.{ℕ, zero, suc, ◌<◌}
use native.Mathlib.Decide.{ℕ_discrete}
use lib.ListN.{set}
use lib.Seq.{get_or-set_other}
use Rattle.listing.specs.Listing.{Listing}
use Rattle.walk.specs.Memory.{variable_at}
use Rattle.walk.specs.State.{Variable, no_variable}
use Rattle.engine_rows.specs.Rows.{Owner, in_environment, in_slot, Row, Rows, with_own, with_row, variable_of, rows_with, environment_with, owner_of, named}
use Rattle.engine_rows.specs.Triggers.{same_owner, awaited_by, list_if, triggers_below, triggers_of, any_named_written, wakes_now}
use Rattle.engine_rows.proofs.Sorted.{In, Either, this, that}
use Rattle.engine_rows.proofs.Held.{with_row-same, with_row-other}
use Rattle.engine_rows.proofs.Owners.{bool_not, and_true, same_owner-refl, same_owner-true, awaits_owner}
use Rattle.engine_rows.proofs.Waking.{row_awaits}
use Rattle.engine_rows.proofs.TriggerLists.{or_right, or_cases, below_only, below_in}

-- ── who is on a list ────────────────────────────────────────────────────────────────────────────
pub triggers_only : (listing : Listing) (σ : Rows) (o : Owner) (s : ℕ) → In s (triggers_of listing σ o) → row_awaits listing (σ s) o ≡ true
unfolding triggers_of
triggers_only listing σ o s i = below_only listing σ o 64 s i

pub triggers_in : (listing : Listing) (σ : Rows) (o : Owner) (s : ℕ) → s < 64 → (σ s).asleep ≡ true → row_awaits listing (σ s) o ≡ true →
    In s (triggers_of listing σ o)
unfolding triggers_of
triggers_in listing σ o s l a h = below_in listing σ o 64 s l a h

-- ── a variable changed: nothing but own variables changes in the rows ───────────────────────────
pub row_keeps : {A : Type 0} (look : Row → A) → ((r : Row) (own : List Variable) → look (with_own r own) ≡ look r) →
    (σ : Rows) (p : Owner) (x : Variable) (s : ℕ) → look (rows_with σ p x s) ≡ look (σ s)
unfolding rows_with
row_keeps look keeps σ (in_environment a) x s = refl
row_keeps look keeps σ (in_slot n i) x s = go (ℕ_discrete s n)
  where
    r : Row
    r = with_own (σ n) (set (σ n).own i x)

    go : Dec (s ≡ n) → look (with_row σ n r s) ≡ look (σ s)
    go (yes e) = rw e (ap look (with_row-same σ n r) ∙ keeps (σ n) (set (σ n).own i x))
    go (no h) = ap look (with_row-other σ n r s h)

pub asleep_same : (σ : Rows) (p : Owner) (x : Variable) (s : ℕ) → (rows_with σ p x s).asleep ≡ (σ s).asleep
unfolding with_own
asleep_same σ p x s = row_keeps (λ r. r.asleep) (λ r own. refl) σ p x s

pub awaits_same : (listing : Listing) (σ : Rows) (p : Owner) (x : Variable) (s : ℕ) (o : Owner) →
    row_awaits listing (rows_with σ p x s) o ≡ row_awaits listing (σ s) o
unfolding with_own row_awaits
awaits_same listing σ p x s o = row_keeps (λ r. row_awaits listing r o) (λ r own. refl) σ p x s

below_same : (listing : Listing) (σ : Rows) (p : Owner) (x : Variable) (o : Owner) (n : ℕ) →
    triggers_below listing (rows_with σ p x) n o ≡ triggers_below listing σ n o
unfolding triggers_below awaited_by with_own
below_same listing σ p x o zero = refl
below_same listing σ p x o (suc n) =
    rw (below_same listing σ p x o n)
    (row_keeps (λ r. list_if r.asleep r.bindings n (awaited_by listing r) o (triggers_below listing σ n o)) (λ r own. refl) σ p x n)

pub triggers_same : (listing : Listing) (σ : Rows) (p : Owner) (x : Variable) (o : Owner) →
    triggers_of listing (rows_with σ p x) o ≡ triggers_of listing σ o
unfolding triggers_of
triggers_same listing σ p x o = below_same listing σ p x o 64

-- every other variable stays
pub variable_other : (σ : Rows) (environment : List Variable) (p : Owner) (x : Variable) (q : Owner) → (q ≡ p → ⊥) →
    variable_of (rows_with σ p x) (environment_with p environment x) q ≡ variable_of σ environment q
unfolding variable_of rows_with environment_with variable_at with_own
variable_other σ environment (in_environment a) x (in_environment b) h = get_or-set_other environment a b x no_variable (λ e. h (ap in_environment e))
variable_other σ environment (in_environment a) x (in_slot s i) h = refl
variable_other σ environment (in_slot n j) x (in_environment b) h = refl
variable_other σ environment (in_slot n j) x (in_slot s i) h = go (ℕ_discrete s n)
  where
    r : Row
    r = with_own (σ n) (set (σ n).own j x)

    go : Dec (s ≡ n) → variable_at (with_row σ n r s).own i ≡ variable_at (σ s).own i
    go (yes e) =
        rw e (ap (λ (y : Row). variable_at y.own i) (with_row-same σ n r) ∙
        get_or-set_other (σ n).own j i x no_variable (λ d. h (rw (e, d))))
    go (no d) = ap (λ (y : Row). variable_at y.own i) (with_row-other σ n r s d)

-- ── who wakes: asleep, and a variable it awaits is written ──────────────────────────────────────
pub record Woken (listing : Listing) (σ : Rows) (environment : List Variable) (s : ℕ) : Type 0 where
  pub asleep : (σ s).asleep ≡ true
  pub owner : Owner
  pub awaits : row_awaits listing (σ s) owner ≡ true
  pub written : (variable_of σ environment owner).written ≡ true

module _ (listing : Listing) (σ : Rows) (environment : List Variable) where
  some_written : (bindings_are : List Owner) (ws : List ℕ) → any_named_written listing σ environment bindings_are ws ≡ true →
      (o : Owner) × (awaits_owner bindings_are ws o ≡ true) × ((variable_of σ environment o).written ≡ true)
  unfolding any_named_written awaits_owner named owner_of
  some_written bindings_are [] e = bool_not (sym e)
  some_written bindings_are (w ∷ ws) e = go (or_cases _ _ e) (some_written bindings_are ws)
    where
      at_w : Owner
      at_w = owner_of bindings_are w

      go : Either ((variable_of σ environment at_w).written ≡ true) (any_named_written listing σ environment bindings_are ws ≡ true) →
          (any_named_written listing σ environment bindings_are ws ≡ true →
          (o : Owner) × (awaits_owner bindings_are ws o ≡ true) × ((variable_of σ environment o).written ≡ true)) →
          (o : Owner) × (same_owner at_w o || awaits_owner bindings_are ws o ≡ true) × ((variable_of σ environment o).written ≡ true)
      go (this h) deep = (at_w, rw (same_owner-refl at_w), h)
      go (that h) deep = let d = deep h in (d.0, or_right (same_owner at_w d.0) (awaits_owner bindings_are ws d.0) d.1, d.2)

  written_some : (bindings_are : List Owner) (ws : List ℕ) (o : Owner) → awaits_owner bindings_are ws o ≡ true →
      (variable_of σ environment o).written ≡ true → any_named_written listing σ environment bindings_are ws ≡ true
  unfolding any_named_written awaits_owner named owner_of
  written_some bindings_are [] o e h = bool_not (sym e)
  written_some bindings_are (w ∷ ws) o e h = go (or_cases _ _ e) (written_some bindings_are ws o)
    where
      at_w : Owner
      at_w = owner_of bindings_are w

      go : Either (same_owner at_w o ≡ true) (awaits_owner bindings_are ws o ≡ true) →
          (awaits_owner bindings_are ws o ≡ true → (variable_of σ environment o).written ≡ true →
          any_named_written listing σ environment bindings_are ws ≡ true) →
          (variable_of σ environment at_w).written || any_named_written listing σ environment bindings_are ws ≡ true
      go (this q) deep = rw (same_owner-true at_w o q, h)
      go (that q) deep = or_right (variable_of σ environment at_w).written (any_named_written listing σ environment bindings_are ws) (deep q h)

  pub wakes_only : (s : ℕ) → wakes_now listing σ environment s ≡ true → Woken listing σ environment s
  unfolding wakes_now row_awaits awaited_by
  wakes_only s e =
      let q = and_true (σ s).asleep (any_named_written listing σ environment (σ s).bindings (awaited_by listing (σ s))) e in
      let d = some_written (σ s).bindings (awaited_by listing (σ s)) q.1 in
      record { asleep = q.0; owner = d.0; awaits = d.1; written = d.2 }

  pub wakes_by : (s : ℕ) → Woken listing σ environment s → wakes_now listing σ environment s ≡ true
  unfolding wakes_now row_awaits awaited_by
  wakes_by s w = rw (w.asleep, written_some (σ s).bindings (awaited_by listing (σ s)) w.owner w.awaits w.written)

  -- whoever awaits nothing written does not wake
  pub none_wakes : ((o : Owner) → (variable_of σ environment o).written ≡ false) → (s : ℕ) → wakes_now listing σ environment s ≡ false
  none_wakes h s = go (wakes_now listing σ environment s) refl
    where
      go : (b : Bool) → wakes_now listing σ environment s ≡ b → b ≡ false
      go true e = let w = wakes_only s e in bool_not (sym w.written ∙ h w.owner)
      go false e = refl

-- ── one variable changed, at owner p, to x ──────────────────────────────────────────────────────
owner_cases : (q p : Owner) → Either (q ≡ p) (q ≡ p → ⊥)
owner_cases q p = go (same_owner q p) refl
  where
    go : (b : Bool) → same_owner q p ≡ b → Either (q ≡ p) (q ≡ p → ⊥)
    go true e = this (same_owner-true q p e)
    go false e = that (λ d. bool_not (sym (same_owner-refl p) ∙ ap (λ z. same_owner z p) (sym d) ∙ e))

module _ (listing : Listing) (σ : Rows) (environment : List Variable) (p : Owner) (x : Variable)
    (there : variable_of (rows_with σ p x) (environment_with p environment x) p ≡ x)
    (up : (variable_of σ environment p).written ≡ true → x.written ≡ true) where
  written_kept : (q : Owner) → (variable_of σ environment q).written ≡ true →
      (variable_of (rows_with σ p x) (environment_with p environment x) q).written ≡ true
  written_kept q h = go (owner_cases q p)
    where
      go : Either (q ≡ p) (q ≡ p → ⊥) → (variable_of (rows_with σ p x) (environment_with p environment x) q).written ≡ true
      go (this e) = rw (e, there) (up (rw e at h))
      go (that n) = rw (variable_other σ environment p x q n) h

  wakes_then : (s : ℕ) (q : Owner) → (σ s).asleep ≡ true → row_awaits listing (σ s) q ≡ true →
      (variable_of (rows_with σ p x) (environment_with p environment x) q).written ≡ true →
      wakes_now listing (rows_with σ p x) (environment_with p environment x) s ≡ true
  wakes_then s q a w h = wakes_by listing (rows_with σ p x) (environment_with p environment x) s (record {
    asleep = asleep_same σ p x s ∙ a;
    owner = q;
    awaits = awaits_same listing σ p x s q ∙ w;
    written = h;
  })

  pub wakes_kept : (s : ℕ) → wakes_now listing σ environment s ≡ true →
      wakes_now listing (rows_with σ p x) (environment_with p environment x) s ≡ true
  wakes_kept s h = let w = wakes_only listing σ environment s h in wakes_then s w.owner w.asleep w.awaits
      (written_kept w.owner w.written)

  pub wakes_marked : (s : ℕ) → x.written ≡ true → (σ s).asleep ≡ true → row_awaits listing (σ s) p ≡ true →
      wakes_now listing (rows_with σ p x) (environment_with p environment x) s ≡ true
  wakes_marked s h a w = wakes_then s p a w (rw there h)

  pub wakes_cases : (s : ℕ) → wakes_now listing (rows_with σ p x) (environment_with p environment x) s ≡ true →
      Either (wakes_now listing σ environment s ≡ true) ((x.written ≡ true) × ((σ s).asleep ≡ true) × (row_awaits listing (σ s) p ≡ true))
  wakes_cases s h = go (owner_cases w.owner p)
    where
      w : Woken listing (rows_with σ p x) (environment_with p environment x) s
      w = wakes_only listing (rows_with σ p x) (environment_with p environment x) s h

      asleep : (σ s).asleep ≡ true
      asleep = sym (asleep_same σ p x s) ∙ w.asleep

      awaits : row_awaits listing (σ s) w.owner ≡ true
      awaits = sym (awaits_same listing σ p x s w.owner) ∙ w.awaits

      go : Either (w.owner ≡ p) (w.owner ≡ p → ⊥) →
          Either (wakes_now listing σ environment s ≡ true) ((x.written ≡ true) × ((σ s).asleep ≡ true) × (row_awaits listing (σ s) p ≡ true))
      go (this e) = that (
        ap (λ y. y.written) (sym there) ∙
            ap (λ o. (variable_of (rows_with σ p x) (environment_with p environment x) o).written) (sym e) ∙ w.written,
        asleep,
        ap (row_awaits listing (σ s)) (sym e) ∙ awaits,
      )
      go (that n) = this (wakes_by listing σ environment s (record {
        asleep = asleep;
        owner = w.owner;
        awaits = awaits;
        written = ap (λ y. y.written) (sym (variable_other σ environment p x w.owner n)) ∙ w.written;
      }))
