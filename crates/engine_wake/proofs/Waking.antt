-- The pass of a write over a trigger list.
use mathlib.Core.Bool.{Bool, true, false, ◌&&◌}
use mathlib.Core.List.{List, [], ◌∷◌}
use mathlib.Core.Path.{◌≡◌, refl, sym, ap, ◌∙◌}
use Prim.Native.Nat.{ℕ, suc, ◌/◌, ◌≤◌, ◌<◌}
use native.Mathlib.Omega.{arith}
use lib.Dec.{leb}
use lib.ListN.{length}
use borrow.Author.Tests.{lt-leb, le-leb}
use Rattle.engine_rows.specs.Ready.{insert, insert_all_lem, insert_if}
use Rattle.engine_rows.specs.Rows.{Rows}
use Rattle.engine_rows.specs.Triggers.{cons_if, triggered}
use Rattle.engine_blocks.specs.Blocks.{rows_of}
use Rattle.engine_rows.proofs.Sorted.{In, here, there, Either, this, that}
use Rattle.engine_rows.proofs.Owners.{and_true}
use Rattle.engine_rows.proofs.Waking.{cons_if-cases, cons_if-here, cons_if-there}
use Rattle.engine_ready.proofs.Distinct.{ordered_insert, ordered_few}
use Rattle.engine_ready.specs.Ordered.{Ordered}
use Rattle.engine_triggers.proofs.Chaining.{chained_here, chained_above, chained_none, chained_from}
use Rattle.engine_triggers.specs.Chains.{first_trigger, next_trigger, chained, triggers_at}
use Rattle.engine_wake.specs.Wakes.{wakes, triggered_from}

module _ (rows : Rows) where
  insert_cons_if : (w : Bool) (s : ℕ) (ss l : List ℕ) → insert_all_lem rows (cons_if w s ss) l ≡ insert_all_lem rows ss (insert_if w rows s l)
  unfolding insert_all_lem cons_if insert_if
  insert_cons_if true s ss l = refl
  insert_cons_if false s ss l = refl

  -- One slot after the other.
  pub wake_next : (from s : ℕ) (ss l : List ℕ) → insert_all_lem rows (triggered_from rows from (s ∷ ss)) l ≡ insert_all_lem rows (triggered_from rows from ss) (insert_if (wakes rows from s) rows s l)
  unfolding triggered_from
  wake_next from s ss l = insert_cons_if _ s (triggered_from rows from ss) l

  pub wake_none : (from : ℕ) (l : List ℕ) → insert_all_lem rows (triggered_from rows from []) l ≡ l
  unfolding triggered_from insert_all_lem
  wake_none from l = refl

  pub stays_awake : (from s : ℕ) → (rows s).asleep ≡ false → wakes rows from s ≡ false
  unfolding wakes
  stays_awake from s h = rw h

  pub comes_earlier : (from s : ℕ) → (rows s).low < from → wakes rows from s ≡ false
  unfolding wakes
  comes_earlier from s h = rw (lt-leb from (rows s).low h) (go (rows s).asleep)
    where
      go : (w : Bool) → w && false ≡ false
      go true = refl
      go false = refl

  pub is_woken : (from s : ℕ) → (rows s).asleep ≡ true → from ≤ (rows s).low → wakes rows from s ≡ true
  unfolding wakes
  is_woken from s h l = rw (h, le-leb from (rows s).low l)

  pub not_inserted : (w : Bool) (s : ℕ) (l : List ℕ) → w ≡ false → l ≡ insert_if w rows s l
  unfolding insert_if
  not_inserted w s l e = rw e

  pub inserted : (w : Bool) (s : ℕ) (l : List ℕ) → w ≡ true → insert rows s l ≡ insert_if w rows s l
  unfolding insert_if
  inserted w s l e = rw e

  pub ordered_insert_if : (w : Bool) (s : ℕ) (l : List ℕ) → s < 64 → Ordered rows l → Ordered rows (insert_if w rows s l)
  unfolding insert_if
  ordered_insert_if true s l h o = ordered_insert rows s l h o
  ordered_insert_if false s l h o = o

  pub insert_room : (s : ℕ) (l : List ℕ) → s < 64 → Ordered rows l → length (insert rows s l) ≤ 64
  insert_room s l h o = ordered_few rows (insert rows s l) (ordered_insert rows s l h o)

  -- ── whom a write reaches ──────────────────────────────────────────────────────────────────────────
  -- A writer's own priority, and those below it, are left out.
  pub triggered_by : (low : ℕ) (ss : List ℕ) → triggered_from rows (suc low) ss ≡ triggered rows low ss
  unfolding triggered_from triggered wakes
  triggered_by low [] = refl
  triggered_by low (s ∷ ss) = ap (λ (l : List ℕ). cons_if ((rows s).asleep && leb (suc low) (rows s).low) s l) (triggered_by low ss)

  -- Without a writer, all who sleep.
  pub all_only : (s : ℕ) (ss : List ℕ) → In s (triggered_from rows 0 ss) → In s ss × ((rows s).asleep ≡ true)
  unfolding triggered_from wakes
  all_only s [] i = elim i [ ]
  all_only s (x ∷ ss) i = go (cons_if-cases (wakes rows 0 x) x (triggered_from rows 0 ss) i) (all_only s ss)
    where
      go : Either ((wakes rows 0 x ≡ true) × (s ≡ x)) (In s (triggered_from rows 0 ss)) →
          (In s (triggered_from rows 0 ss) → In s ss × ((rows s).asleep ≡ true)) → In s (x ∷ ss) × ((rows s).asleep ≡ true)
      go (this h) deep = (here h.1, ap (λ z. (rows z).asleep) h.1 ∙ (and_true (rows x).asleep (leb 0 (rows x).low) h.0).0)
      go (that j) deep = (there (deep j).0, (deep j).1)

  pub all_in : (s : ℕ) (ss : List ℕ) → In s ss → (rows s).asleep ≡ true → In s (triggered_from rows 0 ss)
  unfolding triggered_from wakes
  all_in s _ (here {x = x} {l = l} e) h =
      rw e (cons_if-here (wakes rows 0 x) x (triggered_from rows 0 l) (is_woken 0 x (ap (λ z. (rows z).asleep) (sym e) ∙ h) (omega arith)))
  all_in s _ (there {x = x} {l = l} i) h = cons_if-there (wakes rows 0 x) x (triggered_from rows 0 l) (all_in s l i h)

-- ── following a list, trigger t at a time ─────────────────────────────────────────────────────────
module _ (words : List ℕ) (from : ℕ) where
  abbrev rest : ℕ → List ℕ → List ℕ
  rest t l = insert_all_lem (rows_of words) (triggered_from (rows_of words) from (chained words t t)) l

  pub rest_start : (s index : ℕ) (l : List ℕ) → first_trigger words s index ≤ 256
      → rest (first_trigger words s index) l ≡ insert_all_lem (rows_of words) (triggered_from (rows_of words) from (triggers_at words s index)) l
  unfolding triggers_at
  rest_start s index l h =
      ap (λ (ss : List ℕ). insert_all_lem (rows_of words) (triggered_from (rows_of words) from ss) l) (sym (chained_from words 256 (first_trigger words s index) h))

  -- No trigger has so high a number.
  pub rest_past : (s index : ℕ) (l : List ℕ) → 256 < first_trigger words s index
      → l ≡ insert_all_lem (rows_of words) (triggered_from (rows_of words) from (triggers_at words s index)) l
  unfolding triggers_at
  rest_past s index l h =
      sym (ap (λ (ss : List ℕ). insert_all_lem (rows_of words) (triggered_from (rows_of words) from ss) l) (chained_above words 256 (first_trigger words s index) h) ∙ wake_none (rows_of words) from l)

  pub rest_end : (l : List ℕ) → rest 0 l ≡ l
  rest_end l = ap (λ (ss : List ℕ). insert_all_lem (rows_of words) (triggered_from (rows_of words) from ss) l) (chained_none words 0) ∙ wake_none (rows_of words) from l

  -- Trigger suc n, which leads on to an earlier one, or to none.
  module _ (n : ℕ) (l : List ℕ) where
    abbrev after : List ℕ
    after = insert_if (wakes (rows_of words) from (n / 4)) (rows_of words) (n / 4) l

    one_off : rest (suc n) l ≡ insert_all_lem (rows_of words) (triggered_from (rows_of words) from (chained words n (next_trigger words n))) after
    one_off =
        ap (λ (ss : List ℕ). insert_all_lem (rows_of words) (triggered_from (rows_of words) from ss) l) (chained_here words n)
        ∙ wake_next (rows_of words) from (n / 4) (chained words n (next_trigger words n)) l

    pub rest_next : next_trigger words n ≤ n → rest (suc n) l ≡ rest (next_trigger words n) after
    rest_next h =
        one_off ∙ ap (λ (ss : List ℕ). insert_all_lem (rows_of words) (triggered_from (rows_of words) from ss) after) (chained_from words n (next_trigger words n) h)

    pub rest_last : n < next_trigger words n → rest (suc n) l ≡ after
    rest_last h =
        one_off ∙ ap (λ (ss : List ℕ). insert_all_lem (rows_of words) (triggered_from (rows_of words) from ss) after) (chained_above words n (next_trigger words n) h)
        ∙ wake_none (rows_of words) from after
