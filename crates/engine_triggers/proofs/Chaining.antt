-- Following a list; a trigger put before it.
use mathlib.Core.Bool.{◌&&◌}
use mathlib.Core.List.{List, [], ◌∷◌}
use mathlib.Core.Path.{◌≡◌, refl, sym, ap, ap₂, subst, ◌∙◌}
use Prim.Native.Nat.{ℕ, zero, suc, ◌+◌, ◌*◌, ◌-◌, ◌/◌, ◌%◌, ◌≤◌, ◌<◌}
use native.Mathlib.Decide.{ℕ_discrete}
use native.Mathlib.Omega.{arith}
use lib.Dec.{eqb}
use borrow.Author.Tests.{eq-eqb, ne_eqb}
use Rattle.engine_rows.specs.Rows.{Owner}
use Rattle.engine_rows.specs.Triggers.{same_owner, cons_if}
use Rattle.engine_blocks.proofs.InBlocks.{other_block, same_outside}
use Rattle.engine_blocks.proofs.Puts.{put_same, put_other}
use Rattle.engine_blocks.proofs.Staying.{outside_then, rows_then, outside_start, rows_start, trigger_word_stored}
use Rattle.engine_blocks.specs.Blocks.{Block, block, owner_at}
use Rattle.engine_blocks.specs.Changes.{InBlock, SameTriggers, put_in}
use Rattle.engine_triggers.proofs.Owners.{same_owner_at}
use Rattle.engine_triggers.specs.Chains.{first_trigger, next_trigger, chain_if, chained, triggers_at, NoTriggers, Chains, OnlyTriggers}

module _ (words : List ℕ) where
  pub chained_here : (n : ℕ) → chained words (suc n) (suc n) ≡ n / 4 ∷ chained words n (next_trigger words n)
  unfolding chained chain_if
  chained_here n = rw (eq-eqb (suc n) (suc n) refl)

  pub chained_below : (n t : ℕ) → (t ≡ suc n → ⊥) → chained words (suc n) t ≡ chained words n t
  unfolding chained chain_if
  chained_below n t h = rw (ne_eqb t (suc n) h)

  -- A number above all triggers names none; nor does 0.
  pub chained_above : (n t : ℕ) → n < t → chained words n t ≡ []
  unfolding chained
  chained_above zero t h = refl
  chained_above (suc n) t h = chained_below n t (λ e. omega arith) ∙ chained_above n t (omega arith)

  pub chained_none : (n : ℕ) → chained words n 0 ≡ []
  unfolding chained
  chained_none zero = refl
  chained_none (suc n) = chained_below n 0 (λ e. omega arith) ∙ chained_none n

  -- Numbers above the first trigger play no part.
  pub chained_more : (n d t : ℕ) → t ≤ n → chained words (n + d) t ≡ chained words n t
  chained_more n zero t h = let e : n + 0 ≡ n = omega arith in rw e
  chained_more n (suc d) t h =
      let e : n + suc d ≡ suc (n + d) = omega arith in
      rw e (chained_below (n + d) t (λ q. omega arith) ∙ chained_more n d t h)

  pub chained_from : (n t : ℕ) → t ≤ n → chained words n t ≡ chained words t t
  chained_from n t h = let e : n ≡ t + (n - t) = omega arith in ap (λ (k : ℕ). chained words k t) e ∙ chained_more t (n - t) t (omega arith)

-- Only the next words of triggers up to n play a part.
pub chained_same : (a m : List ℕ) (n t : ℕ) → ((k : ℕ) → k < n → next_trigger m k ≡ next_trigger a k) → chained m n t ≡ chained a n t
unfolding chained
chained_same a m zero t h = refl
chained_same a m (suc n) t h =
    ap₂ (λ (x y : List ℕ). chain_if (eqb t (suc n)) (n / 4) x y)
    (chained_same a m n (next_trigger m n) (λ k l. h k (omega arith)) ∙ ap (chained a n) (h n (omega arith)))
    (chained_same a m n t (λ k l. h k (omega arith)))

-- Words whose trigger words are the same have the same lists.
pub lists_stay : (a m : List ℕ) → SameTriggers a m → (s index : ℕ) → s ≤ 64 → triggers_at m s index ≡ triggers_at a s index
unfolding triggers_at
lists_stay a m same s index h =
    chained_same a m 256 (first_trigger m s index) (λ k l. same.same (k / 4) (160 + k % 4) (omega arith) (omega arith))
    ∙ ap (chained a 256) (same.same s (144 + index) h (omega arith))

pub chains_start : (words : List ℕ) → NoTriggers words → Chains words 0 (λ o. [])
unfolding chained
chains_start words none = record { most = λ s i h l. (let z = none.none s i h l in omega arith); each = λ s i h l. refl }

pub chains_more : (words : List ℕ) (n k : ℕ) (lists : Owner → List ℕ) → n ≤ k → Chains words n lists → Chains words k lists
chains_more words n k lists h C =
    let e : n + (k - n) ≡ k = omega arith in
    record {
      most = λ s i p q. (let z = C.most s i p q in omega arith);
      each = λ s i p q. ap (λ (z : ℕ). chained words z (first_trigger words s i)) (sym e) ∙ chained_more words n (k - n) (first_trigger words s i) (C.most s i p q) ∙ C.each s i p q;
    }

pub only_start : (a : List ℕ) → OnlyTriggers a a
only_start a = record { rows = rows_start a; outside = outside_start a }

pub only_then : {a b c : List ℕ} → OnlyTriggers a b → OnlyTriggers b c → OnlyTriggers a c
only_then p q = record { rows = rows_then p.rows q.rows; outside = outside_then p.outside q.outside }

-- The variable by another way to its owner.
pub owner_known : {m : List ℕ} {n : ℕ} (s : ℕ) (lists : Owner → List ℕ) (u w : Owner) → u ≡ w → Chains m n (λ o. cons_if (same_owner u o) s (lists o))
    → Chains m n (λ o. cons_if (same_owner w o) s (lists o))
owner_known {m} {n} s lists u w e C = subst (λ (x : Owner). Chains m n (λ o. cons_if (same_owner x o) s (lists o))) e C

-- ── a trigger put before a list ───────────────────────────────────────────────────────────────────
-- Trigger suc n, of slot `slot` and name j, goes before the list of variable `index` of block s: first the next word (a to b), then the list's first (b to m).
module _ (a b m : List ℕ) (slot j s index n : ℕ) (number : n ≡ 4 * slot + j) (fit : j < 4) (few : slot < 64) (low : s ≤ 64) (small : index < 16)
    (p : InBlock slot a b (put_in (block a slot) (160 + j) (first_trigger a s index))) (q : InBlock s b m (put_in (block b s) (144 + index) (suc n))) where
  first_word : (t : ℕ) (k : ℕ) → (k ≡ 160 + j → ⊥) → block b t k ≡ block a t k
  first_word t k ne = go (ℕ_discrete t slot)
    where
      go : Dec (t ≡ slot) → block b t k ≡ block a t k
      go (yes e) = ap (λ (z : ℕ). block b z k) e ∙ ap (λ (c : Block). c k) p.words ∙ put_other (block a slot) (160 + j) _ k ne ∙ sym (ap (λ (z : ℕ). block a z k) e)
      go (no e) = ap (λ (c : Block). c k) (other_block p t e)

  first_other : (t k : ℕ) → (t ≡ slot → ⊥) → block b t k ≡ block a t k
  first_other t k e = ap (λ (c : Block). c k) (other_block p t e)

  second_word : (t : ℕ) (k : ℕ) → (k ≡ 144 + index → ⊥) → block m t k ≡ block b t k
  second_word t k ne = go (ℕ_discrete t s)
    where
      go : Dec (t ≡ s) → block m t k ≡ block b t k
      go (yes e) = ap (λ (z : ℕ). block m z k) e ∙ ap (λ (c : Block). c k) q.words ∙ put_other (block b s) (144 + index) _ k ne ∙ sym (ap (λ (z : ℕ). block b z k) e)
      go (no e) = ap (λ (c : Block). c k) (other_block q t e)

  second_other : (t k : ℕ) → (t ≡ s → ⊥) → block m t k ≡ block b t k
  second_other t k e = ap (λ (c : Block). c k) (other_block q t e)

  -- The next words of the triggers before it stay.
  earlier_next : (k : ℕ) → k < n → next_trigger m k ≡ next_trigger a k
  earlier_next k h = second_word (k / 4) (160 + k % 4) (λ e. omega arith) ∙ go (ℕ_discrete (k / 4) slot)
    where
      go : Dec (k / 4 ≡ slot) → block b (k / 4) (160 + k % 4) ≡ block a (k / 4) (160 + k % 4)
      go (yes e) = first_word (k / 4) (160 + k % 4) (λ z. omega arith)
      go (no e) = first_other (k / 4) (160 + k % 4) e

  own_next : next_trigger m n ≡ first_trigger a s index
  own_next =
      let e : n / 4 ≡ slot = omega arith in
      let f : 160 + n % 4 ≡ 160 + j = omega arith in
      ap₂ (λ (x y : ℕ). block m x y) e f ∙ second_word slot (160 + j) (λ z. omega arith) ∙ ap (λ (c : Block). c (160 + j)) p.words ∙ put_same (block a slot) (160 + j) _

  new_first : first_trigger m s index ≡ suc n
  new_first = ap (λ (c : Block). c (144 + index)) q.words ∙ put_same (block b s) (144 + index) (suc n)

  other_first : (t i : ℕ) → i < 16 → ((s ≡ t) × (index ≡ i) → ⊥) → first_trigger m t i ≡ first_trigger a t i
  other_first t i h ne = go (ℕ_discrete t s) ∙ first_word t (144 + i) (λ e. omega arith)
    where
      go : Dec (t ≡ s) → first_trigger m t i ≡ first_trigger b t i
      go (yes e) = second_word t (144 + i) (λ z. ne (sym e, omega arith))
      go (no e) = second_other t (144 + i) e

  pub only_triggers : OnlyTriggers a m
  only_triggers =
      record {
        rows = rows_then (trigger_word_stored (160 + j) (first_trigger a s index) (omega arith) p) (trigger_word_stored (144 + index) (suc n) (omega arith) q);
        outside = outside_then (same_outside p (omega arith)) (same_outside q low);
      }

  module _ (lists : Owner → List ℕ) (C : Chains a n lists) where
    own_list : chained m (suc n) (first_trigger m s index) ≡ slot ∷ lists (owner_at s index)
    own_list =
        let e : n / 4 ≡ slot = omega arith in
        ap (chained m (suc n)) new_first ∙ chained_here m n
        ∙ ap₂ (λ (x : ℕ) (y : List ℕ). x ∷ y) e
        (chained_same a m n (next_trigger m n) earlier_next ∙ ap (chained a n) own_next ∙ C.each s index low small)

    other_list : (t i : ℕ) → t ≤ 64 → i < 16 → ((s ≡ t) × (index ≡ i) → ⊥) → chained m (suc n) (first_trigger m t i) ≡ lists (owner_at t i)
    other_list t i h l ne =
        let bound = C.most t i h l in
        let e = other_first t i l ne in
        chained_below m n (first_trigger m t i) (λ z. omega arith) ∙ chained_same a m n (first_trigger m t i) earlier_next ∙ ap (chained a n) e ∙ C.each t i h l

    pub trigger_added : Chains m (suc n) (λ o. cons_if (same_owner (owner_at s index) o) slot (lists o))
    unfolding cons_if
    trigger_added = record { most = λ t i h l. most t i h l (ℕ_discrete s t) (ℕ_discrete index i); each = λ t i h l. rw (same_owner_at s index t i low h) (all t i h l (ℕ_discrete s t) (ℕ_discrete index i)) }
      where
        most : (t i : ℕ) → t ≤ 64 → i < 16 → Dec (s ≡ t) → Dec (index ≡ i) → first_trigger m t i ≤ suc n
        most t i h l (yes e) (yes f) = let z : first_trigger m t i ≡ suc n = ap₂ (λ (x y : ℕ). first_trigger m x y) (sym e) (sym f) ∙ new_first in omega arith
        most t i h l (yes e) (no f) = let z = other_first t i l (λ w. f w.1) in let w = C.most t i h l in omega arith
        most t i h l (no e) f = let z = other_first t i l (λ w. e w.0) in let w = C.most t i h l in omega arith

        all : (t i : ℕ) → t ≤ 64 → i < 16 → Dec (s ≡ t) → Dec (index ≡ i) → chained m (suc n) (first_trigger m t i) ≡ cons_if (eqb s t && eqb index i) slot (lists (owner_at t i))
        all t i h l (yes e) (yes f) =
            rw (eq-eqb s t e, eq-eqb index i f) (ap₂ (λ (x y : ℕ). chained m (suc n) (first_trigger m x y)) (sym e) (sym f) ∙ own_list ∙ ap₂ (λ (x y : ℕ). slot ∷ lists (owner_at x y)) e f)
        all t i h l (yes e) (no f) = rw (eq-eqb s t e, ne_eqb index i f) (other_list t i h l (λ w. f w.1))
        all t i h l (no e) f = rw (ne_eqb s t e) (other_list t i h l (λ w. e w.0))
