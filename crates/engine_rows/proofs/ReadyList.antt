-- The ready list of slots, rising by priority in the rows, against the list of keys: insertion in one is insertion in the other.
-- Letters as in Place and Held.
use mathlib.Core.Path.{◌≡◌, refl, sym, ap, ◌∙◌}
use mathlib.Core.Bool.{Bool, true, false}
use mathlib.Core.List.{List, [], ◌∷◌, ◌++◌}
use Prim.Native.Nat.{ℕ, ◌/◌, ◌%◌, ◌≤◌, ◌<◌}
use native.Mathlib.Omega.{arith}
use lib.Dec.{ltb, eqb}
use borrow.Author.Tests.{ltb-true, ltb-false, eqb-true, eqb-false, lt-ltb, le-ltb, eq-eqb, ne_eqb}
use Rattle.listing.specs.Listing.{Listing}
use Rattle.walk.specs.State.{Variable}
use Rattle.engine_rows.specs.Rows.{Rows}
use Rattle.engine_rows.specs.Ready.{insert_at, insert, insert_all_lem}
use Rattle.engine_rows.proofs.Place.{Record, Tree, nil, put, ◌⋈◌, Frame, plug, memory_of, key, ready, ready_up}
use Rattle.engine_rows.proofs.Priority.{Range, range_split, parts}
use Rattle.engine_rows.proofs.Sorted.{In, here, there, in_cases, Either, this, that, put_key, insert_key, insert_keys, insert_only, slots_in}
use Rattle.engine_rows.proofs.Held.{Entry, root_count, row_for, Held, held_nil, held_put, HeldUp, held_top, held_under, hole}
use Rattle.engine_rows.proofs.Waking.{key_at, keys_at, cons_if-cases, row_key}

-- each key of the list is that of the row in its slot, and no two have one priority
pub record Keyed (σ : Rows) (l : List ℕ) : Type 0 where
  pub keyed : (k : ℕ) → In k l → key_at σ (k % 64) ≡ k
  pub apart : (j k : ℕ) → In j l → In k l → j / 64 ≡ k / 64 → j ≡ k

pub slot_of_lem : (σ : Rows) (s : ℕ) → s < 64 → key_at σ s % 64 ≡ s
unfolding key_at
slot_of_lem σ s h = omega arith

low_of : (σ : Rows) (s : ℕ) → s < 64 → key_at σ s / 64 ≡ (σ s).low
unfolding key_at
low_of σ s h = omega arith

mod_small : (k : ℕ) → k % 64 < 64
mod_small k = omega arith

module _ (σ : Rows) (R : List ℕ) (K : Keyed σ R) where
  pub insert_slots : (s : ℕ) (l : List ℕ) → s < 64 → In (key_at σ s) R → ((k : ℕ) → In k l → In k R) →
      insert σ s (slots_in l) ≡ slots_in (insert_key (key_at σ s) l)
  unfolding insert insert_at slots_in insert_key put_key
  insert_slots s [] h i sub = ap (λ z. z ∷ []) (sym (slot_of_lem σ s h))
  insert_slots s (k ∷ l) h i sub = go (ltb (σ s).low (σ x).low) (eqb s x) refl refl (insert_slots s l h i (λ j m. sub j (there m)))
    where
      x : ℕ
      x = k % 64

      key_k : key_at σ x ≡ k
      key_k = K.keyed k (sub k (here refl))

      low_k : k / 64 ≡ (σ x).low
      low_k = ap (λ z. z / 64) (sym key_k) ∙ low_of σ x (mod_small k)

      low_s : key_at σ s / 64 ≡ (σ s).low
      low_s = low_of σ s h

      go : (u v : Bool) → ltb (σ s).low (σ x).low ≡ u → eqb s x ≡ v → insert σ s (slots_in l) ≡ slots_in (insert_key (key_at σ s) l) →
          insert_at u v s x (slots_in l) (insert σ s (slots_in l)) ≡ slots_in
          (put_key (ltb (key_at σ s) k) (eqb (key_at σ s) k) (key_at σ s) k l (insert_key (key_at σ s) l))
      go true v p q deep =
          let a : (σ s).low < (σ x).low = ltb-true _ _ p in
          let b : key_at σ s < k = omega (arith, low_k, low_s) in
          rw (lt-ltb (key_at σ s) k b, slot_of_lem σ s h)
      go false true p q deep =
          let a : key_at σ s ≡ k = ap (key_at σ) (eqb-true s x q) ∙ key_k in
          let b : k ≤ key_at σ s = omega arith in
          rw (le-ltb (key_at σ s) k b, eq-eqb (key_at σ s) k a)
      go false false p q deep =
          let a : (σ x).low ≤ (σ s).low = ltb-false _ _ p in
          let n : s ≡ x → ⊥ = eqb-false s x q in
          let c : key_at σ s ≡ k → ⊥ = λ e. n (sym (slot_of_lem σ s h) ∙ ap (λ z. z % 64) e) in
          let d : key_at σ s / 64 ≡ k / 64 → ⊥ = λ e. c (K.apart (key_at σ s) k i (sub k (here refl)) e) in
          let b : k ≤ key_at σ s = omega (arith, low_k, low_s) in
          rw (le-ltb (key_at σ s) k b, ne_eqb (key_at σ s) k c) (ap (λ z. x ∷ z) deep)

  pub insert_all_slots : (ss l : List ℕ) → ((s : ℕ) → In s ss → (s < 64) × In (key_at σ s) R) → ((k : ℕ) → In k l → In k R) →
      insert_all_lem σ ss (slots_in l) ≡ slots_in (insert_keys (keys_at σ ss) l)
  unfolding insert_all_lem insert_keys keys_at
  insert_all_slots [] l h sub = refl
  insert_all_slots (s ∷ ss) l h sub =
      ap (insert_all_lem σ ss) (insert_slots s l (h s (here refl)).0 (h s (here refl)).1 sub) ∙
      insert_all_slots ss (insert_key (key_at σ s) l) (λ t i. h t (there i)) (λ k i. old k (insert_only (key_at σ s) l i))
    where
      old : (k : ℕ) → Either (k ≡ key_at σ s) (In k l) → In k R
      old k (this e) = rw e (h s (here refl)).1
      old k (that i) = sub k i

-- ── the walk's ready list is keyed by the rows that hold the tree ────────────────────────────────
module _ (listing : Listing) where
  key_of_row : (σ : Rows) (z : Bool) (p : List Entry) (c n : ℕ) (x : Record) → x.slot < 64 → σ x.slot ≡ row_for z p c n x →
      key_at σ (key x % 64) ≡ key x
  unfolding key
  key_of_row σ z p c n x h e = ap (key_at σ) s ∙ row_key listing σ z p c n x e
    where
      s : key x % 64 ≡ x.slot
      s = omega arith

  pub ready_keyed : {σ : Rows} {d : Bool} {p : List Entry} {c : ℕ} {t : Tree} {lo hi : ℕ} (m : List Variable) (k : ℕ) → Range lo hi t →
      Held σ d p c t → In k (ready listing m t) → key_at σ (k % 64) ≡ k
  unfolding ready
  ready_keyed m k r held_nil i = elim i [ ]
  ready_keyed {σ} {d} {p} {c} m k r (held_put {x = x} {k = nil} {f = f} z a e hk hf) i =
      go (cons_if-cases _ (key x) (ready listing m f) i) (ready_keyed m k (parts r).siblings hf)
    where
      go : {w : Bool} → Either ((w ≡ true) × (k ≡ key x)) (In k (ready listing m f)) → (In k (ready listing m f) → key_at σ (k % 64) ≡ k) →
          key_at σ (k % 64) ≡ k
      go (this h) deep = rw h.1 (key_of_row σ z p c (root_count nil) x (parts r).slots e)
      go (that j) deep = deep j
  ready_keyed {σ} m k r (held_put {x = x} {k = put y g h} {f = f} z a e hk hf) i =
      go (in_cases (ready listing (m ++ x.own) (put y g h)) (ready listing m f) i) (ready_keyed (m ++ x.own) k (parts r).children hk)
      (ready_keyed m k (parts r).siblings hf)
    where
      go : Either (In k (ready listing (m ++ x.own) (put y g h))) (In k (ready listing m f)) →
          (In k (ready listing (m ++ x.own) (put y g h)) → key_at σ (k % 64) ≡ k) → (In k (ready listing m f) → key_at σ (k % 64) ≡ k) →
          key_at σ (k % 64) ≡ k
      go (this j) u v = u j
      go (that j) u v = v j

  pub up_keyed : {σ : Rows} {environment : List Variable} {n : ℕ} {fs : List Frame} (lo hi k : ℕ) (t : Tree) → Range lo hi (plug fs t) →
      HeldUp σ environment n fs → In k (ready_up listing environment fs) → key_at σ (k % 64) ≡ k
  unfolding plug ready_up
  up_keyed lo hi k t r held_top i = elim i [ ]
  up_keyed {σ} {environment} lo hi k t r (held_under {f = f} {fs = fs} e d c u) i =
      go (in_cases (ready listing (memory_of environment fs) f.todo) (ready_up listing environment fs) i)
      (ready_keyed (memory_of environment fs) k (parts (range_split f.done (put f.self t f.todo)
      (hole lo hi fs (f.done ⋈ put f.self t f.todo) r).inside).right).siblings c)
      (up_keyed lo hi k (f.done ⋈ put f.self t f.todo) r u)
    where
      go : Either (In k (ready listing (memory_of environment fs) f.todo)) (In k (ready_up listing environment fs)) →
          (In k (ready listing (memory_of environment fs) f.todo) → key_at σ (k % 64) ≡ k) →
          (In k (ready_up listing environment fs) → key_at σ (k % 64) ≡ k) → key_at σ (k % 64) ≡ k
      go (this j) x y = x j
      go (that j) x y = y j
