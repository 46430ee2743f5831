-- The trigger lists, by owner of the written variable: what a write takes from them is whom the walk will wake.
-- Letters as in Place and Held.
use mathlib.Core.Path.{◌≡◌, refl, sym, ap, ◌∙◌}
use mathlib.Core.Bool.{Bool, true, false, ◌&&◌, not}
use mathlib.Core.List.{List, [], ◌∷◌, ◌++◌}
use Prim.Native.Nat.{ℕ, ◌+◌, ◌*◌, ◌≤◌, ◌<◌}
use native.Mathlib.Nat.{le_refl, le_trans}
use native.Mathlib.Omega.{arith}
use lib.Dec.{ltb}
use lib.ListN.{length}
use borrow.Author.Tests.{ltb-true, lt-ltb}
use Rattle.listing.specs.Listing.{Listing}
use Rattle.walk.specs.State.{Variable}
use Rattle.walk.specs.Walk.{instruction_at}
use Rattle.engine_rows.specs.Rows.{Owner, Row, Rows}
use Rattle.engine_rows.specs.Triggers.{awaited, cons_if, triggered}
use Rattle.engine_rows.proofs.Place.{Record, width, Tree, nil, put, ◌⋈◌, Frame, plug, memory_of, key}
use Rattle.engine_rows.proofs.Priority.{Range, range_le, range_split, Parts, parts}
use Rattle.engine_rows.proofs.Sorted.{In, here, there, in_left, in_right, in_cases, Either, this, that}
use Rattle.engine_rows.proofs.Writing.{woken_up}
use Rattle.engine_rows.proofs.Held.{Entry, owner_at, owners_at, path_of, root_count, row_for, is_leaf, Held, held_nil, held_put, HeldUp, held_top, held_under, Hole, hole, hole_in}
use Rattle.engine_rows.proofs.Owners.{awaits_owner, awaits_it_by, woken_by_owner_up, at_start_lem, woken_by_owner, and_true, up_same, bool_not}
pub use Rattle.engine_rows.specs.Reached.{Triggers}
unfoldable pub use Rattle.engine_rows.specs.Reached.{row_awaits}

-- ── the engine's side: slots out of a trigger list, by mark and priority ────────────────────────
pub cons_if-cases : {k : ℕ} (w : Bool) (x : ℕ) (l : List ℕ) → In k (cons_if w x l) → Either ((w ≡ true) × (k ≡ x)) (In k l)
unfolding cons_if
cons_if-cases true x l (here e) = this (refl, e)
cons_if-cases true x l (there i) = that i
cons_if-cases false x l i = that i

pub cons_if-here : (w : Bool) (x : ℕ) (l : List ℕ) → w ≡ true → In x (cons_if w x l)
unfolding cons_if
cons_if-here true x l e = here refl
cons_if-here false x l e = bool_not (sym e)

pub cons_if-there : {k : ℕ} (w : Bool) (x : ℕ) (l : List ℕ) → In k l → In k (cons_if w x l)
unfolding cons_if
cons_if-there true x l i = there i
cons_if-there false x l i = i

unfoldable pub key_at : Rows → ℕ → ℕ
key_at σ s = (σ s).low * 64 + s

unfoldable pub keys_at : Rows → List ℕ → List ℕ
keys_at σ [] = []
keys_at σ (s ∷ ss) = key_at σ s ∷ keys_at σ ss

pub keys_in : (σ : Rows) (s : ℕ) (ss : List ℕ) → In s ss → In (key_at σ s) (keys_at σ ss)
unfolding keys_at
keys_in σ s _ (here {x = x} {l = l} e) = here (ap (key_at σ) e)
keys_in σ s _ (there {l = l} i) = there (keys_in σ s l i)

pub keys_only : (σ : Rows) (k : ℕ) (ss : List ℕ) → In k (keys_at σ ss) → (s : ℕ) × In s ss × (k ≡ key_at σ s)
unfolding keys_at
keys_only σ k [] i = elim i [ ]
keys_only σ k (s ∷ ss) (here e) = (s, here refl, e)
keys_only σ k (s ∷ ss) (there i) = let d = keys_only σ k ss i in (d.0, there d.1, d.2)

pub record Triggered (σ : Rows) (cur k : ℕ) (ss : List ℕ) : Type 0 where
  pub slot : ℕ
  pub is : k ≡ key_at σ slot
  pub listed : In slot ss
  pub asleep : (σ slot).asleep ≡ true
  pub later : cur < (σ slot).low

keys_at-cons_if : (σ : Rows) (w : Bool) (s : ℕ) (ss : List ℕ) → keys_at σ (cons_if w s ss) ≡ cons_if w (key_at σ s) (keys_at σ ss)
unfolding keys_at cons_if
keys_at-cons_if σ true s ss = refl
keys_at-cons_if σ false s ss = refl

triggered_only : (σ : Rows) (cur k : ℕ) (ss : List ℕ) → In k (keys_at σ (triggered σ cur ss)) → Triggered σ cur k ss
unfolding triggered keys_at
triggered_only σ cur k [] i = elim i [ ]
triggered_only σ cur k (s ∷ ss) i =
    go (cons_if-cases ((σ s).asleep && ltb cur (σ s).low) (key_at σ s) (keys_at σ (triggered σ cur ss))
    (rw (keys_at-cons_if σ ((σ s).asleep && ltb cur (σ s).low) s (triggered σ cur ss)) at i)) (triggered_only σ cur k ss)
  where
    go : Either ((((σ s).asleep && ltb cur (σ s).low) ≡ true) × (k ≡ key_at σ s)) (In k (keys_at σ (triggered σ cur ss))) →
        (In k (keys_at σ (triggered σ cur ss)) → Triggered σ cur k ss) → Triggered σ cur k (s ∷ ss)
    go (this h) deep =
        let q = and_true (σ s).asleep (ltb cur (σ s).low) h.0 in
        record { slot = s; is = h.1; listed = here refl; asleep = q.0; later = ltb-true cur (σ s).low q.1 }
    go (that j) deep =
        let d = deep j in record { slot = d.slot; is = d.is; listed = there d.listed; asleep = d.asleep; later = d.later }

triggered_in : (σ : Rows) (cur s : ℕ) (ss : List ℕ) → In s ss → (σ s).asleep ≡ true → cur < (σ s).low → In s (triggered σ cur ss)
unfolding triggered
triggered_in σ cur s _ (here {x = x} {l = l} e) h l' =
    rw e (cons_if-here ((σ x).asleep && ltb cur (σ x).low) x (triggered σ cur l) (rw (← e, h, lt-ltb cur (σ s).low l')))
triggered_in σ cur s _ (there {x = x} {l = l} i) h l' = cons_if-there ((σ x).asleep && ltb cur (σ x).low) x (triggered σ cur l)
    (triggered_in σ cur s l i h l')

-- a slot triggered is one of the list
pub triggered_from_lem : (σ : Rows) (cur s : ℕ) (ss : List ℕ) → In s (triggered σ cur ss) → In s ss × ((σ s).asleep ≡ true)
unfolding triggered
triggered_from_lem σ cur s [] i = elim i [ ]
triggered_from_lem σ cur s (x ∷ ss) i = go (cons_if-cases ((σ x).asleep && ltb cur (σ x).low) x (triggered σ cur ss) i) (triggered_from_lem σ cur s ss)
  where
    go : Either ((((σ x).asleep && ltb cur (σ x).low) ≡ true) × (s ≡ x)) (In s (triggered σ cur ss)) →
        (In s (triggered σ cur ss) → In s ss × ((σ s).asleep ≡ true)) → In s (x ∷ ss) × ((σ s).asleep ≡ true)
    go (this h) deep = (here h.1, ap (λ z. (σ z).asleep) h.1 ∙ (and_true (σ x).asleep (ltb cur (σ x).low) h.0).0)
    go (that j) deep = (there (deep j).0, (deep j).1)

unfoldable pub sleepers : Tree → List ℕ
sleepers nil = []
sleepers (put x nil f) = cons_if (not x.is_new) x.slot (sleepers f)
sleepers (put x (put y k g) f) = sleepers (put y k g) ++ sleepers f

unfoldable pub sleepers_up : List Frame → List ℕ
sleepers_up [] = []
sleepers_up (f ∷ fs) = sleepers f.todo ++ sleepers_up fs

module _ (listing : Listing) where
  -- whoever is marked and later than the present one is a pending sleeper
  pub record Marked (σ : Rows) (cur : ℕ) (fs : List Frame) : Type 0 where
    pub pending : (s : ℕ) → (σ s).asleep ≡ true → cur < (σ s).low → In s (sleepers_up fs)

  module _ (σ : Rows) (z : Bool) (p : List Entry) (c n : ℕ) (x : Record) (e : σ x.slot ≡ row_for z p c n x) where
    pub row_key : key_at σ x.slot ≡ key x
    unfolding key_at key row_for
    row_key = ap (λ (r : Row). r.low * 64 + x.slot) e

    low_of : (σ x.slot).low ≡ x.low
    unfolding row_for
    low_of = ap (λ (r : Row). r.low) e

    asleep_of : (σ x.slot).asleep ≡ z
    unfolding row_for
    asleep_of = ap (λ (r : Row). r.asleep) e

    row_awaits_lem : (o : Owner) → row_awaits listing (σ x.slot) o ≡ awaits_owner (owners_at (record { slot = x.slot; base = c } ∷ p) x.names)
        (awaited (instruction_at listing x.routine x.place)) o
    unfolding row_awaits row_for
    row_awaits_lem o = ap (λ (r : Row). awaits_owner r.bindings (awaited (instruction_at listing r.routine r.place)) o) e

  forest_from_lem : {σ : Rows} {s : ℕ} {p : List Entry} {c : ℕ} {t : Tree} (o : Owner) → Held σ true p c t → In s (sleepers t) →
      row_awaits listing (σ s) o ≡ true → In (key_at σ s) (woken_by_owner listing o p c t)
  unfolding sleepers woken_by_owner awaits_it_by
  forest_from_lem o held_nil i h = elim i [ ]
  forest_from_lem {σ} {s} {p} {c} o (held_put {x = x} {k = nil} {f = f} z m e hk hf) i h = go (cons_if-cases (not x.is_new) x.slot (sleepers f) i)
      (λ j. forest_from_lem o hf j h)
    where
      go : Either ((not x.is_new ≡ true) × (s ≡ x.slot)) (In s (sleepers f)) →
          (In s (sleepers f) → In (key_at σ s) (woken_by_owner listing o p c f)) →
          In (key_at σ s) (cons_if (awaits_it_by listing o p c x) (key x) (woken_by_owner listing o p c f))
      go (this w) deep =
          rw (w.1, row_key σ z p c (root_count nil) x e) (cons_if-here (awaits_it_by listing o p c x) (key x) (woken_by_owner listing o p c f)
          (rw w.0 (sym (row_awaits_lem σ z p c (root_count nil) x e o) ∙ rw w.1 at h)))
      go (that j) deep = cons_if-there (awaits_it_by listing o p c x) (key x) (woken_by_owner listing o p c f) (deep j)
  forest_from_lem {σ} {s} {p} {c} o (held_put {x = x} {k = put y k g} {f = f} z m e hk hf) i h =
      go (in_cases (sleepers (put y k g)) (sleepers f) i) (λ j. forest_from_lem o hk j h) (λ j. forest_from_lem o hf j h)
    where
      go : Either (In s (sleepers (put y k g))) (In s (sleepers f)) →
          (In s (sleepers (put y k g)) → In (key_at σ s) (woken_by_owner listing o (record { slot = x.slot; base = c } ∷ p) (c + length x.own)
          (put y k g))) → (In s (sleepers f) → In (key_at σ s) (woken_by_owner listing o p c f)) →
          In (key_at σ s) (woken_by_owner listing o (record { slot = x.slot; base = c } ∷ p) (c + length x.own) (put y k g) ++ woken_by_owner listing o
          p c f)
      go (this j) a b = in_left (woken_by_owner listing o (record { slot = x.slot; base = c } ∷ p) (c + length x.own) (put y k g))
          (woken_by_owner listing o p c f) (a j)
      go (that j) a b = in_right (woken_by_owner listing o (record { slot = x.slot; base = c } ∷ p) (c + length x.own) (put y k g))
          (woken_by_owner listing o p c f) (b j)

  pub record Owed (σ : Rows) (o : Owner) (lo k : ℕ) : Type 0 where
    pub slot : ℕ
    pub is : k ≡ key_at σ slot
    pub asleep : (σ slot).asleep ≡ true
    pub awaits : row_awaits listing (σ slot) o ≡ true
    pub later : lo ≤ (σ slot).low

  owed_low : {σ : Rows} {o : Owner} {lo k : ℕ} (lo' : ℕ) → lo' ≤ lo → Owed σ o lo k → Owed σ o lo' k
  owed_low lo' l w = record { slot = w.slot; is = w.is; asleep = w.asleep; awaits = w.awaits; later = le_trans l w.later }

  forest_to : {σ : Rows} {k : ℕ} {p : List Entry} {c : ℕ} {t : Tree} {lo hi : ℕ} (o : Owner) → Range lo hi t → Held σ true p c t →
      In k (woken_by_owner listing o p c t) → Owed σ o lo k
  unfolding woken_by_owner awaits_it_by is_leaf
  forest_to o r held_nil i = elim i [ ]
  forest_to {σ} {k} {p} {c} {lo = lo} o r (held_put {x = x} {k = nil} {f = f} z m e hk hf) i =
      go (cons_if-cases (awaits_it_by listing o p c x) (key x) (woken_by_owner listing o p c f) i)
      (λ j. owed_low lo (omega (arith, (parts r).lowest)) (forest_to o (parts r).siblings hf j))
    where
      lw : (σ x.slot).low ≡ x.low
      lw = low_of σ z p c (root_count nil) x e

      go : Either ((awaits_it_by listing o p c x ≡ true) × (k ≡ key x)) (In k (woken_by_owner listing o p c f)) →
          (In k (woken_by_owner listing o p c f) → Owed σ o lo k) → Owed σ o lo k
      go (this w) deep =
          let q = and_true (not x.is_new) (awaits_owner (owners_at (record { slot = x.slot; base = c } ∷ p) x.names)
          (awaited (instruction_at listing x.routine x.place)) o) w.0 in
          record {
            slot = x.slot;
            is = w.1 ∙ sym (row_key σ z p c (root_count nil) x e);
            asleep = asleep_of σ z p c (root_count nil) x e ∙ m refl ∙
                q.0;
            awaits = row_awaits_lem σ z p c (root_count nil) x e o ∙ q.1;
            later = omega (arith, lw, (parts r).lowest);
          }
      go (that j) deep = deep j
  forest_to {σ} {k} {p} {c} {lo = lo} o r (held_put {x = x} {k = put y kk g} {f = f} z m e hk hf) i =
      go (in_cases (woken_by_owner listing o (record { slot = x.slot; base = c } ∷ p) (c + length x.own) (put y kk g))
      (woken_by_owner listing o p c f) i)
      (λ j. owed_low lo (parts r).lowest (forest_to o (parts r).children hk j))
      (λ j. owed_low lo (omega (arith, (parts r).lowest)) (forest_to o (parts r).siblings hf j))
    where
      go : Either (In k (woken_by_owner listing o (record { slot = x.slot; base = c } ∷ p) (c + length x.own) (put y kk g)))
          (In k (woken_by_owner listing o p c f)) →
          (In k (woken_by_owner listing o (record { slot = x.slot; base = c } ∷ p) (c + length x.own) (put y kk g)) → Owed σ o lo k) →
          (In k (woken_by_owner listing o p c f) → Owed σ o lo k) → Owed σ o lo k
      go (this j) a b = a j
      go (that j) a b = b j

  -- along the frames
  up_from : {σ : Rows} {environment : List Variable} {n s : ℕ} {fs : List Frame} (o : Owner) → HeldUp σ environment n fs → In s (sleepers_up fs) →
      row_awaits listing (σ s) o ≡ true → In (key_at σ s) (woken_by_owner_up listing o environment fs)
  unfolding sleepers_up woken_by_owner_up
  up_from o held_top i h = elim i [ ]
  up_from {σ} {environment} {n} {s} o (held_under {f = f} {fs = fs} e d c u) i h =
      go (in_cases (sleepers f.todo) (sleepers_up fs) i) (λ j. forest_from_lem o c j h) (λ j. up_from o u j h)
    where
      A : List ℕ
      A = woken_by_owner listing o (path_of environment fs) (length (memory_of environment fs)) f.todo

      go : Either (In s (sleepers f.todo)) (In s (sleepers_up fs)) → (In s (sleepers f.todo) → In (key_at σ s) A) →
          (In s (sleepers_up fs) → In (key_at σ s) (woken_by_owner_up listing o environment fs)) →
          In (key_at σ s) (A ++ woken_by_owner_up listing o environment fs)
      go (this j) a b = in_left A (woken_by_owner_up listing o environment fs) (a j)
      go (that j) a b = in_right A (woken_by_owner_up listing o environment fs) (b j)

  up_to_lem : {σ : Rows} {environment : List Variable} {n k : ℕ} {fs : List Frame} (lo hi : ℕ) (t : Tree) (o : Owner) (r : Range lo hi (plug fs t)) →
      HeldUp σ environment n fs → In k (woken_by_owner_up listing o environment fs) → Owed σ o (hole lo hi fs t r).upto k
  unfolding plug hole hole_in woken_by_owner_up
  up_to_lem lo hi t o r held_top i = elim i [ ]
  up_to_lem {σ} {environment} {n} {k} lo hi t o r (held_under {f = f} {fs = fs} e d c u) i =
      go (in_cases (woken_by_owner listing o (path_of environment fs) (length (memory_of environment fs)) f.todo)
      (woken_by_owner_up listing o environment fs) i)
      (λ j. forest_to o w.siblings c j) (λ j. owed_low _ (range_le w.siblings) (up_to_lem lo hi (f.done ⋈ put f.self t f.todo) o r u j))
    where
      h : Hole lo hi fs (f.done ⋈ put f.self t f.todo)
      h = hole lo hi fs (f.done ⋈ put f.self t f.todo) r

      w : Parts (range_split f.done (put f.self t f.todo) h.inside).mid h.upto f.self t f.todo
      w = parts (range_split f.done (put f.self t f.todo) h.inside).right

      go : Either (In k (woken_by_owner listing o (path_of environment fs) (length (memory_of environment fs)) f.todo))
          (In k (woken_by_owner_up listing o environment fs)) →
          (In k (woken_by_owner listing o (path_of environment fs) (length (memory_of environment fs)) f.todo) →
          Owed σ o (f.self.low + width f.self) k) →
          (In k (woken_by_owner_up listing o environment fs) → Owed σ o (f.self.low + width f.self) k) →
          Owed σ o (f.self.low + width f.self) k
      go (this j) a b = a j
      go (that j) a b = b j

  focus_wide : (lo hi : ℕ) (f : Frame) (fs : List Frame) (t : Tree) (r : Range lo hi (plug (f ∷ fs) t)) →
      f.self.low < (hole lo hi (f ∷ fs) t r).upto
  unfolding plug hole hole_in
  focus_wide lo hi f fs t r =
      let h = hole lo hi fs (f.done ⋈ put f.self t f.todo) r in
      let w = parts (range_split f.done (put f.self t f.todo) h.inside).right in
      omega (arith, w.wider)

  -- the list that the engine puts in: the members are those that the walk will wake
  module _ (σ : Rows) (triggers : Owner → List ℕ) (environment : List Variable) (n lo hi : ℕ) (f : Frame) (fs : List Frame) (t : Tree)
      (T : Triggers listing σ triggers) (M : Marked σ f.self.low (f ∷ fs)) (r : Range lo hi (plug (f ∷ fs) t)) (H : HeldUp σ environment n (f ∷ fs))
      (a : ℕ) (small : a < 65536) where
    abbrev cause : Owner
    cause = owner_at (path_of environment (f ∷ fs)) a

    same : woken_by_owner_up listing cause environment (f ∷ fs) ≡ woken_up listing environment (f ∷ fs) a
    same = up_same listing lo hi (hole lo hi (f ∷ fs) t r).upto t a small r (le_refl _) H at_start_lem

    pub triggered_sound : (k : ℕ) → In k (keys_at σ (triggered σ f.self.low (triggers cause))) → In k (woken_up listing environment (f ∷ fs) a)
    triggered_sound k i =
        let s = triggered_only σ f.self.low k (triggers cause) i in
        rw (← same, s.is) (up_from cause H (M.pending s.slot s.asleep s.later) (T.sound s.slot cause s.asleep s.listed))

    pub triggered_full : (k : ℕ) → In k (woken_up listing environment (f ∷ fs) a) → In k (keys_at σ (triggered σ f.self.low (triggers cause)))
    triggered_full k i =
        let s = up_to_lem lo hi t cause r H (rw (← same) at i) in
        rw s.is (keys_in σ s.slot (triggered σ f.self.low (triggers cause))
        (triggered_in σ f.self.low s.slot (triggers cause) (T.full s.slot cause s.asleep s.awaits) s.asleep
        (le_trans (focus_wide lo hi f fs t r) s.later)))
