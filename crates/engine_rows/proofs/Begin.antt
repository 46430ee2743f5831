-- The beginning of an instant: trigger lists and the ready list made anew from the rows.
-- Letters as in Place and Held.
use mathlib.Core.Path.{◌≡◌, refl, sym, ap, ap₂, ◌∙◌}
use mathlib.Core.Bool.{Bool, true, false, ◌||◌, ◌&&◌, not}
use mathlib.Core.List.{List, [], ◌∷◌, ◌++◌, append-nil}
use Prim.Native.Nat.{ℕ, zero, suc, ◌+◌, ◌*◌, ◌-◌, ◌≤◌, ◌<◌}
use native.Mathlib.Nat.{le_refl}
use native.Mathlib.Omega.{arith}
use native.Mathlib.Decide.{ℕ_discrete}
use lib.Dec.{ltb}
use lib.ListN.{length, get_or, length-append, get_or-append, get_or-eq_default}
use lib.Seq.{get_or-append-add}
use borrow.Author.Tests.{ltb-true, ltb-false}
use Rattle.listing.specs.Listing.{Listing}
use Rattle.walk.specs.Memory.{address_of, any_written, variable_at}
use Rattle.walk.specs.State.{Result, Turn, Variable, ◌>>=◌, ◌⊕◌, empty, ok, stop, no_variable}
use Rattle.walk.specs.Walk.{instruction_at, visit_forest}
use Rattle.engine_rows.specs.Rows.{Owner, Row, Rows, in_slot, named, owner_of, variable_of}
use Rattle.engine_rows.specs.Ready.{insert_all_lem, insert, insert_if}
use Rattle.engine_rows.specs.Triggers.{awaited, awaited_by, any_named_written, wakes_now, ready_below, ready_of}
use Rattle.engine_rows.specs.Agenda.{running_with}
use Rattle.engine_rows.proofs.Agenda.{rest, rest_sees}
use Rattle.engine_rows.proofs.Place.{Record, Tree, nil, put, erase, ◌⋈◌, plug, memory_of, up, dones, key, will_run, ready, ready_up, between, Rests, rests_nil, rests_wait, rests_join, at_root, Full, tasks_old}
use Rattle.engine_rows.proofs.Finding.{loosen}
use Rattle.engine_rows.proofs.Priority.{Rising, rising_nil, rising_le, Range, ready_spread, parts, ready_rising}
use Rattle.engine_rows.proofs.Sorted.{all_rising, all_only, all_in, In, here, there, in_left, in_right, in_cases, Either, this, that, insert_key, insert_only, insert_keeps, insert_in, insert_rising, same_members, rising_above, slots_in, spread_one}
use Rattle.engine_rows.proofs.Held.{Entry, owner_at, owners_at, pick_owner, path_of, root_count, row_for, is_leaf, Held, held_nil, held_put, held_top}
use Rattle.engine_rows.proofs.Waking.{keys_at, keys_in, keys_only, Triggers, key_at, cons_if-cases, cons_if-here, cons_if-there}
use Rattle.engine_rows.proofs.ReadyList.{insert_all_slots, Keyed, insert_slots, ready_keyed}
use Rattle.engine_rows.proofs.Kept.{slots_small, slots_of, Known}
use Rattle.engine_rows.proofs.EngineState.{Idle}

bool_not : {A : Type 0} → true ≡ false → A
bool_not e = let z : ◌≡◌ {A = ℕ} 0 1 = cc in absurd (omega arith)

and_true : (a b : Bool) → a && b ≡ true → (a ≡ true) × (b ≡ true)
and_true true b e = (refl, e)
and_true false b e = bool_not (sym e)

-- ── the ready list by keys ──────────────────────────────────────────────────────────────────────
unfoldable insert_key_if : Bool → ℕ → List ℕ → List ℕ
insert_key_if true k l = insert_key k l
insert_key_if false k l = l

module _ (listing : Listing) where
  -- reading along a path
  pub record Sees (σ : Rows) (environment : List Variable) (p : List Entry) (m : List Variable) : Type 0 where
    pub look : (a : ℕ) → variable_of σ environment (owner_at p a) ≡ variable_at m a
    pub shorter : length environment ≤ length m

  sees_in : (σ : Rows) (environment : List Variable) (p : List Entry) (m : List Variable) (s : ℕ) (o : List Variable) → (σ s).own ≡ o →
      Sees σ environment p m → Sees σ environment (record { slot = s; base = length m } ∷ p) (m ++ o)
  unfolding owner_at pick_owner variable_of variable_at
  sees_in σ environment p m s o e S = record { look = λ a. go a (ltb a (length m)) refl; shorter = simp length-append (omega (arith, S.shorter)) }
    where
      go : (a : ℕ) (w : Bool) → ltb a (length m) ≡ w → variable_of σ environment (pick_owner w (owner_at p a) (in_slot s (a - length m))) ≡ get_or (m ++ o)
          a no_variable
      go a true h = S.look a ∙ sym (get_or-append m o no_variable a (ltb-true a (length m) h))
      go a false h =
          let g : length m ≤ a = ltb-false a (length m) h in
          let q : a ≡ length m + (a - length m) = omega arith in
          rw e (sym (ap (λ z. get_or (m ++ o) z no_variable) q ∙ get_or-append-add m o (a - length m) no_variable))

  sees_bound : (σ : Rows) (environment : List Variable) (p : List Entry) (m : List Variable) → length m ≤ 65536 → Sees σ environment p m →
      (ns : List ℕ) (w : ℕ) → named σ environment (owners_at p ns) w ≡ variable_at m (address_of ns w)
  unfolding named owner_of owners_at address_of variable_of variable_at
  sees_bound σ environment p m small S [] w = let l : length environment ≤ 65536 = omega (
    arith,
    S.shorter,
  ) in get_or-eq_default environment no_variable l ∙ sym (get_or-eq_default m no_variable small)
  sees_bound σ environment p m small S (a ∷ ns) zero = S.look a
  sees_bound σ environment p m small S (a ∷ ns) (suc w) = sees_bound σ environment p m small S ns w

  any_written-same : (σ : Rows) (environment : List Variable) (p : List Entry) (m : List Variable) → length m ≤ 65536 → Sees σ environment p m →
      (ns ws : List ℕ) → any_named_written listing σ environment (owners_at p ns) ws ≡ any_written m ns ws
  unfolding any_named_written any_written
  any_written-same σ environment p m small S ns [] = refl
  any_written-same σ environment p m small S ns (w ∷ ws) = rw (
    sees_bound σ environment p m small S ns w,
    any_written-same σ environment p m small S ns ws,
  )

  -- the memory of every path is short
  pub data Brief : ℕ → Tree → Type 0 where
    brief_nil : {c : ℕ} → Brief c nil
    brief_put : {c : ℕ} {x : Record} {k f : Tree} → c + length x.own ≤ 65536 → Brief (c + length x.own) k → Brief c f → Brief c (put x k f)

  module _ (σ : Rows) (z : Bool) (p : List Entry) (c n : ℕ) (x : Record) (e : σ x.slot ≡ row_for z p c n x) where
    row_key : key_at σ x.slot ≡ key x
    unfolding key_at key row_for
    row_key = ap (λ (r : Row). r.low * 64 + x.slot) e

    row_own : (σ x.slot).own ≡ x.own
    unfolding row_for
    row_own = ap (λ (r : Row). r.own) e

    row_asleep : (σ x.slot).asleep ≡ z
    unfolding row_for
    row_asleep = ap (λ (r : Row). r.asleep) e

    row_wakes : (environment : List Variable) → wakes_now listing σ environment x.slot ≡ z && any_named_written listing σ environment
        (owners_at (record { slot = x.slot; base = c } ∷ p) x.names) (awaited (instruction_at listing x.routine x.place))
    unfolding wakes_now awaited_by row_for
    row_wakes environment = ap (λ (r : Row). r.asleep && any_named_written listing σ environment r.bindings
        (awaited (instruction_at listing r.routine r.place))) e

  -- a pending leaf is wanted just if the engine's scan finds it
  leaf_same : (σ : Rows) (environment : List Variable) (p : List Entry) (m : List Variable) (x : Record) (f : Tree) (z : Bool) →
      σ x.slot ≡ row_for z p (length m) (root_count nil) x → z ≡ not x.is_new → x.is_new ≡ false → Sees σ environment p m →
      length m + length x.own ≤ 65536 →
      wakes_now listing σ environment x.slot ≡ will_run listing m x
  unfolding will_run
  leaf_same σ environment p m x f z e q b S small =
      row_wakes σ z p (length m) (root_count nil) x e environment ∙
      ap₂ ◌&&◌ (q ∙ ap not b) (any_written-same σ environment (record { slot = x.slot; base = length m } ∷ p) (m ++ x.own) (simp length-append small)
      (sees_in σ environment p m x.slot x.own (row_own σ z p (length m) (root_count nil) x e) S) x.names
      (awaited (instruction_at listing x.routine x.place))) ∙
      ap (λ y. y || any_written (m ++ x.own) x.names (awaited (instruction_at listing x.routine x.place))) (sym b)

  scan_to : (σ : Rows) (environment : List Variable) (s : ℕ) {p : List Entry} {t : Tree} (m : List Variable) → Rests listing false t →
      Held σ true p (length m) t → Brief (length m) t → Sees σ environment p m → In s (slots_of t) → wakes_now listing σ environment s ≡ true →
      In (key_at σ s) (ready listing m t)
  unfolding ready slots_of is_leaf wakes_now
  scan_to σ environment s m rests_nil h w S i a = elim i [ ]
  scan_to σ environment s {p} m (rests_wait {x = x} {f = f} b y r) (held_put z q e hk hf) (brief_put l wk wf) S (here g) a =
      rw (g, row_key σ z p (length m) (root_count nil) x e)
      (cons_if-here (will_run listing m x) (key x) (ready listing m f) (sym (leaf_same σ environment p m x f z e (q refl) b S l) ∙
      ap (wakes_now listing σ environment) (sym g) ∙ a))
  scan_to σ environment s {p} m (rests_wait {x = x} {f = f} b y r) (held_put z q e hk hf) (brief_put l wk wf) S (there i) a =
      cons_if-there (will_run listing m x) (key x) (ready listing m f) (scan_to σ environment s m r hf wf S i a)
  scan_to σ environment s {p} m (rests_join {x = x} {y = u} {k = k} {g = g} {f = f} b y rk r) (held_put z q e hk hf) (brief_put l wk wf) S (here h)
      a =
      bool_not (sym (and_true (σ s).asleep _ a).0 ∙ ap (λ v. (σ v).asleep) h ∙ row_asleep σ z p (length m) (root_count (put u k g)) x e ∙ q refl)
  scan_to σ environment s {p} m (rests_join {x = x} {y = u} {k = k} {g = g} {f = f} b y rk r) (held_put z q e hk hf) (brief_put l wk wf) S (there i)
      a =
      go (in_cases (slots_of (put u k g)) (slots_of f) i)
      (λ j. scan_to σ environment s (m ++ x.own) rk (rw (← length-append m x.own) at hk) (rw (← length-append m x.own) at wk)
      (sees_in σ environment p m x.slot x.own (row_own σ z p (length m) (root_count (put u k g)) x e) S) j a)
      (λ j. scan_to σ environment s m r hf wf S j a)
    where
      go : Either (In s (slots_of (put u k g))) (In s (slots_of f)) →
          (In s (slots_of (put u k g)) → In (key_at σ s) (ready listing (m ++ x.own) (put u k g))) →
          (In s (slots_of f) → In (key_at σ s) (ready listing m f)) →
          In (key_at σ s) (ready listing (m ++ x.own) (put u k g) ++ ready listing m f)
      go (this j) v w = in_left (ready listing (m ++ x.own) (put u k g)) (ready listing m f) (v j)
      go (that j) v w = in_right (ready listing (m ++ x.own) (put u k g)) (ready listing m f) (w j)

  pub record Scanned (σ : Rows) (environment : List Variable) (k : ℕ) : Type 0 where
    pub slot : ℕ
    pub is : k ≡ key_at σ slot
    pub found : wakes_now listing σ environment slot ≡ true
    pub small : slot < 64

  scan_from : (σ : Rows) (environment : List Variable) (j : ℕ) {p : List Entry} {t : Tree} {lo hi : ℕ} (m : List Variable) → Range lo hi t →
      Rests listing false t → Held σ true p (length m) t → Brief (length m) t → Sees σ environment p m → In j (ready listing m t) →
      Scanned σ environment j
  unfolding ready is_leaf
  scan_from σ environment j m rg rests_nil h w S i = elim i [ ]
  scan_from σ environment j {p} m rg (rests_wait {x = x} {f = f} b y r) (held_put z q e hk hf) (brief_put l wk wf) S i =
      go (cons_if-cases (will_run listing m x) (key x) (ready listing m f) i) (scan_from σ environment j m (parts rg).siblings r hf wf S)
    where
      go : Either ((will_run listing m x ≡ true) × (j ≡ key x)) (In j (ready listing m f)) → (In j (ready listing m f) → Scanned σ environment j) →
          Scanned σ environment j
      go (this h) deep = record {
        slot = x.slot;
        is = h.1 ∙ sym (row_key σ z p (length m) (root_count nil) x e);
        found = leaf_same σ environment p m x f z e (q refl) b S l ∙ h.0;
        small = (parts rg).slots;
      }
      go (that h) deep = deep h
  scan_from σ environment j {p} m rg (rests_join {x = x} {y = u} {k = k} {g = g} {f = f} b y rk r) (held_put z q e hk hf) (brief_put l wk wf) S i =
      go (in_cases (ready listing (m ++ x.own) (put u k g)) (ready listing m f) i)
      (scan_from σ environment j {p = record { slot = x.slot; base = length m } ∷ p} (m ++ x.own) (parts rg).children rk (rw (← length-append m x.own) at hk) (rw (← length-append m x.own) at wk)
      (sees_in σ environment p m x.slot x.own (row_own σ z p (length m) (root_count (put u k g)) x e) S))
      (scan_from σ environment j m (parts rg).siblings r hf wf S)
    where
      go : Either (In j (ready listing (m ++ x.own) (put u k g))) (In j (ready listing m f)) →
          (In j (ready listing (m ++ x.own) (put u k g)) → Scanned σ environment j) → (In j (ready listing m f) → Scanned σ environment j) →
          Scanned σ environment j
      go (this h) v w = v h
      go (that h) v w = w h

  start_sees : (σ : Rows) (environment : List Variable) → Sees σ environment [] environment
  unfolding owner_at variable_of
  start_sees σ environment = record { look = λ a. refl; shorter = le_refl (length environment) }

  waking_asleep : (σ : Rows) (environment : List Variable) (s : ℕ) → wakes_now listing σ environment s ≡ true → (σ s).asleep ≡ true
  unfolding wakes_now
  waking_asleep σ environment s h = (and_true (σ s).asleep _ h).0

  module _ (σ : Rows) (environment : List Variable) where
    unfoldable keys_below : ℕ → List ℕ
    keys_below zero = []
    keys_below (suc n) = insert_key_if (wakes_now listing σ environment n) (key_at σ n) (keys_below n)

    keys_below_only : (n k : ℕ) → In k (keys_below n) → (s : ℕ) × (s < n) × (wakes_now listing σ environment s ≡ true) × (k ≡ key_at σ s)
    unfolding keys_below insert_key_if
    keys_below_only zero k i = elim i [ ]
    keys_below_only (suc n) k i = go (wakes_now listing σ environment n) refl i (keys_below_only n k)
      where
        up_one : (s : ℕ) × (s < n) × (wakes_now listing σ environment s ≡ true) × (k ≡ key_at σ s) →
            (s : ℕ) × (s < suc n) × (wakes_now listing σ environment s ≡ true) × (k ≡ key_at σ s)
        up_one d = let h = d.1 in (d.0, omega (arith, h), d.2, d.3)

        two : wakes_now listing σ environment n ≡ true → Either (k ≡ key_at σ n) (In k (keys_below n)) →
            (In k (keys_below n) → (s : ℕ) × (s < n) × (wakes_now listing σ environment s ≡ true) × (k ≡ key_at σ s)) →
            (s : ℕ) × (s < suc n) × (wakes_now listing σ environment s ≡ true) × (k ≡ key_at σ s)
        two e (this h) deep = (n, le_refl (suc n), e, h)
        two e (that j) deep = up_one (deep j)

        go : (b : Bool) → wakes_now listing σ environment n ≡ b → In k (insert_key_if b (key_at σ n) (keys_below n)) →
            (In k (keys_below n) → (s : ℕ) × (s < n) × (wakes_now listing σ environment s ≡ true) × (k ≡ key_at σ s)) →
            (s : ℕ) × (s < suc n) × (wakes_now listing σ environment s ≡ true) × (k ≡ key_at σ s)
        go true e j deep = two e (insert_only (key_at σ n) (keys_below n) j) deep
        go false e j deep = up_one (deep j)

    keys_below_in : (n s : ℕ) → s < n → wakes_now listing σ environment s ≡ true → In (key_at σ s) (keys_below n)
    unfolding keys_below insert_key_if
    keys_below_in zero s l h = absurd (omega arith)
    keys_below_in (suc n) s l h = go (ℕ_discrete s n) (keys_below_in n s)
      where
        later : (b : Bool) → In (key_at σ s) (keys_below n) → In (key_at σ s) (insert_key_if b (key_at σ n) (keys_below n))
        later true j = insert_keeps (key_at σ n) (keys_below n) j
        later false j = j

        now' : s ≡ n → (b : Bool) → wakes_now listing σ environment n ≡ b → In (key_at σ s) (insert_key_if b (key_at σ n) (keys_below n))
        now' e true q = rw e (insert_in (key_at σ n) (keys_below n))
        now' e false q = bool_not (sym h ∙ ap (wakes_now listing σ environment) e ∙ q)

        go : Dec (s ≡ n) → (s < n → wakes_now listing σ environment s ≡ true → In (key_at σ s) (keys_below n)) →
            In (key_at σ s) (insert_key_if (wakes_now listing σ environment n) (key_at σ n) (keys_below n))
        go (yes e) deep = now' e (wakes_now listing σ environment n) refl
        go (no e) deep = later (wakes_now listing σ environment n) (deep (omega arith) h)

    module _ (R : List ℕ) (K : Keyed σ R) {a b : ℕ} (rising : Rising a b R) (into : (s : ℕ) → wakes_now listing σ environment s ≡ true →
        In (key_at σ s) R) where
      keys_below_sub : (n k : ℕ) → In k (keys_below n) → In k R
      keys_below_sub n k i = let d = keys_below_only n k i in rw d.3 (into d.0 d.2)

      keys_below_rising : (n : ℕ) → Rising a b (keys_below n)
      unfolding keys_below insert_key_if
      keys_below_rising zero = rising_nil (rising_le rising)
      keys_below_rising (suc n) = go (wakes_now listing σ environment n) refl (keys_below_rising n)
        where
          go : (w : Bool) → wakes_now listing σ environment n ≡ w → Rising a b (keys_below n) → Rising a b (insert_key_if w (key_at σ n) (keys_below n))
          go true e deep = let q = rising_above rising (into n e) in insert_rising (key_at σ n) deep q.0 q.1
          go false e deep = deep

      below_slots : (n : ℕ) → n ≤ 64 → ready_below listing σ environment n ≡ slots_in (keys_below n)
      unfolding ready_below keys_below insert_key_if insert_if slots_in
      below_slots zero h = refl
      below_slots (suc n) h = go (wakes_now listing σ environment n) refl (below_slots n (omega arith))
        where
          go : (w : Bool) → wakes_now listing σ environment n ≡ w → ready_below listing σ environment n ≡ slots_in (keys_below n) →
              insert_if w σ n (ready_below listing σ environment n) ≡ slots_in (insert_key_if w (key_at σ n) (keys_below n))
          go true e deep = ap (insert σ n) deep ∙ insert_slots σ R K n (keys_below n) h (into n e) (keys_below_sub n)
          go false e deep = deep

  -- the list so made is the walk's
  pub ready_of-is_ready : (σ : Rows) (environment : List Variable) (lo hi : ℕ) (t : Tree) → Range lo hi t → Rests listing false t →
      Held σ true [] (length environment) t → Brief (length environment) t → Known σ t →
      ready_of listing σ environment ≡ slots_in (ready listing environment t)
  unfolding ready_of
  ready_of-is_ready σ environment lo hi t r rs h w K =
      below_slots σ environment R keyed rising into 64 (le_refl 64) ∙
      ap slots_in (same_members (keys_below_rising σ environment R keyed rising into 64) rising (keys_below_sub σ environment R keyed rising into 64)
      (λ k i. outof k (scan_from σ environment k environment r rs h w S i)))
    where
      R : List ℕ
      R = ready listing environment t

      S : Sees σ environment [] environment
      S = start_sees σ environment

      rising : Rising (lo * 64) (hi * 64) R
      rising = ready_rising listing environment r

      keyed : Keyed σ R
      keyed = record {
        keyed = λ k i. ready_keyed listing environment k r h i;
        apart = λ j k x y e. spread_one (ready_spread listing environment r) x y e;
      }

      into : (s : ℕ) → wakes_now listing σ environment s ≡ true → In (key_at σ s) R
      into s g = scan_to σ environment s environment rs h w S (K.all s (waking_asleep σ environment s g)) g

      outof : (k : ℕ) → Scanned σ environment k → In k (keys_below σ environment 64)
      outof k c = rw c.is (keys_below_in σ environment 64 c.slot c.small c.found)

  -- the same list, made by insertion in any order
  pub any_order : (σ : Rows) (environment : List Variable) (lo hi : ℕ) (t : Tree) (ss : List ℕ) → Range lo hi t → Rests listing false t →
      Held σ true [] (length environment) t → Brief (length environment) t → Known σ t →
      ((s : ℕ) → In s ss → wakes_now listing σ environment s ≡ true) →
      ((s : ℕ) → wakes_now listing σ environment s ≡ true → In s ss) → insert_all_lem σ ss [] ≡ slots_in (ready listing environment t)
  unfolding slots_in
  any_order σ environment lo hi t ss r rs h w K sound full =
      insert_all_slots σ R keyed ss [] (λ s i. (slots_small s r (K.all s (waking_asleep σ environment s (sound s i))), into s (sound s i)))
      (λ k i. elim i [ ]) ∙
      ap slots_in (same_members (all_rising (keys_at σ ss) [] (rising_nil (rising_le rising)) (λ k i. rising_above rising (from k i))) rising
      (λ k i. member k (all_only (keys_at σ ss) [] i)) (λ k i. all_in (keys_at σ ss) []
      (this (back k (scan_from σ environment k environment r rs h w S i)))))
    where
      R : List ℕ
      R = ready listing environment t

      S : Sees σ environment [] environment
      S = start_sees σ environment

      rising : Rising (lo * 64) (hi * 64) R
      rising = ready_rising listing environment r

      keyed : Keyed σ R
      keyed = record {
        keyed = λ k i. ready_keyed listing environment k r h i;
        apart = λ j k x y e. spread_one (ready_spread listing environment r) x y e;
      }

      into : (s : ℕ) → wakes_now listing σ environment s ≡ true → In (key_at σ s) R
      into s g = scan_to σ environment s environment rs h w S (K.all s (waking_asleep σ environment s g)) g

      from : (k : ℕ) → In k (keys_at σ ss) → In k R
      from k i = let d = keys_only σ k ss i in rw d.2 (into d.0 (sound d.0 d.1))

      member : (k : ℕ) → Either (In k (keys_at σ ss)) (In k []) → In k R
      member k (this i) = from k i
      member k (that i) = elim i [ ]

      back : (k : ℕ) → Scanned σ environment k → In k (keys_at σ ss)
      back k c = rw c.is (keys_in σ c.slot ss (full c.slot c.found))

  bind_ok : (o : Result Turn) → (o >>= λ a. ok a) ≡ o
  unfolding ◌>>=◌
  bind_ok (stop k) = refl
  bind_ok (ok a) = refl

  module _ (now : ℕ) where
    same_start : (environment : List Variable) (j l woken : ℕ) (t : Tree) → Rests listing false t →
        visit_forest listing now (erase t) 0 (running_with environment j l woken) ≡ between listing now environment j l
        woken [] nil t
    unfolding between up dones memory_of erase rest ◌⊕◌
    same_start environment j l woken t rs =
        sym (rw (tasks_old listing now 0 t [] rs) (rest_sees listing now (erase t) 0 [] empty [] (record {
          memory = environment;
          left = j;
          live = l;
          woken = woken;
        }) ∙ last))
      where
        last : (visit_forest listing now (erase t) 0 (running_with environment j l woken) >>= λ a. rest listing now []
            (empty ⊕ a.tree) [] a.running) ≡ visit_forest listing now (erase t) 0 (record {
              memory = environment;
              left = j;
              live = l;
              woken = woken;
            })
        last = bind_ok (visit_forest listing now (erase t) 0 (running_with environment j l woken))

    -- an instant begins
    pub begin_idle : (σ : Rows) (triggers : Owner → List ℕ) (environment : List Variable) (hi j l woken : ℕ) (t : Tree) →
        Triggers listing σ triggers → Range 0 hi t → Rests listing false t → Held σ true [] (length environment) t → Brief (length environment) t →
        Known σ t → Full t →
        Idle listing now triggers hi σ environment (ready_of listing σ environment) j l woken [] nil t
        (visit_forest listing now (erase t) 0 (running_with environment j l woken))
    unfolding plug ◌⋈◌ path_of memory_of ready_up
    begin_idle σ triggers environment hi j l woken t T r rs h w K fl =
        record {
          stands = record { up = held_top; done = held_nil; todo = h };
          range = r;
          queue = ready_of-is_ready σ environment 0 hi t r rs h w K ∙ ap slots_in (sym (append-nil (ready listing environment t)));
          lists_right = T;
          known = K;
          rests = loosen listing now rs;
          paused = at_root;
          living = fl;
          same = same_start environment j l woken t rs;
        }
