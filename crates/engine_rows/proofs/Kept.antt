-- What a change of one row leaves as it was: the other rows, who is marked asleep, the slots of the tree.
-- Letters as in Place and Held.
use mathlib.Core.Path.{◌≡◌, refl, sym, ap, ◌∙◌}
use mathlib.Core.Bool.{Bool, true, false, ◌&&◌, not}
use mathlib.Core.List.{List, [], ◌∷◌, ◌++◌}
use Prim.Native.Nat.{ℕ, suc, ◌+◌, ◌≤◌, ◌<◌}
use native.Mathlib.Nat.{le_trans}
use native.Mathlib.Omega.{arith}
use lib.ListN.{length, set}
use native.Mathlib.Decide.{ℕ_discrete}
use Rattle.listing.specs.Listing.{Listing}
use Rattle.walk.specs.State.{Variable}
use Rattle.engine_rows.specs.Rows.{Owner, Row, Rows, in_environment, in_slot, rows_with, with_own, with_row}
use Rattle.engine_rows.specs.Triggers.{cons_if}
use Rattle.engine_rows.proofs.Place.{Record, Tree, nil, put, ◌⋈◌, Frame, plug, memory_of, full}
use Rattle.engine_rows.proofs.Priority.{Range, range_le, Split, range_split, Parts, parts}
use Rattle.engine_rows.proofs.Sorted.{In, here, there, in_left, in_right, in_cases, Either, this, that}
use Rattle.engine_rows.proofs.Held.{Entry, path_of, root_count, row_for, is_leaf, Held, held_nil, held_put, HeldUp, held_top, held_under, with_row-same, with_row-other, held_keep, Hole, hole, hole_in, Away, higher, before, behind, path_length, up_keep}
use Rattle.engine_rows.proofs.Waking.{Triggers, Marked, row_awaits, sleepers, sleepers_up}
use Rattle.engine_rows.proofs.Moves.{focus}
unfoldable pub use Rattle.engine_rows.specs.Tree.{slots_of}
pub use Rattle.engine_rows.specs.Reached.{Known}

pub bool_not : {A : Type 0} → true ≡ false → A
bool_not e = let z : ◌≡◌ {A = ℕ} 0 1 = cc in absurd (omega arith)

-- ── another row for the innermost frame ─────────────────────────────────────────────────────────
-- whatever is written to the innermost frame's slot, the others keep theirs
pub record Freed (σ : Rows) (environment : List Variable) (f : Frame) (fs : List Frame) : Type 0 where
  pub done : Held σ false (path_of environment fs) (length (memory_of environment fs)) f.done
  pub todo : Held σ true (path_of environment fs) (length (memory_of environment fs)) f.todo
  pub up : HeldUp σ environment (root_count f.done + suc (root_count f.todo)) fs

pub head_free : {σ : Rows} {environment : List Variable} (lo hi : ℕ) (t : Tree) (f : Frame) (fs : List Frame) (r' : Row) →
    Range lo hi (plug (f ∷ fs) t) → (σ f.self.slot).level ≡ length (path_of environment fs) → (σ f.self.slot).low ≡ f.self.low →
    Held σ false (path_of environment fs) (length (memory_of environment fs)) f.done →
    Held σ true (path_of environment fs) (length (memory_of environment fs)) f.todo →
    HeldUp σ environment (root_count f.done + suc (root_count f.todo)) fs →
    Freed (with_row σ f.self.slot r') environment f fs
unfolding plug
head_free {σ} {environment} lo hi t f fs r' r le lw d c u =
    record {
      done = held_keep σ' d s.left (λ i us level a b. with_row-other σ f.self.slot r' i (λ p. omega (
        arith,
        q.lowest,
        ap (λ z. (σ z).low) p,
      )));
      todo = held_keep σ' c q.siblings (λ i us level a b. with_row-other σ f.self.slot r' i (λ p. omega (
        arith,
        q.wider,
        ap (λ z. (σ z).low) p,
      )));
      up = up_keep σ' lo hi (f.done ⋈ put f.self t f.todo) r u (λ i us w. with_row-other σ f.self.slot r' i (λ p. off i w p));
    }
  where
    σ' : Rows
    σ' = with_row σ f.self.slot r'

    o : Hole lo hi fs (f.done ⋈ put f.self t f.todo)
    o = hole lo hi fs (f.done ⋈ put f.self t f.todo) r

    s : Split o.from o.upto f.done (put f.self t f.todo)
    s = range_split f.done (put f.self t f.todo) o.inside

    q : Parts s.mid o.upto f.self t f.todo
    q = parts s.right

    off : (i : ℕ) → Away (σ i) (length fs) o.from o.upto → i ≡ f.self.slot → ⊥
    off i (higher x) p = omega (arith, le, path_length environment fs, ap (λ z. (σ z).level) p)
    off i (before x) p = omega (arith, lw, range_le s.left, q.lowest, ap (λ z. (σ z).low) p)
    off i (behind x) p = omega (arith, lw, range_le q.siblings, q.wider, ap (λ z. (σ z).low) p)

pub head_put : {σ : Rows} {environment : List Variable} (lo hi : ℕ) (t : Tree) (f : Frame) (fs : List Frame) (r' : Row) (n' : ℕ) (x : Record) →
    x.slot ≡ f.self.slot → r' ≡ row_for false (path_of environment fs) (length (memory_of environment fs)) n' x →
    Range lo hi (plug (f ∷ fs) t) → (σ f.self.slot).level ≡ length (path_of environment fs) → (σ f.self.slot).low ≡ f.self.low →
    Held σ false (path_of environment fs) (length (memory_of environment fs)) f.done →
    Held σ true (path_of environment fs) (length (memory_of environment fs)) f.todo →
    HeldUp σ environment (root_count f.done + suc (root_count f.todo)) fs →
    HeldUp (with_row σ f.self.slot r') environment n' (focus x f.done f.todo ∷ fs)
unfolding focus
head_put {σ} {environment} lo hi t f fs r' n' x es er r le lw d c u =
    let w = head_free {σ = σ} {environment = environment} lo hi t f fs r' r le lw d c u in
    held_under {n = n'} {f = focus x f.done f.todo} {fs = fs} (ap (with_row σ f.self.slot r') es ∙ with_row-same σ f.self.slot r' ∙
    er) w.done w.todo w.up

row_level : (z : Bool) (p : List Entry) (b n : ℕ) (x : Record) → (row_for z p b n x).level ≡ length p
unfolding row_for
row_level z p b n x = refl

row_low : (z : Bool) (p : List Entry) (b n : ℕ) (x : Record) → (row_for z p b n x).low ≡ x.low
unfolding row_for
row_low z p b n x = refl

pub head_change : {σ : Rows} {environment : List Variable} {n : ℕ} {f : Frame} {fs : List Frame} (lo hi : ℕ) (t : Tree) (r' : Row) (n' : ℕ)
    (x : Record) → x.slot ≡ f.self.slot → r' ≡ row_for false (path_of environment fs) (length (memory_of environment fs)) n' x →
    Range lo hi (plug (f ∷ fs) t) → HeldUp σ environment n (f ∷ fs) →
    HeldUp (with_row σ f.self.slot r') environment n' (focus x f.done f.todo ∷ fs)
head_change {σ} {environment} {n} {f} {fs} lo hi t r' n' x es er r (held_under e d c u) =
    head_put lo hi t f fs r' n' x es er r (ap (λ y. y.level) e ∙
    row_level false (path_of environment fs) (length (memory_of environment fs)) n f.self) (ap (λ y. y.low) e ∙
    row_low false (path_of environment fs) (length (memory_of environment fs)) n f.self) d c u

-- ── rows that wake nobody new ───────────────────────────────────────────────────────────────────
pub record Calm (r r' : Row) : Type 0 where
  pub asleep : r.asleep ≡ true
  pub low : r'.low ≡ r.low
  pub bindings : r'.bindings ≡ r.bindings
  pub routine : r'.routine ≡ r.routine
  pub place : r'.place ≡ r.place

pub record Calmer (σ σ' : Rows) : Type 0 where
  pub was : (s : ℕ) → (σ' s).asleep ≡ true → Calm (σ s) (σ' s)

pub calmer-with_row : (σ : Rows) (s : ℕ) (r : Row) → r.asleep ≡ false → Calmer σ (with_row σ s r)
calmer-with_row σ s r h = record { was = λ i a. go i a (ℕ_discrete i s) }
  where
    go : (i : ℕ) → (with_row σ s r i).asleep ≡ true → Dec (i ≡ s) → Calm (σ i) (with_row σ s r i)
    go i a (yes p) = bool_not (sym a ∙ ap (λ z. (with_row σ s r z).asleep) p ∙ ap (λ y. y.asleep) (with_row-same σ s r) ∙ h)
    go i a (no p) = let e : with_row σ s r i ≡ σ i = with_row-other σ s r i p in
        record {
          asleep = rw e at a;
          low = ap (λ y. y.low) e;
          bindings = ap (λ y. y.bindings) e;
          routine = ap (λ y. y.routine) e;
          place = ap (λ y. y.place) e;
        }

pub calmer_own : (σ : Rows) (o : Owner) (v : Variable) → Calmer σ (rows_with σ o v)
unfolding rows_with with_own
calmer_own σ (in_environment a) v = record { was = λ i a. record { asleep = a; low = refl; bindings = refl; routine = refl; place = refl } }
calmer_own σ (in_slot s k) v = record { was = λ i a. go i a (ℕ_discrete i s) }
  where
    r : Row
    r = with_own (σ s) (set (σ s).own k v)

    go : (i : ℕ) → (with_row σ s r i).asleep ≡ true → Dec (i ≡ s) → Calm (σ i) (with_row σ s r i)
    go i a (yes p) = let e : with_row σ s r i ≡ r = ap (λ z. with_row σ s r z) p ∙ with_row-same σ s r in
        let g : σ s ≡ σ i = ap σ (sym p) in
        record {
          asleep = ap (λ y. y.asleep) (sym g) ∙ sym (ap (λ y. y.asleep) e) ∙ a;
          low = ap (λ y. y.low) e ∙
              ap (λ y. y.low) g;
          bindings = ap (λ y. y.bindings) e ∙ ap (λ y. y.bindings) g;
          routine = ap (λ y. y.routine) e ∙
              ap (λ y. y.routine) g;
          place = ap (λ y. y.place) e ∙ ap (λ y. y.place) g;
        }
    go i a (no p) = let e : with_row σ s r i ≡ σ i = with_row-other σ s r i p in
        record {
          asleep = rw e at a;
          low = ap (λ y. y.low) e;
          bindings = ap (λ y. y.bindings) e;
          routine = ap (λ y. y.routine) e;
          place = ap (λ y. y.place) e;
        }

pub calmer_then : {σ σ' σ'' : Rows} → Calmer σ σ' → Calmer σ' σ'' → Calmer σ σ''
calmer_then p q =
    record {
      was = λ i a. let u = q.was i a in let v = p.was i u.asleep in
          record {
            asleep = v.asleep;
            low = u.low ∙ v.low;
            bindings = u.bindings ∙ v.bindings;
            routine = u.routine ∙
                v.routine;
            place = u.place ∙ v.place;
          };
    }

pub triggers_calm : (listing : Listing) {σ σ' : Rows} {triggers : Owner → List ℕ} → Calmer σ σ' → Triggers listing σ triggers →
    Triggers listing σ' triggers
unfolding row_awaits
triggers_calm listing c t =
    record {
      sound = λ s o a i. let u = c.was s a in rw (u.bindings, u.routine, u.place) (t.sound s o u.asleep i);
      full = λ s o a h. let u = c.was s a in t.full s o u.asleep (rw (u.bindings, u.routine, u.place) at h);
    }

-- ── whoever is marked is in the tree ────────────────────────────────────────────────────────────
unfoldable pub slots_up : List Frame → List ℕ
slots_up [] = []
slots_up (f ∷ fs) = f.self.slot ∷ (slots_of f.done ++ (slots_of f.todo ++ slots_up fs))

pub slots_in_lem : {s : ℕ} (d g : Tree) → In s (slots_of (d ⋈ g)) → Either (In s (slots_of d)) (In s (slots_of g))
unfolding slots_of ◌⋈◌
slots_in_lem nil g i = that i
slots_in_lem (put x k d) g (here e) = this (here e)
slots_in_lem {s} (put x k d) g (there i) = go (in_cases (slots_of k) (slots_of (d ⋈ g)) i) (slots_in_lem d g)
  where
    tail : Either (In s (slots_of d)) (In s (slots_of g)) → Either (In s (x.slot ∷ (slots_of k ++ slots_of d))) (In s (slots_of g))
    tail (this j) = this (there (in_right (slots_of k) (slots_of d) j))
    tail (that j) = that j

    go : Either (In s (slots_of k)) (In s (slots_of (d ⋈ g))) → (In s (slots_of (d ⋈ g)) → Either (In s (slots_of d)) (In s (slots_of g))) →
        Either (In s (x.slot ∷ (slots_of k ++ slots_of d))) (In s (slots_of g))
    go (this j) deep = this (there (in_left (slots_of k) (slots_of d) j))
    go (that j) deep = tail (deep j)

pub slots_left : {s : ℕ} (d g : Tree) → In s (slots_of d) → In s (slots_of (d ⋈ g))
unfolding slots_of ◌⋈◌
slots_left nil g i = elim i [ ]
slots_left (put x k d) g (here e) = here e
slots_left {s} (put x k d) g (there i) = go (in_cases (slots_of k) (slots_of d) i) (slots_left d g)
  where
    go : Either (In s (slots_of k)) (In s (slots_of d)) → (In s (slots_of d) → In s (slots_of (d ⋈ g))) → In s (x.slot ∷ (slots_of k ++ slots_of (d ⋈ g)))
    go (this j) deep = there (in_left (slots_of k) (slots_of (d ⋈ g)) j)
    go (that j) deep = there (in_right (slots_of k) (slots_of (d ⋈ g)) (deep j))

pub slots_right : {s : ℕ} (d g : Tree) → In s (slots_of g) → In s (slots_of (d ⋈ g))
unfolding slots_of ◌⋈◌
slots_right nil g i = i
slots_right (put x k d) g i = there (in_right (slots_of k) (slots_of (d ⋈ g)) (slots_right d g i))

-- membership around a place
pub plug_in : {s : ℕ} (fs : List Frame) (t : Tree) → In s (slots_of (plug fs t)) → Either (In s (slots_of t)) (In s (slots_up fs))
unfolding plug slots_up slots_of
plug_in [] t i = this i
plug_in {s} (f ∷ fs) t i = go (plug_in fs (f.done ⋈ put f.self t f.todo) i)
  where
    D : List ℕ
    D = slots_of f.done

    A : List ℕ
    A = slots_of f.todo ++ slots_up fs

    three : Either (In s (slots_of t)) (In s (slots_of f.todo)) → Either (In s (slots_of t)) (In s (f.self.slot ∷ (D ++ A)))
    three (this j) = this j
    three (that j) = that (there (in_right D A (in_left (slots_of f.todo) (slots_up fs) j)))

    two : In s (f.self.slot ∷ (slots_of t ++ slots_of f.todo)) → Either (In s (slots_of t)) (In s (f.self.slot ∷ (D ++ A)))
    two (here e) = that (here e)
    two (there j) = three (in_cases (slots_of t) (slots_of f.todo) j)

    one : Either (In s D) (In s (f.self.slot ∷ (slots_of t ++ slots_of f.todo))) → Either (In s (slots_of t)) (In s (f.self.slot ∷ (D ++ A)))
    one (this j) = that (there (in_left D A j))
    one (that j) = two j

    go : Either (In s (slots_of (f.done ⋈ put f.self t f.todo))) (In s (slots_up fs)) →
        Either (In s (slots_of t)) (In s (f.self.slot ∷ (D ++ A)))
    go (this j) = one (slots_in_lem f.done (put f.self t f.todo) j)
    go (that j) = that (there (in_right D A (in_right (slots_of f.todo) (slots_up fs) j)))

pub in_plug : {s : ℕ} (fs : List Frame) (t : Tree) → In s (slots_of t) → In s (slots_of (plug fs t))
unfolding plug slots_of
in_plug [] t i = i
in_plug (f ∷ fs) t i = in_plug fs (f.done ⋈ put f.self t f.todo)
    (slots_right f.done (put f.self t f.todo) (there (in_left (slots_of t) (slots_of f.todo) i)))

pub up_plug : {s : ℕ} (fs : List Frame) (t : Tree) → In s (slots_up fs) → In s (slots_of (plug fs t))
unfolding plug slots_up slots_of
up_plug [] t i = elim i [ ]
up_plug {s} (f ∷ fs) t (here e) = in_plug fs (f.done ⋈ put f.self t f.todo) (slots_right f.done (put f.self t f.todo) (here e))
up_plug {s} (f ∷ fs) t (there i) = one (in_cases D A i) (up_plug fs W)
  where
    D : List ℕ
    D = slots_of f.done

    A : List ℕ
    A = slots_of f.todo ++ slots_up fs

    W : Tree
    W = f.done ⋈ put f.self t f.todo

    two : Either (In s (slots_of f.todo)) (In s (slots_up fs)) → (In s (slots_up fs) → In s (slots_of (plug fs W))) → In s (slots_of (plug fs W))
    two (this j) deep = in_plug fs W (slots_right f.done (put f.self t f.todo) (there (in_right (slots_of t) (slots_of f.todo) j)))
    two (that j) deep = deep j

    one : Either (In s D) (In s A) → (In s (slots_up fs) → In s (slots_of (plug fs W))) → In s (slots_of (plug fs W))
    one (this j) deep = in_plug fs W (slots_left f.done (put f.self t f.todo) j)
    one (that j) deep = two (in_cases (slots_of f.todo) (slots_up fs) j) deep

-- a marked one in a pending forest is a sleeper there
and_true : (a b : Bool) → a && b ≡ true → (a ≡ true) × (b ≡ true)
and_true true b e = (refl, e)
and_true false b e = bool_not (sym e)

cons_if-here : (w : Bool) (x : ℕ) (l : List ℕ) → w ≡ true → In x (cons_if w x l)
unfolding cons_if
cons_if-here true x l e = here refl
cons_if-here false x l e = bool_not (sym e)

cons_if-there : {k : ℕ} (w : Bool) (x : ℕ) (l : List ℕ) → In k l → In k (cons_if w x l)
unfolding cons_if
cons_if-there true x l i = there i
cons_if-there false x l i = i

pend_forest : {σ : Rows} {s : ℕ} {p : List Entry} {c : ℕ} {t : Tree} → Held σ true p c t → In s (slots_of t) → (σ s).asleep ≡ true → In s (sleepers t)
unfolding slots_of sleepers is_leaf row_for
pend_forest held_nil i a = elim i [ ]
pend_forest {σ} {s} (held_put {x = x} {k = nil} {f = f} z m e hk hf) (here q) a =
    rw q (cons_if-here (not x.is_new) x.slot (sleepers f) (sym (m refl) ∙ sym (ap (λ y. y.asleep) e) ∙ rw q at a))
pend_forest {σ} {s} (held_put {x = x} {k = nil} {f = f} z m e hk hf) (there i) a = cons_if-there (not x.is_new) x.slot (sleepers f)
    (pend_forest hf i a)
pend_forest {σ} {s} (held_put {x = x} {k = put y k g} {f = f} z m e hk hf) (here q) a =
    bool_not (sym (rw q at a) ∙ ap (λ y. y.asleep) e ∙ m refl)
pend_forest {σ} {s} (held_put {x = x} {k = put y k g} {f = f} z m e hk hf) (there i) a =
    go (in_cases (slots_of (put y k g)) (slots_of f) i) (λ j. pend_forest hk j a) (λ j. pend_forest hf j a)
  where
    go : Either (In s (slots_of (put y k g))) (In s (slots_of f)) → (In s (slots_of (put y k g)) → In s (sleepers (put y k g))) →
        (In s (slots_of f) → In s (sleepers f)) → In s (sleepers (put y k g) ++ sleepers f)
    go (this j) u v = in_left (sleepers (put y k g)) (sleepers f) (u j)
    go (that j) u v = in_right (sleepers (put y k g)) (sleepers f) (v j)

low_forest : {σ : Rows} {d : Bool} {s : ℕ} {p : List Entry} {c : ℕ} {t : Tree} {lo hi : ℕ} → Held σ d p c t → Range lo hi t → In s (slots_of t) →
    (σ s).low < hi
unfolding slots_of row_for
low_forest held_nil r i = elim i [ ]
low_forest {σ} {s = s} {hi = hi} (held_put {x = x} {k = k} {f = f} z m e hk hf) r (here q) =
    let w = parts r in
    let lw : (σ x.slot).low ≡ x.low = ap (λ y. y.low) e in
    rw q (omega (arith, w.wider, range_le w.siblings))
low_forest {σ} {s = s} {hi = hi} (held_put {x = x} {k = k} {f = f} z m e hk hf) r (there i) =
    go (in_cases (slots_of k) (slots_of f) i) (λ j. le_trans (low_forest hk (parts r).children j) (range_le (parts r).siblings))
    (λ j. low_forest hf (parts r).siblings j)
  where
    go : Either (In s (slots_of k)) (In s (slots_of f)) → (In s (slots_of k) → (σ s).low < hi) → (In s (slots_of f) → (σ s).low < hi) → (σ s).low < hi
    go (this j) u v = u j
    go (that j) u v = v j

up_pend : {σ : Rows} {environment : List Variable} {n s : ℕ} {fs : List Frame} (lo hi : ℕ) (t : Tree) (r : Range lo hi (plug fs t)) →
    HeldUp σ environment n fs → In s (slots_up fs) → (σ s).asleep ≡ true → (hole lo hi fs t r).from ≤ (σ s).low → In s (sleepers_up fs)
unfolding plug hole hole_in slots_up sleepers_up row_for
up_pend lo hi t r held_top i a l = elim i [ ]
up_pend {σ} lo hi t r (held_under {f = f} {fs = fs} e d c u) (here q) a l = bool_not (sym (rw q at a) ∙ ap (λ y. y.asleep) e)
up_pend {σ} {environment} {n} {s} lo hi t r (held_under {f = f} {fs = fs} e d c u) (there i) a l =
    one (in_cases (slots_of f.done) (slots_of f.todo ++ slots_up fs) i) (λ j k. up_pend lo hi (f.done ⋈ put f.self t f.todo) r u j a k)
  where
    h : Hole lo hi fs (f.done ⋈ put f.self t f.todo)
    h = hole lo hi fs (f.done ⋈ put f.self t f.todo) r

    w : Split h.from h.upto f.done (put f.self t f.todo)
    w = range_split f.done (put f.self t f.todo) h.inside

    q : Parts w.mid h.upto f.self t f.todo
    q = parts w.right

    lw : f.self.low ≤ (σ s).low
    lw = l

    two : Either (In s (slots_of f.todo)) (In s (slots_up fs)) → (In s (slots_up fs) → h.from ≤ (σ s).low → In s (sleepers_up fs)) →
        In s (sleepers f.todo ++ sleepers_up fs)
    two (this j) deep = in_left (sleepers f.todo) (sleepers_up fs) (pend_forest c j a)
    two (that j) deep = in_right (sleepers f.todo) (sleepers_up fs) (deep j (omega (arith, range_le w.left, q.lowest, lw)))

    one : Either (In s (slots_of f.done)) (In s (slots_of f.todo ++ slots_up fs)) →
        (In s (slots_up fs) → h.from ≤ (σ s).low → In s (sleepers_up fs)) → In s (sleepers f.todo ++ sleepers_up fs)
    one (this j) deep = absurd (omega (arith, low_forest d w.left j, q.lowest, lw))
    one (that j) deep = two (in_cases (slots_of f.todo) (slots_up fs) j) deep

pub marked_of : (listing : Listing) {σ : Rows} {environment : List Variable} {n : ℕ} {f : Frame} {fs : List Frame} (lo hi : ℕ) →
    Range lo hi (plug (f ∷ fs) nil) → HeldUp σ environment n (f ∷ fs) → Known σ (plug (f ∷ fs) nil) → Marked listing σ f.self.low (f ∷ fs)
unfolding hole hole_in slots_of
marked_of listing {σ} {environment} {n} {f} {fs} lo hi r H K = record { pending = λ s a l. go s a l (plug_in (f ∷ fs) nil (K.all s a)) }
  where
    go : (s : ℕ) → (σ s).asleep ≡ true → f.self.low < (σ s).low → Either (In s (slots_of nil)) (In s (slots_up (f ∷ fs))) →
        In s (sleepers_up (f ∷ fs))
    go s a l (this i) = elim i [ ]
    go s a l (that i) = let g : f.self.low ≤ (σ s).low = omega arith in up_pend lo hi nil r H i a g

-- slots in a ranged tree are small
pub slots_small : {t : Tree} {lo hi : ℕ} (s : ℕ) → Range lo hi t → In s (slots_of t) → s < 64
unfolding slots_of
slots_small {t = nil} s r i = elim i [ ]
slots_small {t = put x k f} s r (here e) = let h = (parts r).slots in omega arith
slots_small {t = put x k f} s r (there i) = go (in_cases (slots_of k) (slots_of f) i) (slots_small {t = k} s (parts r).children)
    (slots_small {t = f} s (parts r).siblings)
  where
    go : Either (In s (slots_of k)) (In s (slots_of f)) → (In s (slots_of k) → s < 64) → (In s (slots_of f) → s < 64) → s < 64
    go (this i) a b = a i
    go (that i) a b = b i
