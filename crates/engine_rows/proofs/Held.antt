-- The tree in slots: each routine's row says where it hangs, its range, its bindings and its own variables.
-- No list of distinct slots is kept: two rows at one slot would have one level and one range, and ranges part the tree.
-- Letters: σ rows, p and P paths, b and c first own addresses, n a number of children, z a mark, o an owner; the others as in Place.
use mathlib.Core.Path.{◌≡◌, refl, sym, ap, ◌∙◌}
use mathlib.Core.Bool.{Bool, true, false}
use mathlib.Core.List.{List, [], ◌∷◌, ◌++◌}
use Prim.Native.Nat.{ℕ, suc, ◌+◌, ◌-◌, ◌≤◌, ◌<◌}
use native.Mathlib.Omega.{arith}
use lib.Dec.{ltb}
use lib.ListN.{length, get_or, set, length-append, length-set, get_or-append}
use lib.Seq.{get_or-append-add, set_out}
use borrow.Author.Tests.{ltb-true, ltb-false, le-ltb, eq-eqb, ne_eqb}
use Rattle.walk.specs.Memory.{variable_at}
use Rattle.walk.specs.State.{Variable, no_variable}
use Rattle.engine_rows.specs.Rows.{Row, Rows, choose_row, in_slot, rows_with, variable_of, with_own, with_row}
use Rattle.engine_rows.proofs.Place.{Record, width, Tree, put, ◌⋈◌, Frame, plug, memory_of}
use Rattle.engine_rows.proofs.Priority.{Range, range_put, range_le, range_join, Split, range_split, Parts, parts}
use Rattle.engine_rows.proofs.Writing.{set_if, set_from, record_with_own, set_up, memory_set}
unfoldable pub use Rattle.engine_rows.specs.Tree.{root_count}
pub use Rattle.engine_rows.specs.Held.{Entry, Held, held_nil, held_put, HeldUp, held_top, held_under}
unfoldable pub use Rattle.engine_rows.specs.Held.{pick_owner, owner_at, owners_at, parent_slot, path_of, row_for, is_leaf}

-- ── reading ─────────────────────────────────────────────────────────────────────────────────────

pub read_path : (σ : Rows) (environment : List Variable) (n : ℕ) (fs : List Frame) (a : ℕ) → HeldUp σ environment n fs →
    variable_of σ environment (owner_at (path_of environment fs) a) ≡ variable_at (memory_of environment fs) a
unfolding variable_of owner_at path_of memory_of variable_at row_for pick_owner
read_path σ environment n _ a held_top = refl
read_path σ environment n _ a (held_under {f = f} {fs = fs} e d t u) = go (ltb a (length (memory_of environment fs))) refl
    (read_path σ environment _ fs a u)
  where
    go : (w : Bool) → ltb a (length (memory_of environment fs)) ≡ w →
        variable_of σ environment (owner_at (path_of environment fs) a) ≡ get_or (memory_of environment fs) a no_variable →
        variable_of σ environment (pick_owner w (owner_at (path_of environment fs) a) (in_slot f.self.slot (a - length (memory_of environment fs)))) ≡
        get_or (memory_of environment fs ++ f.self.own) a no_variable
    go true h up = up ∙ sym (get_or-append (memory_of environment fs) f.self.own no_variable a (ltb-true _ _ h))
    go false h up = let g : length (memory_of environment fs) ≤ a = ltb-false a (length (memory_of environment fs)) h in
        rw e (sym (ap (λ z. get_or (memory_of environment fs ++ f.self.own) z no_variable) same ∙
        get_or-append-add (memory_of environment fs) f.self.own (a - length (memory_of environment fs)) no_variable))
      where
        same : a ≡ length (memory_of environment fs) + (a - length (memory_of environment fs))
        same = let g : length (memory_of environment fs) ≤ a = ltb-false a (length (memory_of environment fs)) h in omega arith

-- ── a row changed ───────────────────────────────────────────────────────────────────────────────

pub with_row-same : (σ : Rows) (s : ℕ) (r : Row) → with_row σ s r s ≡ r
unfolding with_row choose_row
with_row-same σ s r = rw (eq-eqb s s refl)

pub with_row-other : (σ : Rows) (s : ℕ) (r : Row) (n : ℕ) → (n ≡ s → ⊥) → with_row σ s r n ≡ σ n
unfolding with_row choose_row
with_row-other σ s r n h = rw (ne_eqb n s h)

-- ── what stays ──────────────────────────────────────────────────────────────────────────────────
pub held_keep : {σ : Rows} (σ' : Rows) {d : Bool} {p : List Entry} {b : ℕ} {t : Tree} {lo hi : ℕ} → Held σ d p b t → Range lo hi t →
    ((s : ℕ) → (σ s).used ≡ true → length p ≤ (σ s).level → lo ≤ (σ s).low → (σ s).low < hi → σ' s ≡ σ s) → Held σ' d p b t
unfolding row_for
held_keep σ' held_nil r keep = held_nil
held_keep {σ} σ' {p = p} {lo = lo} {hi = hi} (held_put {x = x} {k = k} {f = f} z a e hk hf) r keep =
    let q = parts r in
    let at_root : x.low + width x ≤ hi = range_le q.siblings in
    let le : (σ x.slot).level ≡ length p = ap (λ y. y.level) e in
    let lw : (σ x.slot).low ≡ x.low = ap (λ y. y.low) e in
    held_put z a (keep x.slot (ap (λ y. y.used) e) (omega arith) (omega (arith, q.lowest)) (omega (arith, q.wider)) ∙ e)
    (held_keep σ' hk q.children (λ s u l m n. keep s u (omega arith) (omega (arith, q.lowest)) (omega arith)))
    (held_keep σ' hf q.siblings (λ s u l m n. keep s u l (omega (arith, q.lowest, q.wider)) n))

pub record Hole (lo hi : ℕ) (fs : List Frame) (t : Tree) : Type 0 where
  pub from : ℕ
  pub upto : ℕ
  pub inside : Range from upto t
  pub again : (t' : Tree) → Range from upto t' → Range lo hi (plug fs t')

-- one frame more
unfoldable pub hole_in : (lo hi : ℕ) (f : Frame) (fs : List Frame) (t : Tree) → Hole lo hi fs (f.done ⋈ put f.self t f.todo) →
    Hole lo hi (f ∷ fs) t
unfolding plug
hole_in lo hi f fs t o =
    let s = range_split f.done (put f.self t f.todo) o.inside in
    let q = parts s.right in
    record {
      from = f.self.low;
      upto = f.self.low + width f.self;
      inside = q.children;
      again = λ t' r'. o.again (f.done ⋈ put f.self t' f.todo)
          (range_join s.left (range_put q.lowest q.wider q.slots r' q.siblings));
    }

unfoldable pub hole : (lo hi : ℕ) (fs : List Frame) (t : Tree) → Range lo hi (plug fs t) → Hole lo hi fs t
unfolding plug
hole lo hi [] t r = record { from = lo; upto = hi; inside = r; again = λ t' r'. r' }
hole lo hi (f ∷ fs) t r = hole_in lo hi f fs t (hole lo hi fs (f.done ⋈ put f.self t f.todo) r)

pub data Away (r : Row) (level a b : ℕ) : Type 0 where
  higher : r.level < level → Away r level a b
  before : r.low < a → Away r level a b
  behind : b ≤ r.low → Away r level a b

pub path_length : (environment : List Variable) (fs : List Frame) → length (path_of environment fs) ≡ length fs
unfolding path_of
path_length environment [] = refl
path_length environment (f ∷ fs) = ap suc (path_length environment fs)

pub up_keep : {σ : Rows} (σ' : Rows) {environment : List Variable} {n : ℕ} {fs : List Frame} (lo hi : ℕ) (t : Tree) (r : Range lo hi (plug fs t)) →
    HeldUp σ environment n fs →
    ((s : ℕ) → (σ s).used ≡ true → Away (σ s) (length fs) (hole lo hi fs t r).from (hole lo hi fs t r).upto → σ' s ≡ σ s) →
    HeldUp σ' environment n fs
unfolding plug hole hole_in row_for
up_keep σ' lo hi t r held_top keep = held_top
up_keep {σ} σ' {environment} lo hi t r (held_under {f = f} {fs = fs} e d c u) keep =
    let o = hole lo hi fs (f.done ⋈ put f.self t f.todo) r in
    let s = range_split f.done (put f.self t f.todo) o.inside in
    let q = parts s.right in
    let le : (σ f.self.slot).level ≡ length (path_of environment fs) = ap (λ y. y.level) e in
    let pl : length (path_of environment fs) ≡ length fs = path_length environment fs in
    let fm : o.from ≤ s.mid = range_le s.left in
    let mt : f.self.low + width f.self ≤ o.upto = range_le q.siblings in
    let ml : s.mid ≤ f.self.low = q.lowest in
    held_under (keep f.self.slot (ap (λ y. y.used) e) (higher (omega arith)) ∙ e)
    (held_keep σ' d s.left (λ i us level a b. keep i us (before (omega arith))))
    (held_keep σ' c q.siblings (λ i us level a b. keep i us (behind a)))
    (up_keep σ' lo hi (f.done ⋈ put f.self t f.todo) r u (λ i us w. keep i us (away i w fm mt ml)))
  where
    away : (i : ℕ) → Away (σ i) (length fs) (hole lo hi fs (f.done ⋈ put f.self t f.todo) r).from
        (hole lo hi fs (f.done ⋈ put f.self t f.todo) r).upto →
        {m : ℕ} → (hole lo hi fs (f.done ⋈ put f.self t f.todo) r).from ≤ m →
        f.self.low + width f.self ≤ (hole lo hi fs (f.done ⋈ put f.self t f.todo) r).upto → m ≤ f.self.low →
        Away (σ i) (suc (length fs)) f.self.low (f.self.low + width f.self)
    away i (higher h) x y z = higher (omega arith)
    away i (before h) x y z = before (omega arith)
    away i (behind h) x y z = behind (omega arith)

-- ── a variable set ──────────────────────────────────────────────────────────────────────────────
pub length_set_path : (environment : List Variable) (fs : List Frame) (a : ℕ) (v : Variable) →
    length (memory_of (set environment a v) (set_up environment fs a v)) ≡ length (memory_of environment fs)
length_set_path environment fs a v = ap length (memory_set environment fs a v) ∙ length-set (memory_of environment fs) a v

pub path_set : (environment : List Variable) (fs : List Frame) (a : ℕ) (v : Variable) →
    path_of (set environment a v) (set_up environment fs a v) ≡ path_of environment fs
unfolding path_of set_up record_with_own
path_set environment [] a v = refl
path_set environment (f ∷ fs) a v = rw (length_set_path environment fs a v, path_set environment fs a v)

-- past what the frames own, nothing of theirs changes
set_from_out : (b : ℕ) (o : List Variable) (a : ℕ) (v : Variable) → b + length o ≤ a → set_from b o a v ≡ o
unfolding set_from set_if
set_from_out b o a v h = rw (le-ltb a b (omega arith)) (set_out o (a - b) v (omega arith))

with_own-same : (x : Record) → record_with_own x x.own ≡ x
unfolding record_with_own
with_own-same x = refl

pub environment_past : (environment : List Variable) (fs : List Frame) (a : ℕ) (v : Variable) → length (memory_of environment fs) ≤ a →
    set environment a v ≡ environment
unfolding memory_of
environment_past environment [] a v h = set_out environment a v h
environment_past environment (f ∷ fs) a v h = environment_past environment fs a v
    (omega (arith, length-append (memory_of environment fs) f.self.own))

pub up_out : (environment : List Variable) (fs : List Frame) (a : ℕ) (v : Variable) → length (memory_of environment fs) ≤ a →
    set_up environment fs a v ≡ fs
unfolding memory_of set_up
up_out environment [] a v h = refl
up_out environment (f ∷ fs) a v h =
    rw (
      up_out environment fs a v (omega (arith, length-append (memory_of environment fs) f.self.own)),
      set_from_out (length (memory_of environment fs)) f.self.own a v (omega (arith, length-append (memory_of environment fs) f.self.own)),
      with_own-same f.self,
    )

-- whoever stands at the frames' level or deeper keeps his row
pub owner_keep : {σ : Rows} {environment : List Variable} {n : ℕ} {fs : List Frame} (a : ℕ) (v : Variable) → HeldUp σ environment n fs → (s : ℕ) →
    length fs ≤ (σ s).level → rows_with σ (owner_at (path_of environment fs) a) v s ≡ σ s
unfolding owner_at path_of rows_with row_for pick_owner
owner_keep a v held_top s h = refl
owner_keep {σ} {environment} a v (held_under {f = f} {fs = fs} e d c u) s h =
    go (ltb a (length (memory_of environment fs))) (owner_keep a v u s (omega arith))
  where
    le : (σ f.self.slot).level ≡ length (path_of environment fs)
    le = ap (λ y. y.level) e

    go : (w : Bool) → rows_with σ (owner_at (path_of environment fs) a) v s ≡ σ s →
        rows_with σ (pick_owner w (owner_at (path_of environment fs) a) (in_slot f.self.slot (a - length (memory_of environment fs)))) v s ≡ σ s
    go true up = up
    go false up = with_row-other σ f.self.slot _ s (λ p. omega (arith, le, path_length environment fs, ap (λ z. (σ z).level) p))

set_from_in : (b : ℕ) (o : List Variable) (a : ℕ) (v : Variable) → ltb a b ≡ true → set_from b o a v ≡ o
unfolding set_from set_if
set_from_in b o a v h = rw h

set_from_on : (b : ℕ) (o : List Variable) (a : ℕ) (v : Variable) → ltb a b ≡ false → set_from b o a v ≡ set o (a - b) v
unfolding set_from set_if
set_from_on b o a v h = rw h

row_for-own : (z : Bool) (p : List Entry) (b n : ℕ) (x : Record) (o : List Variable) →
    with_own (row_for z p b n x) o ≡ row_for z p b n (record_with_own x o)
unfolding with_own row_for record_with_own
row_for-own z p b n x o = refl

own_of-row_for : (z : Bool) (p : List Entry) (b n : ℕ) (x : Record) → (row_for z p b n x).own ≡ x.own
unfolding row_for
own_of-row_for z p b n x = refl

pub set_held : {σ : Rows} {environment : List Variable} {n : ℕ} {fs : List Frame} (lo hi : ℕ) (t : Tree) (a : ℕ) (v : Variable) →
    Range lo hi (plug fs t) → HeldUp σ environment n fs →
    HeldUp (rows_with σ (owner_at (path_of environment fs) a) v) (set environment a v) n (set_up environment fs a v)
unfolding plug owner_at path_of set_up pick_owner rows_with row_for record_with_own
set_held lo hi t a v r held_top = held_top
set_held {σ} {environment} {n} lo hi t a v r (held_under {f = f} {fs = fs} e d c u) =
    go (ltb a (length (memory_of environment fs))) refl (set_held lo hi (f.done ⋈ put f.self t f.todo) a v r u)
  where
    new_frame : List Variable → Frame
    new_frame o = record { self = record_with_own f.self o; done = f.done; todo = f.todo }

    le : (σ f.self.slot).level ≡ length (path_of environment fs)
    le = ap (λ y. y.level) e

    lw : (σ f.self.slot).low ≡ f.self.low
    lw = ap (λ y. y.low) e

    new_row : Row
    new_row = with_own (σ f.self.slot) (set (σ f.self.slot).own (a - length (memory_of environment fs)) v)

    σ' : Rows
    σ' = with_row σ f.self.slot new_row

    o : Hole lo hi fs (f.done ⋈ put f.self t f.todo)
    o = hole lo hi fs (f.done ⋈ put f.self t f.todo) r

    s : Split o.from o.upto f.done (put f.self t f.todo)
    s = range_split f.done (put f.self t f.todo) o.inside

    q : Parts s.mid o.upto f.self t f.todo
    q = parts s.right

    here : σ' f.self.slot ≡ row_for false (path_of environment fs) (length (memory_of environment fs)) n
        (record_with_own f.self (set f.self.own (a - length (memory_of environment fs)) v))
    here = with_row-same σ f.self.slot new_row ∙ rw (
      e,
      own_of-row_for false (path_of environment fs) (length (memory_of environment fs)) n f.self,
    )
        (row_for-own false (path_of environment fs) (length (memory_of environment fs)) n f.self
        (set f.self.own (a - length (memory_of environment fs)) v))

    off : (i : ℕ) → Away (σ i) (length fs) o.from o.upto → i ≡ f.self.slot → ⊥
    off i (higher x) p = omega (arith, le, path_length environment fs, ap (λ z. (σ z).level) p)
    off i (before x) p = omega (arith, lw, range_le s.left, q.lowest, ap (λ z. (σ z).low) p)
    off i (behind x) p = omega (arith, lw, range_le q.siblings, q.wider, ap (λ z. (σ z).low) p)

    go : (w : Bool) → ltb a (length (memory_of environment fs)) ≡ w →
        HeldUp (rows_with σ (owner_at (path_of environment fs) a) v) (set environment a v) (root_count f.done + suc (root_count f.todo))
        (set_up environment fs a v) →
        HeldUp (rows_with σ (pick_owner w (owner_at (path_of environment fs) a) (in_slot f.self.slot (a - length (memory_of environment fs)))) v)
        (set environment a v) n
        (new_frame (set_from (length (memory_of environment fs)) f.self.own a v) ∷ set_up environment fs a v)
    go true h up =
        held_under {n = n} {f = new_frame (set_from (length (memory_of environment fs)) f.self.own a v)} {fs = set_up environment fs a v}
        (rw (
          path_set environment fs a v,
          length_set_path environment fs a v,
          set_from_in (length (memory_of environment fs)) f.self.own a v h,
          with_own-same f.self,
        ) (owner_keep a v u f.self.slot (omega (arith, le, path_length environment fs)) ∙ e))
        (rw (path_set environment fs a v, length_set_path environment fs a v)
        (held_keep _ d s.left (λ i us level x y. owner_keep a v u i (omega (arith, path_length environment fs)))))
        (rw (path_set environment fs a v, length_set_path environment fs a v)
        (held_keep _ c q.siblings (λ i us level x y. owner_keep a v u i (omega (arith, path_length environment fs)))))
        up
    go false h up =
        rw (
          environment_past environment fs a v (ltb-false _ _ h),
          up_out environment fs a v (ltb-false _ _ h),
          set_from_on (length (memory_of environment fs)) f.self.own a v h,
        )
        (held_under {n = n} {f = new_frame (set f.self.own (a - length (memory_of environment fs)) v)} {fs = fs} here
        (held_keep σ' d s.left (λ i us level x y. with_row-other σ f.self.slot new_row i (λ p. omega (
          arith,
          lw,
          q.lowest,
          ap (λ z. (σ z).low) p,
        ))))
        (held_keep σ' c q.siblings (λ i us level x y. with_row-other σ f.self.slot new_row i (λ p. omega (
          arith,
          lw,
          q.wider,
          ap (λ z. (σ z).low) p,
        ))))
        (up_keep σ' lo hi (f.done ⋈ put f.self t f.todo) r u (λ i us w. with_row-other σ f.self.slot new_row i (λ p. off i w p))))
