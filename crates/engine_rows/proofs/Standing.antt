-- Between two turns: the rows hold what stands done and what is to do, and so they do after moves that take no step.
-- Letters as in Place and Held.
use mathlib.Core.Path.{◌≡◌, refl, sym, ap, ap₂, ◌∙◌}
use mathlib.Core.Bool.{Bool, true, false, ◌&&◌, not}
use mathlib.Core.List.{List, ◌∷◌}
use Prim.Native.Nat.{ℕ, suc, ◌+◌}
use native.Mathlib.Nat.{zero-add, add-zero, suc-add}
use native.Mathlib.Omega.{arith}
use lib.ListN.{length, length-append}
use Rattle.walk.specs.State.{Variable}
use Rattle.engine_rows.specs.Rows.{Rows}
use Rattle.engine_rows.proofs.Place.{Record, Tree, nil, put, ◌⋈◌, Frame, memory_of, Full, full, Silent, stay, by_pass, by_down, by_up}
use Rattle.engine_rows.proofs.Held.{Entry, path_of, root_count, row_for, is_leaf, Held, held_nil, held_put, HeldUp, held_under}
use Rattle.engine_rows.proofs.Kept.{bool_not}

-- ── between two turns ───────────────────────────────────────────────────────────────────────────
pub record Stands (σ : Rows) (environment : List Variable) (fs : List Frame) (d t : Tree) : Type 0 where
  pub up : HeldUp σ environment (root_count d + root_count t) fs
  pub done : Held σ false (path_of environment fs) (length (memory_of environment fs)) d
  pub todo : Held σ true (path_of environment fs) (length (memory_of environment fs)) t

pub root_count-⋈ : (d t : Tree) → root_count (d ⋈ t) ≡ root_count d + root_count t
unfolding root_count ◌⋈◌
root_count-⋈ nil t = sym (zero-add (root_count t))
root_count-⋈ (put x k d) t = ap suc (root_count-⋈ d t) ∙ sym (suc-add (root_count d) (root_count t))

pub held_join : {σ : Rows} {w : Bool} {p : List Entry} {b : ℕ} {t f : Tree} → Held σ w p b t → Held σ w p b f → Held σ w p b (t ⋈ f)
unfolding ◌⋈◌
held_join held_nil g = g
held_join (held_put z m e k f) g = held_put z m e k (held_join f g)

held_left : {σ : Rows} {w : Bool} {p : List Entry} {b : ℕ} (t f : Tree) → Held σ w p b (t ⋈ f) → Held σ w p b t
unfolding ◌⋈◌
held_left nil f h = held_nil
held_left (put x k t) f (held_put z m e hk hf) = held_put z m e hk (held_left t f hf)

held_right : {σ : Rows} {w : Bool} {p : List Entry} {b : ℕ} (t f : Tree) → Held σ w p b (t ⋈ f) → Held σ w p b f
unfolding ◌⋈◌
held_right nil f h = h
held_right (put x k t) f (held_put z m e hk hf) = held_right t f hf

pub held_done : {σ : Rows} {p : List Entry} {b : ℕ} {t : Tree} → Held σ true p b t → Held σ false p b t
held_done held_nil = held_nil
held_done (held_put z m e k f) = held_put z (λ q. bool_not (sym q)) e (held_done k) (held_done f)

pub record HeldNode (σ : Rows) (w : Bool) (p : List Entry) (b : ℕ) (x : Record) (k f : Tree) : Type 0 where
  pub mark : Bool
  pub marked : w ≡ true → mark ≡ is_leaf k && not x.is_new
  pub row : σ x.slot ≡ row_for mark p b (root_count k) x
  pub children : Held σ w (record { slot = x.slot; base = b } ∷ p) (b + length x.own) k
  pub siblings : Held σ w p b f

pub node_of : {σ : Rows} {w : Bool} {p : List Entry} {b : ℕ} {x : Record} {k f : Tree} → Held σ w p b (put x k f) → HeldNode σ w p b x k f
node_of (held_put z m e k f) = record { mark = z; marked = m; row = e; children = k; siblings = f }

pub record Head (σ : Rows) (environment : List Variable) (n : ℕ) (f : Frame) (fs : List Frame) : Type 0 where
  pub row : σ f.self.slot ≡ row_for false (path_of environment fs) (length (memory_of environment fs)) n f.self
  pub done : Held σ false (path_of environment fs) (length (memory_of environment fs)) f.done
  pub todo : Held σ true (path_of environment fs) (length (memory_of environment fs)) f.todo
  pub up : HeldUp σ environment (root_count f.done + suc (root_count f.todo)) fs

pub head_of : {σ : Rows} {environment : List Variable} {n : ℕ} {f : Frame} {fs : List Frame} → HeldUp σ environment n (f ∷ fs) →
    Head σ environment n f fs
head_of (held_under e d c u) = record { row = e; done = d; todo = c; up = u }

is_leaf-full : (k : Tree) → Full k → is_leaf k ≡ false
unfolding is_leaf
is_leaf-full _ full = refl

stands_pass : {σ : Rows} {environment : List Variable} {fs : List Frame} (d s t f : Tree) → s ≡ t ⋈ f → Stands σ environment fs d s →
    Stands σ environment fs (d ⋈ t) f
stands_pass {σ} {environment} {fs} d s t f e h =
    record { up = rw n at h.up; done = held_join h.done (held_done (held_left t f g)); todo = held_right t f g }
  where
    g : Held σ true (path_of environment fs) (length (memory_of environment fs)) (t ⋈ f)
    g = rw e at h.todo

    n : root_count d + root_count s ≡ root_count (d ⋈ t) + root_count f
    n = omega (arith, ap root_count e, root_count-⋈ t f, root_count-⋈ d t)

stands_down : {σ : Rows} {environment : List Variable} {fs : List Frame} (d : Tree) (x : Record) (k f : Tree) → Full k →
    Stands σ environment fs d (put x k f) → Stands σ environment (record { self = x; done = d; todo = f } ∷ fs) nil k
unfolding root_count memory_of path_of
stands_down {σ} {environment} {fs} d x k f w h =
    let q = node_of h.todo in
    record {
      up = held_under {f = record { self = x; done = d; todo = f }} (row q) h.done q.siblings h.up;
      done = held_nil;
      todo = rw (length-append (memory_of environment fs) x.own) q.children;
    }
  where
    row : HeldNode σ true (path_of environment fs) (length (memory_of environment fs)) x k f →
        σ x.slot ≡ row_for false (path_of environment fs) (length (memory_of environment fs)) (0 + root_count k) x
    row q = q.row ∙ ap₂ (λ z n. row_for z (path_of environment fs) (length (memory_of environment fs)) n x) (q.marked refl ∙
        rw (is_leaf-full k w)) (sym (zero-add (root_count k)))

stands_up : {σ : Rows} {environment : List Variable} (g : Frame) (fs : List Frame) (t : Tree) → Stands σ environment (g ∷ fs) t nil →
    Stands σ environment fs (g.done ⋈ put g.self t nil) g.todo
unfolding root_count memory_of path_of
stands_up {σ} {environment} g fs t h =
    let q = head_of h.up in
    record {
      up = rw n at q.up;
      done = held_join q.done (held_put false (λ z. bool_not (sym z)) (q.row ∙
          ap (λ n. row_for false (path_of environment fs) (length (memory_of environment fs)) n g.self) (add-zero (root_count t)))
          (rw (length-append (memory_of environment fs) g.self.own) at h.done) held_nil);
      todo = q.todo;
    }
  where
    n : root_count g.done + suc (root_count g.todo) ≡ root_count (g.done ⋈ put g.self t nil) + root_count g.todo
    n = omega (arith, root_count-⋈ g.done (put g.self t nil))

pub silent_stands : {σ : Rows} {environment : List Variable} {fs gs : List Frame} {d t e u : Tree} → Silent fs d t gs e u →
    Stands σ environment fs d t → Stands σ environment gs e u
silent_stands stay h = h
silent_stands (by_pass {d = d} {s = s} t f q m) h = silent_stands m (stands_pass d s t f q h)
silent_stands (by_down {d = d} {k = k} {f = f} {x = x} b w m) h = silent_stands m (stands_down d x k f w h)
silent_stands (by_up {g = g} {fs = fs} {t = t} w m) h = silent_stands m (stands_up g fs t h)
