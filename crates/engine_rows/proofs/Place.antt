-- The whole tree with a place in it: routines with their slots and priorities, values in the records, and a path of frames.
-- The agenda's memory is the variables along the frames; the agenda's moves that take no step leave the whole tree as it is.
-- Letters: x and y records, t a tree, k the children and f the later siblings of a record, fs frames (the innermost first), d what stands done,
-- m a memory, j steps left, l live routines, ks keys of ready routines.
use mathlib.Core.Path.{◌≡◌, refl, sym, ap, ◌∙◌}
use mathlib.Core.Bool.{Bool, true, false, ◌||◌}
use mathlib.Core.List.{List, [], ◌∷◌, ◌++◌}
use Prim.Native.Nat.{ℕ, suc, ◌+◌}
use native.Mathlib.Omega.{arith}
use lib.ListN.{length}
use lib.Seq.{take-append_seam, drop-append_seam}
use Rattle.listing.specs.Listing.{Call, Listing, fork}
use Rattle.walk.specs.Memory.{any_written}
use Rattle.walk.specs.State.{Forest, Result, Turn, Variable, ◌>>=◌, ◌⊕◌, more, node}
use Rattle.walk.specs.Walk.{enter, instruction_at, join, resume, sleep}
use Rattle.engine_rows.specs.Triggers.{awaited, cons_if}
use Rattle.engine_rows.proofs.Quiet.{Quiet, waits, joins, nobody, one_more, quiet}
use Rattle.engine_rows.proofs.Agenda.{Task, back, outer, beyond, sees, rest, rest_sees, rest_visit}
pub use Rattle.engine_rows.specs.Tree.{Record, width, Tree, nil, put, Frame}
unfoldable pub use Rattle.engine_rows.specs.Tree.{erase, ◌⋈◌, plug, memory_of}
unfoldable pub use Rattle.engine_rows.specs.Agenda.{first, tasks, up, dones}
pub use Rattle.engine_rows.specs.Reached.{Rests, rests_nil, rests_new, rests_wait, rests_join, Paused, at_root, under}
unfoldable pub use Rattle.engine_rows.specs.Reached.{key, will_run, ready, ready_up}
use Rattle.engine_rows.specs.Agenda.{frame_on, running_with}

pub ⋈-assoc : (f g h : Tree) → (f ⋈ g) ⋈ h ≡ f ⋈ (g ⋈ h)
unfolding ◌⋈◌
⋈-assoc nil g h = refl
⋈-assoc (put x k f) g h = ap (put x k) (⋈-assoc f g h)

pub ⋈-nil : (f : Tree) → f ⋈ nil ≡ f
unfolding ◌⋈◌
⋈-nil nil = refl
⋈-nil (put x k f) = ap (put x k) (⋈-nil f)

pub erase-⋈ : (f g : Tree) → erase (f ⋈ g) ≡ erase f ⊕ erase g
unfolding ◌⋈◌ erase ◌⊕◌
erase-⋈ nil g = refl
erase-⋈ (put x k f) g = ap (more (node x.routine x.place x.names x.own (erase k))) (erase-⋈ f g)

-- ── the agenda of a place ───────────────────────────────────────────────────────────────────────
pub nil_not : {A : Type 0} {k : ℕ} {ks : List ℕ} → [] ≡ k ∷ ks → A
nil_not e = let z : ◌≡◌ {A = ℕ} 0 1 = cc in absurd (omega arith)

pub cons_if-nil : (b : Bool) (k : ℕ) (l : List ℕ) → cons_if b k l ≡ [] → (b ≡ false) × (l ≡ [])
unfolding cons_if
cons_if-nil true k l e = nil_not (sym e)
cons_if-nil false k l e = (refl, e)

pub append_empty : (a b : List ℕ) → a ++ b ≡ [] → (a ≡ []) × (b ≡ [])
append_empty [] b e = (refl, e)
append_empty (x ∷ a) b e = nil_not (sym e)

pub bool_not : {A : Type 0} → true ≡ false → A
bool_not e = let z : ◌≡◌ {A = ℕ} 0 1 = cc in absurd (omega arith)

pub or_false : (a b : Bool) → a || b ≡ false → (a ≡ false) × (b ≡ false)
or_false false b e = (refl, e)
or_false true b e = bool_not e

pub data Full : Tree → Type 0 where
  full : {x : Record} {k f : Tree} → Full (put x k f)

-- moves that take no step: past some, down into a parent that sleeps, up from children of whom one lives
pub data Silent : List Frame → Tree → Tree → List Frame → Tree → Tree → Type 0 where
  stay : {fs : List Frame} {d t : Tree} → Silent fs d t fs d t
  by_pass : {fs gs : List Frame} {d s e u : Tree} (t f : Tree) → s ≡ t ⋈ f → Silent fs (d ⋈ t) f gs e u → Silent fs d s gs e u
  by_down : {fs gs : List Frame} {d k f e u : Tree} {x : Record} → x.is_new ≡ false → Full k →
      Silent (record { self = x; done = d; todo = f } ∷ fs) nil k gs e u → Silent fs d (put x k f) gs e u
  by_up : {g : Frame} {fs gs : List Frame} {t e u : Tree} → Full t → Silent fs (g.done ⋈ put g.self t nil) g.todo gs e u →
      Silent (g ∷ fs) t nil gs e u

module _ (listing : Listing) (now : ℕ) where
  -- ── nothing ready: the forest is quiet ────────────────────────────────────────────────────────
  pub quiet_of : {n : Bool} (m : List Variable) (t : Tree) → Rests listing n t → ready listing m t ≡ [] → Quiet listing now m (erase t)
  unfolding ready erase will_run awaited
  quiet_of m _ rests_nil e = nobody
  quiet_of m _ (rests_new {x = x} {f = f} b r) e =
      bool_not (sym b ∙ (or_false x.is_new _ (cons_if-nil (will_run listing m x) (key x) (ready listing m f) e).0).0)
  quiet_of m _ (rests_wait {x = x} {f = f} {ws = ws} b i r) e =
      one_more (waits i (rw i at (or_false x.is_new (any_written (m ++ x.own) x.names (awaited (instruction_at listing x.routine x.place)))
      (cons_if-nil (will_run listing m x) (key x) (ready listing m f) e).0).1))
      (quiet_of m f r (cons_if-nil (will_run listing m x) (key x) (ready listing m f) e).1)
  quiet_of m _ (rests_join {x = x} {y = y} {k = k} {g = g} {f = f} b i q r) e =
      one_more (joins i (quiet_of (m ++ x.own) (put y k g) q (append_empty (ready listing (m ++ x.own) (put y k g)) (ready listing m f) e).0))
      (quiet_of m f r (append_empty (ready listing (m ++ x.own) (put y k g)) (ready listing m f) e).1)

  tasks_quiet : {n : Bool} (m : List Variable) (t : Tree) (level : ℕ) (ts : List Task) → Rests listing n t → ready listing m t ≡ [] →
      tasks level t ts ≡ sees (erase t) level ts
  unfolding ready erase will_run tasks sees first
  tasks_quiet m _ level ts rests_nil e = refl
  tasks_quiet m _ level ts (rests_new {x = x} {f = f} b r) e =
      bool_not (sym b ∙ (or_false x.is_new _ (cons_if-nil (will_run listing m x) (key x) (ready listing m f) e).0).0)
  tasks_quiet m _ level ts (rests_wait {x = x} {f = f} b i r) e =
      rw (b, tasks_quiet m f level ts r (cons_if-nil (will_run listing m x) (key x) (ready listing m f) e).1)
  tasks_quiet m _ level ts (rests_join {x = x} {y = y} {k = k} {g = g} {f = f} b i q r) e =
      rw (b, tasks_quiet m f level ts r (append_empty (ready listing (m ++ x.own) (put y k g)) (ready listing m f) e).1)

  -- a pending forest with nothing ready is passed over
  pub rest_skip : (t : Tree) (level : ℕ) (ts : List Task) (d : Forest) (ds : List Forest) (m : List Variable) (j l woken : ℕ) → Rests listing true t →
      ready listing m t ≡ [] →
      rest listing now (tasks level t ts) d ds (running_with m j l woken) ≡ rest listing now ts (d ⊕ erase t) ds
      (running_with m j l woken)
  unfolding ◌>>=◌
  rest_skip t level ts d ds m j l woken r e =
      rw (tasks_quiet m t level ts r e)
      (rest_sees listing now (erase t) level ts d ds _ ∙ rw (quiet listing now m (erase t) j l woken level (quiet_of m t r e)))

  -- between two turns: what stands done at this level, what is to do, the frames above
  unfoldable pub between : List Variable → ℕ → ℕ → ℕ → List Frame → Tree → Tree → Result Turn
  between environment j l woken fs done todo = rest listing now (tasks (length fs) todo (up environment fs)) (erase done) (dones fs)
      (running_with (memory_of environment fs) j l woken)

  tasks-⋈ : (level : ℕ) (t f : Tree) (ts : List Task) → tasks level (t ⋈ f) ts ≡ tasks level t (tasks level f ts)
  unfolding tasks ◌⋈◌
  tasks-⋈ level nil f ts = refl
  tasks-⋈ level (put x k t) f ts = rw (tasks-⋈ level t f ts)

  pub tasks_old : (level : ℕ) (t : Tree) (ts : List Task) → Rests listing false t → tasks level t ts ≡ sees (erase t) level ts
  unfolding tasks sees erase first
  tasks_old level _ ts rests_nil = refl
  tasks_old level _ ts (rests_wait {f = f} b i r) = rw (b, tasks_old level f ts r)
  tasks_old level _ ts (rests_join {f = f} b i q r) = rw (b, tasks_old level f ts r)

  pub pass : (environment : List Variable) (j l woken : ℕ) (fs : List Frame) (done t f : Tree) → ready listing (memory_of environment fs) t ≡ [] →
      Rests listing true t → between environment j l woken fs done (t ⋈ f) ≡ between environment j l woken fs (done ⋈ t) f
  unfolding between
  pass environment j l woken fs done t f e r =
      rw (tasks-⋈ (length fs) t f (up environment fs), erase-⋈ done t)
      (rest_skip t (length fs) (tasks (length fs) f (up environment fs)) (erase done) (dones fs) (memory_of environment fs) j l woken r e)

  -- go down into a parent that sleeps
  pub down : (environment : List Variable) (j l woken : ℕ) (fs : List Frame) (done : Tree) (x : Record) (children f : Tree) → x.is_new ≡ false →
      Rests listing false children →
      between environment j l woken fs done (put x children f) ≡ between environment j l woken (record { self = x; done = done; todo = f } ∷ fs) nil
      children
  unfolding between tasks first up dones memory_of enter erase
  down environment j l woken fs done x children f b r =
      rw (
        b,
        tasks_old (suc (length fs)) children (back (frame_on environment x fs) ∷ tasks
            (length fs) f (up environment fs)) r,
      )
      (rest_visit listing now x.routine x.place x.names x.own (erase children) (length fs) (tasks (length fs) f (up environment fs))
      (erase done) (dones fs) (running_with (memory_of environment fs) j l woken))

  -- go up from children of whom one lives
  pub rise : (environment : List Variable) (j l woken : ℕ) (g : Frame) (fs : List Frame) (y : Record) (k f : Tree) (cs : List Call) →
      instruction_at listing g.self.routine g.self.place ≡ fork cs →
      between environment j l woken (g ∷ fs) (put y k f) nil ≡ between environment j l woken fs (g.done ⋈ put g.self (put y k f) nil) g.todo
  unfolding between tasks first up dones memory_of rest resume join sleep erase ◌>>=◌ outer beyond
  rise environment j l woken g fs y k f cs i = rw (
    i,
    erase-⋈ g.done (put g.self (put y k f) nil),
    take-append_seam (memory_of environment fs) g.self.own,
    drop-append_seam (memory_of environment fs) g.self.own,
  )
