-- The instructions at a place in the whole tree.
-- Letters as in Place and Held.
use mathlib.Core.Path.{◌≡◌, refl, ap, ◌∙◌}
use mathlib.Core.Bool.{Bool, true, false}
use mathlib.Core.List.{List, [], ◌∷◌, ◌++◌}
use mathlib.Core.Option.{none, some}
use Prim.Native.Nat.{ℕ, suc, ◌+◌, ◌-◌}
use lib.Dec.{ltb, eqb, leb}
use lib.ListN.{length, set}
use lib.Seq.{take-append_seam, drop-append_seam}
use Rattle.words.specs.Words.{is_positive}
use Rattle.listing.specs.Listing.{Call, Listing, Piece, assign, branch, end, fork, jump, schedule, wait}
use Rattle.walk.specs.Memory.{address_of, any_written, evaluate, schedule_at, variable_at, write_at}
use Rattle.walk.specs.State.{Variable, ◌>>=◌, stop, written_to, scheduled_on}
use Rattle.walk.specs.Walk.{passed_wait, begin, branch_place, asking, with_value, move, carry_out, child_count, enter, execute, instruction_at, join, leave, resume, run, sleep, step, visit, visit_forest, wake}
use Rattle.engine_rows.specs.Triggers.{awaited}
use Rattle.engine_rows.proofs.Agenda.{Task, back, outer, beyond, news, rest, rest-F, ⊕-none}
use Rattle.engine_rows.proofs.Place.{Record, Tree, nil, put, erase, ◌⋈◌, erase-⋈, Frame, memory_of, first, tasks, up, dones, will_run, between}
use Rattle.engine_rows.proofs.Priority.{new_child, new_children, new_children-erase, later_slots}
use Rattle.engine_rows.proofs.Writing.{set_up, record_with_own, set_from, set_path, memory_set}
use Rattle.engine_rows.proofs.Held.{length_set_path}
unfoldable pub use Rattle.engine_rows.specs.Agenda.{going_on_lem}
use Rattle.engine_rows.specs.Agenda.{frame_on}

unfoldable pub placed : Record → ℕ → Record
placed x place = record {
  slot = x.slot;
  low = x.low;
  child = x.child;
  bits = x.bits;
  is_new = false;
  routine = x.routine;
  place = place;
  names = x.names;
  own = x.own;
}

unfoldable pub focus : Record → Tree → Tree → Frame
focus x d t = record { self = x; done = d; todo = t }

tasks_set : (environment : List Variable) (fs : List Frame) (a : ℕ) (v : Variable) → length (set_up environment fs a v) ≡ length fs
unfolding set_up
tasks_set environment [] a v = refl
tasks_set environment (f ∷ fs) a v = ap suc (tasks_set environment fs a v)

up_set : (environment : List Variable) (fs : List Frame) (a : ℕ) (v : Variable) →
    up (set environment a v) (set_up environment fs a v) ≡ up environment fs
unfolding up set_up record_with_own
up_set environment [] a v = refl
up_set environment (f ∷ fs) a v = rw (tasks_set environment fs a v, length_set_path environment fs a v, up_set environment fs a v)

dones_set : (environment : List Variable) (fs : List Frame) (a : ℕ) (v : Variable) → dones (set_up environment fs a v) ≡ dones fs
unfolding dones set_up
dones_set environment [] a v = refl
dones_set environment (f ∷ fs) a v = rw (dones_set environment fs a v)

new_children-tasks : (listing : Listing) (now : ℕ) (m : List Variable) (ns : List ℕ) (cs : List Call) (ss : List ℕ) (i low b level : ℕ) (ts : List Task) →
    tasks level (new_children listing now m ns cs ss i low b) ts ≡ news (erase (new_children listing now m ns cs ss i low b)) level ts
unfolding tasks first news new_children erase new_child
new_children-tasks listing now m ns [] ss i low b level ts = refl
new_children-tasks listing now m ns (c ∷ cs) ss i low b level ts = rw (new_children-tasks listing now m ns cs (later_slots ss) (suc i) low b level ts)

module _ (listing : Listing) (now : ℕ) where
  pub wakes : (environment : List Variable) (j l woken : ℕ) (fs : List Frame) (done : Tree) (x : Record) (todo : Tree) (ws : List ℕ) →
      x.is_new ≡ false → instruction_at listing x.routine x.place ≡ wait ws → will_run listing (memory_of environment fs) x ≡ true →
      between listing now environment j l woken fs done (put x nil todo) ≡ going_on_lem listing now environment j l (suc woken)
      (focus (placed x (suc x.place)) done todo) fs
  unfolding between going_on_lem tasks first erase rest visit visit_forest resume wake passed_wait ◌>>=◌ enter will_run awaited placed focus
  wakes environment j l woken fs done x todo ws b i w =
      let a : any_written (memory_of environment fs ++ x.own) x.names ws ≡ true = rw (b, i) at w in
      rw (b, i, a)

  pub begins : (environment : List Variable) (j l woken : ℕ) (fs : List Frame) (done : Tree) (x : Record) (todo : Tree) → x.is_new ≡ true →
      between listing now environment j l woken fs done (put x nil todo) ≡ going_on_lem listing now environment j l woken (focus (placed x x.place) done todo) fs
  unfolding between going_on_lem tasks first erase rest begin enter placed focus
  begins environment j l woken fs done x todo b = rw b

  -- ── S, A: a variable on the path ──────────────────────────────────────────────────────────────
  pub move-S : (environment : List Variable) (j l woken : ℕ) (f : Frame) (fs : List Frame) (n : ℕ) (e : List Piece) (given : ℕ) →
      instruction_at listing f.self.routine f.self.place ≡ assign n e →
      evaluate now (memory_of environment (f ∷ fs)) f.self.names e ≡ some given →
      let m = memory_of environment (f ∷ fs) in
      let a = address_of f.self.names n in
      let v = written_to now (variable_at m a) given in
      going_on_lem listing now environment (suc j) l woken f fs ≡ going_on_lem listing now (set environment a v) j l woken
      (focus (placed (record_with_own f.self (set_from (length (memory_of environment fs)) f.self.own a v)) (suc f.self.place))
      f.done f.todo) (set_up environment fs a v)
  unfolding going_on_lem rest run step execute move with_value carry_out placed focus record_with_own memory_of write_at written_to
  move-S environment j l woken f fs n e given i x = rw (
    i,
    x,
    tasks_set environment fs _ _,
    length_set_path environment fs _ _,
    up_set environment fs _ _,
    dones_set environment fs _ _,
    memory_set environment fs _ _,
    set_path (memory_of environment fs) f.self.own (address_of f.self.names n) _,
  )

  pub move-A : (environment : List Variable) (j l woken : ℕ) (f : Frame) (fs : List Frame) (n : ℕ) (d e : List Piece) (k given : ℕ) →
      instruction_at listing f.self.routine f.self.place ≡ schedule n d e →
      evaluate now (memory_of environment (f ∷ fs)) f.self.names d ≡ some k →
      evaluate now (memory_of environment (f ∷ fs)) f.self.names e ≡ some given →
      let m = memory_of environment (f ∷ fs) in
      let a = address_of f.self.names n in
      let v = scheduled_on (variable_at m a) (now + k) given in
      is_positive k ≡ true → ltb (now + k) 18446744073709551616 ≡ true →
      going_on_lem listing now environment (suc j) l woken f fs ≡ going_on_lem listing now (set environment a v) j l woken
      (focus (placed (record_with_own f.self (set_from (length (memory_of environment fs)) f.self.own a v)) (suc f.self.place))
      f.done f.todo) (set_up environment fs a v)
  unfolding going_on_lem rest run step execute move with_value carry_out asking placed focus record_with_own memory_of schedule_at scheduled_on
  move-A environment j l woken f fs n d e k given i x y p q = rw (
    i,
    x,
    y,
    p,
    q,
    tasks_set environment fs _ _,
    length_set_path environment fs _ _,
    up_set environment fs _ _,
    dones_set environment fs _ _,
    memory_set environment fs _ _,
    set_path (memory_of environment fs) f.self.own (address_of f.self.names n) _,
  )

  pub move-U : (environment : List Variable) (j l woken : ℕ) (f : Frame) (fs : List Frame) (e : List Piece) (k given : ℕ) (z : Bool) →
      instruction_at listing f.self.routine f.self.place ≡ branch e k →
      evaluate now (memory_of environment (f ∷ fs)) f.self.names e ≡ some given → eqb given 0 ≡ z →
      going_on_lem listing now environment (suc j) l woken f fs ≡ going_on_lem listing now environment j l woken
      (focus (placed f.self (branch_place z k (suc f.self.place))) f.done f.todo) fs
  unfolding going_on_lem rest run step execute move with_value carry_out placed focus memory_of branch_place
  move-U environment j l woken f fs e k given true i x h = rw (i, x, h)
  move-U environment j l woken f fs e k given false i x h = rw (i, x, h)

  pub move-G : (environment : List Variable) (j l woken : ℕ) (f : Frame) (fs : List Frame) (k : ℕ) →
      instruction_at listing f.self.routine f.self.place ≡ jump k →
      going_on_lem listing now environment (suc j) l woken f fs ≡ going_on_lem listing now environment j l woken (focus (placed f.self k) f.done f.todo) fs
  unfolding going_on_lem rest run step execute move carry_out placed focus
  move-G environment j l woken f fs k i = rw i

  -- the stops: 18 at `S`, at `U`, at `A` by its delay and by its value
  pub stop_18-S : (environment : List Variable) (j l woken : ℕ) (f : Frame) (fs : List Frame) (n : ℕ) (e : List Piece) →
      instruction_at listing f.self.routine f.self.place ≡ assign n e →
      evaluate now (memory_of environment (f ∷ fs)) f.self.names e ≡ none → going_on_lem listing now environment (suc j) l woken f fs ≡ stop 18
  unfolding going_on_lem rest run step execute move with_value carry_out memory_of ◌>>=◌
  stop_18-S environment j l woken f fs n e i x = rw (i, x)

  pub stop_18-U : (environment : List Variable) (j l woken : ℕ) (f : Frame) (fs : List Frame) (e : List Piece) (k : ℕ) →
      instruction_at listing f.self.routine f.self.place ≡ branch e k →
      evaluate now (memory_of environment (f ∷ fs)) f.self.names e ≡ none → going_on_lem listing now environment (suc j) l woken f fs ≡ stop 18
  unfolding going_on_lem rest run step execute move with_value carry_out memory_of ◌>>=◌
  stop_18-U environment j l woken f fs e k i x = rw (i, x)

  module _ (environment : List Variable) (j l woken : ℕ) (f : Frame) (fs : List Frame) (n : ℕ) (d e : List Piece)
      (i : instruction_at listing f.self.routine f.self.place ≡ schedule n d e) where
    pub stop_18_delay : evaluate now (memory_of environment (f ∷ fs)) f.self.names d ≡ none → going_on_lem listing now environment (suc j) l woken f fs ≡ stop 18
    unfolding going_on_lem rest run step execute move with_value carry_out memory_of ◌>>=◌
    stop_18_delay x = rw (i, x)

    module _ (k : ℕ) (x : evaluate now (memory_of environment (f ∷ fs)) f.self.names d ≡ some k) where
      pub stop_18-A : evaluate now (memory_of environment (f ∷ fs)) f.self.names e ≡ none → going_on_lem listing now environment (suc j) l woken f fs ≡ stop 18
      unfolding going_on_lem rest run step execute move with_value carry_out memory_of ◌>>=◌
      stop_18-A y = rw (i, x, y)

      module _ (given : ℕ) (y : evaluate now (memory_of environment (f ∷ fs)) f.self.names e ≡ some given) where
        pub stop_16 : is_positive k ≡ false → going_on_lem listing now environment (suc j) l woken f fs ≡ stop 16
        unfolding going_on_lem rest run step execute move with_value carry_out asking memory_of ◌>>=◌
        stop_16 p = rw (i, x, y, p)

        pub stop_17 : is_positive k ≡ true → ltb (now + k) 18446744073709551616 ≡ false → going_on_lem listing now environment (suc j) l woken f fs ≡ stop 17
        unfolding going_on_lem rest run step execute move with_value carry_out asking memory_of ◌>>=◌
        stop_17 p q = rw (i, x, y, p, q)

  pub stop_14 : (environment : List Variable) (j l woken : ℕ) (f : Frame) (fs : List Frame) (cs : List Call) →
      instruction_at listing f.self.routine f.self.place ≡ fork cs → leb (l + child_count cs) 64 ≡ false →
      going_on_lem listing now environment (suc j) l woken f fs ≡ stop 14
  unfolding going_on_lem rest run step execute move carry_out asking ◌>>=◌
  stop_14 environment j l woken f fs cs i p = rw (i, p)

  pub stop_15 : (environment : List Variable) (j l woken : ℕ) (f : Frame) (fs : List Frame) (cs : List Call) →
      instruction_at listing f.self.routine f.self.place ≡ fork cs → leb (l + child_count cs) 64 ≡ true → leb (length fs) 9 ≡ false →
      going_on_lem listing now environment (suc j) l woken f fs ≡ stop 15
  unfolding going_on_lem rest run step execute move carry_out asking ◌>>=◌
  stop_15 environment j l woken f fs cs i p q = rw (i, p, q)

  -- no step left
  pub move_none : (environment : List Variable) (l woken : ℕ) (f : Frame) (fs : List Frame) → going_on_lem listing now environment 0 l woken f fs ≡ stop 13
  unfolding going_on_lem rest run ◌>>=◌
  move_none environment l woken f fs = refl

  pub move-W : (environment : List Variable) (j l woken : ℕ) (f : Frame) (fs : List Frame) (ws : List ℕ) →
      instruction_at listing f.self.routine f.self.place ≡ wait ws →
      going_on_lem listing now environment (suc j) l woken f fs ≡ between listing now environment j l woken fs
      (f.done ⋈ put (placed f.self f.self.place) nil nil) f.todo
  unfolding going_on_lem between rest run step execute move carry_out sleep ◌>>=◌ placed erase
  move-W environment j l woken f fs ws i =
      rw (
        i,
        erase-⋈ f.done (put (placed f.self f.self.place) nil nil),
        take-append_seam (memory_of environment fs) f.self.own,
        drop-append_seam (memory_of environment fs) f.self.own,
      )

  pub move-E : (environment : List Variable) (j l woken : ℕ) (f : Frame) (fs : List Frame) →
      instruction_at listing f.self.routine f.self.place ≡ end →
      going_on_lem listing now environment (suc j) l woken f fs ≡ between listing now environment j (l - 1) woken fs f.done f.todo
  unfolding going_on_lem between rest run step execute move carry_out leave ◌>>=◌
  move-E environment j l woken f fs i = rw (i, take-append_seam (memory_of environment fs) f.self.own)
      (ap (λ z. rest listing now (tasks (length fs) f.todo (up environment fs)) z (dones fs) (record {
        memory = memory_of environment fs;
        left = j;
        live = l - 1;
        woken = woken;
      })) (⊕-none (erase f.done)))

  -- the last child has ended: the parent goes on at once
  pub joined : (environment : List Variable) (j l woken : ℕ) (g : Frame) (fs : List Frame) (cs : List Call) →
      instruction_at listing g.self.routine g.self.place ≡ fork cs →
      between listing now environment j l woken (g ∷ fs) nil nil ≡ going_on_lem listing now environment j l woken
      (focus (placed g.self (suc g.self.place)) g.done g.todo) fs
  unfolding going_on_lem between rest resume join tasks up dones memory_of erase placed focus outer beyond
  joined environment j l woken g fs cs i = rw i

  pub move-F : (environment : List Variable) (j l woken : ℕ) (f : Frame) (fs : List Frame) (cs : List Call) (ss : List ℕ) (b : ℕ) →
      instruction_at listing f.self.routine f.self.place ≡ fork cs → leb (l + child_count cs) 64 ≡ true → leb (length fs) 9 ≡ true →
      going_on_lem listing now environment (suc j) l woken f fs ≡ between listing now environment j (l + child_count cs) woken (f ∷ fs) nil
      (new_children listing now (memory_of environment (f ∷ fs)) f.self.names cs ss 0 f.self.low b)
  unfolding going_on_lem between up dones memory_of erase
  move-F environment j l woken f fs cs ss b i x y =
      rest-F listing now (length fs) f.self.routine f.self.place f.self.names (length (memory_of environment fs)) cs
      (tasks (length fs) f.todo (up environment fs)) (erase f.done) (dones fs) (memory_of environment fs ++ f.self.own) j l woken i x y ∙
      rw (
        ← new_children-erase listing now (memory_of environment fs ++ f.self.own) f.self.names cs ss 0 f.self.low b,
        new_children-tasks listing now (memory_of environment fs ++ f.self.own) f.self.names cs ss 0 f.self.low b (suc (length fs))
            (back (frame_on environment f.self fs) ∷ tasks (length fs)
            f.todo (up environment fs)),
      )
