-- A write along the path, and whom it wakes: the ready list afterwards is the one before with the later sleepers put in that await the name.
-- Letters as in Place and Held.
use mathlib.Core.Path.{◌≡◌, refl, sym, ap, ◌∙◌}
use mathlib.Core.Bool.{Bool, true, false, ◌||◌, ◌&&◌, not}
use mathlib.Core.List.{List, [], ◌∷◌, ◌++◌}
use Prim.Native.Nat.{ℕ, suc, ◌+◌, ◌*◌, ◌-◌, ◌<◌}
use native.Mathlib.Nat.{zero-add, suc-add}
use native.Mathlib.Decide.{ℕ_discrete, dec_lt}
use native.Mathlib.Omega.{arith}
use lib.Dec.{ltb, eqb}
use lib.ListN.{length, get_or, set, length-append}
use lib.Seq.{get_or-set_same, get_or-set_other, set_out, set-append_left}
use borrow.Author.Tests.{ltb-true, ltb-false, lt-ltb, le-ltb, eq-eqb, ne_eqb}
use Rattle.listing.specs.Listing.{Listing}
use Rattle.walk.specs.Memory.{address_of, any_written, variable_at}
use Rattle.walk.specs.State.{Variable, no_variable}
use Rattle.walk.specs.Walk.{instruction_at}
use Rattle.engine_rows.specs.Triggers.{awaited, cons_if}
use Rattle.engine_rows.proofs.Place.{Record, Tree, nil, put, ◌⋈◌, Frame, plug, memory_of, key, ready, ready_up, will_run}
use Rattle.engine_rows.proofs.Priority.{Rising, Range, range_put, range_join, range_split, parts, around, ready_sorted}
use Rattle.engine_rows.proofs.Sorted.{In, in_left, in_right, in_cases, Either, this, that, insert_keys, all_rising, all_in, all_only, same_members, rising_above}

-- ── a variable set, in the record that owns it ──────────────────────────────────────────────────
unfoldable pub set_if : Bool → List Variable → ℕ → Variable → List Variable
set_if true own i v = own
set_if false own i v = set own i v

unfoldable pub set_from : ℕ → List Variable → ℕ → Variable → List Variable
set_from b own a v = set_if (ltb a b) own (a - b) v

unfoldable pub record_with_own : Record → List Variable → Record
record_with_own x o = record {
  slot = x.slot;
  low = x.low;
  child = x.child;
  bits = x.bits;
  is_new = x.is_new;
  routine = x.routine;
  place = x.place;
  names = x.names;
  own = o;
}

unfoldable pub set_up : List Variable → List Frame → ℕ → Variable → List Frame
set_up environment [] a v = []
set_up environment (f ∷ fs) a v =
    record {
      self = record_with_own f.self (set_from (length (memory_of environment fs)) f.self.own a v);
      done = f.done;
      todo = f.todo;
    } ∷ set_up environment fs a v

set_append_add : (m o : List Variable) (i : ℕ) (v : Variable) → set (m ++ o) (length m + i) v ≡ m ++ set o i v
set_append_add [] o i v = rw (zero-add i)
set_append_add (x ∷ m) o i v = rw (suc-add (length m) i) (ap (λ z. x ∷ z) (set_append_add m o i v))

pub set_path : (m o : List Variable) (a : ℕ) (v : Variable) → set m a v ++ set_from (length m) o a v ≡ set (m ++ o) a v
unfolding set_from set_if
set_path m o a v = go (dec_lt a (length m))
  where
    go : Dec (a < length m) → set m a v ++ set_from (length m) o a v ≡ set (m ++ o) a v
    go (yes h) = rw (lt-ltb a (length m) h) (sym (set-append_left m o a v h))
    go (no h) =
        let e : a ≡ length m + (a - length m) = omega arith in
        rw (le-ltb a (length m) (omega arith), set_out m a v (omega arith)) (sym (ap (λ z. set (m ++ o) z v) e ∙ set_append_add m o (a - length m) v))

-- reading the path after: as the walk's write
pub memory_set : (environment : List Variable) (fs : List Frame) (a : ℕ) (v : Variable) →
    memory_of (set environment a v) (set_up environment fs a v) ≡ set (memory_of environment fs) a v
unfolding memory_of set_up record_with_own
memory_set environment [] a v = refl
memory_set environment (f ∷ fs) a v = rw (memory_set environment fs a v) (set_path (memory_of environment fs) f.self.own a v)

-- ── who awaits address a ────────────────────────────────────────────────────────────────────────
unfoldable pub awaits_address : List ℕ → List ℕ → ℕ → Bool
awaits_address ns [] a = false
awaits_address ns (w ∷ ws) a = eqb (address_of ns w) a || awaits_address ns ws a

or_swap : (p q r s : Bool) → (p || q) || (r || s) ≡ (p || r) || (q || s)
or_swap true q r s = refl
or_swap false true true s = refl
or_swap false true false s = refl
or_swap false false r s = refl

at_set : (m : List Variable) (a x : ℕ) (v : Variable) → a < length m → v.written ≡ true →
    (variable_at (set m a v) x).written ≡ (variable_at m x).written || eqb x a
unfolding variable_at
at_set m a x v h e = go (ℕ_discrete x a)
  where
    or_true : (b : Bool) → b || true ≡ true
    or_true true = refl
    or_true false = refl

    or_no : (b : Bool) → b || false ≡ b
    or_no true = refl
    or_no false = refl

    go : Dec (x ≡ a) → (get_or (set m a v) x no_variable).written ≡ (get_or m x no_variable).written || eqb x a
    go (yes p) = rw (eq-eqb x a p, p, get_or-set_same m a v no_variable h, e) (sym (or_true (get_or m a no_variable).written))
    go (no p) = rw (ne_eqb x a p, get_or-set_other m a x v no_variable p) (sym (or_no (get_or m x no_variable).written))

pub any_written-set : (m : List Variable) (ns ws : List ℕ) (a : ℕ) (v : Variable) → a < length m → v.written ≡ true →
    any_written (set m a v) ns ws ≡ any_written m ns ws || awaits_address ns ws a
unfolding any_written awaits_address
any_written-set m ns [] a v h e = refl
any_written-set m ns (w ∷ ws) a v h e = rw (
  at_set m a (address_of ns w) v h e,
  any_written-set m ns ws a v h e,
) (or_swap (variable_at m (address_of ns w)).written (eqb (address_of ns w) a) (any_written m ns ws)
    (awaits_address ns ws a))

-- r' has the members of r and of s, and no others
pub record Mix (r s r' : List ℕ) : Type 0 where
  pub only : (j : ℕ) → In j r' → Either (In j r) (In j s)
  pub old : (j : ℕ) → In j r → In j r'
  pub added : (j : ℕ) → In j s → In j r'

mix_same : (r : List ℕ) → Mix r [] r
mix_same r = record { only = λ j i. this i; old = λ j i. i; added = λ j i. elim i [ ] }

mix_app : (r s r' p q p' : List ℕ) → Mix r s r' → Mix p q p' → Mix (r ++ p) (s ++ q) (r' ++ p')
mix_app r s r' p q p' f g =
    record { only = λ j i. cases j (in_cases r' p' i); old = λ j i. olds j (in_cases r p i); added = λ j i. news j (in_cases s q i) }
  where
    first : (j : ℕ) → Either (In j r) (In j s) → Either (In j (r ++ p)) (In j (s ++ q))
    first j (this i) = this (in_left r p i)
    first j (that i) = that (in_left s q i)

    second : (j : ℕ) → Either (In j p) (In j q) → Either (In j (r ++ p)) (In j (s ++ q))
    second j (this i) = this (in_right r p i)
    second j (that i) = that (in_right s q i)

    cases : (j : ℕ) → Either (In j r') (In j p') → Either (In j (r ++ p)) (In j (s ++ q))
    cases j (this i) = first j (f.only j i)
    cases j (that i) = second j (g.only j i)

    olds : (j : ℕ) → Either (In j r) (In j p) → In j (r' ++ p')
    olds j (this i) = in_left r' p' (f.old j i)
    olds j (that i) = in_right r' p' (g.old j i)

    news : (j : ℕ) → Either (In j s) (In j q) → In j (r' ++ p')
    news j (this i) = in_left r' p' (f.added j i)
    news j (that i) = in_right r' p' (g.added j i)

mix_one : (w u : Bool) (k : ℕ) → Mix (cons_if w k []) (cons_if u k []) (cons_if (w || u) k [])
unfolding cons_if
mix_one true true k = record { only = λ j i. this i; old = λ j i. i; added = λ j i. i }
mix_one true false k = mix_same (k ∷ [])
mix_one false true k = record { only = λ j i. that i; old = λ j i. elim i [ ]; added = λ j i. i }
mix_one false false k = mix_same []

cons_if-append : (w : Bool) (k : ℕ) (l : List ℕ) → cons_if w k l ≡ cons_if w k [] ++ l
unfolding cons_if
cons_if-append true k l = refl
cons_if-append false k l = refl

mix_pick : (w u : Bool) (k : ℕ) (r s r' : List ℕ) → Mix r s r' → Mix (cons_if w k r) (cons_if u k s) (cons_if (w || u) k r')
mix_pick w u k r s r' f = rw (
  cons_if-append w k r,
  cons_if-append u k s,
  cons_if-append (w || u) k r',
) (mix_app (cons_if w k []) (cons_if u k []) (cons_if (w || u) k []) r s r' (mix_one w u k) f)

module _ (listing : Listing) where
  unfoldable pub awaits_it : ℕ → Record → Bool
  awaits_it a x = not x.is_new && awaits_address x.names (awaited (instruction_at listing x.routine x.place)) a

  will_run-set : (m : List Variable) (x : Record) (a : ℕ) (v : Variable) → a < length m → v.written ≡ true →
      will_run listing (set m a v) x ≡ will_run listing m x || awaits_it a x
  unfolding will_run awaits_it
  will_run-set m x a v h e =
      rw (
        ← set-append_left m x.own a v h,
        any_written-set (m ++ x.own) x.names (awaited (instruction_at listing x.routine x.place)) a v
            (simp length-append (omega arith)) e,
      )
      (go x.is_new (any_written (m ++ x.own) x.names (awaited (instruction_at listing x.routine x.place)))
      (awaits_address x.names (awaited (instruction_at listing x.routine x.place)) a))
    where
      go : (p q r : Bool) → p || (q || r) ≡ (p || q) || (not p && r)
      go true q r = refl
      go false q r = refl

  -- the keys of those that await address a, in walking order
  unfoldable pub woken_by : ℕ → Tree → List ℕ
  woken_by a nil = []
  woken_by a (put x nil f) = cons_if (awaits_it a x) (key x) (woken_by a f)
  woken_by a (put x (put y k g) f) = woken_by a (put y k g) ++ woken_by a f

  pub ready_set : (m : List Variable) (t : Tree) (a : ℕ) (v : Variable) → a < length m → v.written ≡ true →
      Mix (ready listing m t) (woken_by a t) (ready listing (set m a v) t)
  unfolding ready woken_by
  ready_set m nil a v h e = mix_same []
  ready_set m (put x nil f) a v h e =
      rw (will_run-set m x a v h e) (mix_pick (will_run listing m x) (awaits_it a x) (key x) (ready listing m f) (woken_by a f)
      (ready listing (set m a v) f) (ready_set m f a v h e))
  ready_set m (put x (put y k g) f) a v h e =
      rw (← set-append_left m x.own a v h)
      (mix_app (ready listing (m ++ x.own) (put y k g)) (woken_by a (put y k g)) (ready listing (set (m ++ x.own) a v) (put y k g))
      (ready listing m f) (woken_by a f) (ready listing (set m a v) f)
      (ready_set (m ++ x.own) (put y k g) a v (simp length-append (omega arith)) e) (ready_set m f a v h e))

  -- the pending forest below memory of length b: address a is in reach of both only if it is below b
  unfoldable pub woken_if : Bool → ℕ → Tree → List ℕ
  woken_if true a t = woken_by a t
  woken_if false a t = []

  unfoldable pub woken_up : List Variable → List Frame → ℕ → List ℕ
  woken_up environment [] a = []
  woken_up environment (f ∷ fs) a = woken_if (ltb a (length (memory_of environment fs))) a f.todo ++ woken_up environment fs a

  ready_set' : (m : List Variable) (t : Tree) (a : ℕ) (v : Variable) → v.written ≡ true →
      Mix (ready listing m t) (woken_if (ltb a (length m)) a t) (ready listing (set m a v) t)
  unfolding woken_if
  ready_set' m t a v e = go (ltb a (length m)) refl
    where
      go : (b : Bool) → ltb a (length m) ≡ b → Mix (ready listing m t) (woken_if b a t) (ready listing (set m a v) t)
      go true h = ready_set m t a v (ltb-true a (length m) h) e
      go false h = rw (set_out m a v (ltb-false a (length m) h)) (mix_same (ready listing m t))

  ready_up-set : (environment : List Variable) (fs : List Frame) (a : ℕ) (v : Variable) → v.written ≡ true →
      Mix (ready_up listing environment fs) (woken_up environment fs a) (ready_up listing (set environment a v) (set_up environment fs a v))
  unfolding ready_up woken_up set_up
  ready_up-set environment [] a v e = mix_same []
  ready_up-set environment (f ∷ fs) a v e =
      rw (memory_set environment fs a v)
      (mix_app (ready listing (memory_of environment fs) f.todo) (woken_if (ltb a (length (memory_of environment fs))) a f.todo)
      (ready listing (set (memory_of environment fs) a v) f.todo) (ready_up listing environment fs) (woken_up environment fs a)
      (ready_up listing (set environment a v) (set_up environment fs a v))
      (ready_set' (memory_of environment fs) f.todo a v e) (ready_up-set environment fs a v e))

  -- ranges do not look at values
  pub range_set : (environment : List Variable) (lo hi : ℕ) (fs : List Frame) (t : Tree) (a : ℕ) (v : Variable) → Range lo hi (plug fs t) →
      Range lo hi (plug (set_up environment fs a v) t)
  unfolding plug set_up record_with_own
  range_set environment lo hi [] t a v r = r
  range_set environment lo hi (f ∷ fs) t a v r =
      let o = around listing environment lo hi fs (f.done ⋈ put f.self t f.todo) r in
      let s = range_split f.done (put f.self t f.todo) o.inside in
      let q = parts s.right in
      range_set environment lo hi fs _ a v (o.again _ (range_join s.left
      (range_put q.lowest q.wider q.slots q.children q.siblings)))

  -- after a write: any list with the members of the later sleepers that await it, put in one by one
  pub written_ready : (environment : List Variable) (lo hi : ℕ) (fs : List Frame) (done : Tree) (x : Record) (todo : Tree) (a : ℕ) (v : Variable)
      (ws : List ℕ) →
      Range lo hi (plug fs (done ⋈ put x nil todo)) → v.written ≡ true →
      ((k : ℕ) → In k ws → In k (woken_if (ltb a (length (memory_of environment fs))) a todo ++ woken_up environment fs a)) →
      ((k : ℕ) → In k (woken_if (ltb a (length (memory_of environment fs))) a todo ++ woken_up environment fs a) → In k ws) →
      insert_keys ws (ready listing (memory_of environment fs) todo ++ ready_up listing environment fs) ≡ ready listing
      (memory_of (set environment a v) (set_up environment fs a v)) todo ++ ready_up listing (set environment a v) (set_up environment fs a v)
  written_ready environment lo hi fs done x todo a v ws r e f g =
      same_members (all_rising ws R before (λ k i. rising_above after (mixed.added k (f k i)))) after
      (λ k i. into k (all_only ws R i)) (λ k i. all_in ws R (outof k (mixed.only k i)))
    where
      R : List ℕ
      R = ready listing (memory_of environment fs) todo ++ ready_up listing environment fs

      R' : List ℕ
      R' = ready listing (memory_of (set environment a v) (set_up environment fs a v)) todo ++ ready_up listing (set environment a v)
          (set_up environment fs a v)

      W : List ℕ
      W = woken_if (ltb a (length (memory_of environment fs))) a todo ++ woken_up environment fs a

      before : Rising (suc (key x)) (hi * 64) R
      before = ready_sorted listing environment lo hi fs done x nil todo r

      after : Rising (suc (key x)) (hi * 64) R'
      after = ready_sorted listing (set environment a v) lo hi (set_up environment fs a v) done x nil todo
          (range_set environment lo hi fs (done ⋈ put x nil todo) a v r)

      mixed : Mix R W R'
      mixed =
          rw (memory_set environment fs a v)
          (mix_app (ready listing (memory_of environment fs) todo) (woken_if (ltb a (length (memory_of environment fs))) a todo)
          (ready listing (set (memory_of environment fs) a v) todo) (ready_up listing environment fs) (woken_up environment fs a)
          (ready_up listing (set environment a v) (set_up environment fs a v))
          (ready_set' (memory_of environment fs) todo a v e) (ready_up-set environment fs a v e))

      into : (k : ℕ) → Either (In k ws) (In k R) → In k R'
      into k (this i) = mixed.added k (f k i)
      into k (that i) = mixed.old k i

      outof : (k : ℕ) → Either (In k R) (In k W) → Either (In k ws) (In k R)
      outof k (this i) = that i
      outof k (that i) = this (g k i)
