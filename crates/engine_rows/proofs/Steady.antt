-- What never changes of a routine: it is what its parent's child field made, its names lead into the path's memory,
-- its priorities are those of its number among its parent's children.
-- Letters: u what children see of their parent, c the first own address; the others as in Place and Held.
use mathlib.Core.Path.{◌≡◌, refl, sym, ap, ◌∙◌}
use mathlib.Core.Bool.{Bool, true, false}
use mathlib.Core.List.{List, [], ◌∷◌}
use Prim.Native.Nat.{ℕ, zero, suc, ◌+◌, ◌*◌, ◌-◌, ◌≤◌, ◌<◌}
use native.Mathlib.Nat.{le_refl}
use native.Mathlib.Omega.{arith}
use lib.Dec.{ltb}
use lib.ListN.{length, get_or, set, drop, length-append, length-set}
use Rattle.listing.specs.Listing.{Listing, Kind, by_reference, by_value, Call, fork}
use Rattle.walk.specs.State.{Variable}
use Rattle.walk.specs.Memory.{address_of, addresses_of, bind_names, own_variables, consecutive, top, named_in}
use Rattle.walk.specs.Walk.{routine_at, instruction_at, child_count}
use Rattle.walk.specs.Question7.{owned_count, owned_by, bound_names}
use Rattle.engine_rows.specs.Records.{calls_of, no_call_lem}
use Rattle.engine_rows.proofs.Place.{Record, Tree, nil, put, ◌⋈◌, Frame, plug, memory_of}
use Rattle.engine_rows.proofs.Priority.{new_child, new_children, later_slots}
use Rattle.engine_rows.proofs.Writing.{set_if, set_up, record_with_own, set_from}
use Rattle.engine_rows.proofs.Moves.{placed, focus}
use Rattle.engine_rows.proofs.Children.{Passed, passed_nil, passed_put}
pub use Rattle.engine_rows.specs.Steady.{CallsFit, calls_nil, calls_put, TableFits, Above, SteadyRecord, Steady, steady_nil, steady_put, SteadyTree}
unfoldable pub use Rattle.engine_rows.specs.Steady.{name_count, above_main, above_of}
use Rattle.engine_fork_bits.specs.ForkBits.{fork_bits}
use Rattle.walk_laws.proofs.AtRest.{length_own}

-- ── what children see of their parent ───────────────────────────────────────────────────────────
pub above_at : (listing : Listing) (x : Record) (cs : List Call) → instruction_at listing x.routine x.place ≡ fork cs →
    above_of listing x ≡ record { calls = cs; names = x.names; low = x.low; bits = x.bits - fork_bits (child_count cs) }
unfolding above_of calls_of
above_at listing x cs i = rw i

unfoldable pub above_up : Listing → List Frame → Above
above_up listing [] = above_main listing
above_up listing (f ∷ fs) = above_of listing f.self

module _ (listing : Listing) where
  pub record SteadyNode (u : Above) (level c : ℕ) (x : Record) (k f : Tree) : Type 0 where
    pub itself : SteadyRecord listing u level c x
    pub children : Steady listing (above_of listing x) (suc level) (c + length x.own) k
    pub siblings : Steady listing u level c f

  pub steady_node : {u : Above} {level c : ℕ} {x : Record} {k f : Tree} → Steady listing u level c (put x k f) → SteadyNode u level c x k f
  steady_node (steady_put a b d) = record { itself = a; children = b; siblings = d }

  pub steady_join : {u : Above} {level c : ℕ} {t f : Tree} → Steady listing u level c t → Steady listing u level c f →
      Steady listing u level c (t ⋈ f)
  unfolding ◌⋈◌
  steady_join steady_nil s = s
  steady_join (steady_put a b d) s = steady_put a b (steady_join d s)

  pub steady_left : {u : Above} {level c : ℕ} (t f : Tree) → Steady listing u level c (t ⋈ f) → Steady listing u level c t
  unfolding ◌⋈◌
  steady_left nil f s = steady_nil
  steady_left (put x k t) f (steady_put a b d) = steady_put a b (steady_left t f d)

  pub steady_right : {u : Above} {level c : ℕ} (t f : Tree) → Steady listing u level c (t ⋈ f) → Steady listing u level c f
  unfolding ◌⋈◌
  steady_right nil f s = s
  steady_right (put x k t) f (steady_put a b d) = steady_right t f d

  pub record SteadyHole (environment : List Variable) (fs : List Frame) (t : Tree) : Type 0 where
    pub inside : Steady listing (above_up listing fs) (length fs) (length (memory_of environment fs)) t
    pub again : (t' : Tree) → Steady listing (above_up listing fs) (length fs) (length (memory_of environment fs)) t' →
        SteadyTree listing environment (plug fs t')

  pub steady_hole : (environment : List Variable) (fs : List Frame) (t : Tree) → SteadyTree listing environment (plug fs t) → SteadyHole environment fs t
  unfolding plug memory_of above_up
  steady_hole environment [] t s = record { inside = s; again = λ t' s'. s' }
  steady_hole environment (f ∷ fs) t s =
      let o = steady_hole environment fs (f.done ⋈ put f.self t f.todo) s in
      let q = steady_node (steady_right f.done (put f.self t f.todo) o.inside) in
      record {
        inside = rw (length-append (memory_of environment fs) f.self.own) q.children;
        again = λ t' s'. o.again (f.done ⋈ put f.self t' f.todo) (steady_join (steady_left f.done (put f.self t f.todo) o.inside)
            (steady_put q.itself (rw (length-append (memory_of environment fs) f.self.own) at s') q.siblings));
      }

  -- the routine that runs
  pub steady_record : (environment : List Variable) (f : Frame) (fs : List Frame) (t : Tree) → SteadyTree listing environment (plug (f ∷ fs) t) →
      SteadyRecord listing (above_up listing fs) (length fs) (length (memory_of environment fs)) f.self
  unfolding plug
  steady_record environment f fs t s = (steady_node (steady_right f.done (put f.self t f.todo)
      (steady_hole environment fs (f.done ⋈ put f.self t f.todo) s).inside)).itself

  -- another record with the same fixed parts
  pub steady_head : (environment : List Variable) (f : Frame) (fs : List Frame) (t t' : Tree) (x : Record) →
      SteadyTree listing environment (plug (f ∷ fs) t) → SteadyRecord listing (above_up listing fs) (length fs) (length (memory_of environment fs)) x →
      Steady listing (above_of listing x) (suc (length fs)) (length (memory_of environment fs) + length x.own) t' →
      SteadyTree listing environment (plug (focus x f.done f.todo ∷ fs) t')
  unfolding plug focus
  steady_head environment f fs t t' x s a b =
      let o = steady_hole environment fs (f.done ⋈ put f.self t f.todo) s in
      let q = steady_node (steady_right f.done (put f.self t f.todo) o.inside) in
      o.again _ (steady_join (steady_left f.done (put f.self t f.todo) o.inside) (steady_put a b q.siblings))

  pub steady_placed : (u : Above) (level c place : ℕ) (x : Record) → SteadyRecord listing u level c x →
      SteadyRecord listing u level c (placed x place)
  unfolding placed
  steady_placed u level c place x a =
      record {
        numbered = a.numbered;
        called = a.called;
        bound = a.bound;
        owned = a.owned;
        lowest = a.lowest;
        divided = a.divided;
        deep = a.deep;
        many = a.many;
        near = a.near;
        short = a.short;
        high = a.high;
      }

  length_from : (b : ℕ) (o : List Variable) (a : ℕ) (v : Variable) → length (set_from b o a v) ≡ length o
  unfolding set_from set_if
  length_from b o a v = go (ltb a b)
    where
      go : (w : Bool) → length (set_if w o (a - b) v) ≡ length o
      go true = refl
      go false = length-set o (a - b) v

  pub steady_own : (u : Above) (level c : ℕ) (x : Record) (o : List Variable) → length o ≡ length x.own → SteadyRecord listing u level c x →
      SteadyRecord listing u level c (record_with_own x o)
  unfolding record_with_own
  steady_own u level c x o e a =
      record {
        numbered = a.numbered;
        called = a.called;
        bound = a.bound;
        owned = e ∙ a.owned;
        lowest = a.lowest;
        divided = a.divided;
        deep = a.deep;
        many = a.many;
        near = λ n h. rw e (a.near n h);
        short = rw e a.short;
        high = a.high;
      }

  above_own : (x : Record) (o : List Variable) → above_of listing x ≡ above_of listing (record_with_own x o)
  unfolding above_of record_with_own
  above_own x o = refl

  own_own : (x : Record) (o : List Variable) → (record_with_own x o).own ≡ o
  unfolding record_with_own
  own_own x o = refl

  pub steady_set : (environment : List Variable) (fs : List Frame) (t : Tree) (a : ℕ) (v : Variable) → SteadyTree listing environment (plug fs t) →
      SteadyTree listing (set environment a v) (plug (set_up environment fs a v) t)
  unfolding plug set_up above_of memory_of
  steady_set environment [] t a v s = rw (length-set environment a v) s
  steady_set environment (f ∷ fs) t a v s =
      let own = set_from (length (memory_of environment fs)) f.self.own a v in
      let x = record_with_own f.self own in
      let e : length own ≡ length f.self.own = length_from (length (memory_of environment fs)) f.self.own a v in
      let o = steady_hole environment fs (f.done ⋈ put f.self t f.todo) s in
      let q = steady_node (steady_right f.done (put f.self t f.todo) o.inside) in
      steady_set environment fs (f.done ⋈ put x t f.todo) a v
      (o.again (f.done ⋈ put x t f.todo) (steady_join (steady_left f.done (put f.self t f.todo) o.inside)
      (steady_put (steady_own (above_up listing fs) (length fs) (length (memory_of environment fs)) f.self own e q.itself)
      (rw (own_own f.self own, ← above_own f.self own, e) q.children) q.siblings)))

  -- ── new routines ──────────────────────────────────────────────────────────────────────────────
  pub count_length : (k b : ℕ) → length (consecutive k b) ≡ k
  unfolding consecutive
  count_length zero b = refl
  count_length (suc k) b = ap suc (count_length k (suc b))

  pub count_near : (k b n : ℕ) → n < k → address_of (consecutive k b) n < b + k
  unfolding consecutive address_of
  count_near zero b n h = absurd (omega arith)
  count_near (suc k) b zero h = omega arith
  count_near (suc k) b (suc n) h = let d : address_of (consecutive k (suc b)) n < suc b + k = count_near k (suc b) n (omega arith) in omega arith

  pub names_length : {n : ℕ} {ks : List Kind} {xs : List ℕ} (ns : List ℕ) (loc b : ℕ) → Passed n ks xs →
      length (bind_names ks (addresses_of ns xs) loc b) ≡ length ks + loc
  unfolding bind_names addresses_of
  names_length ns loc b passed_nil = count_length loc b ∙ omega arith
  names_length ns loc b (passed_put {k = by_reference} h p) = let d = names_length ns loc b p in omega arith
  names_length ns loc b (passed_put {k = by_value} h p) = let d = names_length ns loc (suc b) p in omega arith

  pub owned_few : (ks : List Kind) (loc : ℕ) → owned_count ks loc ≤ length ks + loc
  unfolding owned_count
  owned_few [] loc = omega arith
  owned_few (by_reference ∷ ks) loc = let d = owned_few ks loc in omega arith
  owned_few (by_value ∷ ks) loc = let d = owned_few ks loc in omega arith

  pub names_near : (ns : List ℕ) {ks : List Kind} {xs : List ℕ} (loc b : ℕ) → ((x : ℕ) → x < length ns → address_of ns x < b) → (b' : ℕ) → b ≤ b' →
      Passed (length ns) ks xs → (n : ℕ) → n < length (bind_names ks (addresses_of ns xs) loc b') →
      address_of (bind_names ks (addresses_of ns xs) loc b') n < b' + owned_count ks loc
  unfolding bind_names addresses_of address_of owned_count
  names_near ns loc b near b' l passed_nil n h =
      let d : address_of (consecutive loc b') n < b' + loc = count_near loc b' n (omega (arith, count_length loc b')) in d
  names_near ns loc b near b' l (passed_put {k = by_reference} {x = x} q p) zero h = let d : address_of ns x < b = near x q in omega (arith, d)
  names_near ns loc b near b' l (passed_put {k = by_reference} q p) (suc n) h = names_near ns loc b near b' l p n (omega arith)
  names_near ns loc b near b' l (passed_put {k = by_value} q p) zero h = omega arith
  names_near ns loc b near b' l (passed_put {k = by_value} q p) (suc n) h = let d = names_near ns loc b near (suc b') (omega arith) p n
      (omega arith) in omega (arith, d)

  -- what stands from the i-th child field on
  pub record FromField (i : ℕ) (all : List Call) (c : Call) (cs : List Call) : Type 0 where
    pub field : get_or all i no_call_lem ≡ c
    pub later : drop (suc i) all ≡ cs
    pub there : i < child_count all

  pub from_field : (i : ℕ) (all : List Call) (c : Call) (cs : List Call) → drop i all ≡ c ∷ cs → FromField i all c cs
  unfolding child_count
  from_field zero [] c cs e = let z : ◌≡◌ {A = ℕ} 0 1 = cc in absurd (omega arith)
  from_field zero (a ∷ all) c cs e = record { field = cc; later = cc; there = omega arith }
  from_field (suc i) [] c cs e = let z : ◌≡◌ {A = ℕ} 0 1 = cc in absurd (omega arith)
  from_field (suc i) (a ∷ all) c cs e = let d = from_field i all c cs e in record {
    field = d.field;
    later = d.later;
    there = omega (arith, d.there);
  }

  module _ (T : TableFits listing) (now : ℕ) (u : Above) (m : List Variable) (level : ℕ) (deep : 32 ≤ u.bits + 3 * level) (near : (n : ℕ) →
      n < length u.names → address_of u.names n < length m) (short : length m + 16 ≤ 16 * (level + 2)) (high : level ≤ 10) where
    pub steady_child : (c : Call) (i s : ℕ) → get_or u.calls i no_call_lem ≡ c → i < child_count u.calls →
        Passed (length u.names) (routine_at listing c.callee).kinds c.arguments →
        SteadyRecord listing u level (length m) (new_child listing now m u.names c i s u.low u.bits)
    unfolding new_child name_count bound_names owned_by
    steady_child c i s e h g =
        let q = routine_at listing c.callee in
        let ol : length (own_variables now q.kinds c.arguments q.locals (named_in m u.names)) ≡ owned_count q.kinds q.locals =
        length_own now q.kinds c.arguments q.locals (named_in m u.names) in
        let of : owned_count q.kinds q.locals ≤ length q.kinds + q.locals = owned_few q.kinds q.locals in
        let fw : length q.kinds + q.locals ≤ 16 = T.few c.callee in
        record {
          numbered = h;
          called = ap (λ z. z.callee) (sym e);
          bound = ap (bound_names listing (length m) u.names) (sym e);
          owned = ol;
          lowest = refl;
          divided = refl;
          deep = deep;
          many = names_length u.names q.locals (length m) g;
          near = λ n l. rw ol (names_near u.names q.locals (length m) near (length m) (le_refl _) g n l);
          short = omega arith;
          high = high;
        }

    pub steady_children : (cs : List Call) (ss : List ℕ) (i : ℕ) → drop i u.calls ≡ cs → CallsFit listing (length u.names) cs →
        Steady listing u level (length m) (new_children listing now m u.names cs ss i u.low u.bits)
    unfolding new_children
    steady_children _ ss i e calls_nil = steady_nil
    steady_children _ ss i e (calls_put {c = c} {cs = cs} g r) =
        let d = from_field i u.calls c cs e in
        steady_put (steady_child c i (top ss) d.field d.there g) steady_nil (steady_children cs (later_slots ss) (suc i) d.later r)
