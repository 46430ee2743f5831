-- What holds of each live routine's row in rows that hold a state of the walk: its names are bound, its range has room, it hangs under its parent.
-- Letters: σ rows, s a slot, p a path, c a first own address, u what children see of their parent; the others as in scheduler's Place and Held.
use mathlib.Core.Path.{◌≡◌, refl, sym, ap, subst, ◌∙◌}
use mathlib.Core.Bool.{Bool, true, false}
use mathlib.Core.List.{List, [], ◌∷◌, ◌++◌}
use Prim.Native.Nat.{ℕ, suc, ◌+◌, ◌*◌, ◌-◌, ◌^◌, ◌≤◌, ◌<◌}
use native.Mathlib.Omega.{arith}
use lib.Dec.{ltb}
use lib.ListN.{length, length-append}
use borrow.Author.Tests.{ltb-true, ltb-false}
use Rattle.listing.specs.Listing.{Listing}
use Rattle.walk.specs.State.{Variable, State, live_in_forest}
use Rattle.walk.specs.Memory.{address_of}
use Rattle.walk.specs.Walk.{child_count}
use Rattle.walk.specs.Question7.{IsState}
use Rattle.engine_rows.specs.Rows.{Owner, in_slot, Row, Rows}
use Rattle.engine_rows.specs.Records.{calls_at}
use Rattle.engine_rows.proofs.Place.{Record, width, Tree, nil, put}
use Rattle.engine_rows.proofs.Priority.{Range, range_le, parts}
use Rattle.engine_rows.proofs.Sorted.{In, here, there, in_cases, Either, this, that}
use Rattle.engine_rows.proofs.Held.{Entry, pick_owner, owner_at, owners_at, parent_slot, root_count, row_for, Held, held_nil, held_put}
use Rattle.engine_rows.proofs.Kept.{slots_of}
use Rattle.engine_rows.proofs.Steady.{Above, above_main, above_of, SteadyRecord, Steady, steady_put}
use Rattle.engine_rows.proofs.Reading.{bound_owner}
use Rattle.engine_rows.proofs.Bounds.{length_owners}
use Rattle.engine_rows.proofs.Folding.{slots_live}
use Rattle.engine_rows.proofs.Holds.{Holds}
use Rattle.engine_variables.specs.Bindings.{variables_beside}
use Rattle.engine_evaluate.specs.Bound.{number_of, Bound}

-- Where a live routine hangs: main under the environment, any other under a live routine that is at an `F` with such a child field.
pub data Hangs (listing : Listing) (σ : Rows) (s : ℕ) : Type 0 where
  at_top : (σ s).level ≡ 0 → (σ s).child ≡ 0 → Hangs listing σ s
  under : (q : ℕ) → q < 64 → (σ s).parent ≡ q → (σ q).used ≡ true → (σ s).level ≡ suc (σ q).level →
      (σ s).child < child_count (calls_at listing (σ q)) → Hangs listing σ s

pub record Sits (listing : Listing) (σ : Rows) (environment : List Variable) (s : ℕ) : Type 0 where
  pub slot : s < 64
  pub bound : Bound (record { rows = σ; environment = environment }) (σ s).bindings
  pub base : (σ s).base + length (σ s).own ≤ 16 * ((σ s).level + 2)
  pub bits : 32 ≤ (σ s).bits + 3 * (σ s).level
  pub range : (σ s).low + 2 ^ (σ s).bits ≤ 4294967296
  pub children : (σ s).children < 64
  pub hangs : Hangs listing σ s

-- ── along a path ──────────────────────────────────────────────────────────────────────────────────
module _ (listing : Listing) (σ : Rows) (environment : List Variable) where
  -- the variables at the addresses below c are there
  pub record PathThere (p : List Entry) (c : ℕ) : Type 0 where
    pub there : (a : ℕ) → a < c → number_of (owner_at p a) < length (variables_beside (record { rows = σ; environment = environment }) (owner_at p a))

  path_top : PathThere [] (length environment)
  unfolding number_of variables_beside owner_at
  path_top = record { there = λ a h. h }

  path_under : (p : List Entry) (c s : ℕ) (own : List Variable) → (σ s).own ≡ own → PathThere p c →
      PathThere (record { slot = s; base = c } ∷ p) (c + length own)
  unfolding number_of variables_beside owner_at pick_owner
  path_under p c s own e P = record { there = λ a h. go a h (ltb a c) refl }
    where
      go : (a : ℕ) → a < c + length own → (b : Bool) → ltb a c ≡ b →
          number_of (pick_owner b (owner_at p a) (in_slot s (a - c))) <
          length (variables_beside (record { rows = σ; environment = environment }) (pick_owner b (owner_at p a) (in_slot s (a - c))))
      go a h true q = P.there a (ltb-true a c q)
      go a h false q = let l : c ≤ a = ltb-false a c q in rw e (omega arith)

  path_bound : (p : List Entry) (c : ℕ) (names : List ℕ) → PathThere p c → ((n : ℕ) → n < length names → address_of names n < c) →
      Bound (record { rows = σ; environment = environment }) (owners_at p names)
  path_bound p c names P near = record {
    there = λ n h.
        let l : n < length names = rw (length_owners p names) at h in
        rw (bound_owner p names n l) (P.there (address_of names n) (near n l));
  }

  -- what children see of their parent is its row
  pub data AboveIs : Above → List Entry → Type 0 where
    above_top : AboveIs (above_main listing) []
    above_row : {u : Above} {e : Entry} {p : List Entry} → e.slot < 64 → (σ e.slot).used ≡ true → (σ e.slot).level ≡ length p →
        u.calls ≡ calls_at listing (σ e.slot) → AboveIs u (e ∷ p)

  calls_same : (z : Bool) (p : List Entry) (b n : ℕ) (x : Record) → (above_of listing x).calls ≡ calls_at listing (row_for z p b n x)
  unfolding calls_at row_for above_of
  calls_same z p b n x = refl

  above_next : (z : Bool) {p : List Entry} {b : ℕ} (n : ℕ) (x : Record) → x.slot < 64 → σ x.slot ≡ row_for z p b n x →
      AboveIs (above_of listing x) (record { slot = x.slot; base = b } ∷ p)
  unfolding row_for
  above_next z {p} {b} n x small e = above_row small (ap (λ (r : Row). r.used) e) (ap (λ (r : Row). r.level) e)
      (calls_same z p b n x ∙ ap (calls_at listing) (sym e))

  hangs_from : {u : Above} {p : List Entry} (z : Bool) {c : ℕ} (n : ℕ) (x : Record) → AboveIs u p → SteadyRecord listing u (length p) c x →
      σ x.slot ≡ row_for z p c n x → Hangs listing σ x.slot
  unfolding row_for above_main child_count parent_slot
  hangs_from z n x above_top st e =
      at_top (ap (λ (r : Row). r.level) e) (ap (λ (r : Row). r.child) e ∙ (let h : x.child < 1 = st.numbered in omega arith))
  hangs_from z n x (above_row {e = y} {p = p} small used level calls) st e =
      under y.slot small (ap (λ (r : Row). r.parent) e) used (ap (λ (r : Row). r.level) e ∙ ap suc (sym level))
      (subst (λ i. i < child_count (calls_at listing (σ y.slot))) (sym (ap (λ (r : Row). r.child) e)) (subst (λ cs. x.child < child_count cs) calls st.numbered))

  own_is : (z : Bool) (p : List Entry) (c n : ℕ) (x : Record) → σ x.slot ≡ row_for z p c n x → (σ x.slot).own ≡ x.own
  unfolding row_for
  own_is z p c n x e = ap (λ (y : Row). y.own) e

  roots_few : (t : Tree) → root_count t ≤ length (slots_of t)
  unfolding root_count slots_of
  roots_few nil = omega arith
  roots_few (put x k f) = let d = roots_few f in let l = length-append (slots_of k) (slots_of f) in omega arith

  one_sits : {u : Above} {p : List Entry} (z : Bool) {c lo hi : ℕ} (x : Record) (k f : Tree) → AboveIs u p → SteadyRecord listing u (length p) c x →
      PathThere p c → Range lo hi (put x k f) → hi ≤ 4294967296 → length (slots_of (put x k f)) ≤ 64 →
      σ x.slot ≡ row_for z p c (root_count k) x → Sits listing σ environment x.slot
  unfolding row_for slots_of
  one_sits {p = p} z {c = c} x k f U st P r high few e =
      let q = parts r in
      let top = range_le q.siblings in
      let roots = roots_few k in
      let l = length-append (slots_of k) (slots_of f) in
      let own : (σ x.slot).own ≡ x.own = ap (λ (y : Row). y.own) e in
      record {
        slot = q.slots;
        bound = subst (λ (b : List Owner). Bound (record { rows = σ; environment = environment }) b) (sym (ap (λ (y : Row). y.bindings) e))
            (path_bound (record { slot = x.slot; base = c } ∷ p) (c + length x.own) x.names (path_under p c x.slot x.own own P) st.near);
        base = subst (λ (y : Row). y.base + length y.own ≤ 16 * (y.level + 2)) (sym e) st.short;
        bits = subst (λ (y : Row). 32 ≤ y.bits + 3 * y.level) (sym e) st.deep;
        range = subst (λ (y : Row). y.low + 2 ^ y.bits ≤ 4294967296) (sym e) (omega arith);
        children = subst (λ (y : Row). y.children < 64) (sym e) (omega arith);
        hangs = hangs_from z (root_count k) x U st e;
      }

  tree_sits : {d : Bool} {t : Tree} {u : Above} {p : List Entry} {c lo hi : ℕ} (s : ℕ) → AboveIs u p → PathThere p c → Held σ d p c t →
      Steady listing u (length p) c t → Range lo hi t → hi ≤ 4294967296 → length (slots_of t) ≤ 64 → In s (slots_of t) → Sits listing σ environment s
  unfolding slots_of
  tree_sits s U P held_nil st r high few i = elim i [ ]
  tree_sits s U P (held_put {x = x} {k = k} {f = f} z m e hk hf) (steady_put a b q) r high few (here i) =
      subst (λ v. Sits listing σ environment v) (sym i) (one_sits z x k f U a P r high few e)
  tree_sits {p = p} {c = c} s U P (held_put {x = x} {k = k} {f = f} z m e hk hf) (steady_put a b q) r high few (there i) =
      go (in_cases (slots_of k) (slots_of f) i)
      (tree_sits {t = k} s (above_next z (root_count k) x (parts r).slots e) (path_under p c x.slot x.own (own_is z p c (root_count k) x e) P) hk b (parts r).children below (omega (arith, long)))
      (tree_sits {t = f} s U P hf q (parts r).siblings high (omega (arith, long)))
    where
      long : length (slots_of k ++ slots_of f) ≡ length (slots_of k) + length (slots_of f)
      long = length-append (slots_of k) (slots_of f)

      below : x.low + width x ≤ 4294967296
      below = let h = range_le (parts r).siblings in omega arith

      go : Either (In s (slots_of k)) (In s (slots_of f)) → (In s (slots_of k) → Sits listing σ environment s) →
          (In s (slots_of f) → Sits listing σ environment s) → Sits listing σ environment s
      go (this j) v w = v j
      go (that j) v w = w j

-- Every live routine of a state that rows hold.
pub holds_sits : {marks : Bool} {listing : Listing} {σ : Rows} {environment : List Variable} {state : State} → Holds marks listing σ environment state →
    IsState listing state → (s : ℕ) → (σ s).used ≡ true → Sits listing σ environment s
holds_sits {listing = listing} {σ = σ} {environment = environment} H I s used =
    let many = slots_live H.tree ∙ ap live_in_forest H.tree_is in
    let few = I.few in
    tree_sits listing σ environment s above_top (path_top listing σ environment) H.held H.steady H.range (omega arith) (omega arith) (H.whole s used)
