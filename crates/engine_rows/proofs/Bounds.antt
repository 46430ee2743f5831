-- What holds of the running routine's row in every state that is reached: its slot, its names and their owners, its parent.
-- Letters as in Place and Held.
use mathlib.Core.Path.{◌≡◌, refl, sym, ap, subst, ◌∙◌}
use mathlib.Core.Bool.{Bool, true, false}
use mathlib.Core.List.{List, [], ◌∷◌}
use Prim.Native.Nat.{ℕ, zero, suc, ◌+◌, ◌*◌, ◌-◌, ◌^◌, ◌≤◌, ◌<◌}
use native.Mathlib.Nat.{le_refl, le_trans}
use native.Mathlib.Omega.{arith}
use lib.Dec.{ltb}
use lib.ListN.{length, length-append}
use borrow.Author.Tests.{ltb-true, ltb-false}
use Rattle.listing.specs.Listing.{Listing}
use Rattle.walk.specs.Memory.{address_of}
use Rattle.walk.specs.State.{Variable}
use Rattle.walk.specs.Question7.{owned_by}
use Rattle.engine_rows.specs.Rows.{Owner, in_environment, in_slot, Row, Rows, owner_of}
use Rattle.engine_rows.proofs.Place.{Tree, nil, put, ◌⋈◌, Frame, plug, memory_of}
use Rattle.engine_rows.proofs.Priority.{Range, range_split, range_le, parts}
use Rattle.engine_rows.proofs.Held.{Entry, owner_at, owners_at, pick_owner, path_of, parent_slot, row_for, HeldUp, held_top, held_under, hole, hole_in, path_length}
use Rattle.engine_rows.proofs.Standing.{head_of}
use Rattle.engine_rows.proofs.Reading.{bound_owner}
use Rattle.engine_rows.proofs.EngineState.{slot_small}
use Rattle.engine_rows.proofs.Children.{one, used_below}
use Rattle.engine_rows.proofs.Steady.{name_count, TableFits, above_up, SteadyRecord, steady_record}
use Rattle.engine_rows.proofs.Reachable.{Reached}

-- A variable that is there: the environment's, or one of a routine in use.
pub data InPlace (σ : Rows) (environment : List Variable) : Owner → Type 0 where
  in_environment_lem : {a : ℕ} → a < length environment → InPlace σ environment (in_environment a)
  in_slot_lem : {s i : ℕ} → s < 64 → (σ s).used ≡ true → i < length (σ s).own → InPlace σ environment (in_slot s i)

pub owner_in_place : {σ : Rows} {environment : List Variable} {n : ℕ} {fs : List Frame} (lo hi a : ℕ) (t : Tree) → Range lo hi (plug fs t) →
    HeldUp σ environment n fs → a < length (memory_of environment fs) → InPlace σ environment (owner_at (path_of environment fs) a)
unfolding plug memory_of path_of owner_at pick_owner row_for
owner_in_place lo hi a t r held_top h = in_environment_lem h
owner_in_place {σ} {environment} lo hi a t r (held_under {f = f} {fs = fs} e d c u) h =
    by_base (ltb a (length (memory_of environment fs))) refl (λ l. owner_in_place lo hi a (f.done ⋈ put f.self t f.todo) r u l)
  where
    by_base : (w : Bool) → ltb a (length (memory_of environment fs)) ≡ w →
        (a < length (memory_of environment fs) → InPlace σ environment (owner_at (path_of environment fs) a)) →
        InPlace σ environment (pick_owner w (owner_at (path_of environment fs) a) (in_slot f.self.slot (a - length (memory_of environment fs))))
    by_base true q up = up (ltb-true a (length (memory_of environment fs)) q)
    by_base false q up =
        let l : length (memory_of environment fs) ≤ a = ltb-false a (length (memory_of environment fs)) q in
        let own : length (σ f.self.slot).own ≡ length f.self.own = ap (λ (x : Row). length x.own) e in
        let inside : a - length (memory_of environment fs) < length (σ f.self.slot).own = omega (
          arith,
          own,
          length-append (memory_of environment fs) f.self.own,
        ) in
        in_slot_lem (slot_small lo hi fs f.done f.self t f.todo r) (ap (λ (x : Row). x.used) e) inside

pub length_owners : (p : List Entry) (ns : List ℕ) → length (owners_at p ns) ≡ length ns
unfolding owners_at
length_owners p [] = refl
length_owners p (a ∷ ns) = ap suc (length_owners p ns)

one_most : (b : Bool) → one b ≤ 1
unfolding one
one_most true = le_refl 1
one_most false = omega arith

used_most : (σ : Rows) (n : ℕ) → used_below σ n ≤ n
unfolding used_below
used_most σ zero = le_refl 0
used_most σ (suc n) = let d = used_most σ n in let o = one_most (σ n).used in omega (arith, d, o)

-- a place's range lies in the whole one
pub hole_high : (lo hi : ℕ) (fs : List Frame) (t : Tree) (r : Range lo hi (plug fs t)) → (hole lo hi fs t r).upto ≤ hi
unfolding plug hole hole_in
hole_high lo hi [] t r = le_refl hi
hole_high lo hi (f ∷ fs) t r =
    let o = hole lo hi fs (f.done ⋈ put f.self t f.todo) r in
    let q = parts (range_split f.done (put f.self t f.todo) o.inside).right in
    le_trans (range_le q.siblings) (hole_high lo hi fs (f.done ⋈ put f.self t f.todo) r)

pub record Bounds (listing : Listing) (σ : Rows) (environment : List Variable) (live me : ℕ) : Type 0 where
  pub slot : me < 64
  pub sits : (σ me).used ≡ true
  pub deepest : (σ me).level ≤ 10
  pub priorities : (σ me).low + 2 ^ (σ me).bits ≤ 4294967296
  pub names : length (σ me).bindings ≡ name_count listing (σ me).routine
  pub few : length (σ me).bindings ≤ 16
  pub owners : (n : ℕ) → n < length (σ me).bindings → InPlace σ environment (owner_of (σ me).bindings n)
  pub owned : length (σ me).own ≡ owned_by listing (σ me).routine
  pub base : (σ me).base + length (σ me).own ≤ 16 * ((σ me).level + 2)
  pub parent : (k : ℕ) → (σ me).level ≡ suc k → ((σ me).parent < 64) × ((σ (σ me).parent).used ≡ true)
  pub room : live ≤ 64

module _ (listing : Listing) (now : ℕ) (triggers : Owner → List ℕ) (T : TableFits listing) where
  parent_there : {σ : Rows} {environment : List Variable} {n : ℕ} (lo hi k : ℕ) (fs : List Frame) (t : Tree) → Range lo hi (plug fs t) →
      HeldUp σ environment n fs →
      length fs ≡ suc k → (parent_slot (path_of environment fs) < 64) × ((σ (parent_slot (path_of environment fs))).used ≡ true)
  unfolding plug path_of parent_slot row_for
  parent_there lo hi k _ t r held_top e = absurd (omega arith)
  parent_there {σ} lo hi k _ t r (held_under {f = f} {fs = fs} e d c u) l = (
    slot_small lo hi fs f.done f.self t f.todo r,
    ap (λ (x : Row). x.used) e,
  )

  at_frame : (left : ℕ) (σ : Rows) (environment : List Variable) (ready : List ℕ) (live woken me : ℕ)
      (R : Reached listing now triggers T left σ environment ready live woken me) →
      Bounds listing σ environment live R.frame.self.slot
  unfolding row_for plug memory_of path_of
  at_frame left σ environment ready live woken me R =
      record {
        slot = small;
        sits = ap (λ (x : Row). x.used) row;
        deepest = subst (λ z. z ≤ 10) (sym level) st.high;
        priorities = subst (λ z. z ≤ 4294967296) (sym (ap (λ (x : Row). x.low + 2 ^ x.bits) row)) highest;
        names = many;
        few = subst (λ z. z ≤ 16) (sym many) (T.few (σ mine).routine);
        owners = owned_by_lem;
        owned = ap (λ (x : Row). length x.own) row ∙ st.owned ∙ ap (λ (x : Row). owned_by listing x.routine) (sym row);
        base = subst (λ z. z) (sym (ap (λ (x : Row). x.base + length x.own ≤ 16 * (x.level + 2)) row ∙
            ap (λ z. length (memory_of environment fs) + length f.self.own ≤ 16 * (z + 2)) (path_length environment fs))) st.short;
        parent = λ k e. subst (λ z. (z < 64) × ((σ z).used ≡ true)) (sym (ap (λ (x : Row). x.parent) row)) (above k e);
        room = subst (λ z. z ≤ 64) R.sound.used (used_most σ 64);
      }
    where
      f : Frame
      f = R.frame

      fs : List Frame
      fs = R.frames

      mine : ℕ
      mine = f.self.slot

      row : σ mine ≡ row_for false (path_of environment fs) (length (memory_of environment fs)) 0 f.self
      row = (head_of R.runs.held).row

      st : SteadyRecord listing (above_up listing fs) (length fs) (length (memory_of environment fs)) f.self
      st = steady_record listing environment f fs nil R.sound.steady

      small : mine < 64
      small = slot_small 0 4294967296 fs f.done f.self nil f.todo R.runs.range

      level : (σ mine).level ≡ length fs
      level = ap (λ (x : Row). x.level) row ∙ path_length environment fs

      bindings : (σ mine).bindings ≡ owners_at (path_of environment (f ∷ fs)) f.self.names
      bindings = ap (λ (x : Row). x.bindings) row

      many : length (σ mine).bindings ≡ name_count listing (σ mine).routine
      many = ap length bindings ∙ length_owners (path_of environment (f ∷ fs)) f.self.names ∙ st.many ∙
          ap (λ (x : Row). name_count listing x.routine) (sym row)

      highest : f.self.low + 2 ^ f.self.bits ≤ 4294967296
      highest =
          let o = hole 0 4294967296 fs (f.done ⋈ put f.self nil f.todo) R.runs.range in
          let q = parts (range_split f.done (put f.self nil f.todo) o.inside).right in
          le_trans (range_le q.siblings) (hole_high 0 4294967296 fs (f.done ⋈ put f.self nil f.todo) R.runs.range)

      owned_by_lem : (n : ℕ) → n < length (σ mine).bindings → InPlace σ environment (owner_of (σ mine).bindings n)
      owned_by_lem n h =
          let h' : n < length f.self.names = subst (λ z. n < z) (ap length bindings ∙
          length_owners (path_of environment (f ∷ fs)) f.self.names) h in
          let near : address_of f.self.names n < length (memory_of environment (f ∷ fs)) =
          subst (λ z. address_of f.self.names n < z) (sym (length-append (memory_of environment fs) f.self.own)) (st.near n h') in
          subst (λ z. InPlace σ environment (owner_of z n)) (sym bindings)
          (subst (InPlace σ environment) (sym (bound_owner (path_of environment (f ∷ fs)) f.self.names n h'))
          (owner_in_place 0 4294967296 (address_of f.self.names n) nil R.runs.range R.runs.held near))

      above : (k : ℕ) → (σ mine).level ≡ suc k → (parent_slot (path_of environment fs) < 64) × ((σ (parent_slot (path_of environment fs))).used ≡ true)
      above k e = parent_there 0 4294967296 k fs (f.done ⋈ put f.self nil f.todo) R.runs.range (head_of R.runs.held).up (sym level ∙
          e)

  -- Every state that is reached is within these bounds.
  pub reached_bounds : (left : ℕ) (σ : Rows) (environment : List Variable) (ready : List ℕ) (live woken me : ℕ) →
      Reached listing now triggers T left σ environment ready live woken me →
      Bounds listing σ environment live me
  reached_bounds left σ environment ready live woken me R = subst (Bounds listing σ environment live) (sym R.here)
      (at_frame left σ environment ready live woken me R)
