-- The engine's state between two steps and the place in the tree where the walk is: somebody runs, or nobody.
-- Letters as in Place and Held.
use mathlib.Core.Path.{◌≡◌, refl, ap, ap₂, ◌∙◌}
use mathlib.Core.Bool.{Bool, true, false, not}
use mathlib.Core.List.{List, [], ◌∷◌, ◌++◌}
use Prim.Native.Nat.{ℕ, ◌%◌, ◌<◌}
use native.Mathlib.Omega.{arith}
use lib.ListN.{length}
use Rattle.listing.specs.Listing.{Listing}
use Rattle.walk.specs.State.{Result, Turn, Variable}
use Rattle.engine_rows.specs.Engine.{first_place}
use Rattle.engine_rows.specs.Rows.{Owner, Row, Rows, at_place, free_row, with_children}
use Rattle.engine_rows.proofs.Place.{Record, Tree, nil, put, ◌⋈◌, ⋈-assoc, Frame, plug, memory_of, key, ready, ready_up, between, Rests, Paused, at_root, under, Full}
use Rattle.engine_rows.proofs.Priority.{Range, range_put, range_join, range_split, parts}
use Rattle.engine_rows.proofs.Sorted.{In, Either, this, that, slots_in}
use Rattle.engine_rows.proofs.Writing.{set_up, record_with_own}
use Rattle.engine_rows.proofs.Held.{Entry, owners_at, row_for, hole}
use Rattle.engine_rows.proofs.Waking.{Triggers}
use Rattle.engine_rows.proofs.Moves.{placed, focus}
use Rattle.engine_rows.proofs.Kept.{Calmer, slots_of, slots_up, plug_in, up_plug, Known}
use Rattle.engine_rows.proofs.Standing.{Stands}
pub use Rattle.engine_rows.specs.Reached.{Runs}

-- ── what a set leaves ───────────────────────────────────────────────────────────────────────────
pub slots_set : (environment : List Variable) (fs : List Frame) (a : ℕ) (v : Variable) → slots_up (set_up environment fs a v) ≡ slots_up fs
unfolding slots_up set_up record_with_own
slots_set environment [] a v = refl
slots_set environment (f ∷ fs) a v = rw (slots_set environment fs a v)

pub paused_set : (listing : Listing) (environment : List Variable) (fs : List Frame) (a : ℕ) (v : Variable) → Paused listing fs →
    Paused listing (set_up environment fs a v)
unfolding set_up record_with_own
paused_set listing environment _ a v at_root = at_root
paused_set listing environment _ a v (under {fs = fs} b i r p) = under b i r (paused_set listing environment fs a v p)

pub range_placed : (lo hi : ℕ) (f : Frame) (fs : List Frame) (place : ℕ) → Range lo hi (plug (f ∷ fs) nil) →
    Range lo hi (plug (focus (placed f.self place) f.done f.todo ∷ fs) nil)
unfolding plug focus placed
range_placed lo hi f fs place r =
    let o = hole lo hi fs (f.done ⋈ put f.self nil f.todo) r in
    let s = range_split f.done (put f.self nil f.todo) o.inside in
    let q = parts s.right in
    o.again _ (range_join s.left (range_put q.lowest q.wider q.slots q.children q.siblings))

pub at_place-of : (z : Bool) (p : List Entry) (b n : ℕ) (x : Record) (place : ℕ) →
    at_place (row_for z p b n x) place ≡ row_for false p b n (placed x place)
unfolding at_place row_for placed
at_place-of z p b n x place = refl

pub at_place-asleep : (r : Row) (place : ℕ) → (at_place r place).asleep ≡ false
unfolding at_place
at_place-asleep r place = refl

pub known_then : {σ σ' : Rows} (f g : Frame) (fs gs : List Frame) → Calmer σ σ' → slots_up (g ∷ gs) ≡ slots_up (f ∷ fs) → Known σ (plug (f ∷ fs) nil) →
    Known σ' (plug (g ∷ gs) nil)
unfolding slots_of
known_then {σ} {σ'} f g fs gs c e k = record { all = λ s a. go s (plug_in (f ∷ fs) nil (k.all s (c.was s a).asleep)) }
  where
    go : (s : ℕ) → Either (In s (slots_of nil)) (In s (slots_up (f ∷ fs))) → In s (slots_of (plug (g ∷ gs) nil))
    go s (this i) = elim i [ ]
    go s (that i) = up_plug (g ∷ gs) nil (rw e i)

pub bool_not : {A : Type 0} → true ≡ false → A
bool_not e = let z : ◌≡◌ {A = ℕ} 0 1 = cc in absurd (omega arith)

pub row_placed : (p : List Entry) (b n : ℕ) (x : Record) → row_for false p b n x ≡ row_for false p b n (placed x x.place)
unfolding row_for placed
row_placed p b n x = refl

pub row_level : (z : Bool) (p : List Entry) (b n : ℕ) (x : Record) → (row_for z p b n x).level ≡ length p
unfolding row_for
row_level z p b n x = refl

pub row_low : (z : Bool) (p : List Entry) (b n : ℕ) (x : Record) → (row_for z p b n x).low ≡ x.low
unfolding row_for
row_low z p b n x = refl

pub row_asleep : (z : Bool) (p : List Entry) (b n : ℕ) (x : Record) → (row_for z p b n x).asleep ≡ z
unfolding row_for
row_asleep z p b n x = refl

pub row_place : (z : Bool) (p : List Entry) (b n : ℕ) (x : Record) → (row_for z p b n x).place ≡ x.place
unfolding row_for
row_place z p b n x = refl

pub key_slot : (x : Record) → x.slot < 64 → key x % 64 ≡ x.slot
unfolding key
key_slot x h = omega arith

pub asleep_of : (σ : Rows) (z : Bool) (p : List Entry) (b n : ℕ) (x : Record) → σ x.slot ≡ row_for z p b n x → z ≡ not x.is_new →
    (σ x.slot).asleep ≡ not x.is_new
asleep_of σ z p b n x e m = ap (λ y. y.asleep) e ∙ row_asleep z p b n x ∙ m

pub start_of : (σ : Rows) (z : Bool) (p : List Entry) (b n : ℕ) (x : Record) → σ x.slot ≡ row_for z p b n x → z ≡ not x.is_new →
    first_place (σ x.slot).asleep (σ x.slot).place ≡ first_place (not x.is_new) x.place
start_of σ z p b n x e m = ap₂ first_place (asleep_of σ z p b n x e m) (ap (λ y. y.place) e ∙ row_place z p b n x)

pub one_more : (d : Tree) (x : Record) (t : Tree) → (d ⋈ put x nil nil) ⋈ t ≡ d ⋈ put x nil t
unfolding ◌⋈◌
one_more d x t = ⋈-assoc d (put x nil nil) t

pub same_slots : (f : Frame) (x : Record) (fs : List Frame) → x.slot ≡ f.self.slot →
    slots_up (focus x f.done f.todo ∷ fs) ≡ slots_up (f ∷ fs)
unfolding slots_up focus
same_slots f x fs e = rw e

pub slot_small : (lo hi : ℕ) (fs : List Frame) (d : Tree) (x : Record) (k t : Tree) → Range lo hi (plug fs (d ⋈ put x k t)) → x.slot < 64
slot_small lo hi fs d x k t r = (parts (range_split d (put x k t) (hole lo hi fs (d ⋈ put x k t) r).inside).right).slots

pub free_asleep : free_row.asleep ≡ false
unfolding free_row
free_asleep = refl

pub with_children-of : (z : Bool) (p : List Entry) (b n m : ℕ) (x : Record) → with_children (row_for z p b n x) m ≡ row_for z p b m x
unfolding with_children row_for
with_children-of z p b n m x = refl

pub row_children : (z : Bool) (p : List Entry) (b n : ℕ) (x : Record) → (row_for z p b n x).children ≡ n
unfolding row_for
row_children z p b n x = refl

pub nil_nil : nil ⋈ nil ≡ nil
unfolding ◌⋈◌
nil_nil = refl

pub known_same : (σ : Rows) (f g : Frame) (fs : List Frame) → slots_up (g ∷ fs) ≡ slots_up (f ∷ fs) → Known σ (plug (f ∷ fs) nil) →
    Known σ (plug (g ∷ fs) nil)
known_same σ f g fs e k = known_then {σ = σ} {σ' = σ} f g fs fs
    (record { was = λ s a. record { asleep = a; low = refl; bindings = refl; routine = refl; place = refl } }) e k

-- ── the relation ────────────────────────────────────────────────────────────────────────────────
module _ (listing : Listing) (now : ℕ) (triggers : Owner → List ℕ) (hi : ℕ) where
  -- nobody runs
  pub record Idle (σ : Rows) (environment : List Variable) (q : List ℕ) (j l woken : ℕ) (fs : List Frame) (d t : Tree) (whole : Result Turn) : Type 0
    where
      pub stands : Stands σ environment fs d t
      pub range : Range 0 hi (plug fs (d ⋈ t))
      pub queue : q ≡ slots_in (ready listing (memory_of environment fs) t ++ ready_up listing environment fs)
      pub lists_right : Triggers listing σ triggers
      pub known : Known σ (plug fs (d ⋈ t))
      pub rests : Rests listing true t
      pub paused : Paused listing fs
      pub living : Full (d ⋈ t)
      pub same : whole ≡ between listing now environment j l woken fs d t

  pub bind_of : (σ : Rows) (z : Bool) (p : List Entry) (b n : ℕ) (x : Record) → σ x.slot ≡ row_for z p b n x →
      (σ x.slot).bindings ≡ owners_at (record { slot = x.slot; base = b } ∷ p) x.names
  unfolding row_for
  bind_of σ z p b n x e = ap (λ y. y.bindings) e

  pub low_of : (σ : Rows) (z : Bool) (p : List Entry) (b n : ℕ) (x : Record) → σ x.slot ≡ row_for z p b n x → (σ x.slot).low ≡ x.low
  unfolding row_for
  low_of σ z p b n x e = ap (λ y. y.low) e
