-- The names of the running routine all lead to variables that are there: in every tree that slots hold, an address below the length of the
-- path's memory has an owner among the path's routines or the environment, and the loader's question 4 keeps names below it.
use mathlib.Core.Path.{◌≡◌, refl, ap, ◌∙◌}
use mathlib.Core.Bool.{Bool, true, false}
use mathlib.Core.List.{List, [], ◌∷◌}
use Prim.Native.Nat.{ℕ, zero, suc, ◌-◌, ◌≤◌, ◌<◌}
use native.Mathlib.Omega.{arith}
use lib.Dec.{ltb}
use lib.ListN.{length, length-append}
use borrow.Author.Tests.{ltb-true, ltb-false}
use Rattle.listing.specs.Listing.{Listing}
use Rattle.walk.specs.State.{Variable}
use Rattle.walk.specs.Memory.{address_of}
use Rattle.engine_rows.specs.Rows.{Owner, in_slot, Row, Rows, owner_of}
use Rattle.engine_rows.proofs.Place.{Tree, Frame, plug, memory_of}
use Rattle.engine_rows.proofs.Held.{Entry, pick_owner, owner_at, owners_at, path_of, row_for, HeldUp, held_top, held_under}
use Rattle.engine_rows.proofs.Steady.{name_count, SteadyTree, steady_record}
use Rattle.engine_variables.specs.Bindings.{variables_beside}
use Rattle.engine_evaluate.specs.Bound.{number_of, Bound}

-- an owner's variable is there
abbrev There : Rows → List Variable → Owner → Type 0
There rows environment o = number_of o < length (variables_beside (record { rows = rows; environment = environment }) o)

pub address_there : {rows : Rows} {environment : List Variable} {n : ℕ} {fs : List Frame} (a : ℕ) → HeldUp rows environment n fs
    → a < length (memory_of environment fs) → There rows environment (owner_at (path_of environment fs) a)
unfolding number_of variables_beside owner_at path_of memory_of pick_owner row_for
address_there a held_top h = h
address_there {rows} {environment} a (held_under {f = f} {fs = fs} row done todo up) h = go (ltb a (length (memory_of environment fs))) refl (address_there a up)
  where
    go : (b : Bool) → ltb a (length (memory_of environment fs)) ≡ b → (a < length (memory_of environment fs) → There rows environment (owner_at (path_of environment fs) a))
        → There rows environment (pick_owner b (owner_at (path_of environment fs) a) (in_slot f.self.slot (a - length (memory_of environment fs))))
    go true e above = above (ltb-true a (length (memory_of environment fs)) e)
    go false e above =
        let l : length (memory_of environment fs) ≤ a = ltb-false a (length (memory_of environment fs)) e in
        let few : a - length (memory_of environment fs) < length f.self.own = omega (arith, length-append (memory_of environment fs) f.self.own) in
        rw row few

owners_length : (p : List Entry) (names : List ℕ) → length (owners_at p names) ≡ length names
unfolding owners_at
owners_length p [] = refl
owners_length p (a ∷ names) = ap suc (owners_length p names)

owner_listed : (p : List Entry) (names : List ℕ) (name : ℕ) → name < length names → owner_of (owners_at p names) name ≡ owner_at p (address_of names name)
unfolding owners_at owner_of address_of
owner_listed p [] name h = absurd (omega arith)
owner_listed p (a ∷ names) zero h = refl
owner_listed p (a ∷ names) (suc name) h = owner_listed p names name (omega arith)

module _ {rows : Rows} {environment : List Variable} {n : ℕ} {f : Frame} {fs : List Frame} (up : HeldUp rows environment n (f ∷ fs)) where
  row_bindings : (rows f.self.slot).bindings ≡ owners_at (path_of environment (f ∷ fs)) f.self.names
  unfolding row_for path_of
  row_bindings = go up
    where
      go : HeldUp rows environment n (f ∷ fs) → (rows f.self.slot).bindings ≡ owners_at (path_of environment (f ∷ fs)) f.self.names
      go (held_under row done todo above) = ap (λ (r : Row). r.bindings) row

  -- the routine on the innermost frame
  pub names_bound : ((name : ℕ) → name < length f.self.names → address_of f.self.names name < length (memory_of environment (f ∷ fs)))
      → Bound (record { rows = rows; environment = environment }) (rows f.self.slot).bindings
  names_bound near = rw row_bindings (record {
    there = λ name h.
        let l : name < length f.self.names = rw (owners_length (path_of environment (f ∷ fs)) f.self.names) at h in
        rw (owner_listed (path_of environment (f ∷ fs)) f.self.names name l) (address_there (address_of f.self.names name) up (near name l));
  })

  pub running_bound : (listing : Listing) (t : Tree) → SteadyTree listing environment (plug (f ∷ fs) t)
      → Bound (record { rows = rows; environment = environment }) (rows f.self.slot).bindings
  unfolding memory_of
  running_bound listing t steady =
      let itself = steady_record listing environment f fs t steady in
      names_bound (λ name h. rw (length-append (memory_of environment fs) f.self.own) (itself.near name h))

  -- it has as many bindings as names
  pub names_counted : (listing : Listing) (t : Tree) → SteadyTree listing environment (plug (f ∷ fs) t)
      → length (rows f.self.slot).bindings ≡ name_count listing f.self.routine
  names_counted listing t steady =
      ap length row_bindings ∙ (owners_length (path_of environment (f ∷ fs)) f.self.names ∙ (steady_record listing environment f fs t steady).many)
