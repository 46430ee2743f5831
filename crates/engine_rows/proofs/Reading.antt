-- Reading by names and evaluating expressions: in the rows as in the memory of the path.
-- Letters as in Place and Held.
use mathlib.Core.Path.{◌≡◌, refl, sym, ap, ◌∙◌, fun_ext}
use mathlib.Core.Bool.{Bool, true, false}
use mathlib.Core.List.{List, [], ◌∷◌}
use Prim.Native.Nat.{ℕ, zero, suc, ◌-◌, ◌≤◌, ◌<◌}
use native.Mathlib.Nat.{le_refl}
use native.Mathlib.Omega.{arith}
use lib.Dec.{ltb}
use lib.ListN.{length, set, length-append, get_or-eq_default}
use borrow.Author.Tests.{ltb-false}
use Rattle.listing.specs.Listing.{Piece}
use Rattle.walk.specs.Memory.{address_of, evaluate, variable_at, evaluate_by}
use Rattle.walk.specs.State.{Variable, no_variable}
use Rattle.engine_rows.specs.Rows.{Rows, environment_with, in_slot, named, owner_of, variable_of}
use Rattle.engine_rows.proofs.Place.{Frame, memory_of, up}
use Rattle.engine_rows.proofs.Held.{Entry, owner_at, owners_at, pick_owner, path_of, HeldUp, read_path, environment_past}

-- ── expressions by a reader of names ────────────────────────────────────────────────────────────

module _ (rd : ℕ → Variable) (m : List Variable) (ns : List ℕ) (same : (n : ℕ) → rd n ≡ variable_at m (address_of ns n)) where
  pub evaluate_by-same : (now : ℕ) (e : List Piece) → evaluate_by now rd e ≡ evaluate now m ns e
  unfolding evaluate
  evaluate_by-same now e = ap (λ (name : ℕ → Variable). evaluate_by now name e) (fun_ext same)

-- ── reading by a binding ────────────────────────────────────────────────────────────────────────

environment_shorter : (environment : List Variable) (fs : List Frame) → length environment ≤ length (memory_of environment fs)
unfolding memory_of
environment_shorter environment [] = le_refl _
environment_shorter environment (f ∷ fs) = omega (arith, environment_shorter environment fs, length-append (memory_of environment fs) f.self.own)

pub read_bound : (σ : Rows) (environment : List Variable) (n : ℕ) (fs : List Frame) → length (memory_of environment fs) ≤ 65536 →
    HeldUp σ environment n fs → (ns : List ℕ) (w : ℕ) →
    named σ environment (owners_at (path_of environment fs) ns) w ≡ variable_at (memory_of environment fs) (address_of ns w)
unfolding named owner_of owners_at address_of variable_of variable_at
read_bound σ environment n fs small h [] w =
    let l : length environment ≤ 65536 = omega (arith, environment_shorter environment fs) in
    get_or-eq_default environment no_variable l ∙ sym (get_or-eq_default (memory_of environment fs) no_variable small)
read_bound σ environment n fs small h (a ∷ ns) zero = read_path σ environment n fs a h
read_bound σ environment n fs small h (a ∷ ns) (suc w) = read_bound σ environment n fs small h ns w

pub bound_owner : (p : List Entry) (ns : List ℕ) (n : ℕ) → n < length ns → owner_of (owners_at p ns) n ≡ owner_at p (address_of ns n)
unfolding owner_of owners_at address_of
bound_owner p [] n h = absurd (omega arith)
bound_owner p (a ∷ ns) zero h = refl
bound_owner p (a ∷ ns) (suc n) h = bound_owner p ns n (omega arith)

pub environment_set : (environment : List Variable) (fs : List Frame) (a : ℕ) (v : Variable) →
    environment_with (owner_at (path_of environment fs) a) environment v ≡ set environment a v
unfolding environment_with owner_at path_of pick_owner
environment_set environment [] a v = refl
environment_set environment (f ∷ fs) a v = go (ltb a (length (memory_of environment fs))) refl (environment_set environment fs a v)
  where
    go : (w : Bool) → ltb a (length (memory_of environment fs)) ≡ w →
        environment_with (owner_at (path_of environment fs) a) environment v ≡ set environment a v →
        environment_with (pick_owner w (owner_at (path_of environment fs) a) (in_slot f.self.slot (a - length (memory_of environment fs))))
        environment v ≡ set environment a v
    go true h up = up
    go false h up = sym (environment_past environment fs a v (ltb-false a (length (memory_of environment fs)) h))
