-- What the pass asks for, from what question 7 gives: a routine asleep at a wait or a fork is at an instruction that is there.
use mathlib.Core.Path.{◌≡◌, ap}
use mathlib.Core.List.{List}
use Prim.Native.Nat.{ℕ, ◌<◌}
use native.Mathlib.Omega.{arith}
use native.Mathlib.Decide.{dec_lt}
use lib.ListN.{get_or, get_or-eq_default}
use Rattle.listing.specs.Listing.{Routine, end}
use Rattle.walk.specs.Walk.{no_routine, routine_at, instruction_at}
use Rattle.table.specs.Decode.{word, size_of, table_listing}
use Rattle.table.proofs.Reach.{routine_total, code_length_by_number}

module _ (t : List ℕ) (r place : ℕ) (there : instruction_at (table_listing t) r place ≡ end → ⊥) where
  pub routine_there : r < word t 2
  unfolding instruction_at routine_at no_routine
  routine_there = go (dec_lt r (word t 2))
    where
      go : Dec (r < word t 2) → r < word t 2
      go (yes l) = l
      go (no l) =
          let none : get_or (table_listing t).routines r no_routine ≡ no_routine = get_or-eq_default (table_listing t).routines no_routine (omega (arith, routine_total t)) in
          absurd (there (ap (λ (q : Routine). get_or q.code place end) none))

  pub place_there : place < size_of t r
  unfolding instruction_at
  place_there = go (dec_lt place (size_of t r))
    where
      go : Dec (place < size_of t r) → place < size_of t r
      go (yes l) = l
      go (no l) = absurd (there (get_or-eq_default (routine_at (table_listing t) r).code end (omega (arith, code_length_by_number t r routine_there))))
