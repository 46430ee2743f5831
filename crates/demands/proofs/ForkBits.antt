-- Fork bits from a table (document 02, Change 3): the rule of every entry, and the priorities that a fork's children have by it.
use mathlib.Core.Path.{◌≡◌, refl}
use mathlib.Core.List.{List, [], ◌∷◌, map}
use Prim.Native.Nat.{ℕ, suc, ◌+◌, ◌*◌, ◌-◌, ◌^◌, ◌≤◌, ◌<◌}
use lib.ListN.{length, get_or}
use Rattle.listing.specs.Listing.{Listing, Call}
use Rattle.walk.specs.State.{Variable}
use Rattle.walk.specs.Walk.{child_count}
use Rattle.engine_fork_bits.specs.ForkBits.{fork_bits_table, fork_bits, NumbersFewest}
use Rattle.engine_fork_bits.proofs.ForkBits as Bits
use Rattle.engine_rows.specs.Rows.{Rows}
use Rattle.engine_rows.specs.Engine.{free_slot, caller_at, child_row, rows_with_child}
use Rattle.engine_rows.specs.Records.{calls_at, filled_row_lem, filled_at}
use Rattle.engine_rows.proofs.Held.{with_row-same}
use Rattle.demands.specs.Pairs.{HasPair}

-- "Proved of every entry: that many bits number n children and no fewer do." The first entry is for 1 child.
pub every_entry_numbers_its_children : (i : ℕ) → i < length fork_bits_table → NumbersFewest (suc i) (get_or fork_bits_table i 0)
every_entry_numbers_its_children = Bits.every_entry

-- "the answers for 1 to 8 children": each has its entry
pub one_to_eight_children_have_an_entry : (n : ℕ) → 1 ≤ n → n ≤ 8 → NumbersFewest n (fork_bits n)
one_to_eight_children_have_an_entry = Bits.fork_bits_are_fewest

-- no other number of bits keeps the rule
pub no_other_bits_do : {n b c : ℕ} → NumbersFewest n b → NumbersFewest n c → b ≡ c
no_other_bits_do = Bits.fewest_bits_are_one_number

-- Document 001's example, with the table's bits: of four children of (16, 4) the pairs are (16, 2), (20, 2), (24, 2), (28, 2), of two of (24, 2) they are
-- (24, 1), (26, 1).
pub the_papers_example :
    ((4 - fork_bits 4 ≡ 2) × (map (λ (i : ℕ). 16 + i * 2 ^ 2) (0 ∷ 1 ∷ 2 ∷ 3 ∷ []) ≡ 16 ∷ 20 ∷ 24 ∷ 28 ∷ [])) ×
    ((2 - fork_bits 2 ≡ 1) × (map (λ (i : ℕ). 24 + i * 2 ^ 1) (0 ∷ 1 ∷ []) ≡ 24 ∷ 26 ∷ []))
unfolding fork_bits
the_papers_example = ((refl, refl), (refl, refl))

-- "Every fork takes them from a table." A routine other than main gets its row in one of two ways; to both the number of the fork's child fields is handed.
module _ (listing : Listing) (rows : Rows) (environment : List Variable) where
  -- A fork of the routine in slot me with the child fields cs makes its child number i, from field c (engine_rows specs Engine `fork_rows`).
  pub a_new_child_has_its_pair : (now me : ℕ) (cs : List Call) (c : Call) (i : ℕ) →
      HasPair rows me (child_count cs) i (rows_with_child listing now rows environment me (child_count cs) c i (free_slot rows 64))
  unfolding rows_with_child caller_at child_row fork_bits
  a_new_child_has_its_pair now me cs c i =
      rw (with_row-same rows (free_slot rows 64) (child_row listing now (caller_at rows environment me (child_count cs)) c i (free_slot rows 64)))
      (record { low = refl; bits = refl })

  -- A call begins with a child asleep in slot s, one level below the fork of the routine in slot p.
  pub a_found_child_has_its_pair : (latest : ℕ → ℕ) (level s : ℕ) →
      let p = latest level in
      HasPair rows p (child_count (calls_at listing (rows p))) (rows s).child (filled_at listing rows environment latest (suc level) s s)
  unfolding filled_at filled_row_lem caller_at fork_bits
  a_found_child_has_its_pair latest level s = rw (with_row-same _ s _) (record { low = refl; bits = refl })
