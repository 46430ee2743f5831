-- The ready list as the writes before the run make it: each passes along the trigger list of its variable.
-- Letters: m the machine's words, q the slots of the ready list, s a slot, n the number of environment variables.
use Rattle.std.specs.Prelude.{Bool, true, false, ◌≡◌, List, [], ℕ, ◌≤◌, ◌<◌, min}
use Rattle.listing.specs.Listing.{Listing}
use Rattle.engine_rows.specs.Ready.{insert_all_lem}
use Rattle.engine_rows.specs.Triggers.{wakes_now, triggers_of}
use Rattle.engine_rows.specs.Tree.{In}
use Rattle.engine_blocks.specs.Blocks.{Block, block, variable_in, owner_at, rows_of, environment_of}
use Rattle.engine_ready.specs.Ordered.{Ordered}
use Rattle.engine_triggers.specs.Chains.{triggers_at}
use Rattle.engine_wake.specs.Wakes.{triggered_from}

-- Rule 2 of document 01, "A routine at `W` goes on if a name of that wait has been written in this instant before its turn": q is made by putting in, one
-- after the other, just those who wait on what is written by now. The trigger lists are the listing's.
pub record ReadySoFar (listing : Listing) (n : ℕ) (m q : List ℕ) : Type 0 where
  pub woken : List ℕ
  pub made : q ≡ insert_all_lem (rows_of m) woken []
  pub sound : (s : ℕ) → In s woken → wakes_now listing (rows_of m) (environment_of n m) s ≡ true
  pub full : (s : ℕ) → wakes_now listing (rows_of m) (environment_of n m) s ≡ true → In s woken
  pub lists : (s index : ℕ) → s ≤ 64 → index < 16 → triggers_at m s index ≡ triggers_of listing (rows_of m) (owner_at s index)

-- The writes that led from `before` to `after` have reached those who wait on what they wrote.
pub record Reaches (n : ℕ) (before after q q' : List ℕ) : Type 0 where
  pub goes_on : (listing : Listing) → ReadySoFar listing n before q → ReadySoFar listing n after q'

-- The pass along the list of one variable, if it is written.
unfoldable pub reached_if : Bool → List ℕ → ℕ → ℕ → List ℕ → List ℕ
reached_if true m s index q = insert_all_lem (rows_of m) (triggered_from (rows_of m) 0 (triggers_at m s index)) q
reached_if false m s index q = q

pub record ReachesOne (m : List ℕ) (s index : ℕ) (q q' : List ℕ) : Type 0 where
  pub slots : q' ≡ reached_if (variable_in (block m s) index).written m s index q
  pub order : Ordered (rows_of m) q'

-- ── before any write of the instant ───────────────────────────────────────────────────────────────
-- None of the first variables of a block is marked as written.
pub record Unwritten (count : ℕ) (b : Block) : Type 0 where
  pub none : (i : ℕ) → i < count → (variable_in b i).written ≡ false

-- None at all.
pub record NothingWritten (n : ℕ) (m : List ℕ) : Type 0 where
  pub slots : (s : ℕ) → s < 64 → Unwritten (min (block m s 4) 16) (block m s)
  pub environment : Unwritten n (block m 64)
