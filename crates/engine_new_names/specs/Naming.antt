-- What binding the names of a routine asks for and promises. The letters: t the table's words, m the machine's, me the caller's slot, s the routine's own,
-- `at` the address of its first argument's cell, `count` the number of its arguments, `bits` their kinds, `locals` the number of its locals.
use Rattle.std.specs.Prelude.{◌≡◌, List, ◌++◌, ℕ, ◌+◌, ◌≤◌, ◌<◌, length}
use Rattle.table.specs.Decode.{names_at, kinds_of_bits}
use Rattle.table.specs.Entry.{NamesStand}
use Rattle.engine_rows.specs.Rows.{Owner}
use Rattle.engine_rows.specs.Engine.{own_bindings, child_bindings}
use Rattle.engine_rows.specs.Beginning.{environment_bindings}
use Rattle.engine_blocks.specs.Tabulate.{tabulate_from}
use Rattle.engine_blocks.specs.Blocks.{block, owner_in, bindings_in}
use Rattle.engine_blocks.specs.Changes.{InBlock}
use Rattle.engine_evaluate.specs.Bound.{bindings_of}

-- The arguments are names of the caller, and there is room for all names.
pub record MayBind (t m : List ℕ) (me s at count locals : ℕ) : Type 0 where
  pub size : 12288 ≤ length m
  pub table : length t ≡ 12288
  pub caller : me < 64
  pub slot : s < 64
  pub apart : me ≡ s → ⊥
  pub few : count + locals ≤ 16
  pub names : NamesStand t (length (bindings_of m me)) at count

-- The words of the first `count` names hold the arguments' variables, as far as the caller's binding goes: "by reference" the caller's,
-- by value its own, of which there are so many. No other word changed.
pub record ArgumentsBound (t before : List ℕ) (me s at count bits : ℕ) (after : List ℕ) (own : ℕ) : Type 0 where
  pub in_block : InBlock s before after (block after s)
  pub others : (k : ℕ) → (112 ≤ k → k < 112 + count → ⊥) → block after s k ≡ block before s k
  pub few : own ≤ count
  pub names : (locals : ℕ) → tabulate_from 0 count (owner_in (block after s)) ++ own_bindings locals s own
      ≡ child_bindings (kinds_of_bits count bits) (names_at t at count) locals (bindings_of before me) s 0

-- The words of `count` names after the first `from` hold own variables, from number `own` on. No other word changed.
pub record OwnBound (before : List ℕ) (s from count own : ℕ) (after : List ℕ) : Type 0 where
  pub in_block : InBlock s before after (block after s)
  pub others : (k : ℕ) → (112 + from ≤ k → k < 112 + (from + count) → ⊥) → block after s k ≡ block before s k
  pub names : tabulate_from 0 (from + count) (owner_in (block after s)) ≡ tabulate_from 0 from (owner_in (block before s)) ++ own_bindings count s own

-- The words of the first `count` names hold the environment's variables, as main's arguments do. No other word changed.
pub record EnvironmentBound (before : List ℕ) (s count : ℕ) (after : List ℕ) : Type 0 where
  pub in_block : InBlock s before after (block after s)
  pub others : (k : ℕ) → (112 ≤ k → k < 112 + count → ⊥) → block after s k ≡ block before s k
  pub names : tabulate_from 0 count (owner_in (block after s)) ≡ environment_bindings count 0

-- The routine in slot s has these names. No word changed but those of its names and of their number.
pub record NamesBound (before : List ℕ) (s : ℕ) (owners : List Owner) (after : List ℕ) : Type 0 where
  pub in_block : InBlock s before after (block after s)
  pub others : (k : ℕ) → (k ≡ 110 → ⊥) → (112 ≤ k → k < 128 → ⊥) → block after s k ≡ block before s k
  pub bindings : bindings_in (block after s) ≡ owners
