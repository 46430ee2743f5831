use mathlib.Core.List.{List}
use Prim.Native.Nat.{ℕ, ◌+◌, ◌*◌, ◌≤◌}
use lib.ListN.{length}
use Rattle.table.specs.Decode.{names_at}
use Rattle.engine_rows.specs.Rows.{Owner}
use Rattle.engine_blocks.specs.Blocks.{rows_of}
use Rattle.engine_triggers.specs.Awaited.{lists_with}
use Rattle.engine_triggers.specs.Chains.{Chains, OnlyTriggers}
use Rattle.engine_triggers.proofs.list_names.Given as goal

-- `engine_triggers::list_names` meets its contract.
abbrev pub invariant-loop-j : goal.invariant-loop-j
invariant-loop-j l =
    (12288 ≤ length l.m) × (OnlyTriggers l.initial.m l.m)
    × ((lists : Owner → List ℕ) → Chains l.initial.m (4 * l.s) lists → Chains l.m (4 * l.s + l.j) (lists_with (rows_of l.initial.m l.s).bindings l.s (names_at l.t l.cells l.j) lists))
