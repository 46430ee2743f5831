-- What a look tells of a machine that a call left: the moment of that call's instant, and the next moment due that its result gave.
use mathlib.Core.Path.{◌≡◌}
use mathlib.Core.List.{List}
use Prim.Native.Nat.{ℕ, ◌≤◌}
use lib.ListN.{length}
use borrow.Author.Tests.{le-leb}
use Rattle.walk.specs.Instant.{Done}
use Rattle.walk.specs.Calls.{Layout, MachineAfter, runs, done, outcome_figures}
use Rattle.call_look.specs.Look.{seen, seen_unstopped, seen_machine, seen_table, ask_looked, look_call}

pub a_look_after_a_call : {layout : Layout} {table before after : List ℕ} {d : Done} → 12288 ≤ length table → 12288 ≤ length after
    → MachineAfter layout table before after (done d)
    → look_call layout table after ≡ seen d.state.now (outcome_figures (done d)).due
unfolding look_call ask_looked seen_table seen_machine seen_unstopped outcome_figures
a_look_after_a_call {table = table} {after = after} long kept (runs is state running size later) =
    rw (le-leb 12288 (length table) long, le-leb 12288 (length after) kept, is, state)
