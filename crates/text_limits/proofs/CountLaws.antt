-- What counting one line more gives, test by test.
use Rattle.std.specs.Prelude.{Some, None}
use mathlib.Core.Path.{◌≡◌}
use Prim.Native.Nat.{ℕ, ◌+◌, ◌-◌, ◌≤◌, ◌<◌}
use native.Mathlib.Omega.{arith}
use borrow.Author.Tests.{le-leb, lt-leb}
use Rattle.text_limits.specs.Counting.{WithinLimits, count_opens, count_instruction}
use Rattle.text_limits.specs.declared.counts.Counts.{Counts}

module _ (held : Counts) (w : WithinLimits held) where
  pub too_many_routines : (arguments locals : ℕ) → 64 ≤ held.routines → None ≡ count_opens held arguments locals
  too_many_routines arguments locals h = rw (lt-leb (held.routines + 1) 64 (omega arith))

  pub too_many_names : (arguments locals : ℕ) → held.routines < 64 → 16 < arguments + locals → None ≡ count_opens held arguments locals
  too_many_names arguments locals h k = rw (le-leb (held.routines + 1) 64 (omega arith), lt-leb (arguments + locals) 16 k)

  pub opens_counted : (arguments locals : ℕ) → held.routines < 64 → arguments + locals ≤ 16
      → Some (record { routines = held.routines + 1; instructions = held.instructions; pieces = held.pieces }) ≡ count_opens held arguments locals
  opens_counted arguments locals h k = rw (le-leb (held.routines + 1) 64 (omega arith), le-leb (arguments + locals) 16 k)

  pub too_many_instructions : (pieces : ℕ) → 512 ≤ held.instructions → None ≡ count_instruction held pieces
  too_many_instructions pieces h = rw (lt-leb (held.instructions + 1) 512 (omega arith))

  pub too_many_pieces : (pieces : ℕ) → held.instructions < 512 → 4096 - held.pieces < pieces → None ≡ count_instruction held pieces
  too_many_pieces pieces h k = rw (le-leb (held.instructions + 1) 512 (omega arith), lt-leb (held.pieces + pieces) 4096 (omega (arith, w.pieces)))

  pub instruction_counted : (pieces : ℕ) → held.instructions < 512 → pieces ≤ 4096 - held.pieces
      → Some (record { routines = held.routines; instructions = held.instructions + 1; pieces = held.pieces + pieces }) ≡ count_instruction held pieces
  instruction_counted pieces h k = rw (le-leb (held.instructions + 1) 512 (omega arith), le-leb (held.pieces + pieces) 4096 (omega (arith, w.pieces)))
