-- An expression of a table that passes question 6 is one that can be evaluated for a routine with as many names.
use mathlib.Core.Path.{◌≡◌}
use mathlib.Core.List.{List}
use Prim.Native.Nat.{ℕ, ◌≤◌, ◌<◌}
use native.Mathlib.Omega.{arith}
use lib.ListN.{length}
use Rattle.table.specs.Decode.{word, names_of, table_listing}
use Rattle.table.specs.Entry.{ExpressionStands}
use Rattle.table.proofs.Reach.{arguments_by_number, locals_by_number}
use Rattle.engine_rows.proofs.Steady.{name_count}
use Rattle.engine_evaluate.specs.Bound.{bindings_of}
use Rattle.engine_evaluate.specs.Evaluable.{Evaluable}

pub standing_evaluable : {t m : List ℕ} {names me cells pieces : ℕ} → length t ≡ 12288 → 12288 ≤ length m → me < 64
    → length (bindings_of m me) ≡ names → ExpressionStands t names cells pieces → Evaluable t m me cells pieces
standing_evaluable table memory slot count stands =
    record { size = memory; slot = slot; inside = omega (arith, stands.inside); form = stands.form; names = rw count stands.there }

-- the names of a routine, counted in the listing and in the table's words
pub table_names : (t : List ℕ) (r : ℕ) → r < word t 2 → name_count (table_listing t) r ≡ names_of t r
unfolding name_count
table_names t r there = rw (arguments_by_number t r there, locals_by_number t r there)
