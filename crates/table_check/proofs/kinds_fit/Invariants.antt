use Prim.Native.Nat.{◌-◌}
use mathlib.Core.Path.{◌≡◌}
use lib.Dec.{eqb}
use Rattle.table.specs.Areas.{kind_bits}
use Rattle.table.specs.Decode.{kinds_of_bits}
use Rattle.table_check.proofs.kinds_fit.Given as goal

abbrev pub invariant-loop : goal.invariant-loop
invariant-loop l = eqb l.rest (kind_bits (kinds_of_bits (l.arguments - l.counter) l.rest)) ≡ eqb l.bits (kind_bits (kinds_of_bits l.arguments l.bits))
