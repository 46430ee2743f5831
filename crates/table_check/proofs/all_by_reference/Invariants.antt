use Prim.Native.Nat.{◌-◌}
use mathlib.Core.Path.{◌≡◌}
use Rattle.listing.specs.Lists.{all}
use Rattle.listing.specs.Questions.{is_by_reference}
use Rattle.table.specs.Decode.{kinds_of_bits}
use Rattle.table_check.proofs.all_by_reference.Given as goal

abbrev pub invariant-loop : goal.invariant-loop
invariant-loop l = all is_by_reference (kinds_of_bits (l.arguments - l.counter) l.rest) ≡ all is_by_reference (kinds_of_bits l.arguments l.bits)
