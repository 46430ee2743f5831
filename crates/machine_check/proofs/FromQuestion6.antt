-- Question 6 gives what the scan needs of a table, and the limits that the machine's layout needs of its listing.
use mathlib.Core.Path.{◌≡◌}
use mathlib.Core.Bool.{true}
use mathlib.Core.List.{List}
use Prim.Native.Nat.{ℕ}
use native.Mathlib.Omega.{arith}
use Rattle.table.specs.Decode.{table_listing}
use Rattle.table.specs.Question6.{is_table}
use Rattle.table.proofs.Bounds.{bounds}
use Rattle.table.proofs.Table.{table_meets}
use Rattle.table.proofs.Entry.{fetched}
use Rattle.table.proofs.WalkBounds.{owned_few, code_few, ports_few, children_few}
use Rattle.machine.specs.Limits.{WithinLimits}
use Rattle.table_child_fields.specs.Tables.{TableBounds}

pub table_bounds : (w : List ℕ) → is_table w ≡ true → TableBounds w
table_bounds w h =
    let B = bounds w h in
    record {
      main = B.unused 4 (omega arith) (omega arith);
      some = B.some;
      most = B.few;
      code = B.code;
      heads = λ r place t k six.
          let F = (fetched w h r t place k).forks six in
          record {
            inside = λ j l. let n = (F.children j l).arguments.inside in omega arith;
            there = λ j l. (F.children j l).callee;
          };
    }

pub table_within_limits : (w : List ℕ) → is_table w ≡ true → WithinLimits (table_listing w)
table_within_limits w h =
    let m = table_meets w h in
    record { owned = owned_few (table_listing w) m; code = code_few (table_listing w) m; children = children_few (table_listing w) m; ports = ports_few (table_listing w) m }
