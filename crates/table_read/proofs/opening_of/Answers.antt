-- `table_read::opening_of` meets its contract.
use mathlib.Core.Path.{refl}
use native.Mathlib.Omega.{arith}
use Rattle.table.proofs.Bounds.{bounds}
use Rattle.table.proofs.Reach as reach
use Rattle.table_read.proofs.opening_of.Goals as goal

pub returns : goal.returns
returns c =
    let a = c.args in
    let w = a.t.now in
    let b = bounds w c.requires.0 in
    let l = c.requires.1 in
    let code = b.code a.r l in (
      refl,
      record {
        kinds = reach.kinds_by_number w a.r l;
        count = reach.arguments_by_number w a.r l;
        own = reach.locals_by_number w a.r l;
        code = reach.code_length_by_number w a.r l;
        names = b.names a.r l;
        some = b.line a.r l;
        few = omega arith;
      },
    )
