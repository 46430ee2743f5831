-- `table_check::is_table` meets its contract.
use Prim.Native.Nat.{◌<◌}
use mathlib.Core.Path.{sym}
use native.Mathlib.Omega.{arith}
use lib.ListN.{length, take, length-take}
use borrow.Author.Tests.{lt-leb}
use Rattle.table_check.proofs.Whole as whole
use Rattle.table_check.proofs.is_table.Goals as goal

pub returns-else-t-ge-TABLE_WORDS : goal.returns-else-t-ge-TABLE_WORDS
returns-else-t-ge-TABLE_WORDS c =
    let t = c.args.t.now in
    let l : length (take 12288 t) < 12288 = simp length-take (omega arith) in
    rw (lt-leb 12288 (length t) c.if-t-ge-TABLE_WORDS.false) (sym (whole.short_is_no_table (take 12288 t) l))
