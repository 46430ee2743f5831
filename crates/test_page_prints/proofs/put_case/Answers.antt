-- `test_page_prints::put_case` meets its contract.
use mathlib.Core.Path.{◌≡◌}
use Prim.Native.Nat.{◌-◌}
use native.Mathlib.Omega.{arith}
use lib.ListN.{length, take, drop, length-drop}
use lib.Seq.{take_all}
use Rattle.session_print.proofs.LineBytes as line
use Rattle.test_cases.proofs.Telling.{all_words}
use Rattle.test_page_prints.specs.Prints.{refused, short, page}
use Rattle.test_page_prints.proofs.put_case.Goals as goal

pub returns-then-r-ne0 : goal.returns-then-r-ne0
returns-then-r-ne0 c = let p = c.put_line.ensures in (refused c.if-r-ne0.true (all_words _ _ c.all_are.ensures) p.0, omega (arith, p.1))

pub returns-then-memory-lt-PAGE_BYTES : goal.returns-then-memory-lt-PAGE_BYTES
returns-then-memory-lt-PAGE_BYTES c = let p = c.put_line-then-memory-lt-PAGE_BYTES.ensures in (short c.if-r-ne0.false c.if-memory-lt-PAGE_BYTES.true p.0, omega (arith, p.1))

pub returns : goal.returns
returns c =
    let a = c.args in
    let first = c.put_line-a.ensures in
    let rows = c.put_rows.ensures in
    let m = a.memory.now in
    let rest : take (length m - 2700) (drop 2700 m) ≡ drop 2700 m = take_all _ _ (omega (arith, length-drop 2700 m)) in
    let kept = rw rest at (all_words a.byte _ c.all_are-kept.ensures) in
    (page c.if-r-ne0.false c.if-memory-lt-PAGE_BYTES.false kept rows.said (line.then_bytes first.0 rows.puts), omega (arith, first.1, rows.few))
