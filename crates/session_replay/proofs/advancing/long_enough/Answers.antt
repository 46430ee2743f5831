-- `session_replay::advancing::long_enough` meets its contract.
use native.Mathlib.Omega.{arith}
use Prim.Native.Nat.{◌≤◌, ◌<◌}
use borrow.Author.Tests.{le-leb, lt-leb}
use Rattle.session_replay.specs.Advancing.{lengths_suffice}
use Rattle.session_replay.proofs.advancing.long_enough.Goals as goal

pub returns-then-table-lt-TABLE_WORDS : goal.returns-then-table-lt-TABLE_WORDS
unfolding lengths_suffice
returns-then-table-lt-TABLE_WORDS c =
    let a = c.args in
    let s : a.table < 12288 = omega arith in
    rw (lt-leb 12288 a.table s)

pub returns-then-machine-lt-MACHINE_WORDS : goal.returns-then-machine-lt-MACHINE_WORDS
unfolding lengths_suffice
returns-then-machine-lt-MACHINE_WORDS c =
    let a = c.args in
    let h : 12288 ≤ a.table = omega arith in
    let s : a.machine < 12288 = omega arith in
    rw (le-leb 12288 a.table h, lt-leb 12288 a.machine s)

pub returns : goal.returns
unfolding lengths_suffice
returns c =
    let a = c.args in
    let h : 12288 ≤ a.table = omega arith in
    let g : 12288 ≤ a.machine = omega arith in
    rw (le-leb 12288 a.table h, le-leb 12288 a.machine g)
