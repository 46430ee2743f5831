-- `fork_step` meets its contract.
use mathlib.Core.Path.{◌≡◌, refl, sym, ap, ◌∙◌}
use Prim.Native.Nat.{ℕ, suc, ◌+◌, ◌≤◌, ◌<◌}
use native.Mathlib.Omega.{arith}
use borrow.Author.Rules.{rules}
use Rattle.engine_rows.specs.Rows.{Row}
use Rattle.engine_blocks.specs.Blocks.{rows_of}
use Rattle.engine_steps.specs.declared.running.Running.{Running}
use Rattle.engine_fork.proofs.Counted.{counted_clean, may_fork}
use Rattle.engine_fork.proofs.Forked.{too_many, too_deep, may_put, may_pop_child, forks}
use Rattle.engine_fork.proofs.fork_step.Goals as goal

pub overflow_cast-count : goal.overflow_cast-count
overflow_cast-count c = let few = c.requires.most in search rules

pub overflow_add-live : goal.overflow_add-live
overflow_add-live c = let few = c.requires.most in let room = c.requires.room in record { fits = omega arith }

pub returns-then-live-gt64 : goal.returns-then-live-gt64
returns-then-live-gt64 c =
    λ moment.
    let a = c.args in
    too_many a.t.now a.m.now a.running a.cells a.n moment (omega (arith, c.if-live-gt64.true))

pub returns-then-level-gt9 : goal.returns-then-level-gt9
returns-then-level-gt9 c =
    λ moment.
    let a = c.args in
    let over = c.if-live-gt64.false in
    let room : a.running.live + a.n ≤ 64 = omega (arith, over) in
    let is = c.level.ensures in
    let deep : 9 < (rows_of a.m.now a.running.me).level = omega (arith, c.if-level-gt9.true) in
    too_deep a.t.now a.m.now a.running a.cells a.n moment room deep

pub fork_children-new-requires : goal.fork_children-new-requires
fork_children-new-requires c =
    let a = c.args in
    let over = c.if-live-gt64.false in
    let room : a.running.live + a.n ≤ 64 = omega (arith, over) in
    let is = c.level.ensures in
    let level : (rows_of a.m.now a.running.me).level ≤ 9 = omega (arith, c.if-level-gt9.false) in
    let q = c.set_children.ensures in
    let may = c.requires in
    may_fork a.n q a.running refl may level room (counted_clean a.running.me a.n q may.slot may.live may.clean)

pub put_before-ready-requires : goal.put_before-ready-requires
put_before-ready-requires c =
    let a = c.args in
    let over = c.if-live-gt64.false in
    let room : a.running.live + a.n ≤ 64 = omega (arith, over) in
    may_put c.set_children.ensures c.fork_children-new.ensures c.requires room

pub next_ready-requires : goal.next_ready-requires
next_ready-requires c =
    let a = c.args in
    let u = a.running in
    let over = c.if-live-gt64.false in
    let room : u.live + a.n ≤ 64 = omega (arith, over) in
    may_pop_child c.set_children.ensures c.fork_children-new.ensures c.requires
    (record { ready = c.put_before-ready.result; live = u.live + a.n; woken = u.woken; me = u.me }) c.put_before-ready.ensures.1 refl c.put_before-ready.ensures.0 room

pub returns : goal.returns
returns c =
    λ moment.
    let a = c.args in
    let u = a.running in
    let over = c.if-live-gt64.false in
    let room : u.live + a.n ≤ 64 = omega (arith, over) in
    let is = c.level.ensures in
    let level : (rows_of a.m.now u.me).level ≤ 9 = omega (arith, c.if-level-gt9.false) in
    forks c.set_children.ensures c.fork_children-new.ensures c.requires
    (record { ready = c.put_before-ready.result; live = u.live + a.n; woken = u.woken; me = u.me }) c.put_before-ready.ensures.1 refl moment refl room level
    c.next_ready.ensures
