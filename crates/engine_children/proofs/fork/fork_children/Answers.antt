-- `engine_children::fork::fork_children` meets its contract.
use mathlib.Core.Path.{◌≡◌, refl}
use native.Mathlib.Omega.{arith}
use Rattle.engine_children.proofs.ChildSteps.{table_size_lem, head_inside}
use Rattle.engine_children.proofs.Forking.{fork_start, may_make, some_free, slot_found, fork_next, fork_end}
use borrow.Author.Rules.{rules}
use Rattle.engine_rows.specs.Engine.{free_slot}
use Rattle.engine_blocks.specs.Blocks.{rows_of}
use Rattle.engine_children.proofs.fork.fork_children.Goals as goal
use Rattle.engine_children.proofs.fork.fork_children.Goals.{After-unwrap-s}

pub loop-i-init : goal.loop-i-init
loop-i-init c = fork_start c.requires _ (search rules)

pub free_slot-requires : goal.free_slot-requires
free_slot-requires c = omega (arith, c.requires.size, c.loop-i.invariant.outside.size)

pub overflow_cast-i : goal.overflow_cast-i
overflow_cast-i c = omega (arith, c.requires.divides.most, c.loop-i-test.true)

pub overflow_cast-n : goal.overflow_cast-n
overflow_cast-n c = omega (arith, c.requires.divides.most)

pub unwrap-s-requires : goal.unwrap-s-requires
unwrap-s-requires c = some_free c.requires c.loop-i.invariant c.loop-i-test.true _ c.free_slot.ensures

-- The slot is the one that the definition finds.
is_found : (c : After-unwrap-s) → c.unwrap-s.result ≡ free_slot (rows_of c.loop-i.m) 64
is_found c = slot_found c.requires c.loop-i.invariant c.loop-i-test.true _ _ c.unwrap-s.ensures c.free_slot.ensures

pub new_child-requires : goal.new_child-requires
new_child-requires c =
    let F = c.requires in
    let G = c.loop-i.invariant in
    let more = c.loop-i-test.true in
    rw (is_found (goal.at.new_child-requires c).After-unwrap-s) (may_make F G more)

pub overflow_cast-places : goal.overflow_cast-places
overflow_cast-places c = let s = (may_make c.requires c.loop-i.invariant c.loop-i-test.true).slot in omega (arith, is_found (goal.at.overflow_cast-places c).After-unwrap-s, s)

pub bounds-places-i : goal.bounds-places-i
bounds-places-i c = omega (arith, c.loop-i.invariant.size, c.requires.divides.most, c.loop-i-test.true)

pub next_head-head-requires : goal.next_head-head-requires
next_head-head-requires c =
    let F = c.requires in
    (table_size_lem c.args.t.now F.table, head_inside (may_make F c.loop-i.invariant c.loop-i-test.true))

pub loop-i-preserved : goal.loop-i-preserved
loop-i-preserved c =
    let F = c.requires in
    let G = c.loop-i.invariant in
    let more = c.loop-i-test.true in
    rw c.next_head-head.ensures (fork_next F G more c.unwrap-s.result (is_found (goal.at.loop-i-preserved c).After-unwrap-s) c.new_child.ensures)

pub shape_of-m : goal.shape_of-m
shape_of-m c = c.loop-i.invariant.outside.size

pub returns : goal.returns
returns c = fork_end c.requires c.loop-i.invariant _ refl refl c.loop-i-test.false
