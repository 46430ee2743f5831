-- `engine_new_names::names::bind_arguments` meets its contract.
use native.Mathlib.Omega.{arith}
use Rattle.engine_evaluate.proofs.Names.{names_few}
use Rattle.engine_new_names.proofs.Naming.{arguments_start, argument_there, arguments_next, arguments_end}
use Rattle.engine_new_names.proofs.names.bind_arguments.Goals as goal

pub loop-j-init : goal.loop-j-init
loop-j-init c = arguments_start c.requires

pub overflow_mul-j : goal.overflow_mul-j
overflow_mul-j c = omega (arith, c.requires.few, c.requires.names.inside)

pub overflow_add-at : goal.overflow_add-at
overflow_add-at c = omega (arith, c.requires.few, c.requires.names.inside)

pub name_at-requires : goal.name_at-requires
name_at-requires c = let p = c.requires in (p.table, omega (arith, p.names.inside, c.loop-j-test.true))

pub argument_word-word-requires : goal.argument_word-word-requires
argument_word-word-requires c =
    let p = c.requires in
    let v = c.loop-j in
    let few = names_few c.args.m.now c.args.me p.caller in
    let there = argument_there p v.invariant c.loop-j-test.true in
    (omega (arith, p.size, v.invariant.in_block.size), p.caller, p.slot, omega (arith, few, there, c.name_at.ensures), omega (arith, v.invariant.few, p.few, c.loop-j-test.true))

pub overflow_add-j : goal.overflow_add-j
overflow_add-j c = omega (arith, c.requires.few, c.loop-j.invariant.within)

pub put_word-requires : goal.put_word-requires
put_word-requires c =
    let p = c.requires in
    let v = c.loop-j in
    (omega (arith, p.size, v.invariant.in_block.size), omega (arith, p.slot), omega (arith, p.few, c.loop-j-test.true))

pub overflow_add-own : goal.overflow_add-own
overflow_add-own c = omega (arith, c.requires.few, c.loop-j.invariant.few, c.loop-j-test.true)

pub loop-j-preserved : goal.loop-j-preserved
loop-j-preserved c =
    let p = c.requires in
    let v = c.loop-j in
    let w = c.argument_word-word.ensures in
    let name = c.name_at.ensures in
    arguments_next p v.invariant c.loop-j-test.true c.put_word.ensures (λ e. rw name at (w.0 e)) (λ n. w.1 n)

pub shape_of-m : goal.shape_of-m
shape_of-m c = c.loop-j.invariant.in_block.size

pub returns : goal.returns
returns c = arguments_end c.requires c.loop-j.invariant c.loop-j-test.false
