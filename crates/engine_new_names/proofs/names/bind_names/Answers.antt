-- `engine_new_names::names::bind_names` meets its contract.
use native.Mathlib.Omega.{arith}
use Rattle.engine_new_names.proofs.OwnNames.{all_names}
use Rattle.engine_new_names.proofs.names.bind_names.Goals as goal

pub bind_arguments-own-requires : goal.bind_arguments-own-requires
bind_arguments-own-requires c =
    let p = c.requires in
    record { size = p.size; table = p.table; caller = p.caller; slot = p.slot; apart = p.apart; few = omega (arith, p.few); names = p.names }

pub bind_own-requires : goal.bind_own-requires
bind_own-requires c =
    let p = c.requires in
    let A = c.bind_arguments-own.ensures in
    (omega (arith, p.size, A.in_block.size), p.slot, p.few, omega (arith, p.few, A.few))

pub overflow_add-count : goal.overflow_add-count
overflow_add-count c = omega (arith, c.requires.few)

pub overflow_cast-count : goal.overflow_cast-count
overflow_cast-count c = omega (arith, c.requires.few)

pub put_word-requires : goal.put_word-requires
put_word-requires c =
    let p = c.requires in
    (omega (arith, p.size, c.bind_arguments-own.ensures.in_block.size, c.bind_own.ensures.in_block.size), omega (arith, p.slot), omega arith)

pub shape_of-m : goal.shape_of-m
shape_of-m c = omega (arith, c.bind_arguments-own.ensures.in_block.size, c.bind_own.ensures.in_block.size, c.put_word.ensures.size)

pub returns : goal.returns
returns c =
    let A = c.bind_arguments-own.ensures in
    all_names A.in_block A.others (A.names c.args.locals) c.requires.few c.bind_own.ensures c.put_word.ensures
