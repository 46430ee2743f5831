-- `engine_main_row::main_routine::main_row` meets its contract.
use native.Mathlib.Omega.{arith}
use Rattle.engine_main_row.proofs.MainNames.{main_there}
use Rattle.engine_main_row.proofs.MainRows.{main_reaches, main_made}
use Rattle.engine_main_row.proofs.main_routine.main_row.Goals as goal

pub clear_words-requires : goal.clear_words-requires
clear_words-requires c = (c.requires.1, omega (arith, c.requires.2), omega arith, omega arith)

pub opening_of-opening-requires : goal.opening_of-opening-requires
opening_of-opening-requires c = (c.requires.0, main_there c.args.t.now c.requires.0)

pub main_parent-parent-requires : goal.main_parent-parent-requires
main_parent-parent-requires c = c.requires.0

pub overflow_cast-locals : goal.overflow_cast-locals
overflow_cast-locals c = omega (arith, c.opening_of-opening.ensures.1.names)

pub put_kept-requires : goal.put_kept-requires
put_kept-requires c = (omega (arith, c.requires.1, c.clear_words.ensures.size), c.requires.2)

pub put_working-requires : goal.put_working-requires
put_working-requires c =
    let P = c.main_parent-parent.ensures in
    (omega (arith, c.requires.1, c.clear_words.ensures.size, c.put_kept.ensures.size), c.requires.2, omega (arith, P.slot), main_reaches P)

pub bind_main-requires : goal.bind_main-requires
bind_main-requires c = (c.requires.0, omega (arith, c.requires.1, c.clear_words.ensures.size, c.put_kept.ensures.size, c.put_working.ensures.size), c.requires.2)

pub shape_of-m : goal.shape_of-m
shape_of-m c = omega (arith, c.clear_words.ensures.size, c.put_kept.ensures.size, c.put_working.ensures.size, c.bind_main.ensures.in_block.size)

pub returns : goal.returns
returns c = main_made c.requires.0 c.requires.2 c.opening_of-opening.ensures.1 c.main_parent-parent.ensures c.clear_words.ensures c.put_kept.ensures c.put_working.ensures c.bind_main.ensures
