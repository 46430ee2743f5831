-- `engine_main_row::main_routine::bind_main` meets its contract.
use mathlib.Core.Path.{ap, ◌∙◌}
use mathlib.Core.List.{List, ◌++◌}
use native.Mathlib.Omega.{arith}
use Rattle.engine_rows.specs.Rows.{Owner}
use Rattle.engine_rows.specs.Engine.{own_bindings}
use Rattle.engine_new_names.proofs.OwnNames.{all_names}
use Rattle.engine_main_row.proofs.MainNames.{main_there, main_bound}
use Rattle.engine_main_row.proofs.main_routine.bind_main.Goals as goal

pub opening_of-opening-requires : goal.opening_of-opening-requires
opening_of-opening-requires c = (c.requires.0, main_there c.args.t.now c.requires.0)

pub bind_environment-requires : goal.bind_environment-requires
bind_environment-requires c = (c.requires.1, c.requires.2, omega (arith, c.opening_of-opening.ensures.1.names))

pub bind_own-requires : goal.bind_own-requires
bind_own-requires c =
    let O = c.opening_of-opening.ensures.1 in
    (omega (arith, c.requires.1, c.bind_environment.ensures.in_block.size), c.requires.2, O.names, omega (arith, O.names))

pub overflow_add-count : goal.overflow_add-count
overflow_add-count c = omega (arith, c.opening_of-opening.ensures.1.names)

pub overflow_cast-count : goal.overflow_cast-count
overflow_cast-count c = omega (arith, c.opening_of-opening.ensures.1.names)

pub put_word-requires : goal.put_word-requires
put_word-requires c = (omega (arith, c.requires.1, c.bind_environment.ensures.in_block.size, c.bind_own.ensures.in_block.size), omega (arith, c.requires.2), omega arith)

pub shape_of-m : goal.shape_of-m
shape_of-m c = omega (arith, c.bind_environment.ensures.in_block.size, c.bind_own.ensures.in_block.size, c.put_word.ensures.size)

pub returns : goal.returns
returns c =
    let a = c.args in
    let E = c.bind_environment.ensures in
    let O = c.opening_of-opening.ensures.1 in
    all_names E.in_block E.others
    (ap (λ (l : List Owner). l ++ own_bindings c.opening_of-opening.result.locals a.s 0) E.names ∙ main_bound a.t.now c.requires.0 a.s O)
    O.names c.bind_own.ensures c.put_word.ensures
