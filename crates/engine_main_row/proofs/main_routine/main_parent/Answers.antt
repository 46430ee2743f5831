-- `engine_main_row::main_routine::main_parent` meets its contract.
use mathlib.Core.Path.{refl}
use native.Mathlib.Omega.{arith}
use Rattle.engine_main_row.proofs.MainNames.{main_there, ports_counted}
use Rattle.engine_main_row.proofs.main_routine.main_parent.Goals as goal

pub opening_of-opening-requires : goal.opening_of-opening-requires
opening_of-opening-requires c = (c.requires, main_there c.args.t.now c.requires)

pub overflow_cast-count : goal.overflow_cast-count
overflow_cast-count c = omega (arith, c.opening_of-opening.ensures.1.names)

pub returns : goal.returns
returns c = record { slot = refl; level = refl; base = ports_counted c.args.t.now c.requires c.opening_of-opening.ensures.1; low = refl; bits = refl }
