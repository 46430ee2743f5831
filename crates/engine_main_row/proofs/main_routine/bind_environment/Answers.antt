-- `engine_main_row::main_routine::bind_environment` meets its contract.
use mathlib.Core.Path.{refl}
use Rattle.engine_new_names.proofs.OwnNames.{environment_start, environment_next, environment_end}
use borrow.Author.Rules.{rules}
use Rattle.engine_main_row.proofs.main_routine.bind_environment.Goals as goal

pub loop-j-init : goal.loop-j-init
loop-j-init c = let a = c.args in environment_start a.m.now a.s a.count

pub loop-j-preserved : goal.loop-j-preserved
loop-j-preserved c = let v = c.loop-j in environment_next v.invariant (search rules) c.loop-j-test.true refl c.put_word.ensures

pub returns : goal.returns
returns c = environment_end c.loop-j.invariant c.loop-j-test.false
