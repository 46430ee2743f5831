-- `engine_new_names::names::bind_own` meets its contract.
use mathlib.Core.Path.{refl}
use Rattle.engine_new_names.proofs.OwnNames.{own_start, own_next, own_end}
use borrow.Author.Rules.{rules}
use Rattle.engine_new_names.proofs.names.bind_own.Goals as goal

pub loop-j-init : goal.loop-j-init
loop-j-init c = let a = c.args in own_start a.m.now a.s a.from a.count a.own

pub loop-j-preserved : goal.loop-j-preserved
loop-j-preserved c = let v = c.loop-j in own_next v.invariant (search rules) (search rules) c.loop-j-test.true refl c.put_word.ensures

pub returns : goal.returns
returns c = own_end c.loop-j.invariant c.loop-j-test.false
