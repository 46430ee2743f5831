use Rattle.engine_finish.specs.Ended.{stored}
use mathlib.Core.Path.{refl}
use lib.ListN.{length-set}
use borrow.Author.Rules.{rules}
use Rattle.engine_finish.proofs.ending.store_header.Goals as goal

pub bounds-m-2 : goal.bounds-m-2
bounds-m-2 c = simp length-set (search rules)

pub bounds-m-3 : goal.bounds-m-3
bounds-m-3 c = simp length-set (search rules)

pub shape_of-m : goal.shape_of-m
shape_of-m c = simp length-set

pub returns : goal.returns
unfolding stored
returns c = refl
