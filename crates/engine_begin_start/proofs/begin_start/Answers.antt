-- `begin_start` meets its contract.
use mathlib.Core.Path.{refl}
use native.Mathlib.Omega.{arith}
use Rattle.engine_begin_start.proofs.Blank.{begun_start}
use borrow.Author.Rules.{rules}
use Rattle.engine_begin_start.proofs.begin_start.Goals as goal

pub returns : goal.returns
returns c =
    let a = c.args in
    begun_start a.t.now c.requires.0 a.m.now _ _ _ c.requires.1 c.blank.ensures (omega arith) c.main_row.ensures c.empty-ready.ensures.1 refl refl
