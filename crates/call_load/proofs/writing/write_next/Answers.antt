-- `call_load::write_next` meets its contract.
use native.Mathlib.Omega.{arith}
use Rattle.call_load.proofs.Beginning as beginning
use Rattle.call_load.proofs.Turn as turn
use Rattle.call_load.proofs.writing.write_next.Goals as goal

pub overflow_mul-to : goal.overflow_mul-to
overflow_mul-to c = omega (arith, (turn.bounded _ c.requires.0 _ _ c.requires.1).1)

pub overflow_add-to : goal.overflow_add-to
overflow_add-to c = omega (arith, (turn.bounded _ c.requires.0 _ _ c.requires.1).1)

pub overflow_add-to-2 : goal.overflow_add-to-2
overflow_add-to-2 c = omega (arith, (turn.bounded _ c.requires.0 _ _ c.requires.1).2)

pub write_line-written-requires : goal.write_line-written-requires
write_line-written-requires c =
    let p = c.requires in
    let b = turn.bounded _ p.0 _ _ p.1 in
    (p.1.formed.within, beginning.is_short _ p.0, omega (arith, b.1), omega (arith, b.2), turn.good _ p.0 _ _ p.1 p.2)

pub enter-requires : goal.enter-requires
enter-requires c =
    let p = c.requires in
    turn.room _ p.0 _ _ p.1 p.2 _ _ c.write_line-written.ensures

pub advance-requires : goal.advance-requires
advance-requires c =
    let p = c.requires in
    turn.room _ p.0 _ _ p.1 p.2 _ _ c.write_line-written.ensures

pub returns : goal.returns
returns c =
    let p = c.requires in
    let w = c.write_line-written.ensures in
    let e = c.enter.ensures in (
      turn.progress_is _ p.0 _ _ p.1 p.2 _ _ w _ _ e c.advance.ensures,
      turn.words_are _ p.0 _ _ p.1 p.2 _ _ w _ _ e c.advance.ensures,
      turn.turned _ p.0 _ _ p.1 p.2 _ _ w _ _ e c.advance.ensures,
      turn.moved _ p.0 _ _ p.1 p.2 _ _ w _ _ e c.advance.ensures,
    )
