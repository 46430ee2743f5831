-- `engine_new_rows::rows::put_working` meets its contract.
use Prim.Native.Nat.{◌+◌, ◌*◌, ◌^◌}
use native.Mathlib.Omega.{arith}
use Rattle.engine_blocks.proofs.InBlocks.{in_block_put_then}
use Rattle.engine_new_rows.specs.NewRow.{working_block}
use Rattle.engine_new_rows.proofs.rows.put_working.Goals as goal

pub overflow_cast-p : goal.overflow_cast-p
overflow_cast-p c = omega (arith, c.requires.2)

pub put_word-requires-7 : goal.put_word-requires-7
put_word-requires-7 c = (
  omega (
    arith,
    c.requires.0,
    c.put_word.ensures.size,
    c.put_word-2.ensures.size,
    c.put_word-3.ensures.size,
    c.put_word-4.ensures.size,
    c.put_word-5.ensures.size,
    c.put_word-6.ensures.size,
  ),
  omega (arith, c.requires.1),
  omega arith,
)

pub returns : goal.returns
unfolding working_block
returns c =
    let a = c.args in
    let p = a.p in
    in_block_put_then 111 p.base (in_block_put_then 109 a.routine (in_block_put_then 108 p.bits (in_block_put_then 107 (p.low + a.i * 2 ^ p.bits)
    (in_block_put_then 106 0 (in_block_put_then 105 p.slot c.put_word.ensures c.put_word-2.ensures) c.put_word-3.ensures)
    (rw c.low_of.ensures at c.put_word-4.ensures)) c.put_word-5.ensures) c.put_word-6.ensures) c.put_word-7.ensures
