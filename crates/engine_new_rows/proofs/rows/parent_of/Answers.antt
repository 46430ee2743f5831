-- `engine_new_rows::rows::parent_of` meets its contract.
use mathlib.Core.Path.{refl}
use native.Mathlib.Omega.{arith}
use Rattle.engine_new_rows.proofs.Priorities.{own_length}
use Rattle.engine_new_rows.proofs.rows.parent_of.Goals as goal

pub overflow_sub-bits : goal.overflow_sub-bits
overflow_sub-bits c = omega (arith, c.fork_bits.ensures.bits, c.bits.ensures, c.requires.2.bits)

pub overflow_add-level : goal.overflow_add-level
overflow_add-level c = omega (arith, c.level-level.ensures, c.requires.2.level)

pub overflow_cast-base : goal.overflow_cast-base
overflow_cast-base c = omega (arith, c.own_count.ensures)

pub overflow_add-base : goal.overflow_add-base
overflow_add-base c =
    let a = c.args in
    let n = own_length a.m.now a.me c.requires.1 in omega (arith, c.own_count.ensures, c.base.ensures, c.requires.2.base, n)

pub returns : goal.returns
returns c =
    let a = c.args in
    let n = own_length a.m.now a.me c.requires.1 in
    record {
      slot = refl;
      level = omega (arith, c.level-level.ensures);
      base = omega (arith, c.base.ensures, c.own_count.ensures, n);
      low = c.low-low.ensures;
      bits = omega (arith, c.bits.ensures, c.fork_bits.ensures.bits);
    }
