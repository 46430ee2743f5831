-- `table_lines::kinds_of` meets its contract.
use native.Mathlib.Omega.{arith}
use Rattle.table_lines.proofs.Openings as openings
use Rattle.table_lines.proofs.opens.kinds_of.Goals as goal

pub bounds-s-from : goal.bounds-s-from
bounds-s-from c =
    let a = c.args in
    let p = c.requires in
    omega (arith, openings.some_letter a.s.now a.from a.to p.0 p.1 p.2, p.1)

pub returns-then-s-from-eq45 : goal.returns-then-s-from-eq45
returns-then-s-from-eq45 c =
    let a = c.args in
    let p = c.requires in
    openings.kinds_none a.s.now a.from a.to p.0 p.1 p.2 c.if-s-from-eq45.true

pub overflow_cast-result : goal.overflow_cast-result
overflow_cast-result c =
    let a = c.args in
    let p = c.requires in
    omega (arith, openings.kinds_number a.s.now a.from a.to p.0 p.1 p.2 c.if-s-from-eq45.false, p.2.few)

pub kind_bits-requires : goal.kind_bits-requires
kind_bits-requires c =
    let a = c.args in
    let p = c.requires in
    (p.0, p.1, omega (arith, openings.kinds_number a.s.now a.from a.to p.0 p.1 p.2 c.if-s-from-eq45.false, p.2.few))

pub returns : goal.returns
returns c =
    let a = c.args in
    let p = c.requires in
    openings.kinds_some a.s.now a.from a.to p.0 p.1 p.2 c.if-s-from-eq45.false _ c.kind_bits.ensures
