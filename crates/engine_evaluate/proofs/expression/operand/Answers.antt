-- `operand` meets its contract: each arm has the value that a piece of its kind adds.
use native.Mathlib.Omega.{arith}
use Rattle.engine_evaluate.proofs.Pieces as pieces
use Rattle.engine_evaluate.proofs.expression.operand.Goals as goal

pub overflow_add-v : goal.overflow_add-v
overflow_add-v c = omega (arith, c.requires.0.inside)

pub bounds-t-at : goal.bounds-t-at
bounds-t-at c = omega (arith, c.requires.0.inside)

pub bounds-t-at-2 : goal.bounds-t-at-2
bounds-t-at-2 c = omega (arith, c.requires.0.inside)

pub value_of-requires : goal.value_of-requires
value_of-requires c =
    let stands = c.requires.0 in
    (stands.size, stands.slot, pieces.value_is_there stands c.in-1.is)

pub mark_of-requires : goal.mark_of-requires
mark_of-requires c =
    let stands = c.requires.0 in
    (stands.size, stands.slot, pieces.mark_is_there stands c.in-2.is)

pub returns-in-0 : goal.returns-in-0
returns-in-0 c = pieces.adds_literal c.in-0.is

pub returns-in-1 : goal.returns-in-1
returns-in-1 c = pieces.adds_value c.in-1.is c.value_of.ensures

pub returns-in-2 : goal.returns-in-2
returns-in-2 c = pieces.adds_mark c.in-2.is c.mark_of.ensures

pub returns-in_default : goal.returns-in_default
returns-in_default c =
    let r = c.in_default.in_default-own.rest in
    pieces.adds_none (record { not0 = r.0.0.1; not1 = r.0.1; not2 = r.1; no_sign = c.requires.1 })
