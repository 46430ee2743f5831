-- `explain_there::there::there_fault` meets its contract.
use native.Mathlib.Omega.{arith}
use borrow.Author.Tests.{eq-eqb, ne_eqb, le-leb, lt-leb}
use Rattle.explain_parts.proofs.Parts.{some_part, few_parts}
use Rattle.explain_there.specs.There.{there_fault}
use Rattle.explain_there.proofs.there.there_fault.Goals as goal

pub returns-then-place-le1 : goal.returns-then-place-le1
unfolding there_fault
returns-then-place-le1 c = rw (c.about.ensures, le-leb _ 1 c.if-place-le1.true)

pub returns-then-letter-eq82 : goal.returns-then-letter-eq82
unfolding there_fault
returns-then-letter-eq82 c = rw (c.about-then-letter-eq82.ensures, lt-leb _ 1 c.if-place-le1.false, ← c.first_byte-letter.ensures, eq-eqb _ 82 c.if-letter-eq82.true)

pub overflow_sub-count_parts : goal.overflow_sub-count_parts
overflow_sub-count_parts c = omega (arith, c.count_parts.ensures, some_part 9 c.args.line.now)

pub fields_there-requires : goal.fields_there-requires
fields_there-requires c = let s = c.args.line.now in (c.requires.1, omega (arith, c.count_parts.ensures, few_parts 9 s, c.requires.1))

pub returns : goal.returns
unfolding there_fault
returns c = rw (lt-leb _ 1 c.if-place-le1.false, ← c.first_byte-letter.ensures, ne_eqb _ 82 c.if-letter-eq82.false, ← c.count_parts.ensures, ← c.scope_at-scope.ensures) c.fields_there.ensures
