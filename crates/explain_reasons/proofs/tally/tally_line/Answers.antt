-- `explain_reasons::tally::tally_line` meets its contract.
use native.Mathlib.Omega.{arith}
use borrow.Author.Tests.{eq-eqb, ne_eqb}
use Rattle.explain_parts.proofs.Parts.{some_part, few_parts}
use Rattle.explain_reasons.specs.Tallies.{tally_line}
use Rattle.explain_reasons.proofs.tally.tally_line.Goals as goal

pub returns-then-letter-eq80 : goal.returns-then-letter-eq80
unfolding tally_line
returns-then-letter-eq80 c = rw (← c.first_byte-letter.ensures, eq-eqb _ 80 c.if-letter-eq80.true)

pub returns-then-letter-eq82 : goal.returns-then-letter-eq82
unfolding tally_line
returns-then-letter-eq82 c = rw (← c.first_byte-letter.ensures, ne_eqb _ 80 c.if-letter-eq80.false, eq-eqb _ 82 c.if-letter-eq82.true)

pub overflow_sub-result : goal.overflow_sub-result
overflow_sub-result c = omega (arith, c.count_parts.ensures, some_part 9 c.args.line.now)

pub overflow_add-result-3 : goal.overflow_add-result-3
overflow_add-result-3 c = record { fits = omega (arith, c.count_parts.ensures, few_parts 9 c.args.line.now, c.requires.0.pieces, c.requires.1) }

pub overflow_sub-result-2 : goal.overflow_sub-result-2
overflow_sub-result-2 c = omega (arith, c.count_parts-2.ensures, some_part 32 c.args.line.now)

pub overflow_add-result-4 : goal.overflow_add-result-4
overflow_add-result-4 c =
    let s = c.args.line.now in
    record { fits = omega (arith, c.count_parts.ensures, c.count_parts-2.ensures, few_parts 9 s, few_parts 32 s, c.requires.0.pieces, c.requires.1) }

pub returns : goal.returns
unfolding tally_line
returns c = rw (← c.first_byte-letter.ensures, ne_eqb _ 80 c.if-letter-eq80.false, ne_eqb _ 82 c.if-letter-eq82.false, c.count_parts.ensures, c.count_parts-2.ensures)
