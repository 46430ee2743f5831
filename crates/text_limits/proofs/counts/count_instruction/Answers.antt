-- `text_limits::count_instruction` meets its contract.
use native.Mathlib.Omega.{arith}
use Rattle.text_limits.proofs.CountLaws as laws
use Rattle.text_limits.proofs.counts.count_instruction.Goals as goal

pub returns-then-held-ge-MOST_INSTRUCTIONS : goal.returns-then-held-ge-MOST_INSTRUCTIONS
returns-then-held-ge-MOST_INSTRUCTIONS c = laws.too_many_instructions _ c.requires _ c.if-held-ge-MOST_INSTRUCTIONS.true

pub overflow_sub-held : goal.overflow_sub-held
overflow_sub-held c = omega (arith, c.requires.pieces)

pub returns-then-held-pieces : goal.returns-then-held-pieces
returns-then-held-pieces c = laws.too_many_pieces _ c.requires _ c.if-held-ge-MOST_INSTRUCTIONS.false c.if-held-pieces.true

pub overflow_add-result-2 : goal.overflow_add-result-2
overflow_add-result-2 c = omega (arith, c.if-held-pieces.false, c.requires.pieces)

pub returns : goal.returns
returns c = laws.instruction_counted _ c.requires _ c.if-held-ge-MOST_INSTRUCTIONS.false c.if-held-pieces.false
