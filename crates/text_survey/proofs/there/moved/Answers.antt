-- `text_survey::moved` meets its contract.
use native.Mathlib.Omega.{arith}
use Rattle.text_survey.proofs.there.moved.Goals as goal

pub code_length-requires : goal.code_length-requires
code_length-requires c = c.requires

pub overflow_add-result : goal.overflow_add-result
overflow_add-result c = omega (arith, c.few-in-Opens.ensures, c.few.ensures)

pub returns-in-Ports : goal.returns-in-Ports
returns-in-Ports c = rw c.in-Ports.is

pub returns-in-Opens : goal.returns-in-Opens
returns-in-Opens c = rw (c.in-Opens.is, ← c.few-in-Opens.ensures, ← c.few.ensures, ← c.code_length.ensures, ← c.small-size.ensures)

pub returns-in-Instruction : goal.returns-in-Instruction
returns-in-Instruction c = rw c.in-Instruction.is
