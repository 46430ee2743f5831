-- `text_limits::count_line` meets its contract.
use native.Mathlib.Omega.{arith}
use borrow.Author.Tests.{le-leb}
use Rattle.text_limits.proofs.counts.count_line.Goals as goal

pub count_opens-requires : goal.count_opens-requires
count_opens-requires c = c.requires

pub count_instruction-requires : goal.count_instruction-requires
count_instruction-requires c = c.requires

pub returns-in-Ports : goal.returns-in-Ports
returns-in-Ports c = rw (le-leb c.args.bytes 49152 (omega arith), c.in-Ports.is)

pub returns-in-Opens : goal.returns-in-Opens
returns-in-Opens c = rw (le-leb c.args.bytes 49152 (omega arith), c.in-Opens.is) c.count_opens.ensures

pub returns-in-Instruction : goal.returns-in-Instruction
returns-in-Instruction c = rw (le-leb c.args.bytes 49152 (omega arith), c.in-Instruction.is) c.count_instruction.ensures
