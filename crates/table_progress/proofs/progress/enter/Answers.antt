-- `table_progress::enter` meets its contract.
use Rattle.table_progress.proofs.progress.enter.Goals as goal

pub returns-in-Ports : goal.returns-in-Ports
returns-in-Ports c = rw (c.in-Ports.is, c.put-in-Ports.ensures, c.put.ensures)

pub returns-in-Opens : goal.returns-in-Opens
returns-in-Opens c = rw (c.in-Opens.is, c.put-in-Opens.ensures, c.put_entry.ensures)

pub returns-in-Instruction : goal.returns-in-Instruction
returns-in-Instruction c = rw c.in-Instruction.is c.put-in-Instruction.ensures
