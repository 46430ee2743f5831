-- `test_sessions::main` meets its contract. The memories that it lends are long enough.
use Rattle.test_sessions.proofs.Steps.{lent_long}
use Rattle.test_sessions.proofs.main.Goals as goal

pub run_file-tally-requires : goal.run_file-tally-requires
run_file-tally-requires c = lent_long c.memory-table.ensures c.memory-machine.ensures c.piece-out.ensures
