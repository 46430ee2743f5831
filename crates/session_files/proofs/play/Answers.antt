-- `session_files::play` meets its contract. The memories that it lends are long enough.
use Rattle.session_files.proofs.Turning.{lent_long}
use Rattle.session_files.proofs.play.Goals as goal

pub run-requires : goal.run-requires
run-requires g c = lent_long c.memory-table.ensures c.memory-machine.ensures c.piece-out.ensures
