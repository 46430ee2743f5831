use Rattle.engine_finish.proofs.Clearing.{all_cleared}
use Rattle.engine_finish.proofs.working.clear_working.Goals as goal

pub returns : goal.returns
returns c = all_cleared _ _ _ c.clear_slots.ensures c.clear_block.ensures
