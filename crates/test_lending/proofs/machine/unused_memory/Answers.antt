use Rattle.std.proofs.Common.{rules}
use Rattle.test_lending.specs.Memories.{unused_memory}
use Rattle.test_lending.proofs.machine.unused_memory.Goals as goal

pub returns : goal.returns
unfolding unused_memory
returns c = search rules
