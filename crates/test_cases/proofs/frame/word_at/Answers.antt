use Rattle.std.proofs.Common.{arith}
use Rattle.std.proofs.lemmas.Grind.{common_steps}
use Rattle.test_cases.specs.Frame.{word_at}
use Rattle.test_cases.proofs.frame.word_at.Goals as goal

pub returns : goal.returns
unfolding word_at
returns c = grind (arith, common_steps)
