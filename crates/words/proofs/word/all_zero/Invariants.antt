use Rattle.std.proofs.Common.{◌≡◌, ◌&&◌}
use Rattle.std.proofs.Math.ListN.{drop}
use Rattle.words.specs.Words.{all_zero}
use Rattle.words.proofs.word.all_zero.Given as goal

-- what is left of the words decides with what was seen
abbrev pub invariant-loop-x : goal.invariant-loop-x
invariant-loop-x l = (l.clear && all_zero (drop l.x-index l.xs)) ≡ all_zero l.xs
