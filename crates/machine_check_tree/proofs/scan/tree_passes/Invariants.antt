use Rattle.machine_check_paths.specs.Scan.{Going}
use Rattle.machine_check_tree.proofs.scan.tree_passes.Given as goal

abbrev pub invariant-loop-k : goal.invariant-loop-k
invariant-loop-k l = Going l.t l.m l.k l.path
