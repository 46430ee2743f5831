use Prim.Native.Nat.{◌-◌}
use Rattle.text_jumps.specs.Records.{stand_ins}
use Rattle.text_jumps.proofs.Forks as forks
use Rattle.text_jumps.proofs.fork.read_fork.Given as goal

abbrev pub invariant-loop-stop : goal.invariant-loop-stop
invariant-loop-stop l =
    forks.Forking (stand_ins l.arguments) l.scope.names l.s l.initial.at.offset l.initial.at.line l.initial.stop l.at.offset l.at.line l.stop l.count l.pieces l.there

abbrev pub decreases-loop-stop : goal.decreases-loop-stop
decreases-loop-stop l = 8 - l.count
