use Rattle.std.proofs.Common.{◌≡◌}
use Rattle.openings.proofs.OnePass as pass
use Rattle.openings.proofs.put_questions.Given as goal

abbrev pub invariant-loop-moment : goal.invariant-loop-moment
invariant-loop-moment l =
    pass.pass_from l.before l.seen l.late l.moment-iterator.a.rest.now l.moment-iterator.b.rest.now ≡ pass.pass_from 0 0 0 l.moments l.outputs
