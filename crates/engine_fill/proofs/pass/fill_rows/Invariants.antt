use Rattle.engine_fill.proofs.Passes.{Passing}
use Rattle.engine_fill.proofs.pass.fill_rows.Given as goal

abbrev pub invariant-loop-k : goal.invariant-loop-k
invariant-loop-k l = Passing l.t l.initial.m l.m l.above l.k
