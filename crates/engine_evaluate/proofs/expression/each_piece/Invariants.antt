-- `each_piece`: what is left of the expression, on the values held, gives the value of the whole.
use Prim.Native.Nat.{◌+◌, ◌*◌, ◌-◌}
use Rattle.engine_evaluate.proofs.Turns.{Before}
use Rattle.engine_evaluate.proofs.expression.each_piece.Given as goal

abbrev pub invariant-loop-k : goal.invariant-loop-k
invariant-loop-k l = Before l.t l.m l.me l.cells l.pieces l.values l.held (l.cells + 2 * l.k) (l.pieces - l.k)
