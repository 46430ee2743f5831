use Rattle.engine_queue.specs.Queue.{Queued}
use Rattle.engine_queue.proofs.queue_waiting.Given as goal

abbrev pub invariant-loop-s : goal.invariant-loop-s
invariant-loop-s l = Queued l.s l.dues l.initial.m l.m
