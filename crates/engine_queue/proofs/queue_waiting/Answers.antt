-- `engine_queue::queue_waiting` meets its contract.
use mathlib.Core.Path.{◌≡◌}
use native.Mathlib.Omega.{arith}
use Rattle.engine_queue.proofs.Queueing.{none_queued, one_more_queued}
use Rattle.engine_queue.proofs.queue_waiting.Goals as goal

pub loop-s-init : goal.loop-s-init
loop-s-init c = none_queued _ _

pub put_word-requires : goal.put_word-requires
put_word-requires c = let size = c.loop-s.invariant.outside.size in (omega arith, omega arith, omega arith)

pub loop-s-preserved : goal.loop-s-preserved
loop-s-preserved c = let v = c.loop-s in one_more_queued v.s _ (omega arith) c.flag.ensures v.invariant c.put_word.ensures

pub returns : goal.returns
returns c = let v = c.loop-s in let z : v.s ≡ 65 = omega arith in rw z at v.invariant
