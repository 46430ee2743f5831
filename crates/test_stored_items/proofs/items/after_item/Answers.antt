use native.Mathlib.Omega.{arith}
use Rattle.test_stored_items.proofs.Agreeing.{after_a_call, after_a_copy, after_a_comparison}
use Rattle.test_stored_items.proofs.items.after_item.Goals as goal

pub returns-then-kind-lt2 : goal.returns-then-kind-lt2
returns-then-kind-lt2 c = after_a_call c.args.s.now c.args.at c.word_at-kind.result _ c.word_at-kind.ensures c.if-kind-lt2.true c.after_call.ensures

pub returns-then-kind-eq2 : goal.returns-then-kind-eq2
returns-then-kind-eq2 c = after_a_copy c.args.s.now c.args.at c.word_at-kind.result _ c.word_at-kind.ensures c.if-kind-eq2.true c.past.ensures

pub returns : goal.returns
returns c = after_a_comparison c.args.s.now c.args.at c.word_at-kind.result _ c.word_at-kind.ensures (omega arith) c.past-2.ensures
