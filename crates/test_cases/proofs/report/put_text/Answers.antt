use Rattle.test_cases.proofs.Texts as texts
use Rattle.test_cases.proofs.report.put_text.Goals as goal

pub loop-k-preserved : goal.loop-k-preserved
loop-k-preserved c = texts.putting_on _ _ _ _ _ c.loop-k.invariant c.loop-k-test.true _ c.put_byte.ensures
