-- A reason is said as its contract asks.
use Rattle.explain_said.proofs.reason.ReasonSaid.put.Goals as goal

pub returns : goal.returns
returns c = rw (← c.sentence.ensures.is, ← c.counted.ensures) c.put_with_figure.ensures
