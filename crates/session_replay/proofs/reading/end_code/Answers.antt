-- `session_replay::reading::end_code` meets its contract.
use Rattle.session_replay.proofs.Stepping.{clean_end, unclean_end}
use Rattle.session_replay.proofs.reading.end_code.Goals as goal

pub returns-then-nothing_after : goal.returns-then-nothing_after
returns-then-nothing_after c = λ l. clean_end _ c.if-nothing_after.true l

pub returns : goal.returns
returns c = λ l. unclean_end _ c.if-nothing_after.false l
