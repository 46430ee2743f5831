-- `test_sessions::playing::take_step` meets its contract.
use Rattle.test_sessions.specs.Playing.{on, failed}
use Rattle.test_sessions.proofs.Steps.{call_of_lem, not_short, followed, not_followed}
use Rattle.test_sessions.proofs.playing.take_step.Goals as goal

pub returns-in-TooShort : goal.returns-in-TooShort
returns-in-TooShort c = not_short (rw c.in-TooShort.is at c.advance.ensures) c.requires

pub returns-in_err-at-in-Went : goal.returns-in_err-at-in-Went
returns-in_err-at-in-Went c =
    rw c.from_residual.ensures
    (failed (call_of_lem c.advance.ensures c.in-Went.is (record { table_is = c.advance.auto.table; machine_is_lem = c.advance.auto.machine; out_is = c.advance.auto.out }))
    (not_followed c.follows.ensures c.in_err-at-in-Went.was))

pub returns-in_ok-at-in-Went : goal.returns-in_ok-at-in-Went
returns-in_ok-at-in-Went c =
    let f = followed c.follows.ensures c.in_ok-at-in-Went.was in
    on (call_of_lem c.advance.ensures c.in-Went.is (record { table_is = c.advance.auto.table; machine_is_lem = c.advance.auto.machine; out_is = c.advance.auto.out })) f.0 f.1
