use Rattle.test_stored_calls.proofs.calls.call_at.Goals as goal

pub returns : goal.returns
returns c = record { kind_is = c.word_at-kind.ensures; spoil_is = cc; time_is = cc; allowance_is = cc; inputs_are_lem = cc; inputs_at = c.past-first.ensures }
