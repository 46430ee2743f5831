-- The answer of a start or an instant call, by its cases: document 01's number and values for each.
use Rattle.std.specs.Prelude.{Ok, Err}
use Rattle.std.specs.Prelude.{Result as Outcome}
use Rattle.walk.specs.Instant.{NextDue, never, moment}
use Rattle.walk.specs.Promises.{Result}
use Rattle.call_conclude.specs.Failures.{number_of}
use Rattle.call_conclude.specs.declared.answers.Due.{Due}
use Rattle.call_conclude.specs.declared.answers.Due.TheVariants.{Never, At}
use Rattle.call_conclude.specs.declared.answers.Figures.{Figures}
use Rattle.call_conclude.specs.declared.answers.Failure.{Failure}

-- "the next moment due or none"
unfoldable pub due_of : Due → NextDue
due_of Never = never
due_of (At t) = moment t

-- the figures of a call that goes through, or why it did not
abbrev pub Answer : Type 0
Answer = Outcome Figures Failure

-- "a refusal[’s] other result figures are 0 and due is none"; "the result [of a stop] is as for a refusal";
-- "A call that goes through has number 0 and place 0."
unfoldable pub result_of : Answer → Result
result_of (Err failure) = record { number = number_of failure; place = 0; steps = 0; listed = 0; due = never }
result_of (Ok f) = record { number = 0; place = 0; steps = f.steps; listed = f.listed; due = due_of f.due }
