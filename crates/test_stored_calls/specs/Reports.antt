-- The figures of a start's or an instant call's result, and what the call leaves.
use Rattle.std.specs.Prelude.{◌≡◌, List, ℕ}
use Rattle.walk.specs.Instant.{NextDue, never, moment}
use Rattle.walk.specs.Calls.{Outcome, MachineAfter, numbers_after, values_after}
use Rattle.walk.specs.Promises.{Result, result_of}
use Rattle.layout.specs.Layout.{layout}
use Rattle.test_stored_answers.specs.declared.Report.{Report}

-- a moment due as itself, and 0 if none is: a moment due is at least 1
unfoldable pub due_figure : NextDue → ℕ
due_figure never = 0
due_figure (moment t) = t

-- the figures of a result
abbrev pub report_of : Result → Report
report_of o = record { number = o.number; steps = o.steps; listed = o.listed; due = due_figure o.due }

-- A call with outcome o, on a table, found these words in the machine and in the two output lists, left those, and has this report
-- (walk Promises `Keeps`).
pub record Reported (table machine numbers values machine' numbers' values' : List ℕ) (o : Outcome) (r : Report) : Type 0 where
  pub report : r ≡ report_of (result_of o)
  pub machine_is : MachineAfter layout table machine machine' o
  pub numbers_are : numbers' ≡ numbers_after o numbers
  pub values_are : values' ≡ values_after o values
