-- The steps of a session: after a call, with the `X` line, and without a print.
use Rattle.std.specs.Prelude.{◌≡◌, List, ℕ}
use Rattle.walk.specs.Session.{end_line}
use Rattle.session_printed.specs.Made.{Begins}
use Rattle.session_printed.specs.declared.calls.Made.{Made}
use Rattle.session_printed.specs.declared.calls.Made.TheVariants.{Ended, Went}
use Rattle.session_replay.specs.declared.phase.Phase.{Phase}
use Rattle.session_replay.specs.declared.phase.Phase.TheVariants.{Reading, Over}
use Rattle.session_replay.specs.declared.phase.Step.{Step}

-- The step after a call: "the first refusal or stop ends it", or the trace is played on from an offset with what the call told.
abbrev pub step_after : Made → ℕ → Step
step_after (Ended n) at = record { phase = Over; printed = n }
step_after (Went clock n) at = record { phase = Reading clock at; printed = n }

-- The step that prints the `X` line.
pub record EndsWith (before : List ℕ) (code present : ℕ) (after : List ℕ) (step : Step) : Type 0 where
  pub over : step.phase ≡ Over
  pub prints : Begins before (end_line code present) after step.printed

-- The step that prints nothing.
abbrev pub silent : Phase → Step
silent phase = record { phase = phase; printed = 0 }
