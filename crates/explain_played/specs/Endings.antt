-- How a session ends (document 01, "The session"): "then `X|code|present moment`; the first refusal or stop ends it".
use Rattle.std.specs.Prelude.{◌≡◌, false, ◌++◌, ℕ}
use Rattle.listing.specs.Bytes.{Bytes, tab}
use Rattle.listing.specs.Expressions.{word_range}
use Rattle.walk.specs.Session.{session, end_line}
use Rattle.explain_parts.specs.Parts.{part_of}
use Rattle.session_trace_lines.specs.Figures.{below_answer}
use Rattle.session_trace_lines.specs.declared.figure.Bounded.{Bounded}
use Rattle.session_trace_lines.specs.declared.figure.Bounded.TheVariants.{Value, Bad}
use Rattle.session_replay.specs.Phases.{Memories}
use Rattle.session_replay.specs.Ending.{is_over, Calls, StepsMade}
use Rattle.session_replay.specs.declared.phase.Phase.TheVariants.{Over}
use Rattle.session_replay.specs.declared.phase.Advanced.TheVariants.{Went}
use Rattle.explain_played.specs.Spots.{spot_of}
use Rattle.explain_played.specs.declared.last.Last.{Last}
use Rattle.explain_played.specs.declared.ending.Ended.{Ended}

-- Some steps were made from the opening, to a phase in which not all was printed; and the step from there was the last.
pub record LastStep (listing trace : Bytes) (m m' : Memories) (r : Last) : Type 0 where
  pub count : ℕ
  pub held : Memories
  pub bytes : Bytes
  pub made : StepsMade listing trace m count held r.phase bytes
  pub going : is_over r.phase ≡ false
  pub calls : Calls listing trace held r.phase m' (Went Over r.printed)

-- the figure behind the first tab, of a line `X|code|moment` or of a listing, which begins `P|i|o`; 0 if there is none of 32 bits
abbrev pub number_in : Bounded → ℕ
number_in (Value n) = n
number_in Bad = 0

abbrev pub leading_figure : Bytes → ℕ
leading_figure line = number_in (below_answer word_range (part_of tab line 1))

-- The session's print ends with the line of its code; and this is where it stood before its last step.
pub record Ends (listing trace : Bytes) (r : Ended) : Type 0 where
  pub before : Memories
  pub after : Memories
  pub last : Last
  pub steps : LastStep listing trace before after last
  pub front : Bytes
  pub code : ℕ
  pub present : ℕ
  pub whole : session listing trace ≡ front ++ end_line code present
  pub code_is : r.code ≡ leading_figure (end_line code present)
  pub line_is_lem : r.line ≡ (spot_of trace last.phase).line
  pub moment_is : r.moment ≡ (spot_of trace last.phase).moment
