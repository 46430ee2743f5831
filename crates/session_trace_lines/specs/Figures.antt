-- What the reader gives for the figures of a trace: walk's readings of them.
use Rattle.std.specs.Prelude.{cond, ℕ, ltb, Some, None}
use Rattle.std.specs.Prelude.{Option as Answer}
use Rattle.std.proofs.Math.Option.{Option, none, some}
use Rattle.listing.specs.Bytes.{Bytes}
use Rattle.words.specs.Moments.{moment_range}
use Rattle.walk.specs.Trace.{read_below, read_signed}
use Rattle.session_trace_lines.specs.declared.figure.Bounded.{Bounded}
use Rattle.session_trace_lines.specs.declared.figure.Bounded.TheVariants.{Value, Bad}

abbrev pub as_bounded : Option ℕ → Bounded
as_bounded none = Bad
as_bounded (some n) = Value n

-- a number, if it has 64 bits
abbrev pub appended : ℕ → Answer ℕ
appended n = cond (ltb n moment_range) (Some n) None

-- a figure, if its number is below the range
abbrev pub below_answer : ℕ → Bytes → Bounded
below_answer range piece = as_bounded (read_below range piece)

abbrev pub value_answer : Bytes → Bounded
value_answer piece = as_bounded (read_signed piece)
