-- The inputs of a span listed from the minutes of a week.
use Rattle.std.specs.Prelude.{List, ℕ, ◌+◌, ◌/◌}
use Rattle.schedule.specs.Edges.{Edge}
use Rattle.schedule_minutes.specs.Minutes.{to_minute, minutes_between, minute_edges}
use Rattle.windows.specs.Call.{long_enough, if_long_enough, ListedAs}
use Rattle.windows.specs.declared.answer.Listed.{Listed}

-- the edges of the whole minutes of a span
abbrev pub span_edges : List ℕ → ℕ → ℕ → List Edge
span_edges week from to = let first = from + to_minute from in minute_edges week (first / 60000) (minutes_between first to)

-- question 1, and the edges
abbrev pub SpanListed : List ℕ → ℕ → ℕ → List ℕ → List ℕ → List ℕ → List ℕ → List ℕ → List ℕ → Listed → Type 0
SpanListed week from to moments inputs values moments' inputs' values' r =
    ListedAs (if_long_enough (long_enough (span_edges week from to) moments inputs values) (span_edges week from to)) moments inputs values moments' inputs' values' r
