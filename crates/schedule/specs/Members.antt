-- What is said of the list of a span: that it has the edges of the span and nothing else, each once and in order, on the minutes of the lines.
-- Document 02, Change 5: "The layer lists the inputs of any span of moments, start included and end left out, by moment and then input: 1 at the opening minute, 0
-- at the closing minute."
use Rattle.std.specs.Prelude.{◌≡◌, not, ◌⊎◌, ℕ, suc, ◌-◌, ◌*◌, ◌/◌, ◌%◌, ◌≤◌, ◌<◌}
use mathlib.Core.List.{List, [], ◌∷◌, Memᴰ}
use Rattle.schedule.specs.Calendar.{weekday_after}
use Rattle.schedule.specs.Schedule.{Window, Schedule}
use Rattle.schedule.specs.Union.{day_length, minute_length, is_open}
use Rattle.schedule.specs.Edges.{Edge}
use Rattle.schedule.specs.Sentence.{open_value}

-- an edge of a schedule: a change of an input that is there, at a moment above 0
pub record IsEdge (s : Schedule) (e : Edge) : Type 0 where
  pub above : 0 < e.moment
  pub input_below : e.input < 16
  pub value_is : e.value ≡ open_value (is_open s e.input e.moment)
  pub differs : is_open s e.input (e.moment - 1) ≡ not (is_open s e.input e.moment)

-- an edge in a span
pub record InSpan (s : Schedule) (a b : ℕ) (e : Edge) : Type 0 where
  pub is : IsEdge s e
  pub from : a ≤ e.moment
  pub before : e.moment < b

-- "by moment and then input"
pub record Precedes (e f : Edge) : Type 0 where
  pub comes_first : (e.moment < f.moment) ⊎ ((e.moment ≡ f.moment) × (e.input < f.input))

-- each edge comes before all after it, so that none is there twice
pub data Rising : List Edge → Type 0 where
  none_rise : Rising []
  rise : {e : Edge} {es : List Edge} → ((f : Edge) → Memᴰ f es → Precedes e f) → Rising es → Rising (e ∷ es)

-- a window of an input that opens at a moment: on its day, at its minute
pub record OpensAt (s : Schedule) (k m : ℕ) : Type 0 where
  pub window : Window
  pub member : Memᴰ window s.windows
  pub input_is : window.input ≡ k
  pub on : window.weekday ≡ weekday_after s.date (m / day_length)
  pub at : window.opening * minute_length ≡ m % day_length

-- and one that closes there: on the day of the moment before, since minute 1,440 is the next day's midnight
pub record ClosesAt (s : Schedule) (k m : ℕ) : Type 0 where
  pub window : Window
  pub member : Memᴰ window s.windows
  pub input_is : window.input ≡ k
  pub on : window.weekday ≡ weekday_after s.date ((m - 1) / day_length)
  pub at : window.closing * minute_length ≡ suc ((m - 1) % day_length)

-- "1 at the opening minute, 0 at the closing minute": of a window of the edge's input
abbrev pub OnMinute : Schedule → Edge → Type 0
OnMinute s e =
    (e.moment % minute_length ≡ 0)
    × (((e.value ≡ 1) × OpensAt s e.input e.moment) ⊎ ((e.value ≡ 0) × ClosesAt s e.input e.moment))
