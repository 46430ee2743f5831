-- Watering windows (document 02, Change 5), about the exported function: its contract; when it goes through and when it is turned away; what its lists hold;
-- "Proved for each input: a moment above 0 lies in the union .. exactly if the last edge at or before it opened", said of the listed inputs; neighbouring spans; text
-- and schedule. Letters: m, i and v are the lists before a call, m', i' and v' after it, r its answer, s the schedule that the text reads as.
use mathlib.Core.Path.{◌≡◌, ap, ◌∙◌}
use mathlib.Core.Bool.{true}
use mathlib.Core.List.{List, ◌∷◌, ◌++◌, Memᴰ}
use mathlib.Core.Option.{some}
use mathlib.Core.Logic.{◌⊎◌, ◌↔◌}
use Prim.Native.Nat.{ℕ, ◌≤◌, ◌<◌}
use lib.ListN.{length}
use Rattle.listing.specs.Bytes.{Bytes}
use Rattle.schedule.specs.Schedule.{Schedule, IsSchedule}
use Rattle.schedule.specs.Form.{read_schedule, place19}
use Rattle.schedule.specs.Text.{schedule_text}
use Rattle.schedule.specs.Union.{is_open}
use Rattle.schedule.specs.Edges.{Edge, edges_in}
use Rattle.schedule.specs.Sentence.{open_value, last_value}
use Rattle.schedule.specs.Members.{InSpan, Rising, OnMinute}
use Rattle.schedule_laws.proofs.Determine as Determine
use Rattle.schedule_laws.proofs.Members as Members
use Rattle.schedule_laws.proofs.OnMinutes as OnMinutes
use Rattle.schedule_laws.proofs.Places as Places
use Rattle.schedule_laws.proofs.Sentence as Sentence
use Rattle.schedule_laws.proofs.Spans as Spans
use Rattle.windows.specs.Call.{WindowsFigures}
use Rattle.windows.specs.Told.{listed_edges, GoneThrough, TurnedAway}
use Rattle.windows.specs.declared.answer.Listed.{Listed}
use Rattle.windows.proofs.Told as Told
use Rattle.fabrwent.proofs.schedules.fabrwent_windows.Statement as Windows
use Rattle.fabrwent.proofs.schedules.fabrwent_windows.Met as windows_met

-- Every call, of any text, span and lists and under no condition, ends and answers with the defined outcome (`WindowsFigures`).
pub every_windows_call_answers_as_defined : {M : Type 1} → Windows.statement M
every_windows_call_answers_as_defined = windows_met.met

-- ── text and schedule determine each other ────────────────────────────────────────────────────────
pub reads_exactly_if : (text : Bytes) (s : Schedule) → (read_schedule text ≡ some s) ↔ ((schedule_text s ≡ text) × IsSchedule s)
reads_exactly_if = Determine.reads_exactly_if

-- the line that `explain` names is 0 exactly if the text reads as a schedule
pub no_line_exactly_if : (text : Bytes) → (place19 text ≡ 0) ↔ ((s : Schedule) × (read_schedule text ≡ some s))
no_line_exactly_if = Places.passes_exactly_if

-- ── when a call goes through ──────────────────────────────────────────────────────────────────────
-- "19 ..? Only then 1": with 0, every list being long enough; or turned away under 19 or 1, each in its case, with the lists as they were
pub goes_through_or_is_turned_away : (text : Bytes) (from to : ℕ) (m i v m' i' v' : List ℕ) (r : Listed) → WindowsFigures text from to m i v m' i' v' r →
    GoneThrough text from to m i v m' i' v' r ⊎ TurnedAway text from to m i v m' i' v' r
goes_through_or_is_turned_away = Told.told

-- ── what its lists hold then ──────────────────────────────────────────────────────────────────────
module _ (text : Bytes) (s : Schedule) (reads : read_schedule text ≡ some s) where
  is_schedule : IsSchedule s
  is_schedule = (Places.reading text s reads).is_schedule

  module _ (from to : ℕ) (m i v m' i' v' : List ℕ) (r : Listed) (call : WindowsFigures text from to m i v m' i' v' r) (through : r.number ≡ 0) where
    listed_are : listed_edges r.listed m' i' v' ≡ edges_in s from to
    listed_are = Told.listed_are text from to m i v m' i' v' r call through s reads

    -- the edges of the span and nothing else
    pub lists_exactly_the_edges : (e : Edge) → Memᴰ e (listed_edges r.listed m' i' v') ↔ InSpan s from to e
    lists_exactly_the_edges e = rw listed_are (Members.members_exactly_if s from to e)

    -- "by moment and then input"
    pub lists_them_in_order : Rising (listed_edges r.listed m' i' v')
    lists_them_in_order = rw listed_are (Members.in_rising s from to)

    -- "1 at the opening minute, 0 at the closing minute"
    pub edges_stand_on_minutes_of_lines : (e : Edge) → Memᴰ e (listed_edges r.listed m' i' v') → OnMinute s e
    edges_stand_on_minutes_of_lines e h = OnMinutes.edges_on_minutes s is_schedule from to e (rw listed_are at h)

    -- a span that ends at or before its start lists none
    pub an_empty_span_lists_none : to ≤ from → r.listed ≡ 0
    an_empty_span_lists_none h =
        let g = Told.goes_through text from to m i v m' i' v' r call through in
        g.counted ∙ ap length (Spans.no_span g.schedule from to h)

  -- "for each input: a moment above 0 lies in the union (windows without their closing minute) exactly if the last edge at or before it opened, a window open at
  -- moment 0 counting as opened there": of a call for a span from moment 0 on (at moment 0 too, which no edge reaches)
  pub last_edge_opened : (to : ℕ) (m i v m' i' v' : List ℕ) (r : Listed) → WindowsFigures text 0 to m i v m' i' v' r → r.number ≡ 0 → (input moment : ℕ) → moment < to →
      (is_open s input moment ≡ true) ↔ (last_value input moment (open_value (is_open s input 0)) (listed_edges r.listed m' i' v') ≡ 1)
  last_edge_opened to m i v m' i' v' r call through input moment h =
      rw (listed_are 0 to m i v m' i' v' r call through) (Sentence.sentence s is_schedule input moment to h)

  -- the lists of two calls for neighbouring spans, joined, are the edges of both spans
  pub neighbours_join : (from mid to : ℕ) → from ≤ mid → mid ≤ to →
      (m i v m' i' v' : List ℕ) (r : Listed) → WindowsFigures text from mid m i v m' i' v' r → r.number ≡ 0 →
      (n j w n' j' w' : List ℕ) (q : Listed) → WindowsFigures text mid to n j w n' j' w' q → q.number ≡ 0 →
      listed_edges r.listed m' i' v' ++ listed_edges q.listed n' j' w' ≡ edges_in s from to
  neighbours_join from mid to a b m i v m' i' v' r c x n j w n' j' w' q d y =
      rw (listed_are from mid m i v m' i' v' r c x, listed_are mid to n j w n' j' w' q d y) (Spans.joined s from mid to a b)

-- an edge of a list in order does not come again after itself, so that each is listed once
pub none_twice : {e : Edge} {es : List Edge} → Rising (e ∷ es) → Memᴰ e es → ⊥
none_twice = Members.once
