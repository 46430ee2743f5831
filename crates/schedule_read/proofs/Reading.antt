-- Reading a schedule line by line. Letters: k a line's number, w a window.
use mathlib.Core.Path.{◌≡◌, refl, sym, ◌∙◌}
use mathlib.Core.Bool.{Bool, true, false}
use mathlib.Core.List.{List, [], ◌∷◌, ◌++◌, append_assoc, append-nil}
use mathlib.Core.Option.{none, some}
use Prim.Native.Nat.{ℕ, ◌+◌, ◌≤◌, ◌<◌}
use native.Mathlib.Numerals.{add-one}
use lib.Dec.{eqb}
use lib.ListN.{length, get_or, drop, replicate}
use borrow.Author.Tests.{eqb-true, eqb-false}
use Rattle.listing.specs.Lists.{first_no_from}
use Rattle.listing.specs.Bytes.{Bytes}
use Rattle.listing.specs.Questions.{closed_lines, unclosed, is_closed}
use Rattle.text_place.specs.Texts.{first_line, line_end, Within}
use Rattle.text_place.specs.declared.place.Place.{Place}
use Rattle.schedule.specs.Calendar.{Date, weekday_after}
use Rattle.schedule.specs.Schedule.{Window}
use Rattle.schedule.specs.Form.{read_date, read_window, line_answers, place19}
use Rattle.schedule_week.specs.Week.{Marked, begin_of, end_of, WeekOf}
use Rattle.schedule_read.specs.Reading.{ahead, windows_before, first_no_window, ReadsWindows, Reads}
use Rattle.schedule_read.proofs.Lines as lines
use Rattle.schedule_read.proofs.Weeks.{week_more, week_none}
use Rattle.schedule_read.proofs.Answers.{LineRead, next_place, next_within}

-- ── windows from a line on ───────────────────────────────────────────────────────
-- no window comes, and this is the first line that is none
pub record Ends (s : Bytes) (at k line : ℕ) : Type 0 where
  pub place : first_no_window k (drop at s) ≡ line
  pub windows : windows_before (closed_lines (drop at s)) ≡ []

module _ (s : Bytes) (at k : ℕ) where
  -- a line without its line feed
  pub ends_open : at < length s → (get_or s (line_end s at) 0 ≡ 10 → ⊥) → Ends s at k k
  unfolding first_no_window first_no_from windows_before
  ends_open h n = record { place = rw (lines.closed_last s at n, lines.unclosed_last s at n h); windows = rw (lines.closed_last s at n) }

  -- a line that is no window
  pub ends_unread : at < length s → read_window (first_line (drop at s)) ≡ none → Ends s at k k
  unfolding first_no_window first_no_from windows_before ahead
  ends_unread h r = go (eqb (get_or s (line_end s at) 0) 10) refl
    where
      go : (t : Bool) → eqb (get_or s (line_end s at) 0) 10 ≡ t → Ends s at k k
      go true e = let f = eqb-true _ 10 e in record { place = rw (lines.closed_more s at f, r); windows = rw (lines.closed_more s at f, r) }
      go false e = ends_open h (eqb-false _ 10 e)

  -- the end of the text
  pub ends_all : length s ≤ at → Ends s at k 0
  unfolding first_no_window first_no_from windows_before
  ends_all h = record { place = rw (lines.closed_end s at h, lines.unclosed_end s at h); windows = rw (lines.closed_end s at h) }

  -- a window, and the lines after it
  module _ (w : Window) (feed : get_or s (line_end s at) 0 ≡ 10) (r : read_window (first_line (drop at s)) ≡ some w) where
    place_on : first_no_window k (drop at s) ≡ first_no_window (k + 1) (drop (line_end s at + 1) s)
    unfolding first_no_window first_no_from
    place_on = rw (lines.closed_more s at feed, lines.unclosed_more s at feed, r, add-one k)

    windows_on : windows_before (closed_lines (drop at s)) ≡ w ∷ windows_before (closed_lines (drop (line_end s at + 1) s))
    unfolding windows_before ahead
    windows_on = rw (lines.closed_more s at feed, r)

-- ── the loop: the windows of the lines that were passed are marked ───────────────
pub record Passed (s : Bytes) (first : ℕ) (week₀ : List ℕ) (at₀ k₀ : ℕ) (week : List ℕ) (at k : ℕ) : Type 0 where
  pub within : Within s at k
  pub done : List Window
  pub place : first_no_window k (drop at s) ≡ first_no_window k₀ (drop at₀ s)
  pub windows : windows_before (closed_lines (drop at₀ s)) ≡ done ++ windows_before (closed_lines (drop at s))
  pub week_is : WeekOf first done week
  pub size : length week ≡ length week₀

pub begun : (s : Bytes) (first at k : ℕ) (week : List ℕ) → Within s at k → week ≡ replicate 10080 0 → Passed s first week at k week at k
begun s first at k week h e = record { within = h; done = []; place = refl; windows = refl; week_is = week_none first week e; size = refl }

module _ (s : Bytes) (first : ℕ) (week₀ : List ℕ) (at₀ k₀ : ℕ) (week : List ℕ) (at k : ℕ) (v : Passed s first week₀ at₀ k₀ week at k) where
  pub ended : (line : ℕ) → Ends s at k line → ReadsWindows s (record { offset = at₀; line = k₀ }) first week line
  ended line e =
      let all : windows_before (closed_lines (drop at₀ s)) ≡ v.done = v.windows ∙ rw e.windows (append-nil v.done) in
      record { line_is_lem = sym e.place ∙ v.place; week_is = rw all v.week_is }

  module _ (w : Window) (next : Place) (l : LineRead read_window s (record { offset = at; line = k }) w 10 next) where
    pub passed_on : (week' : List ℕ) → Marked w.input (begin_of first w) (end_of first w) week week' → Passed s first week₀ at₀ k₀ week' next.offset next.line
    passed_on week' m =
        let past = rw (← next_place l) at (next_within l v.within) in
        rw (← next_place l) (record {
          within = past;
          done = v.done ++ (w ∷ []);
          place = sym (place_on s at k w l.stop_is_lem l.is) ∙ v.place;
          windows = v.windows ∙ rw (windows_on s at k w l.stop_is_lem l.is, append_assoc);
          week_is = week_more first v.done w week week' v.week_is m;
          size = m.size ∙ v.size;
        })

-- ── the whole text ───────────────────────────────────────────────────────────────
module _ (s : Bytes) (week : List ℕ) where
  -- no date closed by a line feed
  pub dateless : week ≡ replicate 10080 0 → (get_or s (line_end s 0) 0 ≡ 10 → read_date (first_line s) ≡ none) → Reads s week 1
  unfolding place19 line_answers first_no_from is_closed
  dateless e n = go (eqb (get_or s (line_end s 0) 0) 10) refl
    where
      go : (t : Bool) → eqb (get_or s (line_end s 0) 0) 10 ≡ t → Reads s week 1
      go true i =
          let f = eqb-true _ 10 i in
          let c : closed_lines s ≡ first_line s ∷ closed_lines (drop (line_end s 0 + 1) s) = lines.closed_more s 0 f in
          record { line_is_lem = rw (c, n f); week_is = rw (c, n f) (week_none 1 week e) }
      go false i =
          let c : closed_lines s ≡ [] = lines.closed_last s 0 (eqb-false _ 10 i) in
          record { line_is_lem = rw c; week_is = rw c (week_none 1 week e) }

  pub dated : (d : Date) (next : Place) (line : ℕ) → LineRead read_date s (record { offset = 0; line = 1 }) d 10 next
      → ReadsWindows s next (weekday_after d 0) week line → Reads s week line
  unfolding place19 line_answers first_no_from is_closed first_no_window
  dated d next line l r =
      let p : record { offset = line_end s 0 + 1; line = 2 } ≡ next = next_place l in
      let c : closed_lines s ≡ first_line s ∷ closed_lines (drop (line_end s 0 + 1) s) = lines.closed_more s 0 l.stop_is_lem in
      let u : unclosed s ≡ unclosed (drop (line_end s 0 + 1) s) = lines.unclosed_more s 0 l.stop_is_lem in
      let x : ReadsWindows s (record { offset = line_end s 0 + 1; line = 2 }) (weekday_after d 0) week line = rw p r in
      record { line_is_lem = x.line_is_lem ∙ rw (c, u, l.is); week_is = rw (c, l.is) x.week_is }
