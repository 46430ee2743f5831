-- Question 19's place is 0 exactly if the text reads as a schedule, and what its lines read as then.
-- t is a text, s the schedule read, d its date, w a window; o is a reading.
use mathlib.Core.Path.{◌≡◌, refl, sym, ◌∙◌}
use mathlib.Core.Bool.{Bool, true, not}
use mathlib.Core.List.{List, [], ◌∷◌, ◌++◌, map}
use mathlib.Core.Option.{Option, none, some}
use mathlib.Core.Logic.{◌↔◌}
use native.Mathlib.Omega.{arith}
use Rattle.listing.specs.Lists.{all, is_empty, is_some, all_yes}
use Rattle.listing.specs.Bytes.{Bytes}
use Rattle.listing.specs.Expressions.{each}
use Rattle.listing.specs.Form.{fields_of}
use Rattle.listing.specs.Questions.{closed_lines, unclosed, is_closed}
use Rattle.listing.proofs.Tests.{no_test, no_reading, and_left, and_right, all_head, all_tail}
use Rattle.listing.proofs.Answers.{yes_head, yes_tail, yes_append, yes_left, yes_right, yes_map, passes_means_yes, yes_means_passes}
use Rattle.listing.proofs.FieldsBack.{bound, passed}
use Rattle.listing.proofs.Texts.{is_empty_lem}
use Rattle.schedule.specs.Calendar.{Date, is_real_date}
use Rattle.schedule.specs.Schedule.{Window, Schedule, IsSchedule, is_window}
use Rattle.schedule.specs.Form.{date_fields, window_fields, read_date, read_window, schedule_of, read_schedule, line_answers, place19}

-- ── readings of each element ─────────────────────────────────────────────────────
-- something that is there
pub record There {A : Type 0} (o : Option A) : Type 0 where
  pub got : A
  pub is : o ≡ some got

pub there : {A : Type 0} (o : Option A) → is_some o ≡ true → There o
there none h = no_test h
there (some a) h = record { got = a; is = refl }

module _ {A B : Type 0} (read : A → Option B) where
  pub each_there : (as' : List A) → all (λ a. is_some (read a)) as' ≡ true → There (each read as')
  unfolding each
  each_there [] h = record { got = []; is = refl }
  each_there (a ∷ as') h =
      let test : A → Bool = λ a. is_some (read a) in
      go (there (read a) (all_head test a as' h)) (each_there as' (all_tail test a as' h))
    where
      go : There (read a) → There (each read as') → There (each read (a ∷ as'))
      go p q = record { got = p.got ∷ q.got; is = rw (p.is, q.is) }

  pub there_each : (as' : List A) (bs : List B) → each read as' ≡ some bs → all (λ a. is_some (read a)) as' ≡ true
  unfolding each all
  there_each [] bs e = refl
  there_each (a ∷ as') bs e =
      let u = bound (read a) _ bs e in
      let v = bound (each read as') _ bs u.on in
      rw u.from (there_each as' v.got v.from)

-- ── what was read has its numbers ────────────────────────────────────────────────
pub date_read_is : (line : Bytes) (d : Date) → read_date line ≡ some d → is_real_date d ≡ true
unfolding read_date
date_read_is line d e =
    let u = bound (date_fields (fields_of line)) _ d e in
    let p = passed (is_real_date u.got) u.got d u.on in
    rw (← p.1) p.0

pub window_read_is : (line : Bytes) (w : Window) → read_window line ≡ some w → is_window w ≡ true
unfolding read_window
window_read_is line w e =
    let u = bound (window_fields (fields_of line)) _ w e in
    let p = passed (is_window u.got) u.got w u.on in
    rw (← p.1) p.0

pub windows_read_are : (lines : List Bytes) (ws : List Window) → each read_window lines ≡ some ws → all is_window ws ≡ true
unfolding each all
windows_read_are [] ws e = let z : ws ≡ [] = cc in rw z
windows_read_are (line ∷ lines) ws e =
    let u = bound (read_window line) _ ws e in
    let v = bound (each read_window lines) _ ws u.on in
    let z : ws ≡ u.got ∷ v.got = cc v.on in
    rw (z, window_read_is line u.got u.from) (windows_read_are lines v.got v.from)

-- ── a text that reads as a schedule ──────────────────────────────────────────────
-- its closed lines are the date's and those of the windows, and it ends with the last of them
pub record Reads (t : Bytes) (s : Schedule) : Type 0 where
  pub reads : read_schedule t ≡ some s
  pub line : Bytes
  pub lines : List Bytes
  pub closed : closed_lines t ≡ line ∷ lines
  pub ended : unclosed t ≡ []
  pub date_read : read_date line ≡ some s.date
  pub windows_read : each read_window lines ≡ some s.windows
  pub is_schedule : IsSchedule s

pub record InForm (t : Bytes) : Type 0 where
  pub schedule : Schedule
  pub form : Reads t schedule

-- lines that read as a schedule
record LinesRead (texts : List Bytes) (s : Schedule) : Type 0 where
  pub line : Bytes
  pub lines : List Bytes
  pub are : texts ≡ line ∷ lines
  pub date_read : read_date line ≡ some s.date
  pub windows_read : each read_window lines ≡ some s.windows

lines_read : (texts : List Bytes) (s : Schedule) → schedule_of texts ≡ some s → LinesRead texts s
unfolding schedule_of
lines_read [] s e = no_reading e
lines_read (line ∷ lines) s e =
    let u = bound (read_date line) _ s e in
    let v = bound (each read_window lines) _ s u.on in
    let z : record { date = u.got; windows = v.got } ≡ s = cc v.on in
    record { line = line; lines = lines; are = refl; date_read = rw (← z) u.from; windows_read = rw (← z) v.from }

-- a text that reads as s
pub reading : (t : Bytes) (s : Schedule) → read_schedule t ≡ some s → Reads t s
unfolding read_schedule
reading t s e =
    let u = bound (schedule_of (closed_lines t)) _ s e in
    let p = passed (is_empty (unclosed t)) u.got s u.on in
    let r = lines_read (closed_lines t) s (rw p.1 at u.from) in
    record {
      reads = e;
      line = r.line;
      lines = r.lines;
      closed = r.are;
      ended = is_empty_lem (unclosed t) p.0;
      date_read = r.date_read;
      windows_read = r.windows_read;
      is_schedule = record {
        date_is = date_read_is r.line s.date r.date_read;
        windows_are = windows_read_are r.lines s.windows r.windows_read;
      };
    }

-- and lines that make a text read so
pub reads_so : (t line : Bytes) (lines : List Bytes) (s : Schedule) → closed_lines t ≡ line ∷ lines → unclosed t ≡ []
    → read_date line ≡ some s.date → each read_window lines ≡ some s.windows → read_schedule t ≡ some s
unfolding read_schedule schedule_of
reads_so t line lines s c e d w = rw (c, e, d, w)

-- ── question 19 ──────────────────────────────────────────────────────────────────
-- a text that passes reads as a schedule
pub passes : (t : Bytes) → place19 t ≡ 0 → InForm t
unfolding place19 is_closed line_answers
passes t h =
    let answered = passes_means_yes 1 (line_answers (closed_lines t) ++ (is_closed t ∷ [])) (omega arith) h in
    let closed : is_closed t ≡ true = yes_head (is_closed t) [] (yes_right (line_answers (closed_lines t)) (is_closed t ∷ []) answered) in
    go (closed_lines t) refl (yes_left (line_answers (closed_lines t)) (is_closed t ∷ []) answered)
    (and_left (not (is_empty (closed_lines t))) (is_empty (unclosed t)) closed)
    (is_empty_lem (unclosed t) (and_right (not (is_empty (closed_lines t))) (is_empty (unclosed t)) closed))
  where
    go : (texts : List Bytes) → closed_lines t ≡ texts → all_yes (line_answers texts) ≡ true → not (is_empty texts) ≡ true → unclosed t ≡ [] → InForm t
    go [] c y n e = no_test n
    go (line ∷ lines) c y n e = form (there (read_date line) (yes_head _ _ y)) (each_there read_window lines (sym (yes_map _ lines) ∙ yes_tail _ _ y))
      where
        form : There (read_date line) → There (each read_window lines) → InForm t
        form d w =
            let s : Schedule = record { date = d.got; windows = w.got } in
            record { schedule = s; form = reading t s (reads_so t line lines s c e d.is w.is) }

-- a text that reads as a schedule passes
pub reads_passes : (t : Bytes) (s : Schedule) → read_schedule t ≡ some s → place19 t ≡ 0
unfolding place19 is_closed line_answers all
reads_passes t s e =
    let r = reading t s e in
    let answers : List Bool = true ∷ map (λ l. is_some (read_window l)) r.lines in
    let windows = yes_map _ r.lines ∙ there_each read_window r.lines s.windows r.windows_read in
    rw (r.closed, r.ended, r.date_read) (yes_means_passes 1 (answers ++ (true ∷ [])) (yes_append answers (true ∷ []) windows refl))

pub passes_exactly_if : (t : Bytes) → (place19 t ≡ 0) ↔ ((s : Schedule) × (read_schedule t ≡ some s))
passes_exactly_if t = (λ h. let f = passes t h in (f.schedule, f.form.reads), λ r. reads_passes t r.0 r.1)

-- a text that does not pass reads as none
pub refused : (t : Bytes) → (place19 t ≡ 0 → ⊥) → read_schedule t ≡ none
refused t n = go (read_schedule t) refl
  where
    go : (o : Option Schedule) → read_schedule t ≡ o → read_schedule t ≡ none
    go none e = e
    go (some s) e = absurd (n (reads_passes t s e))
