-- Text and schedule determine each other: a text reads as a schedule exactly if it is the schedule's text and the schedule's numbers pass.
-- t is a text, s a schedule, d a date, w a window, ws are windows.
use mathlib.Core.Path.{◌≡◌, refl, sym, ap, ◌∙◌}
use mathlib.Core.Bool.{true}
use mathlib.Core.List.{List, [], ◌∷◌, ◌++◌, map, cons≢nil}
use mathlib.Core.Option.{some}
use mathlib.Core.Logic.{◌↔◌}
use Prim.Native.Nat.{ℕ}
use native.Mathlib.Omega.{arith}
use Rattle.listing.specs.Lists.{all, all_but_last, last_or}
use Rattle.listing.specs.Bytes.{Bytes, line_feed, split, join}
use Rattle.listing.specs.Expressions.{each}
use Rattle.listing.specs.Form.{Field, fields_of, next_field_lem, none_left_lem, one_piece_lem, read_number}
use Rattle.listing.specs.Text.{join_fields}
use Rattle.listing.specs.Questions.{closed_lines, unclosed}
use Rattle.listing.proofs.Tests.{all_head, all_tail}
use Rattle.listing.proofs.Splits.{All, none_left, also, join_split, split_at}
use Rattle.listing.proofs.Figures.{read_figure-figure}
use Rattle.listing.proofs.Separators.{VisibleField, figure_field_lem, joined_back, joined_free}
use Rattle.listing.proofs.FieldsBack.{bound, passed, next_read, none_left_read, number_back}
use Rattle.listing.proofs.LinesBack.{fields_joined}
use Rattle.listing.proofs.Texts.{all_but_last-snoc, last_or-snoc}
use Rattle.schedule.specs.Calendar.{Date, is_real_date}
use Rattle.schedule.specs.Schedule.{Window, Schedule, IsSchedule, is_window}
use Rattle.schedule.specs.Form.{date_fields, window_fields, read_date, read_window, read_schedule}
use Rattle.schedule.specs.Text.{date_fields_of, window_fields_of, windows_text, schedule_text}
use Rattle.schedule_laws.proofs.Places.{reading, reads_so}

-- ── a line is read from its text ─────────────────────────────────────────────────
-- a line without its line feed
abbrev date_line : Date → Bytes
date_line d = join_fields (date_fields_of d)

abbrev window_line : Window → Bytes
window_line w = join_fields (window_fields_of w)

date_visible : (d : Date) → All VisibleField (date_fields_of d)
date_visible d = also (figure_field_lem d.year) (also (figure_field_lem d.month) (also (figure_field_lem d.day) none_left))

window_visible : (w : Window) → All VisibleField (window_fields_of w)
window_visible w =
    also (figure_field_lem w.input) (also (figure_field_lem w.weekday) (also (figure_field_lem w.opening) (also (figure_field_lem w.closing) none_left)))

pub date_line_read : (d : Date) → is_real_date d ≡ true → read_date (date_line d) ≡ some d
unfolding read_date next_field_lem none_left_lem one_piece_lem
date_line_read d h =
    rw (
      joined_back (date_fields_of d) (date_visible d) cons≢nil,
      read_figure-figure d.year,
      read_figure-figure d.month,
      read_figure-figure d.day,
      h,
    )

pub window_line_read : (w : Window) → is_window w ≡ true → read_window (window_line w) ≡ some w
unfolding read_window next_field_lem none_left_lem one_piece_lem
window_line_read w h =
    rw (
      joined_back (window_fields_of w) (window_visible w) cons≢nil,
      read_figure-figure w.input,
      read_figure-figure w.weekday,
      read_figure-figure w.opening,
      read_figure-figure w.closing,
      h,
    )

window_lines_read : (ws : List Window) → all is_window ws ≡ true → each read_window (map window_line ws) ≡ some ws
unfolding each
window_lines_read [] h = refl
window_lines_read (w ∷ ws) h = rw (window_line_read w (all_head is_window w ws h), window_lines_read ws (all_tail is_window w ws h))

-- ── a schedule is read from its text ─────────────────────────────────────────────
split_windows : (ws : List Window) → split line_feed (windows_text ws) ≡ map window_line ws ++ ([] ∷ [])
unfolding windows_text split
split_windows [] = refl
split_windows (w ∷ ws) = split_at (windows_text ws) (joined_free (window_fields_of w) (window_visible w)) ∙ rw (split_windows ws)

split_schedule : (s : Schedule) → split line_feed (schedule_text s) ≡ (date_line s.date ∷ map window_line s.windows) ++ ([] ∷ [])
split_schedule s =
    split_at (windows_text s.windows) (joined_free (date_fields_of s.date) (date_visible s.date)) ∙ rw (split_windows s.windows)

closed_lines_lem : (s : Schedule) → closed_lines (schedule_text s) ≡ date_line s.date ∷ map window_line s.windows
unfolding closed_lines
closed_lines_lem s = rw (split_schedule s) (all_but_last-snoc (date_line s.date ∷ map window_line s.windows) [])

none_unclosed : (s : Schedule) → unclosed (schedule_text s) ≡ []
unfolding unclosed
none_unclosed s = rw (split_schedule s) (last_or-snoc [] (date_line s.date ∷ map window_line s.windows) [])

pub text_reads : (s : Schedule) → IsSchedule s → read_schedule (schedule_text s) ≡ some s
text_reads s g =
    reads_so (schedule_text s) (date_line s.date) (map window_line s.windows) s (closed_lines_lem s) (none_unclosed s) (date_line_read s.date g.date_is)
    (window_lines_read s.windows g.windows_are)

-- ── a line that is read is the text of what was read ─────────────────────────────
date_fields_back : (fields : List Field) (d : Date) → date_fields fields ≡ some d → date_fields_of d ≡ fields
date_fields_back fields d h =
    let a = next_read read_number fields _ d h in
    let b = next_read read_number a.rest _ d a.on in
    let c = next_read read_number b.rest _ d b.on in
    let z = none_left_read c.rest _ d c.on in
    rw (← z.1, number_back a.field a.got a.from, number_back b.field b.got b.from, number_back c.field c.got c.from)
    (cc (a.is, b.is, c.is, z.0))

window_fields_back : (fields : List Field) (w : Window) → window_fields fields ≡ some w → window_fields_of w ≡ fields
window_fields_back fields w h =
    let a = next_read read_number fields _ w h in
    let b = next_read read_number a.rest _ w a.on in
    let c = next_read read_number b.rest _ w b.on in
    let d = next_read read_number c.rest _ w c.on in
    let z = none_left_read d.rest _ w d.on in
    rw (
      ← z.1,
      number_back a.field a.got a.from,
      number_back b.field b.got b.from,
      number_back c.field c.got c.from,
      number_back d.field d.got d.from,
    ) (cc (a.is, b.is, c.is, d.is, z.0))

pub date_line_back : (line : Bytes) (d : Date) → read_date line ≡ some d → date_line d ≡ line
unfolding read_date
date_line_back line d h =
    let u = bound (date_fields (fields_of line)) _ d h in
    let p = passed (is_real_date u.got) u.got d u.on in
    rw (date_fields_back (fields_of line) d (u.from ∙ ap some p.1)) (fields_joined line)

pub window_line_back : (line : Bytes) (w : Window) → read_window line ≡ some w → window_line w ≡ line
unfolding read_window
window_line_back line w h =
    let u = bound (window_fields (fields_of line)) _ w h in
    let p = passed (is_window u.got) u.got w u.on in
    rw (window_fields_back (fields_of line) w (u.from ∙ ap some p.1)) (fields_joined line)

-- ── a text that reads is the text of what was read ───────────────────────────────
-- from the parts of a text between its line feeds
windows_back : (parts : List Bytes) (ws : List Window) → last_or [] parts ≡ [] → each read_window (all_but_last parts) ≡ some ws
    → windows_text ws ≡ join line_feed parts
unfolding last_or all_but_last each windows_text join
windows_back [] ws e h = let z : ws ≡ [] = cc in rw z
windows_back (part ∷ []) ws e h = let z : ws ≡ [] = cc in rw z (sym e)
windows_back (part ∷ next ∷ parts) ws e h =
    let u = bound (read_window part) _ ws h in
    let v = bound (each read_window (all_but_last (next ∷ parts))) _ ws u.on in
    let z : ws ≡ u.got ∷ v.got = cc v.on in
    rw (z, window_line_back part u.got u.from, windows_back (next ∷ parts) v.got e v.from)

schedule_back : (parts : List Bytes) (line : Bytes) (lines : List Bytes) (s : Schedule) → all_but_last parts ≡ line ∷ lines → last_or [] parts ≡ []
    → read_date line ≡ some s.date → each read_window lines ≡ some s.windows → schedule_text s ≡ join line_feed parts
unfolding last_or all_but_last join
schedule_back [] line lines s c e d w = absurd (let z : ◌≡◌ {A = ℕ} 0 1 = cc in omega arith)
schedule_back (part ∷ []) line lines s c e d w = absurd (let z : ◌≡◌ {A = ℕ} 0 1 = cc in omega arith)
schedule_back (part ∷ next ∷ parts) line lines s c e d w =
    let p : line ≡ part = cc in
    let q : lines ≡ all_but_last (next ∷ parts) = cc in
    rw (date_line_back part s.date (rw p at d), windows_back (next ∷ parts) s.windows e (rw q at w))

pub read_is_text : (t : Bytes) (s : Schedule) → read_schedule t ≡ some s → (schedule_text s ≡ t) × IsSchedule s
unfolding closed_lines unclosed
read_is_text t s e =
    let r = reading t s e in
    (schedule_back (split line_feed t) r.line r.lines s r.closed r.ended r.date_read r.windows_read ∙ join_split line_feed t, r.is_schedule)

-- ── the theorem ──────────────────────────────────────────────────────────────────
pub reads_exactly_if : (t : Bytes) (s : Schedule) → (read_schedule t ≡ some s) ↔ ((schedule_text s ≡ t) × IsSchedule s)
reads_exactly_if t s = (read_is_text t s, λ c. rw (← c.0) (text_reads s c.1))

-- one schedule for a text
pub one_schedule : (t : Bytes) (s other : Schedule) → read_schedule t ≡ some s → read_schedule t ≡ some other → s ≡ other
one_schedule t s other p q = cc
