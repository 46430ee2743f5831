-- What an answer says of its line.
use mathlib.Core.Path.{◌≡◌, refl, sym, ◌∙◌}
use mathlib.Core.Bool.{true}
use mathlib.Core.Option.{Option, none, some}
use Prim.Native.Nat.{ℕ, ◌+◌, ◌≤◌, ◌<◌}
use native.Mathlib.Omega.{arith}
use lib.ListN.{get_or, drop}
use Rattle.listing.specs.Bytes.{Bytes}
use Rattle.text_place.specs.Texts.{first_line, line_end, Within}
use Rattle.text_place.specs.Places.{passed}
use Rattle.text_place.specs.declared.place.Place.{Place}
use Rattle.schedule.specs.Calendar.{Date, is_real_date}
use Rattle.schedule.specs.Schedule.{Window, is_window}
use Rattle.schedule.specs.Form.{read_date, read_window}
use Rattle.schedule_laws.proofs.Places.{date_read_is, window_read_is}
use Rattle.schedule_lines.specs.Lines.{as_date_line, as_window_line, date_answer, window_answer}
use Rattle.schedule_lines.specs.declared.DateLine.{DateLine}
use Rattle.schedule_lines.specs.declared.WindowLine.{WindowLine}
use Rattle.std.specs.Prelude.{Some, None}
use Rattle.schedule_read.proofs.Lines as lines

-- a line read as something, and what closes it
pub record LineRead {A : Type 0} (read : Bytes → Option A) (s : Bytes) (p : Place) (a : A) (stop : ℕ) (next : Place) : Type 0 where
  pub is : read (first_line (drop p.offset s)) ≡ some a
  pub stop_is_lem : get_or s (line_end s p.offset) 0 ≡ stop
  pub next_is_lem : passed s p.line (line_end s p.offset) ≡ next

pub past_feed : {A : Type 0} {read : Bytes → Option A} {s : Bytes} {p : Place} {a : A} {stop : ℕ} {next : Place} → LineRead read s p a stop next → stop ≡ 10 → LineRead read s p a 10 next
past_feed l e = record { is = l.is; stop_is_lem = l.stop_is_lem ∙ e; next_is_lem = l.next_is_lem }

-- past a line feed
module _ {A : Type 0} {read : Bytes → Option A} {s : Bytes} {p : Place} {a : A} {next : Place} (l : LineRead read s p a 10 next) where
  pub next_place : record { offset = line_end s p.offset + 1; line = p.line + 1 } ≡ next
  next_place = sym (lines.feed_next s p.offset l.stop_is_lem p.line) ∙ l.next_is_lem

  pub next_further : p.offset < next.offset
  next_further = rw (← next_place) (omega arith)

  pub next_numbered : 1 ≤ next.line
  next_numbered = rw (← next_place) (omega arith)

  pub next_within : Within s p.offset p.line → Within s next.offset next.line
  next_within w =
      let h = lines.feed_within s p.offset l.stop_is_lem in
      rw (← next_place) (record { inside = omega arith; counted = omega (arith, w.counted) })

module _ (s : Bytes) (p : Place) where
  pub date_read : (r : DateLine) → Some r ≡ date_answer s p → LineRead read_date s p r.date r.stop r.next × (is_real_date r.date ≡ true)
  date_read r e = go (read_date (first_line (drop p.offset s))) refl e
    where
      go : (o : Option Date) → read_date (first_line (drop p.offset s)) ≡ o → Some r ≡ as_date_line o (get_or s (line_end s p.offset) 0) (passed s p.line (line_end s p.offset))
          → LineRead read_date s p r.date r.stop r.next × (is_real_date r.date ≡ true)
      go none i e = cc
      go (some x) i e =
          let is : r ≡ record { date = x; stop = get_or s (line_end s p.offset) 0; next = passed s p.line (line_end s p.offset) } = cc in
          rw is (record { is = i; stop_is_lem = refl; next_is_lem = refl }, date_read_is _ x i)

  pub date_unread : None ≡ date_answer s p → read_date (first_line (drop p.offset s)) ≡ none
  date_unread e = go (read_date (first_line (drop p.offset s))) e
    where
      go : (o : Option Date) → None ≡ as_date_line o (get_or s (line_end s p.offset) 0) (passed s p.line (line_end s p.offset)) → o ≡ none
      go none e = refl
      go (some x) e = cc

  pub window_read : (r : WindowLine) → Some r ≡ window_answer s p → LineRead read_window s p r.window r.stop r.next × (is_window r.window ≡ true)
  window_read r e = go (read_window (first_line (drop p.offset s))) refl e
    where
      go : (o : Option Window) → read_window (first_line (drop p.offset s)) ≡ o → Some r ≡ as_window_line o (get_or s (line_end s p.offset) 0) (passed s p.line (line_end s p.offset))
          → LineRead read_window s p r.window r.stop r.next × (is_window r.window ≡ true)
      go none i e = cc
      go (some x) i e =
          let is : r ≡ record { window = x; stop = get_or s (line_end s p.offset) 0; next = passed s p.line (line_end s p.offset) } = cc in
          rw is (record { is = i; stop_is_lem = refl; next_is_lem = refl }, window_read_is _ x i)

  pub window_unread : None ≡ window_answer s p → read_window (first_line (drop p.offset s)) ≡ none
  window_unread e = go (read_window (first_line (drop p.offset s))) e
    where
      go : (o : Option Window) → None ≡ as_window_line o (get_or s (line_end s p.offset) 0) (passed s p.line (line_end s p.offset)) → o ≡ none
      go none e = refl
      go (some x) e = cc
