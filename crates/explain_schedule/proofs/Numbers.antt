-- A field has no fault exactly if it reads as a number, and its number is then the reader's; numbers have no fault exactly if they are a date's or a window's.
use mathlib.Core.Path.{◌≡◌, refl, sym, ap, ◌∙◌}
use mathlib.Core.Bool.{Bool, true, false, cond, ◌&&◌}
use mathlib.Core.List.{List, [], ◌∷◌}
use mathlib.Core.Option.{Option, none, some}
use Prim.Native.Nat.{ℕ, min}
use native.Mathlib.Omega.{arith}
use lib.Dec.{eqb, leb, ltb}
use Rattle.listing.specs.Bytes.{Bytes, split, join, read_figure}
use Rattle.listing.specs.Form.{one_piece_lem, read_number}
use Rattle.listing.proofs.Splits.{split_has_part, join_split}
use Rattle.text_piece.specs.Pieces.{cap, as_figure, figure_answer}
use Rattle.std.specs.Prelude.{Some, None}
use Rattle.std.specs.Option.{is_none}
use Rattle.explain_fields.specs.Pieces.{why_bad}
use Rattle.explain_fields.specs.Fields.{walked, field_fault}
use Rattle.explain_fields.specs.declared.field.Found.{Found}
use Rattle.explain_fields.specs.declared.reasons.Reason.TheVariants as FormV
use Rattle.explain_schedule.specs.declared.reasons.Reason.TheVariants as WV
use Rattle.explain_fields.specs.declared.field.Role.TheVariants as RV
use Rattle.schedule.specs.Calendar.{Date, month_days, is_real_date}
use Rattle.schedule.specs.Schedule.{Window, is_window}
use Rattle.schedule_laws.proofs.Windows as laws
use Rattle.schedule_calendar.proofs.Dates.{real_date}
use Rattle.schedule_lines.proofs.Fields.{below_cap}
use Rattle.explain_schedule.specs.Ranges.{outside, date_range, window_range}
use Rattle.explain_schedule.specs.Lines.{value_in}

-- ── a field ──────────────────────────────────────────────────────────────────────
-- what a field reads as, if it has no fault
pub data Fielded (field : Bytes) : Type 0 where
  unread : (found : Found) → field_fault RV.Number field ≡ Some found → read_number (split 32 field) ≡ none → Fielded field
  read : (n : ℕ) → field_fault RV.Number field ≡ None → read_number (split 32 field) ≡ some n → value_in (figure_answer field) ≡ min n cap → Fielded field

module _ (field piece : Bytes) where
  alone : split 32 field ≡ piece ∷ [] → piece ≡ field
  unfolding join
  alone e = ap (join 32) (sym e) ∙ join_split 32 field

  one_piece : split 32 field ≡ piece ∷ [] → (o : Option ℕ) → read_figure piece ≡ o → Fielded field
  unfolding walked one_piece_lem
  one_piece e none r = unread (record { why = why_bad FormV.BadFigure piece; piece = Some 1 }) (rw (e, r)) (rw (e, r))
  one_piece e (some n) r =
      read n (rw (e, r)) (rw (e, r)) (ap (λ (l : Bytes). value_in (figure_answer l)) (sym (alone e)) ∙ ap (λ (o : Option ℕ). value_in (as_figure o)) r)

  several : (next : Bytes) (pieces : List Bytes) → split 32 field ≡ piece ∷ next ∷ pieces → (o : Option ℕ) → read_figure piece ≡ o → Fielded field
  unfolding walked one_piece_lem
  several next pieces e none r = unread (record { why = why_bad FormV.BadFigure piece; piece = Some 1 }) (rw (e, r)) (rw e)
  several next pieces e (some n) r = unread (record { why = FormV.SecondPiece; piece = Some 2 }) (rw (e, r)) (rw e)

pub fielded : (field : Bytes) → Fielded field
fielded field = let p = split_has_part 32 field in go p.head p.rest p.is
  where
    go : (piece : Bytes) (pieces : List Bytes) → split 32 field ≡ piece ∷ pieces → Fielded field
    go piece [] e = one_piece field piece e (read_figure piece) refl
    go piece (next ∷ pieces) e = several field piece next pieces e (read_figure piece) refl

-- ── numbers ──────────────────────────────────────────────────────────────────────
abbrev date : ℕ → ℕ → ℕ → Date
date y m d = record { year = y; month = m; day = d }

abbrev window : ℕ → ℕ → ℕ → ℕ → Window
window i w o c = record { input = i; weekday = w; opening = o; closing = c }

three_tests : (x y z : Bool) (days : ℕ) →
    is_none (cond x (cond y (cond z None (Some (outside (WV.NoDay days) 3))) (Some (outside WV.NoMonth 2))) (Some (outside WV.NoYear 1))) ≡ (x && (y && z))
three_tests true true true days = refl
three_tests true true false days = refl
three_tests true false z days = refl
three_tests false y z days = refl

four_tests : (x y z w : Bool) (closing : ℕ) →
    is_none (cond x (cond y (cond w (cond z None (Some (outside (WV.NotBelow closing) 3))) (Some (outside WV.NoMinute 4))) (Some (outside WV.NoWeekday 2))) (Some (outside WV.NoInput 1))) ≡ (x && (y && (z && w)))
four_tests true true true true closing = refl
four_tests true true true false closing = refl
four_tests true true false true closing = refl
four_tests true true false false closing = refl
four_tests true false z w closing = refl
four_tests false y z w closing = refl

date_tested : (y m d : ℕ) → is_none (date_range y m d) ≡ is_real_date (date y m d)
unfolding date_range is_real_date
date_tested y m d = three_tests (leb 2000 y && leb y 2199) (leb 1 m && leb m 12) (leb 1 d && leb d (month_days y m)) (month_days y m)

window_tested : (i w o c : ℕ) → is_none (window_range i w o c) ≡ is_window (window i w o c)
unfolding window_range is_window
window_tested i w o c = four_tests (ltb i 16) (leb 1 w && leb w 7) (ltb o c) (leb c 1440) c

-- the reader's numbers stop at its cap, above which there is no date and no window
pub date_numbers : (y m d : ℕ) → is_none (date_range (min y cap) (min m cap) (min d cap)) ≡ is_real_date (date y m d)
date_numbers y m d =
    date_tested (min y cap) (min m cap) (min d cap)
    ∙ below_cap (λ y. is_real_date (date y (min m cap) (min d cap))) (λ y e. omega (arith, (real_date y (min m cap) (min d cap) e).year_to)) y
    ∙ below_cap (λ m. is_real_date (date y m (min d cap))) (λ m e. omega (arith, (real_date y m (min d cap) e).month_to)) m
    ∙ below_cap (λ d. is_real_date (date y m d)) (λ d e. omega (arith, (real_date y m d e).day_small)) d

pub window_numbers : (i w o c : ℕ) → is_none (window_range (min i cap) (min w cap) (min o cap) (min c cap)) ≡ is_window (window i w o c)
window_numbers i w o c =
    window_tested (min i cap) (min w cap) (min o cap) (min c cap)
    ∙ below_cap (λ i. is_window (window i (min w cap) (min o cap) (min c cap))) (λ i e. omega (arith, (laws.window_numbers (window i (min w cap) (min o cap) (min c cap)) e).input_below)) i
    ∙ below_cap (λ w. is_window (window i w (min o cap) (min c cap))) (λ w e. omega (arith, (laws.window_numbers (window i w (min o cap) (min c cap)) e).weekday_high)) w
    ∙ below_cap (λ o. is_window (window i w o (min c cap))) (λ o e. omega (arith, laws.window_numbers (window i w o (min c cap)) e)) o
    ∙ below_cap (λ c. is_window (window i w o c)) (λ c e. omega (arith, (laws.window_numbers (window i w o c) e).closes_by)) c
