-- The date's line: what its numbers decide.
use mathlib.Core.Path.{◌≡◌, refl, sym, ◌∙◌}
use mathlib.Core.Bool.{true, false}
use mathlib.Core.Option.{none, some}
use Rattle.std.specs.Prelude.{Some, None}
use Prim.Native.Nat.{ℕ, min}
use native.Mathlib.Omega.{arith}
use lib.ListN.{drop}
use Rattle.listing.specs.Bytes.{Bytes}
use Rattle.listing.specs.Expressions.{bind, when}
use Rattle.text_place.specs.Texts.{fields_left}
use Rattle.text_place.specs.declared.place.Place.{Place}
use Rattle.text_piece.specs.Pieces.{cap}
use Rattle.text_fields.specs.Fields.{number_answer}
use Rattle.text_fields.specs.declared.field.Number.TheVariants as NV
use Rattle.text_jumps.specs.Records.{end_stop, end_next}
use Rattle.text_jumps.proofs.Chain.{stop_shut, next_shut}
use Rattle.schedule.specs.Calendar.{Date, is_real_date}
use Rattle.schedule.specs.Form.{date_fields, read_date}
use Rattle.schedule_calendar.proofs.Dates.{real_date}
use Rattle.schedule_lines.specs.Lines.{as_date_line, date_answer}
use Rattle.schedule_lines.proofs.Fields.{Numbered, number_on, number_unread, end_shut, end_open, is_capped, below_cap}

abbrev date : ℕ → ℕ → ℕ → Date
date y m d = record { year = y; month = m; day = d }

-- the numbers of a real date are below the cap, so it is real exactly if it is so when capped
capped_date : (y m d : ℕ) → is_real_date (date (min y cap) (min m cap) (min d cap)) ≡ is_real_date (date y m d)
capped_date y m d =
    below_cap (λ y. is_real_date (date y (min m cap) (min d cap))) (λ y e. omega (arith, (real_date y (min m cap) (min d cap) e).year_to)) y
    ∙ below_cap (λ m. is_real_date (date y m (min d cap))) (λ m e. omega (arith, (real_date y m (min d cap) e).month_to)) m
    ∙ below_cap (λ d. is_real_date (date y m d)) (λ d e. omega (arith, (real_date y m d e).day_small)) d

module _ (s : Bytes) (p : Place) where
  date_said : date_answer s p ≡ as_date_line (bind (date_fields (fields_left 9 (drop p.offset s))) (λ date. when (is_real_date date) date)) (end_stop s p 9) (end_next s p 9)
  unfolding fields_left end_stop end_next read_date
  date_said = refl

  date_bad : date_fields (fields_left 9 (drop p.offset s)) ≡ none → None ≡ date_answer s p
  date_bad e = sym (date_said ∙ rw e)

  pub year_none : NV.Bad ≡ number_answer s p 9 → None ≡ date_answer s p
  year_none e = date_bad (number_unread s p 9 e _)

  module _ {y b1 : ℕ} {p1 : Place} (n1 : Numbered s p 9 y b1 p1) where
    pub month_none : NV.Bad ≡ number_answer s p1 b1 → None ≡ date_answer s p
    month_none e = date_bad (number_on s p 9 n1.1 _ ∙ number_unread s p1 b1 e _)

    module _ {m b2 : ℕ} {p2 : Place} (n2 : Numbered s p1 b1 m b2 p2) where
      pub day_none : NV.Bad ≡ number_answer s p2 b2 → None ≡ date_answer s p
      day_none e = date_bad (number_on s p 9 n1.1 _ ∙ number_on s p1 b1 n2.1 _ ∙ number_unread s p2 b2 e _)

      module _ {d b3 : ℕ} {p3 : Place} (n3 : Numbered s p2 b2 d b3 p3) where
        pub more_fields : b3 ≡ 9 → None ≡ date_answer s p
        more_fields e = date_bad (number_on s p 9 n1.1 _ ∙ number_on s p1 b1 n2.1 _ ∙ number_on s p2 b2 n3.1 _ ∙ end_open s p3 b3 _ e)

        module _ (shut : b3 ≡ 9 → ⊥) where
          fields_are : date_fields (fields_left 9 (drop p.offset s)) ≡ some (date n1.0 n2.0 n3.0)
          fields_are = number_on s p 9 n1.1 _ ∙ number_on s p1 b1 n2.1 _ ∙ number_on s p2 b2 n3.1 _ ∙ end_shut s p3 b3 _ shut

          real_as_read : is_real_date (date y m d) ≡ is_real_date (date n1.0 n2.0 n3.0)
          real_as_read = rw (n1.2, n2.2, n3.2) (capped_date n1.0 n2.0 n3.0)

          pub date_unreal : is_real_date (date y m d) ≡ false → None ≡ date_answer s p
          date_unreal e =
              let no : is_real_date (date n1.0 n2.0 n3.0) ≡ false = sym real_as_read ∙ e in
              sym (date_said ∙ rw (fields_are, no))

          pub date_read : is_real_date (date y m d) ≡ true → Some (record { date = date y m d; stop = b3; next = p3 }) ≡ date_answer s p
          date_read e =
              let yes : is_real_date (date n1.0 n2.0 n3.0) ≡ true = sym real_as_read ∙ e in
              let real = real_date n1.0 n2.0 n3.0 yes in
              let year : y ≡ n1.0 = n1.2 ∙ is_capped n1.0 (omega arith) in
              let month : m ≡ n2.0 = n2.2 ∙ is_capped n2.0 (omega arith) in
              let day : d ≡ n3.0 = n3.2 ∙ is_capped n3.0 (omega arith) in
              let stop : end_stop s p 9 ≡ b3 = sym n1.1.stops ∙ sym n2.1.stops ∙ sym n3.1.stops ∙ stop_shut s p3 b3 shut in
              let next : end_next s p 9 ≡ p3 = sym n1.1.nexts ∙ sym n2.1.nexts ∙ sym n3.1.nexts ∙ next_shut s p3 b3 shut in
              rw (year, month, day) (sym (date_said ∙ rw (fields_are, yes, stop, next)))
