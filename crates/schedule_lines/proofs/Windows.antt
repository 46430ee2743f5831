-- A window's line: what its numbers decide.
use mathlib.Core.Path.{◌≡◌, refl, sym, ◌∙◌}
use mathlib.Core.Bool.{true, false}
use mathlib.Core.Option.{none, some}
use Rattle.std.specs.Prelude.{Some, None}
use Prim.Native.Nat.{ℕ, min}
use native.Mathlib.Omega.{arith}
use lib.ListN.{drop}
use Rattle.listing.specs.Bytes.{Bytes}
use Rattle.listing.specs.Expressions.{bind, when}
use Rattle.text_place.specs.Texts.{fields_left}
use Rattle.text_place.specs.declared.place.Place.{Place}
use Rattle.text_piece.specs.Pieces.{cap}
use Rattle.text_fields.specs.Fields.{number_answer}
use Rattle.text_fields.specs.declared.field.Number.TheVariants as NV
use Rattle.text_jumps.specs.Records.{end_stop, end_next}
use Rattle.text_jumps.proofs.Chain.{stop_shut, next_shut}
use Rattle.schedule.specs.Schedule.{Window, is_window}
use Rattle.schedule.specs.Form.{window_fields, read_window}
use Rattle.schedule_laws.proofs.Windows.{window_numbers}
use Rattle.schedule_lines.specs.Lines.{as_window_line, window_answer}
use Rattle.schedule_lines.proofs.Fields.{Numbered, number_on, number_unread, end_shut, end_open, is_capped, below_cap}

abbrev window : ℕ → ℕ → ℕ → ℕ → Window
window i w o c = record { input = i; weekday = w; opening = o; closing = c }

-- the numbers of a window are below the cap, so it is one exactly if it is so when capped
capped_window : (i w o c : ℕ) → is_window (window (min i cap) (min w cap) (min o cap) (min c cap)) ≡ is_window (window i w o c)
capped_window i w o c =
    below_cap (λ i. is_window (window i (min w cap) (min o cap) (min c cap))) (λ i e. omega (arith, (window_numbers (window i (min w cap) (min o cap) (min c cap)) e).input_below)) i
    ∙ below_cap (λ w. is_window (window i w (min o cap) (min c cap))) (λ w e. omega (arith, (window_numbers (window i w (min o cap) (min c cap)) e).weekday_high)) w
    ∙ below_cap (λ o. is_window (window i w o (min c cap))) (λ o e. omega (arith, window_numbers (window i w o (min c cap)) e)) o
    ∙ below_cap (λ c. is_window (window i w o c)) (λ c e. omega (arith, (window_numbers (window i w o c) e).closes_by)) c

module _ (s : Bytes) (p : Place) where
  window_said : window_answer s p ≡ as_window_line (bind (window_fields (fields_left 9 (drop p.offset s))) (λ window. when (is_window window) window)) (end_stop s p 9) (end_next s p 9)
  unfolding fields_left end_stop end_next read_window
  window_said = refl

  window_bad : window_fields (fields_left 9 (drop p.offset s)) ≡ none → None ≡ window_answer s p
  window_bad e = sym (window_said ∙ rw e)

  pub input_none : NV.Bad ≡ number_answer s p 9 → None ≡ window_answer s p
  input_none e = window_bad (number_unread s p 9 e _)

  module _ {i b1 : ℕ} {p1 : Place} (n1 : Numbered s p 9 i b1 p1) where
    pub weekday_none : NV.Bad ≡ number_answer s p1 b1 → None ≡ window_answer s p
    weekday_none e = window_bad (number_on s p 9 n1.1 _ ∙ number_unread s p1 b1 e _)

    module _ {w b2 : ℕ} {p2 : Place} (n2 : Numbered s p1 b1 w b2 p2) where
      pub opening_none : NV.Bad ≡ number_answer s p2 b2 → None ≡ window_answer s p
      opening_none e = window_bad (number_on s p 9 n1.1 _ ∙ number_on s p1 b1 n2.1 _ ∙ number_unread s p2 b2 e _)

      module _ {o b3 : ℕ} {p3 : Place} (n3 : Numbered s p2 b2 o b3 p3) where
        pub closing_none : NV.Bad ≡ number_answer s p3 b3 → None ≡ window_answer s p
        closing_none e = window_bad (number_on s p 9 n1.1 _ ∙ number_on s p1 b1 n2.1 _ ∙ number_on s p2 b2 n3.1 _ ∙ number_unread s p3 b3 e _)

        module _ {c b4 : ℕ} {p4 : Place} (n4 : Numbered s p3 b3 c b4 p4) where
          pub more_fields : b4 ≡ 9 → None ≡ window_answer s p
          more_fields e = window_bad (number_on s p 9 n1.1 _ ∙ number_on s p1 b1 n2.1 _ ∙ number_on s p2 b2 n3.1 _ ∙ number_on s p3 b3 n4.1 _ ∙ end_open s p4 b4 _ e)

          module _ (shut : b4 ≡ 9 → ⊥) where
            fields_are : window_fields (fields_left 9 (drop p.offset s)) ≡ some (window n1.0 n2.0 n3.0 n4.0)
            fields_are = number_on s p 9 n1.1 _ ∙ number_on s p1 b1 n2.1 _ ∙ number_on s p2 b2 n3.1 _ ∙ number_on s p3 b3 n4.1 _ ∙ end_shut s p4 b4 _ shut

            test_as_read : is_window (window i w o c) ≡ is_window (window n1.0 n2.0 n3.0 n4.0)
            test_as_read = rw (n1.2, n2.2, n3.2, n4.2) (capped_window n1.0 n2.0 n3.0 n4.0)

            pub no_window_lem : is_window (window i w o c) ≡ false → None ≡ window_answer s p
            no_window_lem e =
                let no : is_window (window n1.0 n2.0 n3.0 n4.0) ≡ false = sym test_as_read ∙ e in
                sym (window_said ∙ rw (fields_are, no))

            pub window_read : is_window (window i w o c) ≡ true → Some (record { window = window i w o c; stop = b4; next = p4 }) ≡ window_answer s p
            window_read e =
                let yes : is_window (window n1.0 n2.0 n3.0 n4.0) ≡ true = sym test_as_read ∙ e in
                let real = window_numbers (window n1.0 n2.0 n3.0 n4.0) yes in
                let input : i ≡ n1.0 = n1.2 ∙ is_capped n1.0 (omega arith) in
                let weekday : w ≡ n2.0 = n2.2 ∙ is_capped n2.0 (omega arith) in
                let opening : o ≡ n3.0 = n3.2 ∙ is_capped n3.0 (omega arith) in
                let closing : c ≡ n4.0 = n4.2 ∙ is_capped n4.0 (omega arith) in
                let stop : end_stop s p 9 ≡ b4 = sym n1.1.stops ∙ sym n2.1.stops ∙ sym n3.1.stops ∙ sym n4.1.stops ∙ stop_shut s p4 b4 shut in
                let next : end_next s p 9 ≡ p4 = sym n1.1.nexts ∙ sym n2.1.nexts ∙ sym n3.1.nexts ∙ sym n4.1.nexts ∙ next_shut s p4 b4 shut in
                rw (input, weekday, opening, closing) (sym (window_said ∙ rw (fields_are, yes, stop, next)))
