-- The fields of a trace's line, one after another.
use mathlib.Core.Path.{◌≡◌, refl, sym, ap, ◌∙◌}
use mathlib.Core.Bool.{true, false}
use mathlib.Core.Option.{Option, none, some}
use Prim.Native.Nat.{ℕ, suc, ◌+◌, ◌-◌, ◌≤◌, ◌<◌}
use native.Mathlib.Omega.{arith}
use lib.ListN.{length, get_or}
use borrow.Author.Tests.{eq-eqb, ne_eqb}
use Rattle.listing.specs.Lists.{is_some}
use Rattle.listing.specs.Bytes.{Bytes, split}
use Rattle.session_trace_lines.specs.Figures.{as_bounded}
use Rattle.session_trace_lines.specs.declared.figure.Bounded.TheVariants.{Value, Bad}
use Rattle.explain_parts.specs.Parts.{part_of}
use Rattle.std.specs.Prelude as O
use Rattle.std.specs.Prelude.{Some, None, option_map}
use Rattle.std.specs.Option.{option_or}
use Rattle.explain_fields.specs.Fields.{about}
use Rattle.explain_fields.specs.declared.reasons.Fault.{Fault}
use Rattle.explain_trace.specs.declared.reasons.Reason.{Reason}
use Rattle.explain_trace.specs.declared.reasons.Reason.TheVariants as WV
use Rattle.explain_trace.specs.Forms.{letter_why, field_why, fits_letter, at_field, fields_fault, form_fault}

-- ── a figure was read, or none ───────────────────────────────────────────────────
pub is_read : (n : ℕ) (x : Option ℕ) → Value n ≡ as_bounded x → true ≡ is_some x
is_read n none e = absurd (let z : ◌≡◌ {A = ℕ} 0 1 = cc in omega arith)
is_read n (some m) e = refl

pub not_read : (x : Option ℕ) → Bad ≡ as_bounded x → false ≡ is_some x
not_read none e = refl
not_read (some m) e = absurd (let z : ◌≡◌ {A = ℕ} 0 1 = cc in omega arith)

-- ── the fields from a number on decide as all of them do ─────────────────────────
module _ (line : Bytes) (count number : ℕ) (same : fields_fault line number (count + 1 - number) ≡ fields_fault line 1 count) where
  pub looked_through : count + 1 ≤ number → None ≡ fields_fault line 1 count
  unfolding fields_fault
  looked_through h = ap (fields_fault line number) (let z : 0 ≡ count + 1 - number = omega (arith, h) in z) ∙ same

  module _ (h : number < count + 1) (o : O.Option Reason) (e : o ≡ field_why number (part_of 9 line number)) where
    abbrev after : O.Option Reason → O.Option (Fault Reason)
    after w = option_or (option_map (λ (x : Reason). at_field (number + 1) x) w) (fields_fault line (number + 1) (count - number))

    one_field : after o ≡ fields_fault line 1 count
    unfolding fields_fault
    one_field = ap after e ∙ ap (fields_fault line number) (let z : suc (count - number) ≡ count + 1 - number = omega (arith, h) in z) ∙ same

    pub wrong_here : (why : Reason) → o ≡ Some why → Some (at_field (number + 1) why) ≡ fields_fault line 1 count
    wrong_here why s = ap after (sym s) ∙ one_field

    pub looking_on : o ≡ None → fields_fault line (number + 1) (count + 1 - (number + 1)) ≡ fields_fault line 1 count
    looking_on n = ap (fields_fault line (number + 1)) (let y : count + 1 - (number + 1) ≡ count - number = omega arith in y) ∙ ap after (sym n) ∙ one_field

-- ── a whole line ─────────────────────────────────────────────────────────────────
module _ (line : Bytes) where
  abbrev count : ℕ
  count = length (split 9 line) - 1

  pub letter_wrong : (why : Reason) → letter_why (part_of 9 line 0) ≡ Some why → Some (at_field 1 why) ≡ form_fault line
  unfolding form_fault
  letter_wrong why e = rw e

  module _ (fine : letter_why (part_of 9 line 0) ≡ None) where
    pub count_wrong : fits_letter (get_or line 0 0) count ≡ false → Some (about WV.FieldCount) ≡ form_fault line
    unfolding form_fault
    count_wrong f = rw (fine, f)

    pub by_fields : fits_letter (get_or line 0 0) count ≡ true → fields_fault line 1 count ≡ form_fault line
    unfolding form_fault
    by_fields f = rw (fine, f)
