-- The pieces of a field, one after another.
use mathlib.Core.Path.{◌≡◌, sym, ap, ◌∙◌}
use mathlib.Core.List.{[]}
use Prim.Native.Nat.{ℕ, ◌+◌, ◌≤◌, ◌<◌}
use lib.ListN.{length, get_or, drop}
use Rattle.std.specs.Prelude.{Option, Some, None, Result, Ok, Err}
use Rattle.std.proofs.lemmas.List.{at_drop_all}
use Rattle.listing.specs.Bytes.{Bytes, split}
use Rattle.explain_parts.proofs.Parts.{next_part}
use Rattle.explain_fields.specs.Fields.{told_of_lem, ended_why, whole_field, found_or, walked, field_fault}
use Rattle.explain_fields.specs.declared.reasons.Reason.{Reason}
use Rattle.explain_fields.specs.declared.field.Role.{Role}
use Rattle.explain_fields.specs.declared.field.Found.{Found}

-- the pieces from the one with so many before it on decide as the whole field does
module _ (role : Role) (field : Bytes) (held number n : ℕ) (same : walked role held number (drop n (split 32 field)) ≡ field_fault role field) where
  module _ (piece : Bytes) (t : (n < length (split 32 field)) × (piece ≡ get_or (split 32 field) n piece)) where
    abbrev after : Result ℕ Reason → Option Found
    after r = found_or r number (λ next. walked role next (number + 1) (drop (n + 1) (split 32 field)))

    one : after (told_of_lem role held piece) ≡ field_fault role field
    unfolding walked
    one = sym (next_part (walked role held number) (split 32 field) n piece t) ∙ same

    pub wrong_here : (why : Reason) → Err why ≡ told_of_lem role held piece → Some (record { why = why; piece = Some number }) ≡ field_fault role field
    wrong_here why e = ap after e ∙ one

    pub fine_here : (next m : ℕ) → Ok next ≡ told_of_lem role held piece → m ≡ n + 1 → walked role next (number + 1) (drop m (split 32 field)) ≡ field_fault role field
    fine_here next m e l = ap (λ (k : ℕ). walked role next (number + 1) (drop k (split 32 field))) l ∙ ap after e ∙ one

  pub all_fine : length (split 32 field) ≤ n → (o : Option Reason) → o ≡ ended_why role held → whole_field o ≡ field_fault role field
  unfolding walked
  all_fine h o e = ap whole_field e ∙ sym (at_drop_all (walked role held number) (split 32 field) n h) ∙ same
