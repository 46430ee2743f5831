-- The pieces of a field and the fields of a line, one after another.
use mathlib.Core.Path.{◌≡◌, sym, ap, ◌∙◌}
use mathlib.Core.Bool.{Bool, true, false, cond}
use Prim.Native.Nat.{ℕ, suc, ◌+◌, ◌-◌, ◌≤◌, ◌<◌}
use native.Mathlib.Omega.{arith}
use lib.ListN.{length, get_or, drop}
use Rattle.std.specs.Prelude.{Option, Some, None, option_map, unwrap_or}
use Rattle.std.proofs.lemmas.List.{at_drop_all}
use Rattle.listing.specs.Bytes.{Bytes, split}
use Rattle.text_piece.specs.Pieces.{piece_answer}
use Rattle.text_fields.specs.Gather.{is_there_by}
use Rattle.explain_parts.specs.Parts.{part_of}
use Rattle.explain_parts.proofs.Parts.{next_part}
use Rattle.explain_fields.specs.Fields.{fault_in, about}
use Rattle.explain_fields.specs.declared.field.Found.{Found}
use Rattle.explain_fields.specs.declared.reasons.Reason.{Reason}
use Rattle.explain_fields.specs.declared.reasons.Reason.TheVariants as WV
use Rattle.explain_fields.specs.declared.reasons.Fault.{Fault}
use Rattle.explain_there.specs.There.{first_target, bound_of, missing, pieces_there, field_there, fields_there}
use Rattle.explain_there.specs.declared.around.Scope.{Scope}
use Rattle.explain_there.specs.declared.there.Target.{Target}
use Rattle.explain_there.specs.declared.there.Target.TheVariants as TV

-- the pieces from the one with so many before it on decide as the whole field does
module _ (scope : Scope) (first : Target) (field : Bytes) (target : Target) (number n : ℕ)
    (same : pieces_there scope target number (drop n (split 32 field)) ≡ field_there scope first field) where
  pub all_there : length (split 32 field) ≤ n → None ≡ field_there scope first field
  unfolding pieces_there
  all_there h = sym (at_drop_all (pieces_there scope target number) (split 32 field) n h) ∙ same

  module _ (piece : Bytes) (turn : (n < length (split 32 field)) × (piece ≡ get_or (split 32 field) n piece)) (bound : ℕ) (b : bound ≡ bound_of scope target)
      (t : Bool) (is : t ≡ is_there_by bound (piece_answer piece)) where
    one_step : cond t (pieces_there scope TV.Name (number + 1) (drop (n + 1) (split 32 field))) (Some (record { why = missing target bound; piece = Some number })) ≡ field_there scope first field
    unfolding pieces_there
    one_step = rw (is, b) (sym (next_part (pieces_there scope target number) (split 32 field) n piece turn) ∙ same)

    pub missing_here : t ≡ false → (why : Reason) → why ≡ missing target bound → Some (record { why = why; piece = Some number }) ≡ field_there scope first field
    missing_here f why e = ap (λ (w : Reason). Some (record { why = w; piece = Some number })) e ∙ rw f at one_step

    pub there_on : t ≡ true → (m : ℕ) → m ≡ n + 1 → pieces_there scope TV.Name (number + 1) (drop m (split 32 field)) ≡ field_there scope first field
    there_on f m l = ap (λ (k : ℕ). pieces_there scope TV.Name (number + 1) (drop k (split 32 field))) l ∙ rw f at one_step

-- ── fields ───────────────────────────────────────────────────────────────────────
module _ (scope : Scope) (letter : ℕ) (line : Bytes) (count number : ℕ)
    (same : fields_there scope letter line number (count + 1 - number) ≡ fields_there scope letter line 1 count) where
  pub looked_through : count + 1 ≤ number → about WV.ArgumentCount ≡ fields_there scope letter line 1 count
  unfolding fields_there
  looked_through h = ap (fields_there scope letter line number) (let z : 0 ≡ count + 1 - number = omega (arith, h) in z) ∙ same

  module _ (h : number < count + 1) (o : Option Found) (e : o ≡ field_there scope (first_target letter number) (part_of 9 line number)) where
    abbrev after : Option Found → Fault Reason
    after f = unwrap_or (option_map (λ (x : Found). fault_in x (number + 1)) f) (fields_there scope letter line (number + 1) (count - number))

    one_field : after o ≡ fields_there scope letter line 1 count
    unfolding fields_there
    one_field = ap after e ∙ ap (fields_there scope letter line number) (let z : suc (count - number) ≡ count + 1 - number = omega (arith, h) in z) ∙ same

    pub wrong_here : (found : Found) → o ≡ Some found → fault_in found (number + 1) ≡ fields_there scope letter line 1 count
    wrong_here found s = ap after (sym s) ∙ one_field

    pub looking_on : o ≡ None → fields_there scope letter line (number + 1) (count + 1 - (number + 1)) ≡ fields_there scope letter line 1 count
    looking_on m =
        ap (fields_there scope letter line (number + 1)) (let y : count + 1 - (number + 1) ≡ count - number = omega arith in y) ∙ ap after (sym m) ∙ one_field
