-- The fields of a schedule's line, one after another, and what is not closed.
use mathlib.Core.Path.{◌≡◌, refl, sym, ap, ◌∙◌}
use mathlib.Core.List.{[], ◌∷◌}
use Prim.Native.Nat.{ℕ, suc, ◌+◌, ◌-◌, ◌≤◌, ◌<◌}
use native.Mathlib.Omega.{arith}
use lib.ListN.{length}
use borrow.Author.Tests.{eq-eqb, ne_eqb}
use Rattle.listing.specs.Bytes.{Bytes, split}
use Rattle.explain_parts.specs.Parts.{part_of}
use Rattle.std.specs.Prelude.{Option, Some, None, option_map}
use Rattle.std.specs.Option.{option_or}
use Rattle.explain_fields.specs.Fields.{field_fault, about}
use Rattle.explain_fields.specs.declared.field.Role.TheVariants as RV
use Rattle.explain_fields.specs.declared.field.Found.{Found}
use Rattle.explain_fields.specs.declared.reasons.Fault.{Fault}
use Rattle.explain_schedule.specs.declared.reasons.Reason.{Reason}
use Rattle.explain_schedule.specs.declared.reasons.Reason.TheVariants as WV
use Rattle.explain_schedule.specs.Ranges.{date_range, window_range}
use Rattle.explain_schedule.specs.Lines.{count_why, formed, figures_fault, number_at, date_fault, window_fault}
use Rattle.explain_schedule.specs.Faults.{unclosed_why}

-- ── the fields from one on decide as all of them do ─────────────────────────────
module _ (line : Bytes) (count before : ℕ) (same : figures_fault line before (count - before) ≡ figures_fault line 0 count) where
  pub looked_through : count ≤ before → None ≡ figures_fault line 0 count
  unfolding figures_fault
  looked_through h = ap (figures_fault line before) (let z : 0 ≡ count - before = omega (arith, h) in z) ∙ same

  module _ (h : before < count) (o : Option Found) (e : o ≡ field_fault RV.Number (part_of 9 line before)) where
    abbrev after : Option Found → Option (Fault Reason)
    after x = option_or (option_map (λ (found : Found). formed found (before + 1)) x) (figures_fault line (before + 1) (count - (before + 1)))

    one_field : after o ≡ figures_fault line 0 count
    unfolding figures_fault
    one_field = ap after e ∙ ap (figures_fault line before) (let z : suc (count - (before + 1)) ≡ count - before = omega (arith, h) in z) ∙ same

    pub wrong_here : (found : Found) → o ≡ Some found → Some (formed found (before + 1)) ≡ figures_fault line 0 count
    wrong_here found s = ap after (sym s) ∙ one_field

    pub looking_on : o ≡ None → figures_fault line (before + 1) (count - (before + 1)) ≡ figures_fault line 0 count
    looking_on n = ap after (sym n) ∙ one_field

-- ── a whole line ────────────────────────────────────────────────────────────────
module _ (line : Bytes) (count : ℕ) (is : count ≡ length (split 9 line)) where
  pub date_counted : (count ≡ 3 → ⊥) → Some (about (count_why WV.DateCount line)) ≡ date_fault line
  unfolding date_fault
  date_counted n = rw (← is, ne_eqb count 3 n)

  pub window_counted : (count ≡ 4 → ⊥) → Some (about (count_why WV.WindowCount line)) ≡ window_fault line
  unfolding window_fault
  window_counted n = rw (← is, ne_eqb count 4 n)

  pub date_figures : count ≡ 3 → (fault : Fault Reason) → figures_fault line 0 3 ≡ Some fault → Some fault ≡ date_fault line
  unfolding date_fault
  date_figures e fault f = rw (← is, eq-eqb count 3 e, f)

  pub window_figures : count ≡ 4 → (fault : Fault Reason) → figures_fault line 0 4 ≡ Some fault → Some fault ≡ window_fault line
  unfolding window_fault
  window_figures e fault f = rw (← is, eq-eqb count 4 e, f)

  pub date_ranged : count ≡ 3 → figures_fault line 0 3 ≡ None → {y m d : ℕ} → y ≡ number_at line 0 → m ≡ number_at line 1 → d ≡ number_at line 2
      → date_range y m d ≡ date_fault line
  unfolding date_fault
  date_ranged e f n1 n2 n3 = rw (← is, eq-eqb count 3 e, f, n1, n2, n3)

  pub window_ranged : count ≡ 4 → figures_fault line 0 4 ≡ None → {i w o c : ℕ} → i ≡ number_at line 0 → w ≡ number_at line 1 → o ≡ number_at line 2
      → c ≡ number_at line 3 → window_range i w o c ≡ window_fault line
  unfolding window_fault
  window_ranged e f n1 n2 n3 n4 = rw (← is, eq-eqb count 4 e, f, n1, n2, n3, n4)

-- ── what is not closed ──────────────────────────────────────────────────────────
pub empty_text : (s : Bytes) → length s ≡ 0 → WV.NoDate ≡ unclosed_why s
unfolding unclosed_why
empty_text [] e = refl
empty_text (b ∷ s) e = absurd (let z : ⊥ = omega (arith, e) in z)

pub some_text : (s : Bytes) → (length s ≡ 0 → ⊥) → WV.NoLineFeed ≡ unclosed_why s
unfolding unclosed_why
some_text [] n = absurd (n refl)
some_text (b ∷ s) n = refl
