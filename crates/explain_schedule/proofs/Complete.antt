-- A line has a reason exactly if it does not read: as the date on line 1, as a window on the others.
use mathlib.Core.Path.{◌≡◌, refl, sym, ◌∙◌}
use mathlib.Core.Bool.{Bool, true, false, cond}
use mathlib.Core.List.{List, [], ◌∷◌, map}
use mathlib.Core.Option.{Option, none, some}
use Prim.Native.Nat.{ℕ}
use native.Mathlib.Omega.{arith}
use lib.Dec.{eqb, ltb}
use lib.ListN.{length}
use borrow.Author.Tests.{ne_eqb}
use Rattle.listing.specs.Bytes.{Bytes, split}
use Rattle.listing.specs.Lists.{is_some}
use Rattle.listing.specs.Expressions.{bind, when}
use Rattle.listing.specs.Form.{fields_of, next_field_lem, none_left_lem, read_number}
use Rattle.std.specs.Option.{is_none}
use Rattle.schedule.specs.Calendar.{is_real_date}
use Rattle.schedule.specs.Schedule.{is_window}
use Rattle.schedule.specs.Form.{date_fields, window_fields, read_date, read_window}
use Rattle.explain_schedule.specs.Lines.{figures_fault, date_fault, window_fault}
use Rattle.explain_schedule.proofs.Numbers.{Fielded, unread, read, fielded, date_numbers, window_numbers}

-- ── readings that fail ───────────────────────────────────────────────────────────
fails : {A B : Type 0} (o : Option A) (next : A → Option B) → ((a : A) → next a ≡ none) → bind o next ≡ none
fails none next bad = refl
fails (some a) next bad = bad a

tested : {A : Type 0} (t : Bool) (a : A) → is_some (when t a) ≡ t
tested true a = refl
tested false a = refl

-- ── the date's line ──────────────────────────────────────────────────────────────
module _ (line : Bytes) where
  abbrev Decided : Type 0
  Decided = is_none (date_fault line) ≡ is_some (read_date line)

  miscounted : (parts : List Bytes) → split 9 line ≡ parts → (length parts ≡ 3 → ⊥) → date_fields (map (split 32) parts) ≡ none → Decided
  unfolding date_fault read_date fields_of
  miscounted parts e n bad = rw (e, ne_eqb (length parts) 3 n, bad)

  three : (a b d : Bytes) → split 9 line ≡ a ∷ b ∷ d ∷ [] → Fielded a → Fielded b → Fielded d → Decided
  unfolding date_fault read_date fields_of figures_fault next_field_lem none_left_lem
  three a b d e (unread u p q) y z = simp (e, p, q)
  three a b d e (read y p q v) (unread u p2 q2) z = simp (e, p, q, p2, q2)
  three a b d e (read y p q v) (read m p2 q2 v2) (unread u p3 q3) = simp (e, p, q, p2, q2, p3, q3)
  three a b d e (read y p q v) (read m p2 q2 v2) (read n p3 q3 v3) =
      simp (e, p, q, p2, q2, p3, q3, v, v2, v3) (date_numbers y m n ∙ sym (tested (is_real_date (record { year = y; month = m; day = n })) _))

  pub date_complete : Decided
  unfolding next_field_lem none_left_lem
  date_complete = go (split 9 line) refl
    where
      go : (parts : List Bytes) → split 9 line ≡ parts → Decided
      go [] e = miscounted [] e (λ h. omega (arith, h)) refl
      go (a ∷ []) e = miscounted (a ∷ []) e (λ h. omega (arith, h)) (fails (read_number (split 32 a)) _ (λ y. refl))
      go (a ∷ b ∷ []) e =
          miscounted (a ∷ b ∷ []) e (λ h. omega (arith, h)) (fails (read_number (split 32 a)) _ (λ y. fails (read_number (split 32 b)) _ (λ m. refl)))
      go (a ∷ b ∷ d ∷ []) e = three a b d e (fielded a) (fielded b) (fielded d)
      go (a ∷ b ∷ d ∷ f ∷ parts) e =
          miscounted (a ∷ b ∷ d ∷ f ∷ parts) e (λ h. omega (arith, h))
          (fails (read_number (split 32 a)) _ (λ y. fails (read_number (split 32 b)) _ (λ m. fails (read_number (split 32 d)) _ (λ n. refl))))

-- ── a window's line ──────────────────────────────────────────────────────────────
module _ (line : Bytes) where
  abbrev Settled : Type 0
  Settled = is_none (window_fault line) ≡ is_some (read_window line)

  misnumbered : (parts : List Bytes) → split 9 line ≡ parts → (length parts ≡ 4 → ⊥) → window_fields (map (split 32) parts) ≡ none → Settled
  unfolding window_fault read_window fields_of
  misnumbered parts e n bad = rw (e, ne_eqb (length parts) 4 n, bad)

  four : (a b d f : Bytes) → split 9 line ≡ a ∷ b ∷ d ∷ f ∷ [] → Fielded a → Fielded b → Fielded d → Fielded f → Settled
  unfolding window_fault read_window fields_of figures_fault next_field_lem none_left_lem
  four a b d f e (unread u p q) x y z = simp (e, p, q)
  four a b d f e (read i p q v) (unread u p2 q2) y z = simp (e, p, q, p2, q2)
  four a b d f e (read i p q v) (read w p2 q2 v2) (unread u p3 q3) z = simp (e, p, q, p2, q2, p3, q3)
  four a b d f e (read i p q v) (read w p2 q2 v2) (read o p3 q3 v3) (unread u p4 q4) = simp (e, p, q, p2, q2, p3, q3, p4, q4)
  four a b d f e (read i p q v) (read w p2 q2 v2) (read o p3 q3 v3) (read c p4 q4 v4) =
      simp (e, p, q, p2, q2, p3, q3, p4, q4, v, v2, v3, v4)
      (window_numbers i w o c ∙ sym (tested (is_window (record { input = i; weekday = w; opening = o; closing = c })) _))

  pub window_complete : Settled
  unfolding next_field_lem none_left_lem
  window_complete = go (split 9 line) refl
    where
      go : (parts : List Bytes) → split 9 line ≡ parts → Settled
      go [] e = misnumbered [] e (λ h. omega (arith, h)) refl
      go (a ∷ []) e = misnumbered (a ∷ []) e (λ h. omega (arith, h)) (fails (read_number (split 32 a)) _ (λ i. refl))
      go (a ∷ b ∷ []) e =
          misnumbered (a ∷ b ∷ []) e (λ h. omega (arith, h)) (fails (read_number (split 32 a)) _ (λ i. fails (read_number (split 32 b)) _ (λ w. refl)))
      go (a ∷ b ∷ d ∷ []) e =
          misnumbered (a ∷ b ∷ d ∷ []) e (λ h. omega (arith, h))
          (fails (read_number (split 32 a)) _ (λ i. fails (read_number (split 32 b)) _ (λ w. fails (read_number (split 32 d)) _ (λ o. refl))))
      go (a ∷ b ∷ d ∷ f ∷ []) e = four a b d f e (fielded a) (fielded b) (fielded d) (fielded f)
      go (a ∷ b ∷ d ∷ f ∷ g ∷ parts) e =
          misnumbered (a ∷ b ∷ d ∷ f ∷ g ∷ parts) e (λ h. omega (arith, h))
          (fails (read_number (split 32 a)) _ (λ i. fails (read_number (split 32 b)) _ (λ w.
          fails (read_number (split 32 d)) _ (λ o. fails (read_number (split 32 f)) _ (λ c. refl)))))
