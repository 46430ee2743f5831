-- A text has a reason exactly if question 19 says no.
use mathlib.Core.Path.{◌≡◌, refl, sym, ap, ◌∙◌}
use mathlib.Core.Bool.{Bool, true, false}
use mathlib.Core.List.{List, [], ◌∷◌, ◌++◌, map}
use Prim.Native.Nat.{ℕ, zero, suc, ◌+◌, ◌-◌, ◌≤◌, ◌<◌}
use native.Mathlib.Omega.{arith}
use lib.Dec.{eqb}
use lib.ListN.{length, get_or, length-append, get_or-append}
use borrow.Author.Tests.{ne_eqb, le-leb, lt-leb, eqb-false}
use Rattle.listing.specs.Bytes.{Bytes, split}
use Rattle.listing.specs.Lists.{is_some, all_but_last, last_or, first_no_from}
use Rattle.listing.specs.Questions.{closed_lines, unclosed, is_closed}
use Rattle.listing.proofs.Splits.{split_has_part}
use Rattle.explain_parts.specs.Parts.{part_of}
use Rattle.schedule.specs.Form.{read_window, line_answers, place19}
use Rattle.explain_schedule.specs.Faults.{line_fault, fault_at, schedule_fault}
use Rattle.std.specs.Option.{is_none}
use Rattle.explain_schedule.proofs.Complete.{date_complete, window_complete}

-- ── the first answer that is no: one of these, or the one behind them ────────────
data FirstNo (line : ℕ) (answers : List Bool) (r : ℕ) : Type 0 where
  at_line : (i : ℕ) → r ≡ line + i → i < length answers → get_or answers i true ≡ false → FirstNo line answers r
  behind : r ≡ line + length answers → FirstNo line answers r

first_no_lem : (line : ℕ) (answers : List Bool) (last : Bool) (r : ℕ) → r ≡ first_no_from line (answers ++ (last ∷ [])) → (r ≡ 0 → ⊥) → FirstNo line answers r
unfolding first_no_from
first_no_lem line [] true r e n = absurd (n e)
first_no_lem line [] false r e n = behind (omega (arith, e))
first_no_lem line (false ∷ answers) last r e n = at_line 0 (omega (arith, e)) (omega arith) refl
first_no_lem line (true ∷ answers) last r e n = go (first_no_lem (suc line) answers last r e n)
  where
    go : FirstNo (suc line) answers r → FirstNo line (true ∷ answers) r
    go (at_line i is h no-there) = at_line (suc i) (omega (arith, is)) (omega (arith, h)) no-there
    go (behind is) = behind (omega (arith, is))

-- ── the closed lines are the parts before the last ───────────────────────────────
parts_snoc : (part : Bytes) (parts : List Bytes) → part ∷ parts ≡ all_but_last (part ∷ parts) ++ (last_or [] (part ∷ parts) ∷ [])
unfolding all_but_last last_or
parts_snoc part [] = refl
parts_snoc part (next ∷ parts) = ap (λ (l : List Bytes). part ∷ l) (parts_snoc next parts)

split_closed : (text : Bytes) → split 10 text ≡ closed_lines text ++ (unclosed text ∷ [])
unfolding closed_lines unclosed
split_closed text = let p = split_has_part 10 text in rw p.is (parts_snoc p.head p.rest)

-- an answer for each
mapped_length : (lines : List Bytes) → length (map (λ l. is_some (read_window l)) lines) ≡ length lines
mapped_length [] = refl
mapped_length (line ∷ lines) = ap suc (mapped_length lines)

answers_length : (lines : List Bytes) → length (line_answers lines) ≡ length lines
unfolding line_answers
answers_length [] = refl
answers_length (line ∷ lines) = ap suc (mapped_length lines)

mapped_at : (lines : List Bytes) (i : ℕ) → i < length lines → get_or (map (λ l. is_some (read_window l)) lines) i true ≡ is_some (read_window (get_or lines i []))
mapped_at [] i h = absurd (let z : ⊥ = omega (arith, h) in z)
mapped_at (line ∷ lines) zero h = refl
mapped_at (line ∷ lines) (suc i) h = mapped_at lines i (omega (arith, h))

-- a line where the answer is no has a reason
line_reason_lem : (lines : List Bytes) (i : ℕ) → i < length lines → get_or (line_answers lines) i true ≡ false → is_none (line_fault (1 + i) (get_or lines i [])) ≡ false
unfolding line_answers line_fault
line_reason_lem [] i h e = absurd (let z : ⊥ = omega (arith, h) in z)
line_reason_lem (line ∷ lines) zero h e = date_complete line ∙ e
line_reason_lem (line ∷ lines) (suc i) h e =
    rw (ne_eqb (1 + suc i) 1 (λ z. omega (arith, z))) (window_complete (get_or lines i []) ∙ sym (mapped_at lines i (omega (arith, h))) ∙ e)

-- ── a text ───────────────────────────────────────────────────────────────────────
module _ (text : Bytes) where
  abbrev lines : List Bytes
  lines = closed_lines text

  parts_count : length (split 10 text) ≡ length lines + 1
  parts_count = ap length (split_closed text) ∙ length-append lines (unclosed text ∷ [])

  module _ (place : ℕ) where
    abbrev here : Bytes
    here = part_of 10 text (place - 1)

    has_reason : FirstNo 1 (line_answers lines) place → is_none (fault_at text place here) ≡ false
    unfolding fault_at
    has_reason (behind is) =
        let past : length (split 10 text) ≤ place = omega (arith, is, parts_count, answers_length lines) in
        rw (le-leb _ _ past)
    has_reason (at_line i is h no-there) =
        let inside : i < length lines = omega (arith, h, answers_length lines) in
        let before_end : place < length (split 10 text) = omega (arith, is, parts_count, inside) in
        let number : place - 1 ≡ i = omega (arith, is) in
        let line : part_of 10 text (place - 1) ≡ get_or lines i [] = rw (number, split_closed text) (get_or-append lines (unclosed text ∷ []) [] i inside) in
        rw (lt-leb _ _ before_end, line, is) (line_reason_lem lines i inside no-there)

  asked : place19 text ≡ first_no_from 1 (line_answers lines ++ (is_closed text ∷ []))
  unfolding place19
  asked = refl

  pub schedule_complete : is_none (schedule_fault text) ≡ eqb (place19 text) 0
  unfolding schedule_fault
  schedule_complete = go (eqb (place19 text) 0) refl
    where
      go : (t : Bool) → eqb (place19 text) 0 ≡ t → is_none (schedule_fault text) ≡ eqb (place19 text) 0
      go true e = rw e
      go false e =
          let n : place19 text ≡ 0 → ⊥ = eqb-false (place19 text) 0 e in
          rw e (has_reason (place19 text) (first_no_lem 1 (line_answers lines) (is_closed text) (place19 text) asked n))
