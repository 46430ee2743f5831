-- The heading is the first row of each page that there is, and no other row. Letters: p a page, i a row of it from 0, xs openings in order.
use mathlib.Core.Path.{◌≡◌, refl, sym, ap, ◌∙◌}
use mathlib.Core.Bool.{Bool, true, false}
use mathlib.Core.List.{List, [], ◌∷◌, ◌++◌}
use mathlib.Core.Option.{Option, none, some}
use Prim.Native.Nat.{ℕ, zero, suc, ◌+◌, ◌-◌, ◌*◌, ◌≤◌, ◌<◌}
use native.Mathlib.Omega.{arith}
use lib.Dec.{leb, ltb}
use lib.ListN.{length, get_or, replicate, get_or-replicate}
use borrow.Author.Tests.{lt-ltb, leb-true}
use Rattle.listing.specs.Bytes.{Bytes, figure, is_digit, bytes_of}
use Rattle.listing.specs.Lists.{all}
use Rattle.listing.proofs.Figures.{figure_leads, figure_zero}
use Rattle.listing.proofs.Tests.{no_test, and_right, all_head, all_tail}
use Rattle.openings.specs.Openings.{Opening}
use Rattle.page_rows.specs.Rows.{right_aligned, row_of, hyphens, open_for, row, heading, blank_row}
use Rattle.page_book.proofs.RowList.{row_number, rows_from, rows_at}
use Rattle.page.specs.Pages.{page_count, is_page, page_rows}
use Rattle.page.proofs.Demands.{rows_if, rows_else, rows_of, all_parts}

-- no letter: below the byte of `A`
abbrev is_plain : ℕ → Bool
is_plain b = ltb b 65

plain_digits : (ds : Bytes) → all is_digit ds ≡ true → all is_plain ds ≡ true
unfolding all
plain_digits [] h = refl
plain_digits (d ∷ ds) h =
    let most = leb-true d 57 (and_right (leb 48 d) (leb d 57) (all_head is_digit d ds h)) in
    rw (lt-ltb d 65 (omega arith)) (plain_digits ds (all_tail is_digit d ds h))

plain_figure : (n : ℕ) → all is_plain (figure n) ≡ true
unfolding all
plain_figure zero = rw figure_zero
plain_figure (suc n) =
    let l = figure_leads (suc n) (omega arith) in
    let high = l.high in
    rw (l.is, lt-ltb l.head 65 (omega arith)) (plain_digits l.rest l.others)

plain_spaces : (k : ℕ) → all is_plain (replicate k 32) ≡ true
unfolding all
plain_spaces zero = refl
plain_spaces (suc k) = plain_spaces k

both_plain : (l r : Bytes) → all is_plain l ≡ true → all is_plain r ≡ true → all is_plain (l ++ r) ≡ true
both_plain l r p q = all_parts is_plain l r ∙ rw (p, q)

plain_aligned : (columns : ℕ) (text : Bytes) → all is_plain text ≡ true → all is_plain (right_aligned columns text) ≡ true
unfolding right_aligned
plain_aligned columns text h = both_plain (replicate (columns - length text) 32) text (plain_spaces (columns - length text)) h

plain_last : (opened : ℕ) (closed : Option ℕ) → all is_plain (open_for opened closed) ≡ true
unfolding open_for hyphens all
plain_last opened none = refl
plain_last opened (some c) = plain_figure (c - opened)

plain_row : (x : Opening) → all is_plain (row x) ≡ true
unfolding row row_of all
plain_row x =
    both_plain (right_aligned 2 (figure x.output)) _ (plain_aligned 2 (figure x.output) (plain_figure x.output))
    (both_plain (right_aligned 20 (figure x.opened)) _ (plain_aligned 20 (figure x.opened) (plain_figure x.opened))
    (both_plain (right_aligned 20 (open_for x.opened x.closed)) (10 ∷ [])
    (plain_aligned 20 (open_for x.opened x.closed) (plain_last x.opened x.closed)) refl))

plain_blank : all is_plain blank_row ≡ true
unfolding all blank_row
plain_blank = refl

plain_number : (xs : List Opening) (n : ℕ) → all is_plain (row_number xs n) ≡ true
unfolding row_number
plain_number [] n = plain_blank
plain_number (x ∷ xs) zero = plain_row x
plain_number (x ∷ xs) (suc n) = plain_number xs n

heading_letters : all is_plain heading ≡ false
unfolding all heading row_of right_aligned bytes_of
heading_letters = refl

not_heading : (r : Bytes) → all is_plain r ≡ true → r ≡ heading → ⊥
not_heading r h e = no_test (sym heading_letters ∙ ap (all is_plain) (sym e) ∙ h)

-- ── the theorems ──────────────────────────────────────────────────────────────────────────────────
pub heading_first : (p : ℕ) (xs : List Opening) → 1 ≤ p → p ≤ page_count (length xs) → get_or (page_rows p xs) 0 [] ≡ heading
heading_first p xs l h = ap (λ (rs : List Bytes). get_or rs 0 []) (rows_of p xs l h)

pub heading_alone : (p : ℕ) (xs : List Opening) (i : ℕ) → i < 60 → get_or (page_rows p xs) i [] ≡ heading → (i ≡ 0) × (is_page p (length xs) ≡ true)
heading_alone p xs i l = go (is_page p (length xs)) refl i l
  where
    lower : (j k : ℕ) → j < 59 → get_or (rows_from 59 k xs) j [] ≡ heading → ⊥
    lower j k h e = not_heading (row_number xs (k + j)) (plain_number xs (k + j)) (sym (rows_at 59 k xs j h) ∙ e)

    go : (b : Bool) → is_page p (length xs) ≡ b → (j : ℕ) → j < 60 → get_or (page_rows p xs) j [] ≡ heading → (j ≡ 0) × (is_page p (length xs) ≡ true)
    go false e j h f = absurd (not_heading blank_row plain_blank (sym (get_or-replicate 60 j blank_row [] h) ∙ ap (λ (rs : List Bytes). get_or rs j []) (sym (rows_else p xs e)) ∙ f))
    go true e zero h f = (refl, e)
    go true e (suc j) h f = absurd (lower j (59 * (p - 1)) (omega arith) (ap (λ (rs : List Bytes). get_or rs (suc j) []) (sym (rows_if p xs e)) ∙ f))
