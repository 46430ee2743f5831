-- "the pages together hold each opening exactly once, and no other row but headings and rows of spaces": the theorems. Letters: xs openings in order,
-- p a page, n a number of pages.
use mathlib.Core.Path.{◌≡◌, refl, sym, ap, ap₂, ◌∙◌}
use mathlib.Core.Bool.{Bool, true, false, ◌&&◌}
use mathlib.Core.List.{List, [], ◌∷◌, ◌++◌, map}
use Prim.Native.Nat.{ℕ, zero, suc, ◌+◌, ◌-◌, ◌*◌, ◌≤◌}
use native.Mathlib.Omega.{arith}
use lib.ListN.{length, drop, replicate}
use lib.Seq.{take_all}
use borrow.Author.Tests.{le-leb, ne_eqb}
use Rattle.listing.specs.Bytes.{Bytes, figure}
use Rattle.listing.specs.Lists.{all}
use Rattle.listing.proofs.Figures.{figure_leads, figure_zero}
use Rattle.openings.specs.Openings.{Opening}
use Rattle.page_rows.specs.Rows.{right_aligned, row_of, row, heading, blank_row}
use Rattle.page_book.proofs.RowList.{row_number, rows_from}
use Rattle.page.specs.Pages.{page_count, is_page, filled_to, page_rows}
use Rattle.page.specs.Together.{lower_rows, is_space, kept_if, without_blanks}
use Rattle.page.proofs.Paging.{Suffices, count_suffices, rows_on_page_lem, rows_filled}

-- ── rows 2 to 60 of the pages 1 to n ──────────────────────────────────────────────────────────────
pub rows_if : (p : ℕ) (xs : List Opening) → is_page p (length xs) ≡ true → page_rows p xs ≡ heading ∷ rows_from 59 (59 * (p - 1)) xs
unfolding page_rows
rows_if p xs e = rw e (ap (λ (rs : List Bytes). heading ∷ rs) (sym (rows_on_page_lem p xs)))

pub rows_else : (p : ℕ) (xs : List Opening) → is_page p (length xs) ≡ false → page_rows p xs ≡ replicate 60 blank_row
unfolding page_rows
rows_else p xs e = rw e

pub rows_of : (p : ℕ) (xs : List Opening) → 1 ≤ p → p ≤ page_count (length xs) → page_rows p xs ≡ heading ∷ rows_from 59 (59 * (p - 1)) xs
rows_of p xs l h = rows_if p xs (rw (le-leb 1 p l) (le-leb p (page_count (length xs)) h))

rows_behind : (j k i : ℕ) (xs : List Opening) → rows_from (j + k) i xs ≡ rows_from j i xs ++ rows_from k (i + j) xs
unfolding rows_from
rows_behind zero k i xs = let e : 0 + k ≡ k = omega arith in let f : i ≡ i + 0 = omega arith in rw e (ap (λ (m : ℕ). rows_from k m xs) f)
rows_behind (suc j) k i xs =
    let e : suc j + k ≡ suc (j + k) = omega arith in
    let f : suc i + j ≡ i + suc j = omega arith in
    rw e (ap (λ (rs : List Bytes). row_number xs i ∷ rs) (rows_behind j k (suc i) xs ∙ ap (λ (m : ℕ). rows_from j (suc i) xs ++ rows_from k m xs) f))

lower_rows_lem : (n : ℕ) (xs : List Opening) → n ≤ page_count (length xs) → lower_rows n xs ≡ rows_from (59 * n) 0 xs
unfolding lower_rows rows_from
lower_rows_lem zero xs h = refl
lower_rows_lem (suc n) xs h =
    let e : suc n - 1 ≡ n = omega arith in
    let f : 59 * n + 59 ≡ 59 * suc n = omega arith in
    let g : 59 * n ≡ 0 + 59 * n = omega arith in
    ap₂ (λ (l r : List Bytes). l ++ r) (lower_rows_lem n xs (omega arith))
    (ap (drop 1) (rows_of (suc n) xs (omega arith) h) ∙ ap (λ (i : ℕ). rows_from 59 (59 * i) xs) e ∙ ap (λ (i : ℕ). rows_from 59 i xs) g)
    ∙ sym (rows_behind (59 * n) 59 0 xs)
    ∙ ap (λ (i : ℕ). rows_from i 0 xs) f

-- ── rows of spaces ────────────────────────────────────────────────────────────────────────────────
-- a test over two parts
pub all_parts : (test : ℕ → Bool) (xs ys : Bytes) → all test (xs ++ ys) ≡ (all test xs && all test ys)
unfolding all
all_parts test [] ys = refl
all_parts test (x ∷ xs) ys = go (test x) (all_parts test xs ys)
  where
    go : (b : Bool) → all test (xs ++ ys) ≡ (all test xs && all test ys) → (b && all test (xs ++ ys)) ≡ ((b && all test xs) && all test ys)
    go true deep = deep
    go false deep = refl

nor_behind : (a b : Bool) → b ≡ false → (a && b) ≡ false
nor_behind true b e = e
nor_behind false b e = refl

figure_shows : (n : ℕ) → all is_space (figure n) ≡ false
unfolding all
figure_shows zero = rw figure_zero
figure_shows (suc n) =
    let l = figure_leads (suc n) (omega arith) in
    let low = l.low in
    rw (l.is, ne_eqb l.head 32 (λ e. omega arith), ne_eqb l.head 10 (λ e. omega arith))

row_shows : (x : Opening) → all is_space (row x) ≡ false
unfolding row row_of right_aligned
row_shows x =
    all_parts is_space (right_aligned 2 (figure x.output)) _
    ∙ rw (all_parts is_space (replicate (2 - length (figure x.output)) 32) (figure x.output), nor_behind (all is_space (replicate (2 - length (figure x.output)) 32)) _ (figure_shows x.output))

blank_is_blank : all is_space blank_row ≡ true
unfolding all blank_row
blank_is_blank = refl

without_blanks_lem : (xs : List Opening) (k : ℕ) → without_blanks (map row xs ++ replicate k blank_row) ≡ map row xs
unfolding without_blanks kept_if
without_blanks_lem [] zero = refl
without_blanks_lem [] (suc k) = rw blank_is_blank (without_blanks_lem [] k)
without_blanks_lem (x ∷ xs) k = rw (row_shows x) (ap (λ (rs : List Bytes). row x ∷ rs) (without_blanks_lem xs k))

-- Rows 2 to 60 of all pages, the rows of spaces taken out, are the rows of the openings in order: each once, and no other.
pub pages_hold_each : (xs : List Opening) → without_blanks (lower_rows (page_count (length xs)) xs) ≡ map row xs
unfolding filled_to
pages_hold_each xs =
    let enough = (count_suffices (length xs)).enough in
    ap without_blanks
    (lower_rows_lem (page_count (length xs)) xs (omega arith)
    ∙ rows_filled (59 * page_count (length xs)) xs
    ∙ ap (λ (l : List Opening). filled_to (59 * page_count (length xs)) (map row l)) (take_all (59 * page_count (length xs)) xs enough))
    ∙ filled_without xs (59 * page_count (length xs))
  where
    filled_without : (ys : List Opening) (k : ℕ) → without_blanks (filled_to k (map row ys)) ≡ map row ys
    filled_without ys k = without_blanks_lem ys (k - length (map row ys))

-- The number of pages is the least that is at least 1 and leaves room for all openings.
pub pages_suffice : (xs : List Opening) → Suffices (length xs)
pages_suffice xs = count_suffices (length xs)
