-- "the pages together hold each opening exactly once, and no other row but headings and rows of spaces", said of what the calls leave: a call for every
-- page of the same lists. Letters: ms moments, os outputs, vs values, p a page, n a number of pages, rs rows, xs the openings in order.
use mathlib.Core.Path.{◌≡◌, refl, sym, ap, ap₂, ◌∙◌}
use mathlib.Core.Bool.{Bool, true, false}
use mathlib.Core.List.{List, [], ◌∷◌, ◌++◌, map}
use Prim.Native.Nat.{ℕ, zero, suc, ◌+◌, ◌-◌, ◌*◌, ◌≤◌, ◌<◌}
use native.Mathlib.Omega.{arith}
use lib.Dec.{leb}
use lib.ListN.{length, get_or, take, drop, replicate, length-drop}
use lib.Seq.{drop-cons, take_all}
use borrow.Author.Tests.{leb-true}
use Rattle.listing.specs.Bytes.{Bytes}
use Rattle.listing.proofs.Tests.{and_left, and_right}
use Rattle.openings.specs.Writes.{writes_of}
use Rattle.openings.specs.Openings.{Opening}
use Rattle.openings.specs.Order.{sorted_openings}
use Rattle.openings.proofs.All.{All, each}
use Rattle.openings.proofs.All as all
use Rattle.page_rows.specs.Rows.{row, Fits, heading, blank_row, joined}
use Rattle.page_rows.proofs.RowBytes.{blank_length}
use Rattle.page_book.proofs.RowList.{Long, rows_length, rows_long}
use Rattle.page.specs.Pages.{page_count, is_page, page_rows, page_bytes}
use Rattle.page.specs.Call.{Outcome, printed_page, outcome_pages, memory_after}
use Rattle.page.specs.Together.{row_of_bytes, rows_of_bytes, rows_left, lower_rows, without_blanks, AllPrinted}
use Rattle.page.specs.declared.Printed.{Printed}
use Rattle.page.proofs.Answers.{Through, gone_through_lem}
use Rattle.page.proofs.Paging.{heading_length}
use Rattle.page.proofs.Demands.{rows_if, rows_else, pages_hold_each}
use Rattle.page.proofs.Headings.{heading_first, heading_alone}
use Rattle.page.proofs.ReadRows.{row_in_bytes}
use Rattle.page.proofs.Distinct.{openings_fit, no_row_twice}

-- ── rows read back from bytes ─────────────────────────────────────────────────────────────────────
rows_read : (k i : ℕ) (rs : List Bytes) (tail : Bytes) → All Long rs → i + k ≤ length rs → rows_of_bytes k i (joined rs ++ tail) ≡ take k (drop i rs)
unfolding rows_of_bytes
rows_read zero i rs tail a h = refl
rows_read (suc k) i rs tail a h =
    let l : i < length rs = omega arith in
    ap₂ (λ (r : Bytes) (more : List Bytes). r ∷ more) (row_in_bytes rs tail i a l) (rows_read k (suc i) rs tail a (omega arith))
    ∙ ap (take (suc k)) (sym (drop-cons rs i [] l))

all_blank : (k : ℕ) → All Long (replicate k blank_row)
all_blank zero = all.none
all_blank (suc k) = each blank_length (all_blank k)

blank_count : (k : ℕ) → length (replicate k blank_row) ≡ k
blank_count zero = refl
blank_count (suc k) = ap suc (blank_count k)

module _ (p : ℕ) (xs : List Opening) (fit : All Fits xs) where
  page_long : All Long (page_rows p xs)
  page_long = go (is_page p (length xs)) refl
    where
      go : (b : Bool) → is_page p (length xs) ≡ b → All Long (page_rows p xs)
      go true e = rw (rows_if p xs e) (each heading_length (rows_long 59 (59 * (p - 1)) xs fit))
      go false e = rw (rows_else p xs e) (all_blank 60)

  page_count_lem : length (page_rows p xs) ≡ 60
  page_count_lem = go (is_page p (length xs)) refl
    where
      go : (b : Bool) → is_page p (length xs) ≡ b → length (page_rows p xs) ≡ 60
      go true e = ap length (rows_if p xs e) ∙ ap suc (rows_length 59 (59 * (p - 1)) xs)
      go false e = ap length (rows_else p xs e) ∙ blank_count 60

  lower_read : (tail : Bytes) → rows_of_bytes 59 1 (page_bytes p xs ++ tail) ≡ drop 1 (page_rows p xs)
  lower_read tail =
      let c = page_count_lem in
      rows_read 59 1 (page_rows p xs) tail page_long (omega arith) ∙ take_all 59 (drop 1 (page_rows p xs)) (simp length-drop (omega arith))

-- ── the calls ─────────────────────────────────────────────────────────────────────────────────────
module _ (ms os vs : List ℕ) (small : (k : ℕ) → get_or ms k 0 < 18446744073709551616) (before after : ℕ → Bytes) (r : ℕ → Printed)
    (calls : AllPrinted ms os vs before after r) where
  abbrev xs : List Opening
  xs = sorted_openings (writes_of ms os vs)

  passed : (p : ℕ) → Through ms os vs p (before p)
  passed p = gone_through_lem ms os vs p (before p) (sym (calls.promised p).number_is_lem ∙ calls.through p)

  fit : All Fits xs
  fit = openings_fit ms os vs (passed 1).rises (passed 1).once small

  pages_are : (p : ℕ) → (r p).pages ≡ page_count (length xs)
  unfolding outcome_pages printed_page
  pages_are p = (calls.promised p).pages_is ∙ ap outcome_pages (passed p).is

  bytes_are : (p : ℕ) → after p ≡ page_bytes p xs ++ drop 2700 (before p)
  unfolding memory_after printed_page
  bytes_are p = (calls.promised p).memory_is ∙ ap (λ (o : Outcome). memory_after o (before p)) (passed p).is

  left_rows : (n : ℕ) → rows_left n after ≡ lower_rows n xs
  unfolding rows_left lower_rows
  left_rows zero = refl
  left_rows (suc n) =
      ap₂ (λ (l m : List Bytes). l ++ m) (left_rows n)
      (ap (rows_of_bytes 59 1) (bytes_are (suc n)) ∙ lower_read (suc n) xs fit (drop 2700 (before (suc n))))

  -- Rows 2 to 60 of all pages that there are, the rows of spaces taken out, are the rows of the openings in order: each once, and no other.
  pub left_hold_each : without_blanks (rows_left (r 1).pages after) ≡ map row xs
  left_hold_each = ap (λ (n : ℕ). without_blanks (rows_left n after)) (pages_are 1) ∙ ap without_blanks (left_rows (page_count (length xs))) ∙ pages_hold_each xs

  row_left : (p i : ℕ) → i < 60 → row_of_bytes (after p) i ≡ get_or (page_rows p xs) i []
  row_left p i l =
      let c = page_count_lem p xs fit in
      ap (λ (bytes : Bytes). row_of_bytes bytes i) (bytes_are p) ∙ row_in_bytes (page_rows p xs) (drop 2700 (before p)) i (page_long p xs fit) (omega arith)

  -- The heading is the first row of each page that there is, and no other row of any page.
  pub heading_left : (p : ℕ) → 1 ≤ p → p ≤ (r 1).pages → row_of_bytes (after p) 0 ≡ heading
  heading_left p l h = row_left p 0 (omega arith) ∙ heading_first p xs l (let e = pages_are 1 in omega arith)

  pub heading_left_alone : (p i : ℕ) → i < 60 → row_of_bytes (after p) i ≡ heading → (i ≡ 0) × (1 ≤ p) × (p ≤ (r 1).pages)
  heading_left_alone p i l e =
      let a = heading_alone p xs i l (sym (row_left p i l) ∙ e) in
      let one = leb-true 1 p (and_left (leb 1 p) (leb p (page_count (length xs))) a.1) in
      let most = leb-true p (page_count (length xs)) (and_right (leb 1 p) (leb p (page_count (length xs))) a.1) in
      let n = pages_are 1 in
      (a.0, one, omega arith)

  -- No two of these rows are equal.
  pub left_differ : (i j : ℕ) → i < j → j < length xs → get_or (map row xs) i [] ≡ get_or (map row xs) j [] → ⊥
  left_differ = no_row_twice ms os vs (passed 1).rises (passed 1).once small
