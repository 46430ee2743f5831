-- Pages by their numbers: the first opening, the number of pages, and what stands on a page. Letters: p the page, n how many openings, xs openings in order.
use mathlib.Core.Path.{◌≡◌, refl, sym, ap, ◌∙◌}
use mathlib.Core.Bool.{true, false}
use mathlib.Core.List.{List, [], ◌∷◌, ◌++◌, map}
use Prim.Native.Nat.{ℕ, zero, suc, ◌+◌, ◌-◌, ◌*◌, ◌/◌, ◌≤◌, ◌<◌}
use native.Mathlib.Decide.{dec_le, dec_lt}
use native.Mathlib.Omega.{arith}
use lib.ListN.{length, take, drop, replicate, drop_of_length-le}
use lib.Seq.{sets, sets-eq}
use borrow.Author.Tests.{le-leb, lt-leb, ne_eqb}
use Rattle.listing.specs.Bytes.{Bytes, bytes_of}
use Rattle.openings.specs.Openings.{Opening}
use Rattle.page_rows.specs.Rows.{right_aligned, row_of, row, heading, blank_row, joined}
use Rattle.page_rows.proofs.RowBytes.{blank_length}
use Rattle.page_rows.proofs.Stores.{joined_length}
use Rattle.page_book.specs.Book.{Book}
use Rattle.page_book.proofs.RowList.{sets_left, sets_whole, row_number, rows_from}
use Rattle.page_book.proofs.Whole.{rows_blank, Shows}
use Rattle.page.specs.Pages.{openings_on_page, page_count, is_page, openings_on, filled_to, page_rows, page_bytes}
use Rattle.page.specs.Call.{first_opening}

-- ── a page's first opening ────────────────────────────────────────────────────────────────────────
pub first_none : (p : ℕ) → p ≡ 0 → 18446744073709551615 ≡ first_opening p
unfolding first_opening
first_none p e = rw e

pub first_far : (p : ℕ) → (p ≡ 0 → ⊥) → 312656679215416129 < p - 1 → 18446744073709551615 ≡ first_opening p
unfolding first_opening
first_far p n h = rw (le-leb 1 p (omega arith), lt-leb (openings_on_page * (p - 1)) 18446744073709551615 (omega arith))

first_is_lem : (p : ℕ) → 1 ≤ p → p - 1 ≤ 312656679215416129 → first_opening p ≡ 59 * (p - 1)
unfolding first_opening
first_is_lem p l h = rw (le-leb 1 p l, le-leb (openings_on_page * (p - 1)) 18446744073709551615 (omega arith))

pub first_here : (p : ℕ) → (p ≡ 0 → ⊥) → p - 1 ≤ 312656679215416129 → (p - 1) * 59 ≡ first_opening p
first_here p n h = let e : (p - 1) * 59 ≡ 59 * (p - 1) = omega arith in e ∙ sym (first_is_lem p (some n) h)
  where
    some : (p ≡ 0 → ⊥) → 1 ≤ p
    some d = omega arith

-- ── the number of pages ───────────────────────────────────────────────────────────────────────────
pub count_none : (n : ℕ) → n ≡ 0 → 1 ≡ page_count n
unfolding page_count
count_none n e = rw e

count_is : (n : ℕ) → 1 ≤ n → page_count n ≡ (n + 58) / 59
unfolding page_count
count_is n h = rw (ne_eqb n 0 (λ e. omega arith))

pub count_some : (n : ℕ) → (n ≡ 0 → ⊥) → (n - 1) / 59 + 1 ≡ page_count n
count_some n z = let p : 1 ≤ n = some z in let e : (n - 1) / 59 + 1 ≡ (n + 58) / 59 = omega arith in e ∙ sym (count_is n p)
  where
    some : (n ≡ 0 → ⊥) → 1 ≤ n
    some d = omega arith

-- so many pages hold all openings, and one fewer does not
pub record Suffices (n : ℕ) : Type 0 where
  pub enough : n ≤ 59 * page_count n
  pub some : 1 ≤ page_count n
  pub fewest : 2 ≤ page_count n → 59 * (page_count n - 1) < n

pub count_suffices : (n : ℕ) → Suffices n
count_suffices zero = let e : page_count 0 ≡ 1 = sym (count_none 0 refl) in record { enough = omega arith; some = omega arith; fewest = λ h. omega arith }
count_suffices (suc n) = let e = count_is (suc n) (omega arith) in record { enough = omega arith; some = omega arith; fewest = λ h. omega arith }

-- ── the rows of a page ────────────────────────────────────────────────────────────────────────────
rows_shift : (k j : ℕ) (x : Opening) (xs : List Opening) → rows_from k (suc j) (x ∷ xs) ≡ rows_from k j xs
unfolding rows_from row_number
rows_shift zero j x xs = refl
rows_shift (suc k) j x xs = ap (λ (l : List Bytes). row_number xs j ∷ l) (rows_shift k (suc j) x xs)

rows_drop : (k j : ℕ) (xs : List Opening) → rows_from k j xs ≡ rows_from k 0 (drop j xs)
rows_drop k zero xs = refl
rows_drop k (suc j) [] = rows_blank k (suc j) ∙ sym (rows_blank k 0)
rows_drop k (suc j) (x ∷ xs) = rows_shift k j x xs ∙ rows_drop k j xs

fill_one : (k : ℕ) (r : Bytes) (rs : List Bytes) → filled_to (suc k) (r ∷ rs) ≡ r ∷ filled_to k rs
unfolding filled_to
fill_one k r rs = let e : suc k - suc (length rs) ≡ k - length rs = omega arith in ap (λ (i : ℕ). r ∷ (rs ++ replicate i blank_row)) e

pub rows_filled : (k : ℕ) (xs : List Opening) → rows_from k 0 xs ≡ filled_to k (map row (take k xs))
unfolding rows_from row_number filled_to
rows_filled zero xs = refl
rows_filled (suc k) [] =
    let e : suc k ≡ suc k - 0 = omega arith in
    ap (λ (l : List Bytes). blank_row ∷ l) (rows_blank k 1) ∙ ap (λ (i : ℕ). replicate i blank_row) e
rows_filled (suc k) (x ∷ xs) =
    ap (λ (l : List Bytes). row x ∷ l) (rows_shift k 0 x xs ∙ rows_filled k xs) ∙ sym (fill_one k (row x) (map row (take k xs)))

pub rows_on_page_lem : (p : ℕ) (xs : List Opening) → rows_from 59 (59 * (p - 1)) xs ≡ filled_to 59 (map row (openings_on p xs))
rows_on_page_lem p xs = rows_drop 59 (59 * (p - 1)) xs ∙ rows_filled 59 (drop (59 * (p - 1)) xs)

rows_past : (k j : ℕ) (xs : List Opening) → length xs ≤ j → rows_from k j xs ≡ replicate k blank_row
rows_past k j xs h = rows_drop k j xs ∙ ap (rows_from k 0) (drop_of_length-le xs {i = j} h) ∙ rows_blank k 0

-- ── what is stored ────────────────────────────────────────────────────────────────────────────────
pub blank_page : (memory : Bytes) → 2700 ≤ length memory → {m : Bytes} → m ≡ sets memory 0 (joined (replicate 60 blank_row)) →
    m ≡ joined (replicate 60 blank_row) ++ drop 2700 memory
blank_page memory h e =
    let long : length (joined (replicate 60 blank_row)) ≡ 2700 = joined_length 60 45 blank_row blank_length in
    e ∙ sets-eq (joined (replicate 60 blank_row)) memory 0 (omega arith)
    ∙ ap (λ (i : ℕ). joined (replicate 60 blank_row) ++ drop i memory) (ap (λ (i : ℕ). 0 + i) long)

pub heading_length : length heading ≡ 45
unfolding heading row_of right_aligned bytes_of
heading_length = refl

headed : (rs : List Bytes) (tail : Bytes) → sets (joined (blank_row ∷ rs) ++ tail) 0 heading ≡ joined (heading ∷ rs) ++ tail
unfolding joined
headed rs tail =
    ap (λ (m : Bytes). sets m 0 heading) (mathlib.Core.List.append_assoc blank_row (joined rs) tail)
    ∙ sets_left blank_row (joined rs ++ tail) 0 heading (omega (arith, heading_length, blank_length))
    ∙ ap (λ (r : Bytes). r ++ (joined rs ++ tail)) (sets_whole blank_row heading (heading_length ∙ sym blank_length))
    ∙ sym (mathlib.Core.List.append_assoc heading (joined rs) tail)

module _ (p : ℕ) (tail : Bytes) (xs : List Opening) (b : Book) (v : Shows (first_opening p) tail xs b) (few : length xs ≤ 18446744073709551615) where
  rows_there : is_page p (length xs) ≡ true → page_rows p xs ≡ heading ∷ filled_to 59 (map row (openings_on p xs))
  unfolding page_rows
  rows_there e = rw e

  rows_not_there : is_page p (length xs) ≡ false → page_rows p xs ≡ replicate 60 blank_row
  unfolding page_rows
  rows_not_there e = rw e

  pub page_there : (p ≡ 0 → ⊥) → p ≤ page_count (length xs) → {m : Bytes} → m ≡ sets b.memory 0 heading → m ≡ page_bytes p xs ++ tail
  page_there z h e =
      let s = count_suffices (length xs) in
      let one : 1 ≤ p = some z in
      let far : p - 1 ≤ 312656679215416129 = low one s in
      let there : is_page p (length xs) ≡ true = rw (le-leb 1 p one) (le-leb p (page_count (length xs)) h) in
      e ∙ ap (λ (m : Bytes). sets m 0 heading) v.rows
      ∙ headed (rows_from 59 (first_opening p) xs) tail
      ∙ ap (λ (l : List Bytes). joined (heading ∷ l) ++ tail) (ap (λ (j : ℕ). rows_from 59 j xs) (first_is_lem p one far) ∙ rows_on_page_lem p xs)
      ∙ ap (λ (l : List Bytes). joined l ++ tail) (sym (rows_there there))
    where
      some : (p ≡ 0 → ⊥) → 1 ≤ p
      some d = omega arith

      low : 1 ≤ p → Suffices (length xs) → p - 1 ≤ 312656679215416129
      low one s = go (dec_lt 1 p)
        where
          go : Dec (1 < p) → p - 1 ≤ 312656679215416129
          go (yes more) = let f = s.fewest (omega arith) in omega arith
          go (no more) = omega arith

  blank_there : length xs ≤ first_opening p → is_page p (length xs) ≡ false → b.memory ≡ page_bytes p xs ++ tail
  blank_there h e =
      v.rows
      ∙ ap (λ (l : List Bytes). joined (blank_row ∷ l) ++ tail) (rows_past 59 (first_opening p) xs h)
      ∙ ap (λ (l : List Bytes). joined l ++ tail) (sym (rows_not_there e))

  pub page_none : p ≡ 0 → b.memory ≡ page_bytes p xs ++ tail
  page_none e = blank_there (let f = first_none p e in omega arith) (rw e)

  pub page_past : (p ≡ 0 → ⊥) → page_count (length xs) < p → b.memory ≡ page_bytes p xs ++ tail
  page_past z h =
      blank_there (enough (dec_le (p - 1) 312656679215416129)) (rw (le-leb 1 p (some z)) (lt-leb p (page_count (length xs)) h))
    where
      some : (p ≡ 0 → ⊥) → 1 ≤ p
      some d = omega arith

      enough : Dec (p - 1 ≤ 312656679215416129) → length xs ≤ first_opening p
      enough (yes l) = let s = (count_suffices (length xs)).enough in let f = first_is_lem p (some z) l in omega arith
      enough (no l) = let f = first_far p z (omega arith) in omega arith
