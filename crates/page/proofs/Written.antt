-- The page written: rows of spaces, the writes entered, the heading. Letters: ms moments, os outputs, vs values, p the page, xs the openings in order.
use mathlib.Core.Path.{◌≡◌, ap, ◌∙◌}
use mathlib.Core.Bool.{true}
use mathlib.Core.List.{List, ◌++◌}
use Prim.Native.Nat.{ℕ, ◌≤◌, ◌<◌}
use native.Mathlib.Omega.{arith}
use lib.ListN.{length, get_or, drop, replicate}
use lib.Seq.{sets}
use Rattle.listing.specs.Bytes.{Bytes}
use Rattle.openings.specs.Writes.{writes_of}
use Rattle.openings.specs.Openings.{Opening}
use Rattle.openings.specs.Order.{sort, write_precedes, sorted_openings}
use Rattle.openings.specs.Questions.{none_falls, listed_once}
use Rattle.page_rows.specs.Rows.{heading, blank_row, joined}
use Rattle.page_book.specs.Book.{book_of, all_entered}
use Rattle.page_book.proofs.Whole.{Shows, book_shows}
use Rattle.page.specs.Pages.{page_count, page_bytes}
use Rattle.page.specs.Call.{first_opening}
use Rattle.page.proofs.Paging.{blank_page, page_there, page_none, page_past}

-- the memory and the number of pages that are left
abbrev pub Left : List ℕ → List ℕ → List ℕ → ℕ → Bytes → Bytes → ℕ → Type 0
Left ms os vs p memory memory' pages =
    (memory' ≡ page_bytes p (sorted_openings (writes_of ms os vs)) ++ drop 2700 memory) × (pages ≡ page_count (length (sorted_openings (writes_of ms os vs))))

module _ (ms os vs : List ℕ) (p : ℕ) (memory : Bytes) (long : 2700 ≤ length memory) (rises : none_falls ms ≡ true)
    (once : listed_once (writes_of ms os vs) ≡ true) (small : (k : ℕ) → get_or ms k 0 < 18446744073709551616)
    {blank : Bytes} (cleared : blank ≡ sets memory 0 (joined (replicate 60 blank_row))) {first : ℕ} (begins : first ≡ first_opening p)
    (entered : Bytes) (lines opened : List ℕ) (count : ℕ)
    (enters : book_of entered lines opened count ≡
    all_entered first (book_of blank (replicate 16 0) (replicate 16 0) 0) (sort write_precedes (writes_of ms os vs)))
    (fits : count < 18446744073709551616) {pages : ℕ} (counts : pages ≡ page_count count) where
  abbrev xs : List Opening
  xs = sorted_openings (writes_of ms os vs)

  shows : Shows (first_opening p) (drop 2700 memory) xs (book_of entered lines opened count)
  shows = rw (enters, begins) (book_shows (first_opening p) (drop 2700 memory) blank ms os vs rises once small (blank_page memory long cleared))

  few : length xs ≤ 18446744073709551615
  few = omega (arith, shows.counted)

  pages_are : pages ≡ page_count (length xs)
  pages_are = counts ∙ ap page_count shows.counted

  pub left_none : p ≡ 0 → Left ms os vs p memory entered pages
  left_none e = (page_none p (drop 2700 memory) xs _ shows few e, pages_are)

  pub left_past : (p ≡ 0 → ⊥) → pages < p → Left ms os vs p memory entered pages
  left_past n h = (page_past p (drop 2700 memory) xs _ shows few n (omega (arith, pages_are)), pages_are)

  pub left_there : (p ≡ 0 → ⊥) → p ≤ pages → {headed : Bytes} → headed ≡ sets entered 0 heading → Left ms os vs p memory headed pages
  left_there n h e = (page_there p (drop 2700 memory) xs _ shows few n (omega (arith, pages_are)) e, pages_are)
