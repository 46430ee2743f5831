-- All writes entered, from a page of rows of spaces: the page of the openings in order. Letters: ms moments, os outputs, vs values, ws writes.
use mathlib.Core.Path.{◌≡◌, refl, sym, ap, ◌∙◌}
use mathlib.Core.Bool.{true}
use mathlib.Core.List.{List, [], ◌∷◌, ◌++◌, append-nil, append_assoc}
use Prim.Native.Nat.{ℕ, zero, suc, ◌<◌}
use lib.ListN.{length, get_or, replicate, get_or-replicate}
use Rattle.listing.specs.Bytes.{Bytes}
use Rattle.openings.specs.Writes.{Write, writes_of}
use Rattle.openings.specs.Openings.{closed_after, latest_of, Opening, openings_after, openings}
use Rattle.openings.specs.Order.{sort, write_precedes, sorted_openings}
use Rattle.openings.specs.Questions.{none_falls, listed_once}
use Rattle.openings.proofs.All.{All, each}
use Rattle.openings.proofs.All as all
use Rattle.openings.proofs.OneMore.{passed, passed_last, openings_last}
use Rattle.openings.proofs.Sorting.{sort_all}
use Rattle.openings.proofs.SortedOpenings.{rising_passable, sorted_by_writes}
use Rattle.page_rows.specs.Rows.{Fits, blank_row, joined}
use Rattle.page_book.specs.Book.{Book, book_of, entered, all_entered}
use Rattle.page_book.proofs.OwnLines.{Low}
use Rattle.page_book.proofs.Rest.{all_low}
use Rattle.page_book.proofs.Kept.{shut, Kept, one_more}
use Rattle.page_book.proofs.RowList.{row_number, rows_from, shown}

-- the book has taken in these writes
abbrev KeptOf : ℕ → Bytes → List Write → Book → Type 0
KeptOf first tail ws b = Kept first tail (passed [] ws) (openings ws) b

one_kept : (first : ℕ) (tail : Bytes) (ws : List Write) (b : Book) → KeptOf first tail ws b → (w : Write) → Low w →
    KeptOf first tail (ws ++ (w ∷ [])) (entered first b w)
one_kept first tail ws b k w s =
    rw (passed_last [] ws w, openings_last [] ws w) (one_more first tail (passed [] ws) (openings ws) b k w s.0 s.1)

all_kept : (first : ℕ) (tail : Bytes) (ws us : List Write) (b : Book) → KeptOf first tail ws b → All Low us →
    KeptOf first tail (ws ++ us) (all_entered first b us)
unfolding all_entered
all_kept first tail ws [] b k a = rw (append-nil ws) k
all_kept first tail ws (w ∷ us) b k (each s a) =
    rw (← append_assoc ws (w ∷ []) us) (all_kept first tail (ws ++ (w ∷ [])) us (entered first b w) (one_kept first tail ws b k w s) a)

-- ── nothing entered yet ───────────────────────────────────────────────────────────────────────────
pub rows_blank : (k j : ℕ) → rows_from k j [] ≡ replicate k blank_row
unfolding rows_from row_number
rows_blank zero j = refl
rows_blank (suc k) j = ap (λ (l : List Bytes). blank_row ∷ l) (rows_blank k (suc j))

none_kept : (first : ℕ) (tail memory : Bytes) → memory ≡ joined (replicate 60 blank_row) ++ tail →
    KeptOf first tail [] (book_of memory (replicate 16 0) (replicate 16 0) 0)
unfolding passed openings_after closed_after latest_of
none_kept first tail memory e = record {
  rows = e ∙ ap (λ (l : List Bytes). joined (blank_row ∷ l) ++ tail) (sym (rows_blank 59 first));
  counted = refl;
  lines_long = refl;
  opened_long = refl;
  fit = all.none;
  valves = λ o h. shut refl all.none (get_or-replicate 16 o 0 0 h);
}

-- ── lists that pass the questions ─────────────────────────────────────────────────────────────────
-- the memory and the count that are left; the numbers of the openings have room in their columns
pub record Shows (first : ℕ) (tail : Bytes) (xs : List Opening) (b : Book) : Type 0 where
  pub rows : b.memory ≡ joined (shown first xs) ++ tail
  pub counted : b.count ≡ length xs
  pub fit : All Fits xs

pub book_shows : (first : ℕ) (tail memory : Bytes) (ms os vs : List ℕ) → none_falls ms ≡ true → listed_once (writes_of ms os vs) ≡ true →
    ((k : ℕ) → get_or ms k 0 < 18446744073709551616) → memory ≡ joined (replicate 60 blank_row) ++ tail →
    Shows first tail (sorted_openings (writes_of ms os vs))
    (all_entered first (book_of memory (replicate 16 0) (replicate 16 0) 0) (sort write_precedes (writes_of ms os vs)))
book_shows first tail memory ms os vs rises once small e =
    let ws = writes_of ms os vs in
    let k = all_kept first tail [] (sort write_precedes ws) (book_of memory (replicate 16 0) (replicate 16 0) 0) (none_kept first tail memory e)
    (sort_all write_precedes ws (all_low [] ms os vs once small)) in
    rw (sorted_by_writes ws (rising_passable 0 ms os vs rises)) (record { rows = k.rows; counted = k.counted; fit = k.fit })
