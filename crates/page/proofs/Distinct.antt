-- Of lists that pass the questions, no two openings have the same row: with Demands, the pages hold each opening exactly once. Letters: ms moments, os
-- outputs, vs values, ws writes in order, e the writes before them, x, y openings, xs openings in order.
use mathlib.Core.Path.{◌≡◌, refl, sym, ◌∙◌}
use mathlib.Core.Bool.{Bool, true, false}
use mathlib.Core.List.{List, [], ◌∷◌, map, append-nil}
use Prim.Native.Nat.{ℕ, zero, suc, ◌<◌}
use native.Mathlib.Omega.{arith}
use lib.ListN.{length, get_or, replicate}
use Rattle.openings.specs.Writes.{Write, writes_of}
use Rattle.openings.specs.Openings.{opens, Opening, opening_of, with_opening, openings_after, EndsLater}
use Rattle.openings.specs.Order.{sort, write_precedes, sorted_openings}
use Rattle.openings.specs.Questions.{none_falls, listed_once}
use Rattle.openings.proofs.All.{All, none, each}
use Rattle.openings.proofs.Listed.{Differ, AllDiffer, end, then, once_differ, sort_differs}
use Rattle.openings.proofs.SortedOpenings.{rising_passable, sorted_by_writes, sorted_end_later}
use Rattle.page_rows.specs.Rows.{row, Fits, blank_row, joined}
use Rattle.page_book.proofs.Whole.{book_shows}
use Rattle.page.proofs.ReadRows.{start_told}

-- not of one moment and one output
abbrev Apart : Opening → Opening → Type 0
Apart x y = x.opened ≡ y.opened → x.output ≡ y.output → ⊥

data AllApart : List Opening → Type 0 where
  none_left : AllApart []
  one_of : {x : Opening} {xs : List Opening} → All (Apart x) xs → AllApart xs → AllApart (x ∷ xs)

-- the openings of different writes
apart_from : (e : List Write) (w : Write) (x : Opening) → x.opened ≡ w.moment → x.output ≡ w.output → (ws : List Write) → All (Differ w) ws →
    All (Apart x) (openings_after e ws)
unfolding openings_after with_opening
apart_from e w x m o [] none = none
apart_from e w x m o (y ∷ ws) (each d a) = go (opens e y) (apart_from (y ∷ e) w x m o ws a)
  where
    go : (b : Bool) → All (Apart x) (openings_after (y ∷ e) ws) → All (Apart x) (with_opening b (opening_of y ws) (openings_after (y ∷ e) ws))
    go true deep = let p : Apart x (opening_of y ws) = λ f g. d (sym m ∙ f) (sym o ∙ g) in each p deep
    go false deep = deep

all_apart : (e ws : List Write) → AllDiffer ws → AllApart (openings_after e ws)
unfolding openings_after with_opening
all_apart e [] end = none_left
all_apart e (w ∷ ws) (then a s) = go (opens e w) (all_apart (w ∷ e) ws s)
  where
    go : (b : Bool) → AllApart (openings_after (w ∷ e) ws) → AllApart (with_opening b (opening_of w ws) (openings_after (w ∷ e) ws))
    go true deep = one_of (apart_from (w ∷ e) w (opening_of w ws) refl refl ws a) deep
    go false deep = deep

-- ── their rows ────────────────────────────────────────────────────────────────────────────────────
other_row : (x : Opening) → Fits x → (xs : List Opening) → All Fits xs → All (Apart x) xs → (j : ℕ) → j < length xs → row x ≡ get_or (map row xs) j [] → ⊥
other_row x f [] a d j h e = omega arith
other_row x f (y ∷ xs) (each g a) (each d b) zero h e = let t = start_told x y f g e in d t.1 t.0
other_row x f (y ∷ xs) (each g a) (each d b) (suc j) h e = other_row x f xs a b j (omega arith) e

rows_differ : (xs : List Opening) → All Fits xs → AllApart xs → (i j : ℕ) → i < j → j < length xs → get_or (map row xs) i [] ≡ get_or (map row xs) j [] → ⊥
rows_differ [] a p i j l h e = omega arith
rows_differ (x ∷ xs) (each f a) (one_of d p) zero zero l h e = omega arith
rows_differ (x ∷ xs) (each f a) (one_of d p) zero (suc j) l h e = other_row x f xs a d j (omega arith) e
rows_differ (x ∷ xs) (each f a) (one_of d p) (suc i) zero l h e = omega arith
rows_differ (x ∷ xs) (each f a) (one_of d p) (suc i) (suc j) l h e = rows_differ xs a p i j (omega arith) (omega arith) e

module _ (ms os vs : List ℕ) (rises : none_falls ms ≡ true) (once : listed_once (writes_of ms os vs) ≡ true)
    (small : (k : ℕ) → get_or ms k 0 < 18446744073709551616) where
  abbrev xs : List Opening
  xs = sorted_openings (writes_of ms os vs)

  -- the numbers of every opening have room in their columns, so that ReadRows speaks of each row
  pub openings_fit : All Fits xs
  openings_fit = (book_shows 0 [] (joined (replicate 60 blank_row)) ms os vs rises once small (sym (append-nil (joined (replicate 60 blank_row))))).fit

  -- and none ends before it began: with both, `row_tells` says that a row has all of its opening, the closing moment too
  pub openings_end_later : All EndsLater xs
  openings_end_later = sorted_end_later ms os vs rises

  openings_apart : AllApart xs
  openings_apart =
      rw (sorted_by_writes (writes_of ms os vs) (rising_passable 0 ms os vs rises))
      (all_apart [] (sort write_precedes (writes_of ms os vs)) (sort_differs (writes_of ms os vs) (once_differ [] (writes_of ms os vs) once)))

  -- Rows of different openings are different.
  pub no_row_twice : (i j : ℕ) → i < j → j < length xs → get_or (map row xs) i [] ≡ get_or (map row xs) j [] → ⊥
  no_row_twice = rows_differ xs openings_fit openings_apart
