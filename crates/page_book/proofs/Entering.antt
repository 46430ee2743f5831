-- One write entered, by the cases of the code. Letters: b the book before, k the output's place in the arrays.
use mathlib.Core.Path.{◌≡◌, refl, sym, ap, ◌∙◌}
use mathlib.Core.Bool.{Bool, true, false, cond, not}
use mathlib.Core.List.{List, [], ◌∷◌}
use mathlib.Core.Option.{none}
use Prim.Native.Nat.{ℕ, ◌+◌, ◌-◌, ◌*◌, ◌≤◌, ◌<◌}
use native.Mathlib.Omega.{arith}
use lib.Dec.{eqb}
use lib.ListN.{length, get_or, set}
use lib.Seq.{sets, length-sets, set-get_or}
use borrow.Author.Tests.{le-leb, lt-leb, lt-ltb, le-ltb, eq-eqb, ne_eqb, eqb-true, eqb-false, not-true}
use Rattle.listing.specs.Bytes.{Bytes, figure}
use Rattle.openings.specs.Writes.{Write}
use Rattle.openings.specs.Openings.{is_zero}
use Rattle.page_rows.specs.Rows.{right_aligned, row}
use Rattle.page_book.specs.Book.{Book, book_of, line_of, on_page, row_closed, row_opened, valve_closed, valve_opened, entered_by, leaves_valve, entered, all_entered}

-- ── the line of an opening ────────────────────────────────────────────────────────────────────────
pub line_before : (first number : ℕ) → number < first → 60 ≡ line_of first number
unfolding line_of
line_before first number h = rw (lt-leb first number h)

pub line_behind : (first number : ℕ) → first ≤ number → 59 ≤ number - first → 60 ≡ line_of first number
unfolding line_of
line_behind first number h g = rw (le-leb first number h, le-ltb (number - first) 59 g)

pub line_here_lem : (first number : ℕ) → first ≤ number → number - first < 59 → number - first + 1 ≡ line_of first number
unfolding line_of
line_here_lem first number h g = rw (le-leb first number h, lt-ltb (number - first) 59 g)

-- ── a row that stands on the page, or not ─────────────────────────────────────────────────────────
closed_line : (line : ℕ) → line ≡ 0 → on_page line ≡ false
closed_line line e = rw e

other_page : (line : ℕ) → 60 ≤ line → on_page line ≡ false
other_page line h = rw (le-leb 1 line (omega arith), le-ltb line 60 h)

pub this_page : (line : ℕ) → (line ≡ 0 → ⊥) → line < 60 → on_page line ≡ true
this_page line n h = let p : 1 ≤ line = some n in rw (le-leb 1 line p, lt-ltb line 60 h)
  where
    some : (line ≡ 0 → ⊥) → 1 ≤ line
    some d = omega arith

module _ (memory : Bytes) (line : ℕ) where
  pub none_closed : (milliseconds : ℕ) → line ≡ 0 → memory ≡ row_closed memory line milliseconds
  unfolding row_closed
  none_closed d e = rw (closed_line line e)

  pub closed_elsewhere : (milliseconds : ℕ) → 60 ≤ line → memory ≡ row_closed memory line milliseconds
  unfolding row_closed
  closed_elsewhere d h = rw (other_page line h)

  pub closed_here : (milliseconds : ℕ) → (line ≡ 0 → ⊥) → line < 60 → (at : ℕ) → at ≡ line →
      sets memory (at * 45 + 24) (right_aligned 20 (figure milliseconds)) ≡ row_closed memory line milliseconds
  unfolding row_closed
  closed_here d n h at e = rw (this_page line n h, e)

  pub none_opened : (output moment : ℕ) → line ≡ 0 → memory ≡ row_opened memory line output moment
  unfolding row_opened
  none_opened o m e = rw (closed_line line e)

  pub opened_elsewhere_lem : (output moment : ℕ) → 60 ≤ line → memory ≡ row_opened memory line output moment
  unfolding row_opened
  opened_elsewhere_lem o m h = rw (other_page line h)

  pub opened_here : (output moment : ℕ) → (line ≡ 0 → ⊥) → line < 60 → (at : ℕ) → at ≡ line →
      sets memory (at * 45) (row (record { output = output; opened = moment; closed = none })) ≡ row_opened memory line output moment
  unfolding row_opened
  opened_here o m n h at e = rw (this_page line n h, e)

-- ── a write on a book, by its value and its valve ─────────────────────────────────────────────────
pub entered_zero : (first : ℕ) (b : Book) (w : Write) → is_zero w ≡ true → entered first b w ≡ valve_closed w b
unfolding entered entered_by
entered_zero first b w z = rw z

pub entered_open : (first : ℕ) (b : Book) (w : Write) → is_zero w ≡ false → (get_or b.lines w.output 0 ≡ 0 → ⊥) → entered first b w ≡ b
unfolding entered entered_by
entered_open first b w z n = rw (z, ne_eqb (get_or b.lines w.output 0) 0 n)

pub entered_shut : (first : ℕ) (b : Book) (w : Write) → is_zero w ≡ false → get_or b.lines w.output 0 ≡ 0 → entered first b w ≡ valve_opened first w b
unfolding entered entered_by
entered_shut first b w z n = rw (z, eq-eqb (get_or b.lines w.output 0) 0 n)

-- ── the write, by its value and its valve ─────────────────────────────────────────────────────────
module _ (first : ℕ) (memory : Bytes) (lines opened : List ℕ) (count moment output value : ℕ) where
  abbrev before : Book
  before = book_of memory lines opened count

  abbrev write : Write
  write = record { moment = moment; output = output; value = value }

  pub enters_zero : (k : ℕ) → k ≡ output → value ≡ 0 → (d : ℕ) → d ≡ moment - get_or opened k 0 → {memory' : Bytes} →
      memory' ≡ row_closed memory (get_or lines k 0) d → book_of memory' (set lines k 0) opened count ≡ entered first before write
  unfolding entered entered_by valve_closed
  enters_zero k e z d f g = rw (g, f, e, eq-eqb value 0 z)

  pub enters_still : (k : ℕ) → k ≡ output → (value ≡ 0 → ⊥) → (get_or lines k 0 ≡ 0 → ⊥) → before ≡ entered first before write
  unfolding entered entered_by
  enters_still k e n m =
      let l : eqb (get_or lines output 0) 0 ≡ false = rw (← e) (ne_eqb (get_or lines k 0) 0 m) in
      rw (ne_eqb value 0 n, l)

  pub enters_new : (k : ℕ) → k ≡ output → (value ≡ 0 → ⊥) → get_or lines k 0 ≡ 0 → (line : ℕ) → line ≡ line_of first count → {memory' : Bytes} →
      memory' ≡ row_opened memory line output moment → book_of memory' (set lines k line) (set opened k moment) (count + 1) ≡ entered first before write
  unfolding entered entered_by valve_opened
  enters_new k e n m line f g =
      let l : eqb (get_or lines output 0) 0 ≡ true = rw (← e) (eq-eqb (get_or lines k 0) 0 m) in
      rw (g, f, e, ne_eqb value 0 n, l)

  pub enters_same : (k : ℕ) → k ≡ output → leaves_valve (get_or lines k 0) value ≡ true → before ≡ entered first before write
  unfolding leaves_valve
  enters_same k e h = go (eqb value 0) refl h
    where
      go : (b : Bool) → eqb value 0 ≡ b → cond b (eqb (get_or lines k 0) 0) (not (eqb (get_or lines k 0) 0)) ≡ true → before ≡ entered first before write
      go true z c =
          let l = eqb-true (get_or lines k 0) 0 c in
          let same : set lines k 0 ≡ lines = ap (set lines k) (sym l) ∙ set-get_or lines k 0 in
          ap (λ (ls : List ℕ). book_of memory ls opened count) (sym same)
          ∙ enters_zero k e (eqb-true value 0 z) (moment - get_or opened k 0) refl (none_closed memory (get_or lines k 0) (moment - get_or opened k 0) l)
      go false z c = enters_still k e (eqb-false value 0 z) (eqb-false (get_or lines k 0) 0 (not-true (eqb (get_or lines k 0) 0) c))

-- ── nothing is longer or shorter ──────────────────────────────────────────────────────────────────
closed_long : (memory : Bytes) (line milliseconds : ℕ) → length (row_closed memory line milliseconds) ≡ length memory
unfolding row_closed
closed_long memory line d = go (on_page line)
  where
    go : (b : Bool) → length (cond b (sets memory (line * 45 + 24) (right_aligned 20 (figure d))) memory) ≡ length memory
    go true = length-sets memory (line * 45 + 24) (right_aligned 20 (figure d))
    go false = refl

opened_long : (memory : Bytes) (line output moment : ℕ) → length (row_opened memory line output moment) ≡ length memory
unfolding row_opened
opened_long memory line o m = go (on_page line)
  where
    go : (b : Bool) → length (cond b (sets memory (line * 45) (row (record { output = o; opened = m; closed = none }))) memory) ≡ length memory
    go true = length-sets memory (line * 45) (row (record { output = o; opened = m; closed = none }))
    go false = refl

pub entered_long : (first : ℕ) (b : Book) (w : Write) → length (entered first b w).memory ≡ length b.memory
unfolding entered entered_by valve_closed valve_opened
entered_long first b w = go (eqb w.value 0) (eqb (get_or b.lines w.output 0) 0)
  where
    go : (x y : Bool) → length (entered_by x y first w b).memory ≡ length b.memory
    go true y = closed_long b.memory (get_or b.lines w.output 0) (w.moment - get_or b.opened w.output 0)
    go false true = opened_long b.memory (line_of first b.count) w.output w.moment
    go false false = refl

pub all_long_lem : (first : ℕ) (b : Book) (ws : List Write) → length (all_entered first b ws).memory ≡ length b.memory
unfolding all_entered
all_long_lem first b [] = refl
all_long_lem first b (w ∷ ws) = all_long_lem first (entered first b w) ws ∙ entered_long first b w
