-- The book while it is written: one write after another enters it, in the order of the rows. A row is written with hyphens when its valve opens, and
-- its last column when the valve closes.
use Rattle.std.specs.Prelude.{Bool, true, false, cond, ◌&&◌, not, List, [], ◌∷◌, ℕ, ◌+◌, ◌-◌, ◌*◌, eqb, leb, ltb, get_or, set}
use Rattle.std.proofs.Math.Option.{none}
use Rattle.std.proofs.lemmas.List.Edits.{sets}
use Rattle.listing.specs.Bytes.{Bytes, figure}
use Rattle.openings.specs.Writes.{Write}
use Rattle.page_rows.specs.Rows.{right_aligned, row}

-- memory: the page's bytes; lines: for each output the line of its open valve's row, 0 if the valve is closed, 60 if the row stands on another page;
-- opened: for each output the moment of its last opening; count: how many openings there were
pub record Book : Type 0 where
  pub memory : Bytes
  pub lines : List ℕ
  pub opened : List ℕ
  pub count : ℕ

abbrev pub book_of : Bytes → List ℕ → List ℕ → ℕ → Book
book_of memory lines opened count = record { memory = memory; lines = lines; opened = opened; count = count }

-- The line of an opening by its number, both from 0, on the page whose first opening has the number `first`.
unfoldable pub line_of : ℕ → ℕ → ℕ
line_of first number = cond (leb first number && ltb (number - first) 59) (number - first + 1) 60

-- a row of this page, and not the heading
abbrev pub on_page : ℕ → Bool
on_page line = leb 1 line && ltb line 60

-- the last column written, if the row stands on the page
unfoldable pub row_closed : Bytes → ℕ → ℕ → Bytes
row_closed memory line milliseconds = cond (on_page line) (sets memory (line * 45 + 24) (right_aligned 20 (figure milliseconds))) memory

-- a row with hyphens, if it stands on the page
unfoldable pub row_opened : Bytes → ℕ → ℕ → ℕ → Bytes
row_opened memory line output moment = cond (on_page line) (sets memory (line * 45) (row (record { output = output; opened = moment; closed = none }))) memory

unfoldable pub valve_closed : Write → Book → Book
valve_closed w b =
    book_of (row_closed b.memory (get_or b.lines w.output 0) (w.moment - get_or b.opened w.output 0)) (set b.lines w.output 0) b.opened
    b.count

unfoldable pub valve_opened : ℕ → Write → Book → Book
valve_opened first w b =
    book_of (row_opened b.memory (line_of first b.count) w.output w.moment) (set b.lines w.output (line_of first b.count))
    (set b.opened w.output w.moment) (b.count + 1)

-- by the write's value, 0 or not, and the valve, closed or not
unfoldable pub entered_by : Bool → Bool → ℕ → Write → Book → Book
entered_by true is_closed first w b = valve_closed w b
entered_by false true first w b = valve_opened first w b
entered_by false false first w b = b

-- "a write that doesn't change open or closed": of this value, with the valve's line
unfoldable pub leaves_valve : ℕ → ℕ → Bool
leaves_valve line value = cond (eqb value 0) (eqb line 0) (not (eqb line 0))

-- one write entered
unfoldable pub entered : ℕ → Book → Write → Book
entered first b w = entered_by (eqb w.value 0) (eqb (get_or b.lines w.output 0) 0) first w b

-- writes entered one after another
unfoldable pub all_entered : ℕ → Book → List Write → Book
all_entered first b [] = b
all_entered first b (w ∷ writes) = all_entered first (entered first b w) writes
