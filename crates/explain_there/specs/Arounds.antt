-- What the lines of a listing in form tell around one of them, read off their letters: "Then come the routines, numbered from 0"; "`R|kinds|locals` opens one".
use Rattle.std.specs.Prelude.{true, false, cond, List, [], ◌∷◌, ℕ, ◌+◌, ◌≤◌, eqb, leb, length, get_or}
use Prim.Native.Char.{code}
use Rattle.listing.specs.Bytes.{Bytes, tab, line_feed, split}
use Rattle.text_piece.specs.Pieces.{figure_answer}
use Rattle.text_piece.specs.declared.figure.Figure.{Figure}
use Rattle.text_piece.specs.declared.figure.Figure.TheVariants as FV
use Rattle.explain_parts.specs.Parts.{part_of}
use Rattle.explain_there.specs.declared.around.Around.{Around}
use Rattle.explain_there.specs.declared.around.Scope.{Scope}

-- few enough to be counted on
pub record Small (held : Around) : Type 0 where
  pub lines : held.lines ≤ 1000000
  pub routines : held.routines ≤ 1000000
  pub size : held.size ≤ 1000000

-- an `R` opens the routine of the line at the place, unless it comes after that line
abbrev pub opened : Around → ℕ → Around
opened held place =
    cond (leb place held.lines)
    (record { lines = held.lines + 1; routines = held.routines + 1; opening = held.opening; size = held.size; past = true })
    (record { lines = held.lines + 1; routines = held.routines + 1; opening = held.lines; size = 0; past = held.past })

-- any other line is an instruction of the routine opened last
abbrev pub instructed : Around → Around
instructed held =
    cond held.past
    (record { lines = held.lines + 1; routines = held.routines; opening = held.opening; size = held.size; past = held.past })
    (record { lines = held.lines + 1; routines = held.routines; opening = held.opening; size = held.size + 1; past = held.past })

-- one line more; what comes after the last line feed is none
unfoldable pub around_line : Around → ℕ → Bytes → Around
around_line held place line =
    cond (eqb (get_or line 0 0) (code "R")) (opened held place)
    (cond (eqb (get_or line 0 0) 0) held (instructed held))

unfoldable pub around_all : Around → ℕ → List Bytes → Around
around_all held place [] = held
around_all held place (line ∷ lines) = around_all (around_line held place line) place lines

abbrev pub nothing : Around
nothing = record { lines = 0; routines = 0; opening = 0; size = 0; past = false }

abbrev pub around_of : Bytes → ℕ → Around
around_of text place = around_all nothing place (split line_feed text)

-- "kinds has a letter per argument .., or is `-` for none"
unfoldable pub kinds_count : Bytes → ℕ
kinds_count field = cond (eqb (get_or field 0 0) (code "-")) 0 (length field)

abbrev pub value_in : Figure → ℕ
value_in (FV.Value v) = v
value_in FV.Bad = 0

-- "Names in a routine are its arguments, then its locals"
abbrev pub names_on : Bytes → ℕ
names_on line = kinds_count (part_of tab line 1) + value_in (figure_answer (part_of tab line 2))

-- names and instructions of the routine of the line at a place, and all routines
abbrev pub scope_at : Bytes → ℕ → Scope
scope_at text place =
    let held = around_of text place in
    record { names = names_on (part_of line_feed text held.opening); size = held.size; routines = held.routines }
