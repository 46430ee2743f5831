-- Questions 2 to 5 (document 01, "The questions"), each put to the whole listing.
-- "the place is the first line, from 1, where the answer is no": each question gives an answer for each line, and its place is 0 if none is no.
use Rattle.std.specs.Prelude.{Bool, true, false, ◌&&◌, not, List, [], ◌∷◌, ◌++◌, map, ℕ, zero, suc, ◌+◌, eqb, ltb, length, get_or}
use Rattle.std.proofs.Math.Option.{Option}
use Rattle.listing.specs.Lists.{all, is_empty, all_but_last, last_or, is_some, present, first_no}
use Rattle.listing.specs.Bytes.{Bytes, line_feed, split}
use Rattle.listing.specs.Listing.{Piece, literal, value_of, written_mark, plus, minus, times, less, divide, remainder, Call, Instruction, assign, schedule, branch, jump, wait, fork, end, Kind, by_reference, by_value, Line, Routine, Listing, name_count, listing_of}
use Rattle.listing.specs.Form.{read_line}
use Rattle.listing.specs.Limits.{limit_answers}

-- ── question 2, "Has every line its form, and does the last end in a line feed? An empty listing: place 1." ──
-- the lines that a line feed closes
unfoldable pub closed_lines : Bytes → List Bytes
closed_lines text = all_but_last (split line_feed text)

-- what comes after the last line feed
unfoldable pub unclosed : Bytes → Bytes
unclosed text = last_or [] (split line_feed text)

-- each line read, the first as the line of the given number
unfoldable pub read_lines : ℕ → List Bytes → List (Option Line)
read_lines line [] = []
read_lines line (text ∷ texts) = read_line line text ∷ read_lines (suc line) texts

-- a line is there, and none without its line feed
unfoldable pub is_closed : Bytes → Bool
is_closed text = not (is_empty (closed_lines text)) && is_empty (unclosed text)

-- an answer for each closed line, and one at the line after them: is the text closed?
unfoldable pub form_answers : Bytes → List Bool
form_answers text = map is_some (read_lines 1 (closed_lines text)) ++ (is_closed text ∷ [])

unfoldable pub place2 : Bytes → ℕ
place2 text = first_no (form_answers text)

-- the records of the lines in form (of every line, if question 2 passes), and the listing that they make
unfoldable pub records_of : Bytes → List Line
records_of text = present (read_lines 1 (closed_lines text))

unfoldable pub listing_in : Bytes → Listing
listing_in text = listing_of (records_of text)

-- ── question 3, "Are the limits met?" ────────────────────────────────────────────
unfoldable pub place3 : Bytes → ℕ
place3 text = first_no (limit_answers (closed_lines text) (records_of text))

-- ── question 4, "Does every name, routine, jump and argument count point to something there?" ──
-- in a routine of so many names
unfoldable pub piece_is_there : ℕ → Piece → Bool
piece_is_there names (literal v) = true
piece_is_there names (value_of n) = ltb n names
piece_is_there names (written_mark n) = ltb n names
piece_is_there names plus = true
piece_is_there names minus = true
piece_is_there names times = true
piece_is_there names less = true
piece_is_there names divide = true
piece_is_there names remainder = true

-- the arguments that a routine takes
unfoldable pub argument_count : List Routine → ℕ → ℕ
argument_count routines number = length (get_or routines number (record { kinds = []; locals = 0; code = [] })).kinds

unfoldable pub call_is_there : List Routine → ℕ → Call → Bool
call_is_there routines names call =
    ltb call.callee (length routines)
    && eqb (length call.arguments) (argument_count routines call.callee)
    && all (λ n. ltb n names) call.arguments

-- an instruction of a routine with so many names and instructions
unfoldable pub is_there : List Routine → ℕ → ℕ → Instruction → Bool
is_there routines names size (assign n e) = ltb n names && all (piece_is_there names) e
is_there routines names size (schedule n d e) = ltb n names && all (piece_is_there names) d && all (piece_is_there names) e
is_there routines names size (branch e k) = all (piece_is_there names) e && ltb k size
is_there routines names size (jump k) = ltb k size
is_there routines names size (wait ns) = all (λ n. ltb n names) ns
is_there routines names size (fork calls) = all (call_is_there routines names) calls
is_there routines names size end = true

abbrev pub is_by_reference : Kind → Bool
is_by_reference by_reference = true
is_by_reference by_value = false

-- "Is main as stated ..?": "Main has i + o arguments, all `r`"; asked of routine 0 alone
unfoldable pub opens_as_stated : Listing → ℕ → Routine → Bool
opens_as_stated listing zero main = eqb (length main.kinds) (listing.inputs + listing.outputs) && all is_by_reference main.kinds
opens_as_stated listing (suc number) routine = true

-- for each routine, from the given number on: its `R`, then its instructions
unfoldable pub routines_there : Listing → ℕ → List Routine → List Bool
routines_there listing number [] = []
routines_there listing number (routine ∷ rest) =
    opens_as_stated listing number routine
    ∷ (map (is_there listing.routines (name_count routine) (length routine.code)) routine.code
    ++ routines_there listing (suc number) rest)

-- "(place: its `R`, or 1 without one)": line 1 answers for there being a main
unfoldable pub there_answers : Listing → List Bool
there_answers listing = not (is_empty listing.routines) ∷ routines_there listing 0 listing.routines

unfoldable pub place4 : Bytes → ℕ
place4 text = first_no (there_answers (listing_in text))

-- ── question 5, "Has every routine a line (place: its `R`), the last being `E` or `G`?" ──
unfoldable pub may_be_last : Instruction → Bool
may_be_last (assign n e) = false
may_be_last (schedule n d e) = false
may_be_last (branch e k) = false
may_be_last (jump k) = true
may_be_last (wait ns) = false
may_be_last (fork calls) = false
may_be_last end = true

-- for each instruction of a routine: only the last is asked
unfoldable pub last_answers : List Instruction → List Bool
last_answers [] = []
last_answers (i ∷ []) = may_be_last i ∷ []
last_answers (i ∷ j ∷ code) = true ∷ last_answers (j ∷ code)

-- for each routine: its `R`, which asks for a line, then its instructions
unfoldable pub routines_end : List Routine → List Bool
routines_end [] = []
routines_end (routine ∷ rest) = not (is_empty routine.code) ∷ (last_answers routine.code ++ routines_end rest)

-- nothing is asked of line 1
unfoldable pub ending_answers : Listing → List Bool
ending_answers listing = true ∷ routines_end listing.routines

unfoldable pub place5 : Bytes → ℕ
place5 text = first_no (ending_answers (listing_in text))
