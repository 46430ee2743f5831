-- The limits of a listing (document 01, "Limits", put by question 3), line by line.
-- "Limits (the place is the line that passes one)": a line passes a limit if the lines up to and with it hold more than the limit allows.
use Rattle.std.specs.Prelude.{Bool, List, map, ℕ, ◌+◌, leb, length}
use Rattle.listing.specs.Lists.{total, running_totals, both}
use Rattle.listing.specs.Bytes.{Bytes}
use Rattle.listing.specs.Listing.{Call, Instruction, assign, schedule, branch, jump, wait, fork, end, Line, ports, opens, instruction}

-- "listing 49,152 bytes; 64 routines; 512 instructions in all; 16 names a routine; 4,096 pieces after the letters of instruction lines"
abbrev pub byte_limit : ℕ
byte_limit = 49152

abbrev pub routine_limit : ℕ
routine_limit = 64

abbrev pub instruction_limit : ℕ
instruction_limit = 512

abbrev pub name_limit : ℕ
name_limit = 16

abbrev pub piece_limit : ℕ
piece_limit = 4096

-- ── what a line holds ────────────────────────────────────────────────────────────
-- its bytes, with the line feed
abbrev pub bytes_on : Bytes → ℕ
bytes_on line = length line + 1

unfoldable pub routines_on : Line → ℕ
routines_on (ports i o) = 0
routines_on (opens kinds locals) = 1
routines_on (instruction i) = 0

unfoldable pub instructions_on : Line → ℕ
instructions_on (ports i o) = 0
instructions_on (opens kinds locals) = 0
instructions_on (instruction i) = 1

-- the names of the routine that it opens: arguments and locals
unfoldable pub names_on : Line → ℕ
names_on (ports i o) = 0
names_on (opens kinds locals) = length kinds + locals
names_on (instruction i) = 0

-- a routine number and its arguments
abbrev pub call_pieces : Call → ℕ
call_pieces call = 1 + length call.arguments

-- everything after the letter that a tab or a space parts
unfoldable pub instruction_pieces : Instruction → ℕ
instruction_pieces (assign n e) = 1 + length e
instruction_pieces (schedule n d e) = 1 + length d + length e
instruction_pieces (branch e k) = length e + 1
instruction_pieces (jump k) = 1
instruction_pieces (wait names) = length names
instruction_pieces (fork calls) = total (map call_pieces calls)
instruction_pieces end = 0

unfoldable pub pieces_on : Line → ℕ
pieces_on (ports i o) = 0
pieces_on (opens kinds locals) = 0
pieces_on (instruction i) = instruction_pieces i

-- ── question 3, "Are the limits met?" ────────────────────────────────────────────
-- for each line: do the lines up to and with it hold at most so many?
unfoldable pub within : ℕ → List ℕ → List Bool
within limit counts = map (λ sum. leb sum limit) (running_totals 0 counts)

-- for each line, as bytes without the line feed and as record: does it pass no limit? (There is a record for each line if question 2 passes.)
unfoldable pub limit_answers : List Bytes → List Line → List Bool
limit_answers texts lines =
    both (within byte_limit (map bytes_on texts))
    (both (within routine_limit (map routines_on lines))
    (both (within instruction_limit (map instructions_on lines))
    (both (within piece_limit (map pieces_on lines))
    (map (λ line. leb (names_on line) name_limit) lines))))
