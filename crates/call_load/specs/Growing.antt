-- A listing line by line: what the lines read so far say.
use Rattle.std.specs.Prelude.{List, [], ◌∷◌, ◌++◌, ℕ}
use Rattle.listing.specs.Lists.{last_or}
use Rattle.listing.specs.Listing.{Instruction, Line, ports, opens, instruction, Kind, Routine, Listing}

abbrev pub opened_with : List Kind → ℕ → Routine
opened_with kinds locals = record { kinds = kinds; locals = locals; code = [] }

abbrev pub extended : Routine → Instruction → Routine
extended r i = record { kinds = r.kinds; locals = r.locals; code = r.code ++ (i ∷ []) }

-- one instruction more in the last routine
unfoldable pub with_instruction : List Routine → Instruction → List Routine
with_instruction [] i = []
with_instruction (r ∷ []) i = extended r i ∷ []
with_instruction (r ∷ t ∷ rs) i = r ∷ with_instruction (t ∷ rs) i

-- the instructions of the last routine
abbrev pub last_code_lem : List Routine → List Instruction
last_code_lem rs = (last_or (opened_with [] 0) rs).code

abbrev pub nothing_said : Listing
nothing_said = record { inputs = 0; outputs = 0; routines = [] }

-- one line more, and several
unfoldable pub with_line : Listing → Line → Listing
with_line l (ports i o) = record { inputs = i; outputs = o; routines = l.routines }
with_line l (opens kinds locals) = record { inputs = l.inputs; outputs = l.outputs; routines = l.routines ++ (opened_with kinds locals ∷ []) }
with_line l (instruction i) = record { inputs = l.inputs; outputs = l.outputs; routines = with_instruction l.routines i }

unfoldable pub with_lines : Listing → List Line → Listing
with_lines l [] = l
with_lines l (line ∷ lines) = with_lines (with_line l line) lines
