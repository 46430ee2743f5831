-- What a listing says, apart from its text (document 01, "The listing").
-- Names, routines and instructions are numbers from 0; a value is a 32-bit word, a natural below 2 ^ 32, two's complement.
use Rattle.std.specs.Prelude.{List, [], ◌∷◌, ◌++◌, map, ℕ, ◌+◌, length}

-- "the pieces `#v` (a signed 32-bit literal), `n` (a name's value), `@n` (1 if it was written in this instant, else 0), `+ - * <`";
-- document 02: "Expressions gain `/` and `%`"
pub data Piece : Type 0 where
  literal value_of written_mark : ℕ → Piece
  plus minus times less divide remainder : Piece

-- "An expression is postfix, of the pieces .."
abbrev pub Expression : Type 0
Expression = List Piece

-- "each field is a routine number and then its arguments, as names of the caller"
pub record Call : Type 0 where
  pub callee : ℕ
  pub arguments : List ℕ

pub data Instruction : Type 0 where
  -- "`S|n|e` writes expression e to name n."
  assign : ℕ → Expression → Instruction
  -- "`A|n|d|e` puts a waiting write of e on n, d milliseconds from now; d is an expression too."
  schedule : ℕ → Expression → Expression → Instruction
  -- "`U|e|k` goes to instruction k if e is 0."
  branch : Expression → ℕ → Instruction
  -- "`G|k` goes to k."
  jump : ℕ → Instruction
  -- "`W|n n ..` waits on 1 to 4 names."
  wait : List ℕ → Instruction
  -- "`F|c|c..` forks 1 to 8 children"
  fork : List Call → Instruction
  -- "`E` ends the routine."
  end : Instruction

-- "a letter per argument, `r` by reference or `v` by value"
pub data Kind : Type 0 where
  by_reference by_value : Kind

-- "`R|kinds|locals` opens one"; its instructions are numbered from 0
pub record Routine : Type 0 where
  pub kinds : List Kind
  pub locals : ℕ
  pub code : List Instruction

-- "`P|i|o` gives i inputs and o outputs. Then come the routines, numbered from 0; routine 0 is main."
pub record Listing : Type 0 where
  pub inputs : ℕ
  pub outputs : ℕ
  pub routines : List Routine

-- "Names in a routine are its arguments, then its locals, numbered from 0."
abbrev pub name_count : Routine → ℕ
name_count routine = length routine.kinds + routine.locals

-- ── "one record a line" ──────────────────────────────────────────────────────────
-- the record of a line: `P`, `R`, or an instruction
pub data Line : Type 0 where
  ports : ℕ → ℕ → Line
  opens : List Kind → ℕ → Line
  instruction : Instruction → Line

-- the lines of the routines, each its `R` and then its instructions
unfoldable pub routine_lines : List Routine → List Line
routine_lines [] = []
routine_lines (routine ∷ rest) = opens routine.kinds routine.locals ∷ (map instruction routine.code ++ routine_lines rest)

-- the lines of a listing
unfoldable pub lines_of : Listing → List Line
lines_of listing = ports listing.inputs listing.outputs ∷ routine_lines listing.routines

-- ── and back ─────────────────────────────────────────────────────────────────────
-- the instructions on the lines before the next `R`
unfoldable pub code_of : List Line → List Instruction
code_of [] = []
code_of (ports i o ∷ lines) = []
code_of (opens kinds locals ∷ lines) = []
code_of (instruction i ∷ lines) = i ∷ code_of lines

-- a routine for each `R`
unfoldable pub routines_of : List Line → List Routine
routines_of [] = []
routines_of (ports i o ∷ lines) = routines_of lines
routines_of (opens kinds locals ∷ lines) = record { kinds = kinds; locals = locals; code = code_of lines } ∷ routines_of lines
routines_of (instruction i ∷ lines) = routines_of lines

-- the listing that lines make; by form the first is the `P`
unfoldable pub listing_of : List Line → Listing
listing_of [] = record { inputs = 0; outputs = 0; routines = [] }
listing_of (ports i o ∷ lines) = record { inputs = i; outputs = o; routines = routines_of lines }
listing_of (opens kinds locals ∷ lines) = record { inputs = 0; outputs = 0; routines = [] }
listing_of (instruction i ∷ lines) = record { inputs = 0; outputs = 0; routines = [] }
