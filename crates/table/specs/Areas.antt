-- The words of a listing's table: where each part of the listing stands.
-- A header of 8 words, 64 routine entries of 5 words, 512 instruction entries of 5 words, then cells of 2 words; the unused words are 0.
use Rattle.std.specs.Prelude.{List, [], ◌∷◌, ◌++◌, ◌≡◌, ℕ, ◌+◌, ◌*◌, ◌-◌, ◌≤◌, length, replicate}
use Rattle.listing.specs.Listing.{Piece, literal, value_of, written_mark, plus, minus, times, less, divide, remainder, Call, Instruction, assign, schedule, branch, jump, wait, fork, end, Kind, by_reference, by_value, Routine, Listing}

-- the word addresses at which the areas begin, the end of the cells of 4,096 pieces, and the end
abbrev pub routine_area : ℕ
routine_area = 8

abbrev pub entry_area : ℕ
entry_area = 328

abbrev pub cell_area : ℕ
cell_area = 2888

abbrev pub cell_end : ℕ
cell_end = 11080

-- "Table 12,288 words of 32 bits"
abbrev pub table_size : ℕ
table_size = 12288

-- a memory with room for a table, and one of just its words
abbrev pub HasTable : List ℕ → Type 0
HasTable t = table_size ≤ length t

abbrev pub TableLong : List ℕ → Type 0
TableLong t = length t ≡ table_size

-- the words of each, in a row
unfoldable pub words_of_each : {A : Type 0} → (A → List ℕ) → List A → List ℕ
words_of_each words [] = []
words_of_each words (x ∷ xs) = words x ++ words_of_each words xs

-- ── cells: two words each ────────────────────────────────────────────────────────
-- a piece: its kind, and its value or name
unfoldable pub piece_words : Piece → List ℕ
piece_words (literal v) = 0 ∷ (v ∷ [])
piece_words (value_of n) = 1 ∷ (n ∷ [])
piece_words (written_mark n) = 2 ∷ (n ∷ [])
piece_words plus = 3 ∷ (0 ∷ [])
piece_words minus = 4 ∷ (0 ∷ [])
piece_words times = 5 ∷ (0 ∷ [])
piece_words less = 6 ∷ (0 ∷ [])
piece_words divide = 7 ∷ (0 ∷ [])
piece_words remainder = 8 ∷ (0 ∷ [])

unfoldable pub name_words : ℕ → List ℕ
name_words n = 0 ∷ (n ∷ [])

-- a child field: a head of its number of arguments and its routine, then the arguments' names
unfoldable pub call_words : Call → List ℕ
call_words c = length c.arguments ∷ (c.callee ∷ words_of_each name_words c.arguments)

-- an instruction's cells
unfoldable pub cell_words : Instruction → List ℕ
cell_words (assign n e) = words_of_each piece_words e
cell_words (schedule n d e) = words_of_each piece_words d ++ words_of_each piece_words e
cell_words (branch e k) = words_of_each piece_words e
cell_words (jump k) = []
cell_words (wait names) = words_of_each name_words names
cell_words (fork calls) = words_of_each call_words calls
cell_words end = []

-- ── instruction entries: kind, operand, word address of the cells, two counts ────
unfoldable pub entry_words : ℕ → Instruction → List ℕ
entry_words cells (assign n e) = 1 ∷ (n ∷ (cells ∷ (length e ∷ (0 ∷ []))))
entry_words cells (schedule n d e) = 2 ∷ (n ∷ (cells ∷ (length d ∷ (length e ∷ []))))
entry_words cells (branch e k) = 3 ∷ (k ∷ (cells ∷ (length e ∷ (0 ∷ []))))
entry_words cells (jump k) = 4 ∷ (k ∷ (cells ∷ (0 ∷ (0 ∷ []))))
entry_words cells (wait names) = 5 ∷ (0 ∷ (cells ∷ (length names ∷ (0 ∷ []))))
entry_words cells (fork calls) = 6 ∷ (0 ∷ (cells ∷ (length calls ∷ (0 ∷ []))))
entry_words cells end = 7 ∷ (0 ∷ (cells ∷ (0 ∷ (0 ∷ []))))

-- an instruction's pieces that stand in its entry, and not in a cell: a name or a jump
unfoldable pub operands : Instruction → ℕ
operands (assign n e) = 1
operands (schedule n d e) = 1
operands (branch e k) = 1
operands (jump k) = 1
operands (wait names) = 0
operands (fork calls) = 0
operands end = 0

-- the cells of instructions, one after the other
unfoldable pub all_cells : List Instruction → List ℕ
all_cells = words_of_each cell_words

-- the entries of instructions whose cells begin at the given address
unfoldable pub all_entries : ℕ → List Instruction → List ℕ
all_entries cells [] = []
all_entries cells (i ∷ is) = entry_words cells i ++ all_entries (cells + length (cell_words i)) is

-- ── routine entries: number of arguments, their kinds as bits, locals, number of the first instruction, number of instructions ──
-- argument k is bit k: 1 by reference
unfoldable pub kind_bits : List Kind → ℕ
kind_bits [] = 0
kind_bits (by_reference ∷ kinds) = 1 + 2 * kind_bits kinds
kind_bits (by_value ∷ kinds) = 2 * kind_bits kinds

unfoldable pub routine_words : ℕ → Routine → List ℕ
routine_words first r =
    length r.kinds ∷ (kind_bits r.kinds ∷ (r.locals ∷ (first ∷ (length r.code ∷ []))))

-- the entries of routines whose first instruction has the given number among all
unfoldable pub all_routines : ℕ → List Routine → List ℕ
all_routines first [] = []
all_routines first (r ∷ rs) = routine_words first r ++ all_routines (first + length r.code) rs

unfoldable pub all_code : List Routine → List Instruction
all_code [] = []
all_code (r ∷ rs) = r.code ++ all_code rs

-- ── the areas ────────────────────────────────────────────────────────────────────
-- zeros up to the given length
unfoldable pub padded : ℕ → List ℕ → List ℕ
padded size words = words ++ replicate (size - length words) 0

unfoldable pub header_words : Listing → List ℕ
header_words listing = listing.inputs ∷ (listing.outputs ∷ (length listing.routines ∷ []))

-- 8 + 64 * 5 + 512 * 5 + 9,400 words
unfoldable pub laid_out : List ℕ → List ℕ → List ℕ → List ℕ → List ℕ
laid_out header routines entries cells = padded 8 header ++ (padded 320 routines ++ (padded 2560 entries ++ padded 9400 cells))

-- the table that loading this listing leaves: "The loader clears the table's unused words among the 12,288."
unfoldable pub table_words : Listing → List ℕ
table_words listing =
    laid_out (header_words listing) (all_routines 0 listing.routines)
    (all_entries cell_area (all_code listing.routines)) (all_cells (all_code listing.routines))
