-- The listing that a table's words stand for, each part read by its address.
-- Every list of words decodes to some listing; question 6 asks whether the words are that listing's table.
use Rattle.std.specs.Prelude.{Bool, cond, ◌&&◌, List, [], ◌∷◌, ℕ, zero, suc, ◌+◌, ◌*◌, ◌/◌, ◌%◌, eqb, leb, get_or}
use Rattle.listing.specs.Listing.{Piece, literal, value_of, written_mark, plus, minus, times, less, divide, remainder, Call, Instruction, assign, schedule, branch, jump, wait, fork, end, Kind, by_reference, by_value, Routine, Listing}
use Rattle.table.specs.Areas.{routine_area, entry_area}

abbrev pub word : List ℕ → ℕ → ℕ
word w address = get_or w address 0

-- ── cells ────────────────────────────────────────────────────────────────────────
-- what stands for a piece where the number is that of none: `#0`
abbrev pub no_piece : Piece
no_piece = literal 0

unfoldable pub piece_of : ℕ → ℕ → Piece
piece_of kind value =
    cond (eqb kind 0) (literal value) (cond (eqb kind 1) (value_of value) (cond (eqb kind 2) (written_mark value)
    (cond (eqb kind 3) plus (cond (eqb kind 4) minus (cond (eqb kind 5) times (cond (eqb kind 6) less
    (cond (eqb kind 7) divide (cond (eqb kind 8) remainder no_piece))))))))

-- is it a sign's number? They are 3 to 8.
abbrev pub is_sign : ℕ → Bool
is_sign kind = leb 3 kind && leb kind 8

unfoldable pub piece_at : List ℕ → ℕ → Piece
piece_at w a = piece_of (word w (a + 0)) (word w (a + 1))

unfoldable pub name_at : List ℕ → ℕ → ℕ
name_at w a = word w (a + 1)

-- what n cells in a row hold, the first at address a
unfoldable pub cells_at : {A : Type 0} → (ℕ → A) → ℕ → ℕ → List A
cells_at read a zero = []
cells_at read a (suc n) = read a ∷ cells_at read (a + 2) n

abbrev pub pieces_at : List ℕ → ℕ → ℕ → List Piece
pieces_at w a n = cells_at (piece_at w) a n

abbrev pub names_at : List ℕ → ℕ → ℕ → List ℕ
names_at w a n = cells_at (name_at w) a n

-- a child field: its head at a, then its names
unfoldable pub call_at : List ℕ → ℕ → Call
call_at w a = record { callee = word w (a + 1); arguments = names_at w (a + 2) (word w (a + 0)) }

-- the address behind a child field
unfoldable pub after_call : List ℕ → ℕ → ℕ
after_call w a = a + (2 + 2 * word w (a + 0))

unfoldable pub calls_at : List ℕ → ℕ → ℕ → List Call
calls_at w a zero = []
calls_at w a (suc n) = call_at w a ∷ calls_at w (after_call w a) n

-- the address of the head behind k child fields, the first of them at a
unfoldable pub head_after : List ℕ → ℕ → ℕ → ℕ
head_after w a zero = a
head_after w a (suc k) = head_after w (after_call w a) k

-- ── instructions ─────────────────────────────────────────────────────────────────
-- what stands for an instruction where the number is that of none: `E`, as past a routine's last one
abbrev pub no_instruction : Instruction
no_instruction = end

-- by the five words of its entry
unfoldable pub instruction_of : List ℕ → ℕ → ℕ → ℕ → ℕ → ℕ → Instruction
instruction_of w kind operand cells first second =
    cond (eqb kind 1) (assign operand (pieces_at w cells first))
    (cond (eqb kind 2) (schedule operand (pieces_at w cells first) (pieces_at w (cells + 2 * first) second))
    (cond (eqb kind 3) (branch (pieces_at w cells first) operand)
    (cond (eqb kind 4) (jump operand)
    (cond (eqb kind 5) (wait (names_at w cells first))
    (cond (eqb kind 6) (fork (calls_at w cells first))
    (cond (eqb kind 7) end no_instruction))))))

-- the instruction whose entry stands at e
unfoldable pub instruction_at_entry : List ℕ → ℕ → Instruction
instruction_at_entry w e = instruction_of w (word w (e + 0)) (word w (e + 1)) (word w (e + 2)) (word w (e + 3)) (word w (e + 4))

unfoldable pub code_at_entry : List ℕ → ℕ → ℕ → List Instruction
code_at_entry w e zero = []
code_at_entry w e (suc n) = instruction_at_entry w e ∷ code_at_entry w (e + 5) n

-- ── routines ─────────────────────────────────────────────────────────────────────
unfoldable pub kinds_of_bits : ℕ → ℕ → List Kind
kinds_of_bits zero bits = []
kinds_of_bits (suc n) bits = cond (eqb (bits % 2) 1) by_reference by_value ∷ kinds_of_bits n (bits / 2)

-- the routine whose entry stands at a
unfoldable pub routine_at_entry : List ℕ → ℕ → Routine
routine_at_entry w a =
    record {
      kinds = kinds_of_bits (word w (a + 0)) (word w (a + 1));
      locals = word w (a + 2);
      code = code_at_entry w (entry_area + 5 * word w (a + 3)) (word w (a + 4));
    }

unfoldable pub routines_at_entry : List ℕ → ℕ → ℕ → List Routine
routines_at_entry w a zero = []
routines_at_entry w a (suc n) = routine_at_entry w a ∷ routines_at_entry w (a + 5) n

-- ── by number: where routine r's entry stands, and that of its instruction `place` ──
abbrev pub routine_entry : ℕ → ℕ
routine_entry r = routine_area + 5 * r

abbrev pub instruction_entry : List ℕ → ℕ → ℕ → ℕ
instruction_entry w r place = entry_area + 5 * word w (routine_entry r + 3) + 5 * place

-- the numbers of a routine's names and of its instructions
abbrev pub names_of : List ℕ → ℕ → ℕ
names_of w r = word w (routine_entry r + 0) + word w (routine_entry r + 2)

abbrev pub size_of : List ℕ → ℕ → ℕ
size_of w r = word w (routine_entry r + 4)

-- ── the whole ────────────────────────────────────────────────────────────────────
unfoldable pub table_listing : List ℕ → Listing
table_listing w = record { inputs = word w 0; outputs = word w 1; routines = routines_at_entry w routine_area (word w 2) }
