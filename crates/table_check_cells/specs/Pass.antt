-- What the check of a routine's instructions computes on a table's words: one pass, with a running address of the cells.
-- The words are compared with those of what they decode to, and what they decode to is asked question 6's conditions.
use Rattle.std.specs.Prelude.{Bool, true, cond, ◌&&◌, ◌||◌, List, [], ◌∷◌, ℕ, zero, suc, ◌+◌, ◌*◌, ◌<◌, eqb, ltb, leb, length, get_or, Option, Some, None, option_and_then}
use Rattle.listing.specs.Lists.{all}
use Rattle.listing.specs.Listing.{Instruction, Routine}
use Rattle.listing.specs.Expressions.{effect_of, leaves_one_from}
use Rattle.listing.specs.Questions.{piece_is_there, call_is_there, is_there}
use Rattle.listing.specs.WellFormed.{instruction_has_form}
use Rattle.listing_effect.specs.Held.{held_by, as_effect}
use Rattle.listing_effect.specs.declared.Effect.{Effect}
use Rattle.table.specs.Areas.{cell_end, words_of_each, piece_words, name_words, call_words, cell_words, entry_words, all_cells, all_entries}
use Rattle.table.specs.Decode.{word, piece_of, piece_at, pieces_at, names_at, calls_at, instruction_at_entry, table_listing}

-- every word has 32 bits
abbrev pub Words : List ℕ → Type 0
Words w = (a : ℕ) → word w a < 4294967296

-- the words from a on begin with these
unfoldable pub same_at : List ℕ → ℕ → List ℕ → Bool
same_at w a [] = true
same_at w a (x ∷ xs) = eqb (word w a) x && same_at w (a + 1) xs

abbrev pub routines_in : List ℕ → List Routine
routines_in w = (table_listing w).routines

-- ── expressions ──────────────────────────────────────────────────────────────────
-- is it the number of a name's value or mark?
unfoldable pub is_named : ℕ → Bool
is_named kind = eqb kind 1 || eqb kind 2

-- what a piece of this kind does to the values held
unfoldable pub effect_by : ℕ → Effect
effect_by kind = as_effect (effect_of (piece_of kind 0))

-- the two words of a cell: the piece that they stand for has its name there, and these are its words
unfoldable pub piece_test : ℕ → ℕ → ℕ → Bool
piece_test names kind value = let p = piece_of kind value in piece_is_there names p && (eqb kind (get_or (piece_words p) 0 0) && eqb value (get_or (piece_words p) 1 0))

-- the values held after the piece at a; 9 for a no
unfoldable pub held_past : List ℕ → ℕ → ℕ → ℕ → ℕ
held_past w names held a =
    let p = piece_at w a in cond (piece_is_there names p && same_at w a (piece_words p)) (held_by held (effect_of p)) 9

-- n pieces from a on, with so many values held before them
unfoldable pub expression_test : List ℕ → ℕ → ℕ → ℕ → ℕ → Bool
expression_test w names held a n =
    let e = pieces_at w a n in leaves_one_from held e && (all (piece_is_there names) e && same_at w a (words_of_each piece_words e))

-- ── names and child fields ───────────────────────────────────────────────────────
unfoldable pub names_test : List ℕ → ℕ → ℕ → ℕ → Bool
names_test w names a n = let ns = names_at w a n in all (λ m. ltb m names) ns && same_at w a (words_of_each name_words ns)

-- the address behind n words of cells from `cells` on, that end in their area and pass; none for a no
unfoldable pub cells_past : ℕ → Bool → ℕ → Bool → Option ℕ
cells_past cells entry n passes = cond (entry && (leb (cells + n) cell_end && passes)) (Some (cells + n)) None

-- the head of a child field: its routine is there and takes so many arguments
unfoldable pub head_test : List ℕ → ℕ → Bool
head_test w a = ltb (word w (a + 1)) (word w 2) && eqb (word w (a + 0)) (word w (8 + 5 * word w (a + 1) + 0))

unfoldable pub calls_past : List ℕ → ℕ → ℕ → ℕ → Option ℕ
calls_past w names a n =
    let cs = calls_at w a n in
    cells_past a (all (call_is_there (routines_in w) names) cs) (length (words_of_each call_words cs)) (same_at w a (words_of_each call_words cs))

-- ── instructions ─────────────────────────────────────────────────────────────────
-- what questions 2 and 4 ask of an instruction in a routine of so many names and instructions
unfoldable pub instruction_passes : List Routine → ℕ → ℕ → Instruction → Bool
instruction_passes routines names size i = instruction_has_form i && is_there routines names size i

-- it passes, its entry stands at e and its cells from `cells` on
unfoldable pub instruction_test : List ℕ → ℕ → ℕ → ℕ → ℕ → Instruction → Bool
instruction_test w names size e cells i =
    instruction_passes (routines_in w) names size i
    && (leb (cells + length (cell_words i)) cell_end && (same_at w e (entry_words cells i) && same_at w cells (cell_words i)))

-- the address behind the cells of the instruction whose entry stands at e; none for a no
unfoldable pub entry_past : List ℕ → ℕ → ℕ → ℕ → ℕ → Option ℕ
entry_past w names size e cells =
    let i = instruction_at_entry w e in cond (instruction_test w names size e cells i) (Some (cells + length (cell_words i))) None

-- ── n entries from e on ──────────────────────────────────────────────────────────
unfoldable pub code_past : List ℕ → ℕ → ℕ → ℕ → ℕ → ℕ → Option ℕ
code_past w names size e cells zero = Some cells
code_past w names size e cells (suc n) = option_and_then (λ m. code_past w names size (e + 5) m n) (entry_past w names size e cells)

-- these instructions pass, their entries stand from e on and their cells from `cells` on
unfoldable pub code_test : List ℕ → ℕ → ℕ → ℕ → ℕ → List Instruction → Bool
code_test w names size e cells is =
    all (instruction_passes (routines_in w) names size) is
    && (leb (cells + length (all_cells is)) cell_end && (same_at w e (all_entries cells is) && same_at w cells (all_cells is)))
