-- The listings that some text loads to: what questions 2 to 5 of document 01 demand of a listing.
use Rattle.std.specs.Prelude.{Bool, true, ◌&&◌, map, ℕ, ltb, leb, length}
use Rattle.listing.specs.Lists.{all, total, all_yes}
use Rattle.listing.specs.Listing.{Piece, literal, value_of, written_mark, plus, minus, times, less, divide, remainder, Expression, Instruction, assign, schedule, branch, jump, wait, fork, end, Line, ports, opens, instruction, Routine, Listing, name_count}
use Rattle.listing.specs.Expressions.{word_range, leaves_one}
use Rattle.listing.specs.Form.{one_to, most_names_awaited, most_children}
use Rattle.listing.specs.Text.{text_of}
use Rattle.listing.specs.Limits.{byte_limit, routine_limit, instruction_limit, name_limit, piece_limit, instruction_pieces}
use Rattle.listing.specs.Questions.{there_answers, ending_answers}

-- ── question 2: what a text's form demands of what it says ───────────────────────
-- a literal is a word
unfoldable pub piece_has_form : Piece → Bool
piece_has_form (literal v) = ltb v word_range
piece_has_form (value_of n) = true
piece_has_form (written_mark n) = true
piece_has_form plus = true
piece_has_form minus = true
piece_has_form times = true
piece_has_form less = true
piece_has_form divide = true
piece_has_form remainder = true

-- "It leaves one value and never holds more than 8"
abbrev pub expression_has_form : Expression → Bool
expression_has_form expression = all piece_has_form expression && leaves_one expression

unfoldable pub instruction_has_form : Instruction → Bool
instruction_has_form (assign n e) = expression_has_form e
instruction_has_form (schedule n d e) = expression_has_form d && expression_has_form e
instruction_has_form (branch e k) = expression_has_form e
instruction_has_form (jump k) = true
instruction_has_form (wait names) = one_to most_names_awaited names
instruction_has_form (fork calls) = one_to most_children calls
instruction_has_form end = true

unfoldable pub line_has_form : Line → Bool
line_has_form (ports i o) = true
line_has_form (opens kinds locals) = true
line_has_form (instruction i) = instruction_has_form i

unfoldable pub has_form : Listing → Bool
has_form listing = all (λ routine. all instruction_has_form routine.code) listing.routines

-- ── question 3, but for the bytes ────────────────────────────────────────────────
abbrev pub routine_instructions : Routine → ℕ
routine_instructions routine = length routine.code

abbrev pub routine_pieces : Routine → ℕ
routine_pieces routine = total (map instruction_pieces routine.code)

unfoldable pub meets_counts : Listing → Bool
meets_counts listing =
    leb (length listing.routines) routine_limit
    && leb (total (map routine_instructions listing.routines)) instruction_limit
    && leb (total (map routine_pieces listing.routines)) piece_limit
    && all (λ routine. leb (name_count routine) name_limit) listing.routines

-- ── the whole ────────────────────────────────────────────────────────────────────
unfoldable pub well_formed_but_for_length : Listing → Bool
well_formed_but_for_length listing = has_form listing && meets_counts listing && all_yes (there_answers listing) && all_yes (ending_answers listing)

unfoldable pub well_formed : Listing → Bool
well_formed listing = well_formed_but_for_length listing && leb (length (text_of listing)) byte_limit
