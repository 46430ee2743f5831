-- The text of a listing (document 01, "The listing"): what its lines are written as.
use Rattle.std.specs.Prelude.{cond, List, [], ◌∷◌, ◌++◌, map, ℕ, ◌-◌, ltb}
use Prim.Native.Char.{code}
use Rattle.listing.specs.Bytes.{Bytes, tab, space, line_feed, join, figure}
use Rattle.listing.specs.Expressions.{half_range, word_range}
use Rattle.listing.specs.Form.{Field}
use Rattle.listing.specs.Listing.{Piece, literal, value_of, written_mark, plus, minus, times, less, divide, remainder, Expression, Call, Instruction, assign, schedule, branch, jump, wait, fork, end, Kind, by_reference, by_value, Line, ports, opens, instruction, Listing, lines_of}

-- ── pieces ───────────────────────────────────────────────────────────────────────
-- a word as a signed figure: the words from 2 ^ 31 on are the negative values
unfoldable pub signed_figure : ℕ → Bytes
signed_figure word = cond (ltb word half_range) (figure word) (code "-" ∷ figure (word_range - word))

unfoldable pub piece_text : Piece → Bytes
piece_text (literal v) = code "#" ∷ signed_figure v
piece_text (value_of n) = figure n
piece_text (written_mark n) = code "@" ∷ figure n
piece_text plus = code "+" ∷ []
piece_text minus = code "-" ∷ []
piece_text times = code "*" ∷ []
piece_text less = code "<" ∷ []
piece_text divide = code "/" ∷ []
piece_text remainder = code "%" ∷ []

unfoldable pub kind_text : Kind → ℕ
kind_text by_reference = code "r"
kind_text by_value = code "v"

unfoldable pub kinds_text : List Kind → Bytes
kinds_text [] = code "-" ∷ []
kinds_text (kind ∷ kinds) = map kind_text (kind ∷ kinds)

-- ── fields ───────────────────────────────────────────────────────────────────────
abbrev pub letter_field : ℕ → Field
letter_field letter = (letter ∷ []) ∷ []

abbrev pub figure_field : ℕ → Field
figure_field n = figure n ∷ []

abbrev pub expression_field : Expression → Field
expression_field expression = map piece_text expression

abbrev pub kinds_field : List Kind → Field
kinds_field kinds = kinds_text kinds ∷ []

unfoldable pub call_field : Call → Field
call_field call = map figure (call.callee ∷ call.arguments)

unfoldable pub instruction_fields : Instruction → List Field
instruction_fields (assign n e) = letter_field (code "S") ∷ figure_field n ∷ expression_field e ∷ []
instruction_fields (schedule n d e) = letter_field (code "A") ∷ figure_field n ∷ expression_field d ∷ expression_field e ∷ []
instruction_fields (branch e k) = letter_field (code "U") ∷ expression_field e ∷ figure_field k ∷ []
instruction_fields (jump k) = letter_field (code "G") ∷ figure_field k ∷ []
instruction_fields (wait names) = letter_field (code "W") ∷ map figure names ∷ []
instruction_fields (fork calls) = letter_field (code "F") ∷ map call_field calls
instruction_fields end = letter_field (code "E") ∷ []

unfoldable pub line_fields : Line → List Field
line_fields (ports i o) = letter_field (code "P") ∷ figure_field i ∷ figure_field o ∷ []
line_fields (opens kinds locals) = letter_field (code "R") ∷ kinds_field kinds ∷ figure_field locals ∷ []
line_fields (instruction i) = instruction_fields i

-- ── lines ────────────────────────────────────────────────────────────────────────
-- fields with one tab between each two, their pieces with one space
unfoldable pub join_fields : List Field → Bytes
join_fields fields = join tab (map (join space) fields)

-- a line without its line feed
abbrev pub line_text : Line → Bytes
line_text line = join_fields (line_fields line)

-- "each line closed by a line feed"
unfoldable pub lines_text : List Line → Bytes
lines_text [] = []
lines_text (line ∷ lines) = line_text line ++ (line_feed ∷ lines_text lines)

-- the text of a listing
abbrev pub text_of : Listing → Bytes
text_of listing = lines_text (lines_of listing)
