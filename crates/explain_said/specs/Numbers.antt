-- The sentences of the reasons by number, and where in its line a reason applies by the numbers of its field and its piece.
use Rattle.std.specs.Prelude.{List, [], ◌∷◌, map, ◌++◌, ℕ, zero, suc, ◌-◌, get_or}
use Prim.Native.String.{String}
use Rattle.listing.specs.Bytes.{Bytes, bytes_of, tab, figure}
use Rattle.explain_parts.specs.Parts.{part_of}
use Rattle.explain_fields.specs.declared.reasons.Spot.{Spot}
use Rattle.explain_fields.specs.declared.reasons.Spot.TheVariants as PV
use Rattle.explain_said.specs.Spots.{piece_text}

-- from 0, the number of a rule that has no reasons of its own
abbrev pub sentences : List String
sentences =
    "the line does not meet the rule below"
    ∷ "nothing stands here: the line is blank, two tabs or spaces follow each other, or one ends the line"
    ∷ "a carriage return stands here: a line ends in a line feed alone"
    ∷ "a byte that is not ASCII stands here"
    ∷ "spaces stand where tabs belong: one tab parts two fields"
    ∷ "no record begins so: the letters are P, R, S, A, U, G, W, F and E"
    ∷ "the number of fields is wrong: after the letter P, R, S and U have 2, A has 3, G and W have 1, E has none"
    ∷ "the number of children is wrong: F has 1 to 8, a field for each"
    ∷ "this is no figure: digits alone, no zero in front, no sign"
    ∷ "one piece alone stands in this field: a space parts it in two"
    ∷ "these are no kinds: a letter r or v for each argument, or - for none"
    ∷ "this is no piece: #v with v from -2147483648 to 2147483647, n, @n, +, -, *, <, / or %, without a zero in front"
    ∷ "this sign lacks an operand: it takes the two values before it"
    ∷ "this is a ninth value: an expression holds at most 8"
    ∷ "the expression leaves more than one value: a sign is missing"
    ∷ "this is a fifth name: W waits on 1 to 4"
    ∷ "P stands on line 1 alone"
    ∷ "line 1 is P with the numbers of inputs and outputs"
    ∷ "line 2 is the R of main"
    ∷ "the last line lacks its line feed"
    ∷ "the listing is empty: line 1 is P with the numbers of inputs and outputs"
    ∷ "the listing is too long: byte 49,153 stands on this line"
    ∷ "this is routine 65: at most 64"
    ∷ "the routine has too many names: arguments and locals are at most 16"
    ∷ "this is instruction 513: at most 512 in all"
    ∷ "the pieces are too many: at most 4,096 after the letters of instruction lines"
    ∷ "this routine has no instruction: it ends in E or G"
    ∷ "this is the last instruction of its routine: it is E or G"
    ∷ "no such name: they are numbered from 0, arguments first; this routine has "
    ∷ "no such instruction: they are numbered from 0 in their routine; this one has "
    ∷ "no such routine: they are numbered from 0; this listing has "
    ∷ "a child has too many or too few arguments: one for each kind of the routine that it calls"
    ∷ "main is missing: its R is line 2"
    ∷ "main has one argument r for each input and output, and no other"
    ∷ []

unfoldable pub number_texts : List Bytes
number_texts = map bytes_of sentences

-- the sentence of a reason; none for other numbers
abbrev pub number_text : ℕ → Bytes
number_text why = get_or number_texts why []

-- a piece by the numbers of its field and its own; nothing for piece 0
unfoldable pub piece_part : Bytes → ℕ → ℕ → Bytes
piece_part line field zero = []
piece_part line field (suc piece) = bytes_of ", piece " ++ (figure (suc piece) ++ piece_text (part_of tab line (field - 1)) (suc piece))

-- a field, the letter being field 1, and a piece in it; nothing for field 0
unfoldable pub place_text : Bytes → ℕ → ℕ → Bytes
place_text line zero piece = []
place_text line (suc field) piece = bytes_of "field " ++ (figure (suc field) ++ (piece_part line (suc field) piece ++ bytes_of ": "))

-- the spot with these numbers
abbrev pub spot_of : ℕ → ℕ → Spot
spot_of zero piece = PV.Line
spot_of (suc field) zero = PV.Field (suc field)
spot_of (suc field) (suc piece) = PV.Piece (suc field) (suc piece)
