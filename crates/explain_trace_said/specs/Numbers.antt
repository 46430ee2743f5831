-- The sentences of the reasons by number, each with its figure.
use Rattle.std.specs.Prelude.{cond, List, [], ◌∷◌, ◌++◌, map, ℕ, ltb, get_or}
use Prim.Native.String.{String}
use Rattle.listing.specs.Bytes.{Bytes, bytes_of, figure}

-- from 0, which is no reason
abbrev pub sentences : List String
sentences =
    "nothing is wrong"
    ∷ "nothing stands here: the line is blank, two tabs or spaces follow each other, or one ends the line"
    ∷ "a carriage return stands here: a line ends in a line feed alone"
    ∷ "a byte that is not ASCII stands here"
    ∷ "spaces stand where tabs belong: one tab parts two fields"
    ∷ "no line begins so: the letters are I and Q"
    ∷ "the number of fields is wrong: after the letter I has 3, time, input and value; Q has 1, time"
    ∷ "this is no time: digits alone, no zero in front, no sign, at most 18446744073709551615"
    ∷ "this is no input number: digits alone, no zero in front, no sign, at most 4294967295"
    ∷ "this is no value: from -2147483648 to 2147483647, no zero and no plus in front"
    ∷ "one piece alone stands in this field: a space parts it in two"
    ∷ "the line has no form"
    ∷ "the last line lacks its line feed"
    ∷ "the trace ends here without Q: its last line is Q with a time"
    ∷ "this line stands after Q, which is the last"
    ∷ "this time is not after the present moment: times rise, the first is at least 1; here above "
    ∷ "no such input: they are numbered from 0; this listing has "
    ∷ "the inputs of one time are listed in rising order, each once: here from "
    ∷ []

unfoldable pub number_texts : List Bytes
number_texts = map bytes_of sentences

-- the sentence of a reason; none for other numbers
abbrev pub number_text : ℕ → Bytes
number_text why = get_or number_texts why []

-- behind the last three, the time that is to be passed, the number of inputs, the least number
unfoldable pub allowed_text : ℕ → ℕ → Bytes
allowed_text why allowed = cond (ltb why 15) [] (figure allowed)

unfoldable pub why_text : ℕ → ℕ → Bytes
why_text why allowed = number_text why ++ allowed_text why allowed
