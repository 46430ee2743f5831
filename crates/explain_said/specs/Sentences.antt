-- What a listing has to meet, a rule for each question that the loader puts (document 01, "The questions"), and how to mend one that does not.
use Rattle.std.specs.Prelude.{List, [], ◌∷◌, ℕ, get_or}
use Prim.Native.String.{String}
use Rattle.listing.specs.Bytes.{Bytes, bytes_of}

-- "1 Are the lent memories long enough? Table 12,288 words of 32 bits, machine 12,288, output lists 16 each; the two input lists equally long."
abbrev pub question1 : String
question1 = "The lent memories are long enough: table and machine 12,288 words each, output lists 16 each, the two input lists equally long. Mend the program that lends them; the listing is not at fault."

-- "2 Has every line its form, and does the last end in a line feed?"
abbrev pub question2 : String
question2 = "Every line has its form, and the last ends in a line feed. Look for a wrong letter, a field too few or too many, a second space or tab, a leading zero, a carriage return or a blank line."

-- "3 Are the limits met?"
abbrev pub question3 : String
question3 = "The limits are met: 49,152 bytes, 64 routines, 512 instructions, 16 names in a routine, 4,096 pieces. Shorten the listing; the line is the first that passes a limit."

-- "4 Does every name, routine, jump and argument count point to something there? Is main as stated (place: its `R`, or 1 without one)?"
abbrev pub question4 : String
question4 = "Every name, routine, jump and argument count points to something there, and main is there with one argument r for each input and output. Compare the line with its routine's R line and with line 1; all are numbered from 0."

-- "5 Has every routine a line (place: its `R`), the last being `E` or `G`?"
abbrev pub question5 : String
question5 = "Every routine has an instruction, and its last is E or G. Add the missing E or G after the line."

-- by number, none for 0
unfoldable pub sentences : List Bytes
sentences = [] ∷ bytes_of question1 ∷ bytes_of question2 ∷ bytes_of question3 ∷ bytes_of question4 ∷ bytes_of question5 ∷ []

-- the sentences for a question; none for other numbers
abbrev pub sentence_of : ℕ → Bytes
sentence_of number = get_or sentences number []
