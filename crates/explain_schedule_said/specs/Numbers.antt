-- The sentences of the reasons by number, each with its figure.
use Rattle.std.specs.Prelude.{cond, List, [], ◌∷◌, ◌++◌, map, ℕ, ltb, get_or}
use Prim.Native.String.{String}
use Rattle.listing.specs.Bytes.{Bytes, bytes_of, figure}

-- from 0, which is no reason
abbrev pub sentences : List String
sentences =
    "nothing is wrong"
    ∷ "nothing stands here: the line is blank, two tabs or spaces follow each other, or one ends the line"
    ∷ "a carriage return stands here: a line ends in a line feed alone"
    ∷ "a byte that is not ASCII stands here"
    ∷ "spaces stand where tabs belong: one tab parts two fields"
    ∷ "the number of fields is wrong: line 1 is a date and has 3, year, month and day"
    ∷ "the number of fields is wrong: a window has 4, input, weekday, opening and closing minute"
    ∷ "the schedule is empty: line 1 is the date on which moment 0 is midnight"
    ∷ "this is no figure: digits alone, no zero in front, no sign"
    ∷ "one piece alone stands in this field: a space parts it in two"
    ∷ "the last line lacks its line feed"
    ∷ "no such year: they go from 2000 to 2199"
    ∷ "no such month: they go from 1 to 12"
    ∷ "no such input: they are numbered from 0 to 15"
    ∷ "no such weekday: they go from 1, Monday, to 7, Sunday"
    ∷ "no such closing minute: a window closes at 1,440, midnight, at the latest"
    ∷ "no such day: they are numbered from 1; this month has "
    ∷ "this opening minute is not below the closing minute, which is "
    ∷ []

unfoldable pub number_texts : List Bytes
number_texts = map bytes_of sentences

-- the sentence of a reason; none for other numbers
abbrev pub number_text : ℕ → Bytes
number_text why = get_or number_texts why []

-- behind the last two, the days of the month, the closing minute
unfoldable pub allowed_text : ℕ → ℕ → Bytes
allowed_text why allowed = cond (ltb why 16) [] (figure allowed)

unfoldable pub why_text : ℕ → ℕ → Bytes
why_text why allowed = number_text why ++ allowed_text why allowed
