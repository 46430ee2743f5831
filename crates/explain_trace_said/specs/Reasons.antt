-- The sentences of the reasons (explain_trace `Reason` has the words of document 01 that each renders), and of the codes of a session (document 01, "The session"
-- and "The questions").
use Rattle.std.specs.Prelude.{List, [], ◌∷◌, ◌++◌, map, ℕ, get_or, Option, Some, None}
use Prim.Native.String.{String}
use Rattle.listing.specs.Bytes.{Bytes, bytes_of, line_feed, join, figure}
use Rattle.explain_fields.specs.declared.reasons.Fault.{Fault}
use Rattle.explain_said.specs.Reasons.{strange_sentence, with_figure}
use Rattle.explain_said.specs.Spots.{spot_text}
use Rattle.explain_trace.specs.declared.reasons.Reason.{Reason}
use Rattle.explain_trace.specs.declared.reasons.Reason.TheVariants as WV

abbrev pub sentence : Reason → String
sentence (WV.Strange strange) = strange_sentence strange
sentence WV.NoSuchLetter = "no line begins so: the letters are I and Q"
sentence WV.FieldCount = "the number of fields is wrong: after the letter I has 3, time, input and value; Q has 1, time"
sentence WV.BadTime = "this is no time: digits alone, no zero in front, no sign, at most 18446744073709551615"
sentence WV.BadInput = "this is no input number: digits alone, no zero in front, no sign, at most 4294967295"
sentence WV.BadValue = "this is no value: from -2147483648 to 2147483647, no zero and no plus in front"
sentence WV.SecondPiece = "one piece alone stands in this field: a space parts it in two"
sentence WV.NoForm = "the line has no form"
sentence WV.NoLineFeed = "the last line lacks its line feed"
sentence WV.NoLast = "the trace ends here without Q: its last line is Q with a time"
sentence WV.AfterLast = "this line stands after Q, which is the last"
sentence (WV.NotAfter n) = "this time is not after the present moment: times rise, the first is at least 1; here above "
sentence (WV.NoInput n) = "no such input: they are numbered from 0; this listing has "
sentence (WV.NotRising n) = "the inputs of one time are listed in rising order, each once: here from "

-- behind these, the time that is to be passed, the number of inputs, the least number
abbrev pub counted : Reason → Option ℕ
counted (WV.NotAfter time) = Some time
counted (WV.NoInput inputs) = Some inputs
counted (WV.NotRising least) = Some least
counted _ = None

-- a reason, with the figure behind it
abbrev pub reason_text : Reason → Bytes
reason_text why = with_figure (bytes_of (sentence why)) (counted why)

-- what is wrong in a line, by how a reason is said, and where, or that nothing is
abbrev pub fault_said : {R : Type 0} → (R → Bytes) → Bytes → Option (Fault R) → Bytes
fault_said said line (Some fault) = spot_text line fault.spot ++ said fault.why
fault_said said line None = bytes_of "nothing is wrong"

abbrev pub fault_text : Bytes → Option (Fault Reason) → Bytes
fault_text line fault = fault_said reason_text line fault

-- the rules of the codes that a session may end with, by their number; none for other numbers
abbrev pub rules : List String
rules =
    ""
    ∷ ""
    ∷ "A trace has lines I with time, input and value, and last Q with a time. One tab parts two fields, and each line ends in a line feed."
    ∷ ""
    ∷ ""
    ∷ ""
    ∷ ""
    ∷ ""
    ∷ ""
    ∷ "The time of each call is after the present moment, which is that of the call before it, or 0. Inputs of one time are one call and stand together."
    ∷ ""
    ∷ "The inputs of a call are below the listing's number of inputs, and rise. An input stands at most once in a call."
    ∷ ""
    ∷ "A step is left: in a session an instant reaches at most 10,000 instructions. Look for a loop without W."
    ∷ "At F the live routines and the new children are at most 64. Look for children that never end."
    ∷ "At F the routine's level is at most 9: main is at level 0, a child one deeper. Look for a routine that forks itself."
    ∷ "At A the delay is at least 1 millisecond."
    ∷ "At A the due moment is below 2 to the 64."
    ∷ "At S, U and A every divisor of / and % is other than 0, at A in the delay first, then in the value, before code 16. Look for a name that may be 0."
    ∷ []

unfoldable pub rule_texts : List Bytes
rule_texts = map bytes_of rules

abbrev pub rule_text : ℕ → Bytes
rule_text code = get_or rule_texts code []

-- a code and its rule
unfoldable pub code_text : ℕ → Bytes
code_text code = bytes_of "\nCode " ++ (figure code ++ (bytes_of ": " ++ (rule_text code ++ bytes_of "\n")))

-- all of them, one to a line
unfoldable pub joined_rules : Bytes
joined_rules = join line_feed rule_texts
