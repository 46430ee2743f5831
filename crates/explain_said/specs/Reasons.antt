-- The sentences of the reasons (explain_fields `Reason` has the words of document 01 that each renders).
use Rattle.std.specs.Prelude.{◌++◌, ℕ, Option, Some, None}
use Prim.Native.String.{String}
use Rattle.listing.specs.Bytes.{Bytes, bytes_of, figure}
use Rattle.explain_fields.specs.declared.reasons.Strange.{Strange}
use Rattle.explain_fields.specs.declared.reasons.Strange.TheVariants as SV
use Rattle.explain_fields.specs.declared.reasons.Reason.{Reason}
use Rattle.explain_fields.specs.declared.reasons.Reason.TheVariants as WV

abbrev pub strange_sentence : Strange → String
strange_sentence SV.Nothing = "nothing stands here: the line is blank, two tabs or spaces follow each other, or one ends the line"
strange_sentence SV.CarriageReturn = "a carriage return stands here: a line ends in a line feed alone"
strange_sentence SV.NotAscii = "a byte that is not ASCII stands here"
strange_sentence SV.SpacesForTabs = "spaces stand where tabs belong: one tab parts two fields"

abbrev pub sentence : Reason → String
sentence (WV.Strange strange) = strange_sentence strange
sentence WV.NoSuchLetter = "no record begins so: the letters are P, R, S, A, U, G, W, F and E"
sentence WV.FieldCount = "the number of fields is wrong: after the letter P, R, S and U have 2, A has 3, G and W have 1, E has none"
sentence WV.ChildCount = "the number of children is wrong: F has 1 to 8, a field for each"
sentence WV.BadFigure = "this is no figure: digits alone, no zero in front, no sign"
sentence WV.SecondPiece = "one piece alone stands in this field: a space parts it in two"
sentence WV.BadKinds = "these are no kinds: a letter r or v for each argument, or - for none"
sentence WV.BadPiece = "this is no piece: #v with v from -2147483648 to 2147483647, n, @n, +, -, *, <, / or %, without a zero in front"
sentence WV.LacksOperand = "this sign lacks an operand: it takes the two values before it"
sentence WV.NinthValue = "this is a ninth value: an expression holds at most 8"
sentence WV.LeavesSeveral = "the expression leaves more than one value: a sign is missing"
sentence WV.FifthName = "this is a fifth name: W waits on 1 to 4"
sentence WV.PortsLater = "P stands on line 1 alone"
sentence WV.FirstLine = "line 1 is P with the numbers of inputs and outputs"
sentence WV.SecondLine = "line 2 is the R of main"
sentence WV.NoLineFeed = "the last line lacks its line feed"
sentence WV.EmptyListing = "the listing is empty: line 1 is P with the numbers of inputs and outputs"
sentence WV.ManyBytes = "the listing is too long: byte 49,153 stands on this line"
sentence WV.ManyRoutines = "this is routine 65: at most 64"
sentence WV.ManyNames = "the routine has too many names: arguments and locals are at most 16"
sentence WV.ManyInstructions = "this is instruction 513: at most 512 in all"
sentence WV.ManyPieces = "the pieces are too many: at most 4,096 after the letters of instruction lines"
sentence WV.NoInstruction = "this routine has no instruction: it ends in E or G"
sentence WV.NoEnd = "this is the last instruction of its routine: it is E or G"
sentence (WV.NoName n) = "no such name: they are numbered from 0, arguments first; this routine has "
sentence (WV.NoJump n) = "no such instruction: they are numbered from 0 in their routine; this one has "
sentence (WV.NoRoutine n) = "no such routine: they are numbered from 0; this listing has "
sentence WV.ArgumentCount = "a child has too many or too few arguments: one for each kind of the routine that it calls"
sentence WV.NoMain = "main is missing: its R is line 2"
sentence WV.MainAsStated = "main has one argument r for each input and output, and no other"

-- behind these, how many there are: a name, an instruction, a routine
abbrev pub counted : Reason → Option ℕ
counted (WV.NoName n) = Some n
counted (WV.NoJump n) = Some n
counted (WV.NoRoutine n) = Some n
counted _ = None

abbrev pub with_figure : Bytes → Option ℕ → Bytes
with_figure text (Some n) = text ++ figure n
with_figure text None = text

-- a reason, with the figure behind it
abbrev pub reason_text : Reason → Bytes
reason_text why = with_figure (bytes_of (sentence why)) (counted why)
