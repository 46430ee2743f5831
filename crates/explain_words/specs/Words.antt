-- The words of the command line, one after another: `explain [LISTING [-t TRACE] ..] [-s SCHEDULE] ..`.
use Rattle.std.specs.Prelude.{cond, ℕ, eqb, length, get_or, Option, Some}
use Prim.Native.Char.{code}
use Rattle.listing.specs.Bytes.{Bytes}
use Rattle.explain_words.specs.declared.Awaited.{Awaited}
use Rattle.explain_words.specs.declared.Awaited.TheVariants as AV
use Rattle.explain_words.specs.declared.Held.{Held}

-- what a word makes the next one: `-t` a trace, `-s` a schedule
unfoldable pub letter_flag : ℕ → Awaited
letter_flag letter = cond (eqb letter (code "t")) AV.Trace (cond (eqb letter (code "s")) AV.Schedule AV.Word)

unfoldable pub flag_of : Bytes → Awaited
flag_of word = cond (eqb (length word) 2) (cond (eqb (get_or word 0 0) (code "-")) (letter_flag (get_or word 1 0)) AV.Word) AV.Word

-- what is held after argument number k, this word: a word that is no flag, and none that a flag speaks of, is a listing
abbrev pub after_flag : ℕ → Option ℕ → Awaited → Held
after_flag k listing AV.Word = record { listing = Some k; awaited = AV.Word }
after_flag k listing AV.Trace = record { listing = listing; awaited = AV.Trace }
after_flag k listing AV.Schedule = record { listing = listing; awaited = AV.Schedule }

abbrev pub after_word : ℕ → Bytes → Option ℕ → Awaited → Held
after_word k word listing AV.Word = after_flag k listing (flag_of word)
after_word k word listing AV.Trace = record { listing = listing; awaited = AV.Word }
after_word k word listing AV.Schedule = record { listing = listing; awaited = AV.Word }

abbrev pub held_after : ℕ → Bytes → Held → Held
held_after k word held = after_word k word held.listing held.awaited
