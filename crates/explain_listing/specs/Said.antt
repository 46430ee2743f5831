-- What the program says of a listing, and how it is called.
use Rattle.std.specs.Prelude.{◌≡◌, List, [], ◌∷◌, ◌++◌, ℕ, zero, suc, ◌-◌, ◌≤◌, Result, Ok, Err}
use Rattle.listing.specs.Bytes.{Bytes, bytes_of, figure, line_feed, space}
use Rattle.session_print.specs.Puts.{Puts}
use Rattle.explain_parts.specs.Parts.{part_of}
use Rattle.explain_parts.specs.Shown.{shown}
use Rattle.explain_reasons.specs.Faults.{fault_at}
use Rattle.explain_said.specs.Spots.{fault_text}
use Rattle.explain_said.specs.Sentences.{sentence_of}
use Rattle.explain_listing.specs.Verdicts.{VerdictOn}
use Rattle.explain_listing.specs.declared.verdict.Refusal.{Refusal}
use Rattle.explain_listing.specs.declared.verdict.Refusal.TheVariants as RV

-- the sentences for a question as a line
abbrev pub rule_line : ℕ → Bytes
rule_line number = sentence_of number ++ (line_feed ∷ [])

-- the number of a question and its rule
unfoldable pub question_line : ℕ → Bytes
question_line number = bytes_of "\nQuestion " ++ (figure number ++ (bytes_of ": " ++ rule_line number))

-- the file and the line
unfoldable pub headline : Bytes → ℕ → Bytes
headline path place = shown 4096 path ++ (bytes_of ":" ++ (figure place ++ bytes_of ": "))

-- the reason at a line, the line as it is shown, and the rule
unfoldable pub reasoned : Bytes → ℕ → ℕ → Bytes → Bytes
reasoned listing number place line =
    fault_text line (fault_at listing number place line) ++ (bytes_of "\n    " ++ (shown 120 line ++ question_line number))

-- a question that fails: where (the first line has no lines before it), why, and its rule
unfoldable pub refusal : Bytes → Bytes → ℕ → ℕ → Bytes
refusal path listing number place = headline path place ++ reasoned listing number place (part_of line_feed listing (place - 1))

-- a file's name and what is said of it
abbrev pub named : Bytes → Bytes → Bytes
named path text = shown 4096 path ++ text

-- what is said of a listing
unfoldable pub verdict_line : Bytes → Bytes → Result (Unit {0}) Refusal → Bytes
verdict_line path listing (Err RV.TooLong) = named path (bytes_of ": The file is too long: a listing has at most 49,152 bytes. A session ends with code 3.\n")
verdict_line path listing (Ok u) = named path (bytes_of ": It loads.\n")
verdict_line path listing (Err (RV.Fails number place)) = refusal path listing number place

pub record VerdictSaid (path listing before after : Bytes) (count : ℕ) : Type 0 where
  pub verdict : Result (Unit {0}) Refusal
  pub is : VerdictOn listing verdict
  pub puts : Puts before 0 (verdict_line path listing verdict) after count
  pub few : count ≤ 50000

-- what is said of a file: nothing if it cannot be read; which bytes it has, std does not promise
pub data FileSaid (path before after : Bytes) : ℕ → Type 0 where
  unread : after ≡ before → FileSaid path before after 0
  read : {listing : Bytes} {count : ℕ} → VerdictSaid path listing before after count → FileSaid path before after count

-- the first so many rules, numbered from 1
unfoldable pub rules : ℕ → Bytes
rules zero = []
rules (suc n) = rules n ++ (figure (suc n) ++ (space ∷ rule_line (suc n)))

unfoldable pub opening : Bytes
opening = bytes_of "usage: explain LISTING [-t TRACE] ..\nLISTING and TRACE are files. A listing is loaded only if all of these hold, asked in this order:\n"

-- how to call the program
abbrev pub usage : Bytes
usage = opening ++ rules 5
