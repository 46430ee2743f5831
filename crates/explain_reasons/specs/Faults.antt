-- The reason at a place, for each question that the loader puts.
use Rattle.std.specs.Prelude.{cond, [], ◌∷◌, ℕ, eqb, leb, length, get_or, Option, Some, None}
use Prim.Native.Char.{code}
use Rattle.listing.specs.Bytes.{Bytes, line_feed, split}
use Rattle.explain_fields.specs.declared.reasons.Reason.{Reason}
use Rattle.explain_fields.specs.declared.reasons.Reason.TheVariants as WV
use Rattle.explain_fields.specs.declared.reasons.Fault.{Fault}
use Rattle.explain_fields.specs.Fields.{about}
use Rattle.explain_lines.specs.Lines.{line_fault}
use Rattle.explain_there.specs.There.{there_fault}
use Rattle.explain_reasons.specs.Tallies.{limit_why}

-- "does the last end in a line feed? An empty listing: place 1."
unfoldable pub unclosed_why : Bytes → Reason
unclosed_why [] = WV.EmptyListing
unclosed_why (byte ∷ text) = WV.NoLineFeed

-- question 2, "Has every line its form, and does the last end in a line feed?": what comes after the last line feed is the text's last part
unfoldable pub form_fault : Bytes → ℕ → Bytes → Option (Fault Reason)
form_fault text place line = cond (leb (length (split line_feed text)) place) (Some (about (unclosed_why text))) (line_fault place line)

-- question 5, "Has every routine a line (place: its `R`), the last being `E` or `G`?"
unfoldable pub ending_why : Bytes → Reason
ending_why line = cond (eqb (get_or line 0 0) (code "R")) WV.NoInstruction WV.NoEnd

-- a text, the number of its question that fails, the place, and the line there
unfoldable pub fault_at : Bytes → ℕ → ℕ → Bytes → Option (Fault Reason)
fault_at text number place line =
    cond (eqb number 2) (form_fault text place line)
    (cond (eqb number 3) (Some (about (limit_why text place)))
    (cond (eqb number 4) (Some (there_fault text place line))
    (cond (eqb number 5) (Some (about (ending_why line))) None)))
