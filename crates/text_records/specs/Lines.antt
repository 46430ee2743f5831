-- What the reader gives for a line.
use Rattle.std.specs.Prelude as P
use Rattle.std.specs.Prelude.{Some, None, Bool, cond, List, ℕ, eqb, leb, get_or, drop}
use Rattle.listing.specs.Bytes.{Bytes}
use Rattle.listing.specs.Form.{fields_of, read_record}
use Rattle.listing.specs.Listing as L
use Rattle.text_place.specs.Texts.{first_line, line_end}
use Rattle.text_place.specs.Places.{passed}
use Rattle.text_place.specs.declared.place.Place.{Place}
use Rattle.text_jumps.specs.Records.{as_rest}
use Rattle.text_jumps.specs.declared.scope.Scope.{Scope}
use Rattle.text_jumps.specs.declared.record.Record.{Record}
use Rattle.text_jumps.specs.declared.record.Record.TheVariants as CV
use Rattle.text_fields.specs.declared.field.Read.{Read}

-- the line at a place
abbrev pub line_answer : List L.Routine → Scope → Bytes → Place → P.Option (Read Record)
line_answer routines scope s p =
    let end = line_end s p.offset in
    as_rest routines scope (read_record (fields_of (first_line (drop p.offset s)))) (get_or s end 0) (passed s p.line end)

-- the place of a question, of which 0 says that no line is refused
abbrev pub some_place : ℕ → P.Option ℕ
some_place place = cond (eqb place 0) None (Some place)

abbrev pub stands_on : ℕ → Record → Bool
stands_on line (CV.Ports i o) = eqb line 1
stands_on line (CV.Opens arguments locals by_reference) = leb 2 line
stands_on line (CV.Instruction pieces there last) = leb 3 line
