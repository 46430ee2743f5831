-- What the reader gives for a record.
use Rattle.std.specs.Prelude as P
use Rattle.std.specs.Prelude.{Some, None, Bool, cond, ◌&&◌, List, [], map, ℕ, ◌+◌, min, eqb, ltb, length, get_or, drop, replicate}
use Rattle.std.proofs.Math.Option.{Option, none, some}
use Rattle.listing.specs.Lists.{all}
use Rattle.listing.specs.Bytes.{Bytes, tab}
use Rattle.listing.specs.Form.{Field}
use Rattle.listing.specs.Limits.{instruction_pieces}
use Rattle.listing.specs.Questions.{is_there, may_be_last, is_by_reference}
use Rattle.listing.specs.Listing as L
use Rattle.text_place.specs.Texts.{fields_left, line_end}
use Rattle.text_place.specs.Places.{passed}
use Rattle.text_piece.specs.Pieces.{cap}
use Rattle.text_place.specs.declared.place.Place.{Place}
use Rattle.text_fields.specs.declared.gathering.Gathering.{Gathering}
use Rattle.text_fields.specs.declared.field.Read.{Read}
use Rattle.text_jumps.specs.declared.scope.Scope.{Scope}
use Rattle.text_jumps.specs.declared.record.Record.{Record}
use Rattle.text_jumps.specs.declared.record.Record.TheVariants as CV

-- ── routines by their argument counts ────────────────────────────────────────────
abbrev pub stand_in : ℕ → L.Routine
stand_in count = record { kinds = replicate count L.Kind.by_reference; locals = 0; code = [] }

-- routines that take so many arguments each: a call is there among them exactly if it is there among any with these counts
unfoldable pub stand_ins : List ℕ → List L.Routine
stand_ins counts = map stand_in counts

-- a child field, by what is gathered from its figures
abbrev pub call_by : List ℕ → Gathering → Bool
call_by counts g = ltb g.first (length counts) && eqb g.count (1 + get_or counts g.first 0) && g.others

-- ── records ──────────────────────────────────────────────────────────────────────
-- what questions 3 to 5 ask of a record, in a routine of so many names and instructions
abbrev pub as_record : List L.Routine → Scope → L.Line → Record
as_record routines scope (L.Line.ports i o) = CV.Ports (min i cap) (min o cap)
as_record routines scope (L.Line.opens kinds locals) = CV.Opens (length kinds) (min locals cap) (all is_by_reference kinds)
as_record routines scope (L.Line.instruction i) = CV.Instruction (instruction_pieces i) (is_there routines scope.names scope.size i) (may_be_last i)

-- what closes the line, and the place past it, for a reader at a place past the byte `stop`
unfoldable pub end_stop : Bytes → Place → ℕ → ℕ
end_stop s p stop = cond (eqb stop tab) (get_or s (line_end s p.offset) 0) stop

unfoldable pub end_next : Bytes → Place → ℕ → Place
end_next s p stop = cond (eqb stop tab) (passed s p.line (line_end s p.offset)) p

abbrev pub as_rest : List L.Routine → Scope → Option L.Line → ℕ → Place → P.Option (Read Record)
as_rest routines scope none stop next = None
as_rest routines scope (some line) stop next = Some (record { value = as_record routines scope line; stop = stop; next = next })

abbrev pub rest_answer : List L.Routine → Scope → Bytes → Place → ℕ → (List Field → Option L.Line) → P.Option (Read Record)
rest_answer routines scope s p stop read = as_rest routines scope (read (fields_left stop (drop p.offset s))) (end_stop s p stop) (end_next s p stop)
