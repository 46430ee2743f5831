-- What a line of a listing puts into a table: an instruction its cells and its entry, a `P` or an `R` nothing.
use Rattle.std.specs.Prelude.{◌≡◌, true, List, ℕ, ◌≤◌, ◌<◌, length, drop}
use Rattle.std.proofs.Math.Option.{Option, none, some}
use Rattle.std.proofs.lemmas.List.Edits.{sets}
use Rattle.listing.specs.Bytes.{Bytes}
use Rattle.listing.specs.Expressions.{word_range}
use Rattle.listing.specs.Form.{Field, fields_of, read_record}
use Rattle.listing.specs.Questions.{is_there}
use Rattle.listing.specs.Listing as L
use Rattle.table.specs.Areas.{cell_words, entry_words, kind_bits}
use Rattle.text_place.specs.Texts.{first_line, fields_left, line_end}
use Rattle.text_place.specs.Places.{passed}
use Rattle.text_place.specs.declared.place.Place.{Place}
use Rattle.text_jumps.specs.Records.{end_next}
use Rattle.table_lines.specs.declared.line.Holds.{Holds}
use Rattle.table_lines.specs.declared.line.Holds.TheVariants as HV
use Rattle.table_lines.specs.declared.line.WrittenLine.{WrittenLine}

-- ── what a line gives ────────────────────────────────────────────────────────────
-- what is handed back of it
abbrev pub holds_of : L.Line → Holds
holds_of (L.Line.ports i o) = HV.Ports i o
holds_of (L.Line.opens kinds locals) = HV.Opens (length kinds) (kind_bits kinds) locals
holds_of (L.Line.instruction i) = HV.Instruction (length (cell_words i))

-- all words after it: an instruction's entry is at e, its cells are at a
abbrev pub words_after : L.Line → ℕ → ℕ → List ℕ → List ℕ
words_after (L.Line.ports i o) e a before = before
words_after (L.Line.opens kinds locals) e a before = before
words_after (L.Line.instruction i) e a before = sets (sets before a (cell_words i)) e (entry_words a i)

-- ── lines that are written ───────────────────────────────────────────────────────
-- a line whose figures fit their words, as questions 3 and 4 have it
pub data Fits : L.Line → Type 0 where
  ports : {i o : ℕ} → i < word_range → o < word_range → Fits (L.Line.ports i o)
  opens : {kinds : List L.Kind} {locals : ℕ} → length kinds ≤ 16 → locals < word_range → Fits (L.Line.opens kinds locals)
  instruction : {i : L.Instruction} (routines : List L.Routine) (names size : ℕ) → is_there routines names size i ≡ true
      → length routines ≤ 64 → names ≤ 16 → size ≤ 512 → Fits (L.Line.instruction i)

-- a reading that is a line, as question 2 has it, and that fits
pub record Good (o : Option L.Line) : Type 0 where
  pub line : L.Line
  pub reads : o ≡ some line
  pub fits : Fits line

-- the line that was read; where nothing was, an `E` stands for it, and Good rules that out
abbrev pub line_of : Option L.Line → L.Line
line_of none = L.Line.instruction L.Instruction.end
line_of (some line) = line

-- ── what is done for a reading that ends before `end` ────────────────────────────
abbrev pub held_for : Option L.Line → Place → WrittenLine
held_for o end = record { holds = holds_of (line_of o); next = end }

pub record Writes (o : Option L.Line) (end : Place) (e a : ℕ) (before after : List ℕ) (r : WrittenLine) : Type 0 where
  pub answer : r ≡ held_for o end
  pub words : after ≡ words_after (line_of o) e a before

-- the fields after the letter, read by `read` at a place past the byte `stop`
abbrev pub rest_at : (List Field → Option L.Line) → Bytes → Place → ℕ → Option L.Line
rest_at read s p stop = read (fields_left stop (drop p.offset s))

abbrev pub WritesRest : (List Field → Option L.Line) → Bytes → Place → ℕ → ℕ → ℕ → List ℕ → List ℕ → WrittenLine → Type 0
WritesRest read s p stop e a before after r = Writes (rest_at read s p stop) (end_next s p stop) e a before after r

-- the record of the line at a place
abbrev pub line_at : Bytes → Place → Option L.Line
line_at s p = read_record (fields_of (first_line (drop p.offset s)))

abbrev pub WritesLine : Bytes → Place → ℕ → ℕ → List ℕ → List ℕ → WrittenLine → Type 0
WritesLine s p e a before after r = Writes (line_at s p) (passed s p.line (line_end s p.offset)) e a before after r
