-- What is put of a stored case: a line, and the rows of the page that are not rows of spaces.
use Rattle.std.specs.Prelude.{◌≡◌, Bool, true, false, List, [], ◌++◌, ℕ, suc, ◌+◌, ◌*◌, ◌≤◌, ◌<◌, length, take, drop, replicate}
use Rattle.listing.specs.Bytes.{Bytes, bytes_of, figure, space}
use Rattle.session_print.specs.Puts.{Puts}
use Rattle.page.specs.Call.{PageFigures}
use Rattle.page.specs.Together.{row_of_bytes}
use Rattle.page.specs.declared.Printed.{Printed}
use Rattle.test_cases.specs.Words.{Tells}
use Rattle.test_stored_pages.specs.declared.cases.Case.{Case}

-- ── the line: number, place, pages, and whether all bytes that must stay are as they were ─────────
unfoldable pub numbers_of : Printed → Bytes
numbers_of r = figure r.number ++ (bytes_of " " ++ (figure r.place ++ (bytes_of " " ++ figure r.pages)))

unfoldable pub kept_word_lem : Bool → Bytes
kept_word_lem true = bytes_of " kept\n"
kept_word_lem false = bytes_of " touched\n"

unfoldable pub case_line : ℕ → Printed → Bool → Bytes
case_line name r kept = bytes_of "case " ++ (figure name ++ (bytes_of ": " ++ (numbers_of r ++ kept_word_lem kept)))

-- ── the rows ─────────────────────────────────────────────────────────────────────────────────────
-- nothing but this byte
abbrev pub Filled : Bytes → ℕ → Type 0
Filled bytes byte = bytes ≡ replicate (length bytes) byte

-- nothing of a row of spaces, and any other with its line before it
pub data RowSaid (page : Bytes) (line : ℕ) : Bytes → Type 0 where
  blank : Filled (take 44 (drop (line * 45) page)) space → RowSaid page line []
  shown : (Filled (take 44 (drop (line * 45) page)) space → ⊥) → RowSaid page line (figure line ++ (bytes_of " " ++ row_of_bytes page line))

-- the first so many rows
pub data RowsSaid (page : Bytes) : ℕ → Bytes → Type 0 where
  none : RowsSaid page 0 []
  more : {n : ℕ} {text row : Bytes} → RowsSaid page n text → RowSaid page n row → RowsSaid page (suc n) (text ++ row)

pub record RowPut (page : Bytes) (line : ℕ) (before : Bytes) (at : ℕ) (after : Bytes) (r : ℕ) : Type 0 where
  pub text : Bytes
  pub said : RowSaid page line text
  pub puts : Puts before at text after r
  pub few : r ≤ at + 66

pub record RowsPut (page before : Bytes) (at : ℕ) (after : Bytes) (r : ℕ) : Type 0 where
  pub text : Bytes
  pub said : RowsSaid page 60 text
  pub puts : Puts before at text after r
  pub few : r ≤ at + 3960

-- ── a case ───────────────────────────────────────────────────────────────────────────────────────
-- what the call left: of a refusal no byte is touched, of a page none past it
pub data CaseSaid (name : ℕ) (r : Printed) (memory : Bytes) (byte : ℕ) (before after : Bytes) (count : ℕ) : Type 0 where
  refused : {kept : Bool} → (r.number ≡ 0 → ⊥) → Tells kept (Filled memory byte) → Puts before 0 (case_line name r kept) after count
      → CaseSaid name r memory byte before after count
  short : r.number ≡ 0 → length memory < 2700 → Puts before 0 (case_line name r false) after count → CaseSaid name r memory byte before after count
  page : {kept : Bool} {rows : Bytes} → r.number ≡ 0 → 2700 ≤ length memory → Tells kept (Filled (drop 2700 memory) byte) → RowsSaid memory 60 rows
      → Puts before 0 (case_line name r kept ++ rows) after count → CaseSaid name r memory byte before after count

-- a call on the case's lists, and its first bytes of memory, filled with the case's byte
pub record CaseRun (case : Case) (moments outputs values memory before after : List ℕ) (count : ℕ) : Type 0 where
  pub result : Printed
  pub figures : PageFigures (take case.moments moments) (take case.outputs outputs) (take case.values values) case.page
      (replicate case.size case.byte) (take case.size memory) result
  pub said : CaseSaid case.name result (take case.size memory) case.byte before after count
