-- The table while it is written: after each line it is the table of what the lines so far say.
use Rattle.std.specs.Prelude.{◌≡◌, List, [], ◌∷◌, ℕ, ◌+◌, ◌*◌, ◌≤◌, length, drop}
use Rattle.listing.specs.Listing as L
use Rattle.listing.specs.Questions.{listing_in}
use Rattle.table.specs.Areas.{table_words, all_code, all_cells}
use Rattle.text_place.specs.Texts.{line_end}
use Rattle.text_place.specs.Places.{passed}
use Rattle.text_place.specs.declared.place.Place.{Place}
use Rattle.text_records.specs.Onward.{records_from, Formed}
use Rattle.call_load.specs.Growing.{last_code_lem, with_lines}
use Rattle.table_lines.specs.Lines.{holds_of, words_after, Fits, line_of, line_at}
use Rattle.table_progress.specs.Progress.{entered, advanced}
use Rattle.table_progress.specs.declared.progress.Progress.{Progress}

-- ── the next line ────────────────────────────────────────────────────────────────
abbrev pub place_of : Progress → Place
place_of p = p.place

-- the counts after it, and the words: its entry and cells behind those of the instructions so far, then the header and the routine entries
abbrev pub progress_after : List ℕ → Progress → Progress
progress_after s p = advanced p (holds_of (line_of (line_at s (place_of p)))) (passed s p.place.line (line_end s p.place.offset))

abbrev pub words_next : List ℕ → Progress → List ℕ → List ℕ
words_next s p t =
    let line = line_of (line_at s (place_of p)) in
    entered p (holds_of line) (words_after line (328 + 5 * p.instructions) (2888 + p.cells) t)

-- ── lines that are written ───────────────────────────────────────────────────────
pub data AllFit : List L.Line → Type 0 where
  none : AllFit []
  more : {line : L.Line} {lines : List L.Line} → Fits line → AllFit lines → AllFit (line ∷ lines)

-- ── between two lines ────────────────────────────────────────────────────────────
pub record Counted (p : Progress) (rs : List L.Routine) : Type 0 where
  pub routines : p.routines ≡ length rs
  pub instructions : p.instructions ≡ length (all_code rs)
  pub cells : p.cells ≡ length (all_cells (all_code rs))
  pub code : p.code ≡ length (last_code_lem rs)

pub record Writing (s t : List ℕ) (p : Progress) : Type 0 where
  -- what the lines so far say, and the others add
  pub so_far : L.Listing
  pub words : t ≡ table_words so_far
  pub counted : Counted p so_far.routines
  pub formed : Formed s p.place.offset p.place.line
  pub left : with_lines so_far (records_from p.place.line (drop p.place.offset s)) ≡ listing_in s
  pub fit : AllFit (records_from p.place.line (drop p.place.offset s))
  pub opened : 3 ≤ p.place.line → 1 ≤ p.routines
