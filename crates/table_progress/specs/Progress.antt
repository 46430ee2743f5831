-- What a line that was read changes of a table and of the counts.
use Rattle.std.specs.Prelude.{List, [], ◌∷◌, ℕ, ◌+◌, ◌*◌, ◌≤◌, set}
use Rattle.std.proofs.lemmas.List.Edits.{sets}
use Rattle.text_place.specs.declared.place.Place.{Place}
use Rattle.table_lines.specs.declared.line.Holds.{Holds}
use Rattle.table_lines.specs.declared.line.Holds.TheVariants as HV
use Rattle.table_progress.specs.declared.progress.Progress.{Progress}

-- the header and the routine entries
abbrev pub entered : Progress → Holds → List ℕ → List ℕ
entered p (HV.Ports i o) t = set (set t 0 i) 1 o
entered p (HV.Opens arguments bits locals) t =
    set (sets t (8 + 5 * p.routines) (arguments ∷ (bits ∷ (locals ∷ (p.instructions ∷ (0 ∷ [])))))) 2 (p.routines + 1)
entered p (HV.Instruction words) t = set t (7 + 5 * p.routines) (p.code + 1)

-- the counts
abbrev pub advanced : Progress → Holds → Place → Progress
advanced p (HV.Ports i o) next =
    record { place = next; routines = p.routines; instructions = p.instructions; cells = p.cells; code = p.code }
advanced p (HV.Opens arguments bits locals) next =
    record { place = next; routines = p.routines + 1; instructions = p.instructions; cells = p.cells; code = 0 }
advanced p (HV.Instruction words) next =
    record { place = next; routines = p.routines; instructions = p.instructions + 1; cells = p.cells + words; code = p.code + 1 }

abbrev pub words_in : Holds → ℕ
words_in (HV.Ports i o) = 0
words_in (HV.Opens arguments bits locals) = 0
words_in (HV.Instruction words) = words

-- counts within what the areas hold
pub record Room (p : Progress) (holds : Holds) : Type 0 where
  pub routines : p.routines ≤ 64
  pub instructions : p.instructions ≤ 512
  pub cells : p.cells ≤ 9400
  pub code : p.code ≤ 512
  pub more : words_in holds ≤ 9400
