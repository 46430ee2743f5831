-- What the lines of a listing in form hold (document 01, "Limits"), read off their text: a letter tells a record, and before each piece after the letter
-- stands one tab or one space.
use Rattle.std.specs.Prelude.{cond, List, [], ◌∷◌, ℕ, zero, suc, ◌+◌, ◌-◌, ◌≤◌, eqb, ltb, length, get_or}
use Prim.Native.Char.{code}
use Rattle.listing.specs.Bytes.{Bytes, tab, line_feed, space, split}
use Rattle.listing.specs.Limits.{byte_limit, routine_limit, instruction_limit, piece_limit}
use Rattle.explain_fields.specs.declared.reasons.Reason.{Reason}
use Rattle.explain_fields.specs.declared.reasons.Reason.TheVariants as WV
use Rattle.explain_reasons.specs.declared.tally.Tally.{Tally}

-- few enough to be counted on
pub record Small (held : Tally) : Type 0 where
  pub bytes : held.bytes ≤ 1000000
  pub routines : held.routines ≤ 1000000
  pub instructions : held.instructions ≤ 1000000
  pub pieces : held.pieces ≤ 1000000

abbrev pub nothing : Tally
nothing = record { bytes = 0; routines = 0; instructions = 0; pieces = 0 }

-- one line more, without its line feed
unfoldable pub tally_line : Tally → Bytes → Tally
tally_line held line =
    let bytes = held.bytes + length line + 1 in
    let letter = get_or line 0 0 in
    cond (eqb letter (code "P")) (record { bytes = bytes; routines = held.routines; instructions = held.instructions; pieces = held.pieces })
    (cond (eqb letter (code "R")) (record { bytes = bytes; routines = held.routines + 1; instructions = held.instructions; pieces = held.pieces })
    (record {
      bytes = bytes;
      routines = held.routines;
      instructions = held.instructions + 1;
      pieces = held.pieces + (length (split tab line) - 1) + (length (split space line) - 1);
    }))

-- the first so many lines
unfoldable pub tallied : Tally → ℕ → List Bytes → Tally
tallied held zero lines = held
tallied held (suc left) [] = held
tallied held (suc left) (line ∷ lines) = tallied (tally_line held line) left lines

abbrev pub tally_of : Bytes → ℕ → Tally
tally_of text lines = tallied nothing lines (split line_feed text)

-- which limit is passed; if no other is, that of names
unfoldable pub limit_of : Tally → Reason
limit_of held =
    cond (ltb byte_limit held.bytes) WV.ManyBytes
    (cond (ltb routine_limit held.routines) WV.ManyRoutines
    (cond (ltb instruction_limit held.instructions) WV.ManyInstructions
    (cond (ltb piece_limit held.pieces) WV.ManyPieces WV.ManyNames)))

-- "Limits (the place is the line that passes one)"
abbrev pub limit_why : Bytes → ℕ → Reason
limit_why text place = limit_of (tally_of text place)
