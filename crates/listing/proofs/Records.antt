-- The lines of a listing and the listing determine each other.
use mathlib.Core.Path.{◌≡◌, refl}
use mathlib.Core.Bool.{Bool, true}
use mathlib.Core.List.{List, [], ◌∷◌, ◌++◌, map}
use Prim.Native.Nat.{ℕ, suc, ◌≤◌}
use native.Mathlib.Omega.{arith}
use borrow.Author.Tests.{le-leb, eqb-true}
use Rattle.listing.specs.Lists.{all}
use Rattle.listing.specs.Listing.{Instruction, Line, ports, opens, instruction, Routine, Listing, routine_lines, lines_of, code_of, routines_of, listing_of}
use Rattle.listing.specs.Form.{may_stand_on}
use Rattle.listing.specs.WellFormed.{instruction_has_form, line_has_form, has_form}
use Rattle.listing.proofs.Tests.{no_test, all_head, all_tail}

-- ── from a listing to its lines and back ─────────────────────────────────────────
code_of_lines : (code : List Instruction) (rest : List Routine) → code_of (map instruction code ++ routine_lines rest) ≡ code
unfolding code_of routine_lines
code_of_lines [] [] = refl
code_of_lines [] (routine ∷ rest) = refl
code_of_lines (i ∷ code) rest = rw (code_of_lines code rest)

routines_after_code : (code : List Instruction) (lines : List Line) → routines_of (map instruction code ++ lines) ≡ routines_of lines
unfolding routines_of
routines_after_code [] lines = refl
routines_after_code (i ∷ code) lines = routines_after_code code lines

routines_of_lines : (routines : List Routine) → routines_of (routine_lines routines) ≡ routines
unfolding routines_of routine_lines
routines_of_lines [] = refl
routines_of_lines (routine ∷ rest) =
    rw (code_of_lines routine.code rest, routines_after_code routine.code (routine_lines rest), routines_of_lines rest)

pub listing_of_lines : (listing : Listing) → listing_of (lines_of listing) ≡ listing
unfolding listing_of lines_of
listing_of_lines listing = rw (routines_of_lines listing.routines)

-- ── lines in form, each where it may stand ───────────────────────────────────────
-- the first is the line of the given number
pub data Standing : ℕ → List Line → Type 0 where
  still : {number : ℕ} → Standing number []
  stand : {number : ℕ} {line : Line} {lines : List Line} → line_has_form line ≡ true → may_stand_on number line ≡ true
      → Standing (suc number) lines → Standing number (line ∷ lines)

standing_code : (number : ℕ) (code : List Instruction) (rest : List Line) → 3 ≤ number → all instruction_has_form code ≡ true
    → ((n : ℕ) → 3 ≤ n → Standing n rest) → Standing number (map instruction code ++ rest)
unfolding may_stand_on line_has_form
standing_code number [] rest b h g = g number b
standing_code number (i ∷ code) rest b h g =
    stand (all_head instruction_has_form i code h) (le-leb 3 number b)
    (standing_code (suc number) code rest (omega arith) (all_tail instruction_has_form i code h) g)

abbrev pub routine_has_form : Routine → Bool
routine_has_form routine = all instruction_has_form routine.code

standing_routines : (number : ℕ) (routines : List Routine) → 2 ≤ number → all routine_has_form routines ≡ true → Standing number (routine_lines routines)
unfolding routine_lines may_stand_on line_has_form
standing_routines number [] b h = still
standing_routines number (routine ∷ rest) b h =
    stand refl (le-leb 2 number b)
    (standing_code (suc number) routine.code (routine_lines rest) (omega arith) (all_head routine_has_form routine rest h)
    (λ n c. standing_routines n rest (omega arith) (all_tail routine_has_form routine rest h)))

-- the lines of a listing with form stand where they may
pub lines_stand : (listing : Listing) → has_form listing ≡ true → Standing 1 (lines_of listing)
unfolding lines_of has_form may_stand_on line_has_form
lines_stand listing h = stand refl refl (standing_routines 2 listing.routines (omega arith) h)

-- ── from lines that stand where they may to their listing and back ───────────────
lines_of_code : {number : ℕ} {lines : List Line} → 2 ≤ number → Standing number lines
    → map instruction (code_of lines) ++ routine_lines (routines_of lines) ≡ lines
unfolding code_of routines_of routine_lines may_stand_on
lines_of_code b still = refl
lines_of_code {number} b (stand {line = ports i o} h s r) = absurd (let z : number ≡ 1 = eqb-true number 1 s in let y : ⊥ = omega arith in y)
lines_of_code b (stand {line = opens kinds locals} h s r) = rw (lines_of_code (omega arith) r)
lines_of_code b (stand {line = instruction i} h s r) = rw (lines_of_code (omega arith) r)

lines_of_routines : {lines : List Line} → Standing 2 lines → routine_lines (routines_of lines) ≡ lines
unfolding code_of routines_of routine_lines may_stand_on
lines_of_routines still = refl
lines_of_routines (stand {line = ports i o} h s r) = no_test s
lines_of_routines (stand {line = opens kinds locals} h s r) = rw (lines_of_code (omega arith) r)
lines_of_routines (stand {line = instruction i} h s r) = no_test s

pub lines_of_listing : {lines : List Line} → (lines ≡ [] → ⊥) → Standing 1 lines → lines_of (listing_of lines) ≡ lines
unfolding lines_of listing_of may_stand_on
lines_of_listing n still = absurd (n refl)
lines_of_listing n (stand {line = ports i o} h s r) = rw (lines_of_routines r)
lines_of_listing n (stand {line = opens kinds locals} h s r) = no_test s
lines_of_listing n (stand {line = instruction i} h s r) = no_test s

-- and that listing has form
code_has_form : {number : ℕ} {lines : List Line} → Standing number lines
    → (all instruction_has_form (code_of lines) ≡ true) × (all routine_has_form (routines_of lines) ≡ true)
unfolding code_of routines_of line_has_form all
code_has_form still = (refl, refl)
code_has_form (stand {line = ports i o} h s r) = (refl, (code_has_form r).1)
code_has_form (stand {line = opens kinds locals} h s r) = (refl, rw (code_has_form r).0 (code_has_form r).1)
code_has_form (stand {line = instruction i} h s r) = (rw h (code_has_form r).0, (code_has_form r).1)

pub standing_has_form : {number : ℕ} {lines : List Line} → Standing number lines → has_form (listing_of lines) ≡ true
unfolding listing_of has_form all
standing_has_form still = refl
standing_has_form (stand {line = ports i o} h s r) = (code_has_form r).1
standing_has_form (stand {line = opens kinds locals} h s r) = refl
standing_has_form (stand {line = instruction i} h s r) = refl
