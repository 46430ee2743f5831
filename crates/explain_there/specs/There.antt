-- Why a line points to nothing (question 4, "Does every name, routine, jump and argument count point to something there?").
use Rattle.std.specs.Prelude.{cond, List, [], ◌∷◌, ℕ, zero, suc, ◌+◌, ◌-◌, eqb, leb, length, get_or, Option, Some, None, option_map, unwrap_or}
use Prim.Native.Char.{code}
use Rattle.listing.specs.Bytes.{Bytes, tab, space, split}
use Rattle.text_piece.specs.Pieces.{piece_answer}
use Rattle.text_fields.specs.Gather.{is_there_by}
use Rattle.explain_parts.specs.Parts.{part_of}
use Rattle.explain_fields.specs.Fields.{fault_in, about}
use Rattle.explain_fields.specs.declared.field.Found.{Found}
use Rattle.explain_fields.specs.declared.reasons.Reason.{Reason}
use Rattle.explain_fields.specs.declared.reasons.Reason.TheVariants as WV
use Rattle.explain_fields.specs.declared.reasons.Fault.{Fault}
use Rattle.explain_there.specs.Arounds.{scope_at}
use Rattle.explain_there.specs.declared.around.Scope.{Scope}
use Rattle.explain_there.specs.declared.there.Target.{Target}
use Rattle.explain_there.specs.declared.there.Target.TheVariants as TV

-- what the first piece of a field points to: a routine in an `F`, an instruction in a `G` and in the second field of a `U`, else a name
unfoldable pub first_target : ℕ → ℕ → Target
first_target letter number =
    cond (eqb letter (code "F")) TV.Routine
    (cond (eqb letter (code "G")) TV.Instruction
    (cond (eqb letter (code "U")) (cond (eqb number 2) TV.Instruction TV.Name) TV.Name))

-- how many there are, and the reason if one is not there
abbrev pub bound_of : Scope → Target → ℕ
bound_of scope TV.Name = scope.names
bound_of scope TV.Instruction = scope.size
bound_of scope TV.Routine = scope.routines

abbrev pub missing : Target → ℕ → Reason
missing TV.Name bound = WV.NoName bound
missing TV.Instruction bound = WV.NoJump bound
missing TV.Routine bound = WV.NoRoutine bound

-- the first piece that points to nothing; those after the first of a field are names
unfoldable pub pieces_there : Scope → Target → ℕ → List Bytes → Option Found
pieces_there scope target number [] = None
pieces_there scope target number (piece ∷ pieces) =
    let later = pieces_there scope TV.Name (number + 1) pieces in
    cond (is_there_by (bound_of scope target) (piece_answer piece)) later (Some (record { why = missing target (bound_of scope target); piece = Some number }))

abbrev pub field_there : Scope → Target → Bytes → Option Found
field_there scope first field = pieces_there scope first 1 (split space field)

-- the first such field from a number on; where every number is there, a count of arguments is not
unfoldable pub fields_there : Scope → ℕ → Bytes → ℕ → ℕ → Fault Reason
fields_there scope letter line number zero = about WV.ArgumentCount
fields_there scope letter line number (suc left) =
    let found = field_there scope (first_target letter number) (part_of tab line number) in
    let later = fields_there scope letter line (number + 1) left in
    unwrap_or (option_map (λ x. fault_in x (number + 1)) found) later

-- "Is main as stated (place: its `R`, or 1 without one)?"
unfoldable pub there_fault : Bytes → ℕ → Bytes → Fault Reason
there_fault text place line =
    let letter = get_or line 0 0 in
    cond (leb place 1) (about WV.NoMain)
    (cond (eqb letter (code "R")) (about WV.MainAsStated)
    (fields_there (scope_at text place) letter line 1 (length (split tab line) - 1)))
