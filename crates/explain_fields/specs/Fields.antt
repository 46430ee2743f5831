-- Why a field is out of form: its first piece that is wrong, or that an expression leaves several values.
use Rattle.std.specs.Prelude.{cond, List, [], ◌∷◌, ℕ, ◌+◌, eqb, ltb, Option, None, Some, Result, Ok, Err}
use Rattle.listing.specs.Bytes.{Bytes, space, split}
use Rattle.listing.specs.Expressions.{read_piece}
use Rattle.listing.specs.Form.{most_names_awaited}
use Rattle.explain_fields.specs.Pieces.{figure_why, kinds_why, weighed}
use Rattle.explain_fields.specs.declared.reasons.Reason.{Reason}
use Rattle.explain_fields.specs.declared.reasons.Reason.TheVariants as WV
use Rattle.explain_fields.specs.declared.reasons.Spot.TheVariants as PV
use Rattle.explain_fields.specs.declared.reasons.Fault.{Fault}
use Rattle.explain_fields.specs.declared.field.Role.{Role}
use Rattle.explain_fields.specs.declared.field.Role.TheVariants as RV
use Rattle.explain_fields.specs.declared.field.Found.{Found}

-- what is held after a piece, if there is no reason against it
abbrev pub held_unless : Option Reason → ℕ → Result ℕ Reason
held_unless (Some why) held = Err why
held_unless None held = Ok held

-- one piece more, of at most so many
abbrev pub up_to : ℕ → Reason → ℕ → Option Reason → Result ℕ Reason
up_to most too_many_lem held why = cond (ltb held most) (held_unless why (held + 1)) (Err too_many_lem)

-- what is held after a piece of a field, or the piece's reason
abbrev pub told_of_lem : Role → ℕ → Bytes → Result ℕ Reason
told_of_lem RV.Number held piece = up_to 1 WV.SecondPiece held (figure_why piece)
told_of_lem RV.Kinds held piece = up_to 1 WV.SecondPiece held (kinds_why piece)
told_of_lem RV.Expression held piece = weighed held (read_piece piece) piece
told_of_lem RV.Names held piece = up_to most_names_awaited WV.FifthName held (figure_why piece)
told_of_lem RV.Child held piece = held_unless (figure_why piece) held

-- of a field whose pieces are each in form: "It leaves one value"
abbrev pub ended_why : Role → ℕ → Option Reason
ended_why RV.Number held = None
ended_why RV.Kinds held = None
ended_why RV.Expression held = cond (eqb held 1) None (Some WV.LeavesSeveral)
ended_why RV.Names held = None
ended_why RV.Child held = None

-- a reason that is about the whole field
abbrev pub whole_field : Option Reason → Option Found
whole_field (Some why) = Some (record { why = why; piece = None })
whole_field None = None

-- the first piece that is wrong, the first of these having the given number
abbrev pub found_or : Result ℕ Reason → ℕ → (ℕ → Option Found) → Option Found
found_or (Ok held) number next = next held
found_or (Err why) number next = Some (record { why = why; piece = Some number })

unfoldable pub walked : Role → ℕ → ℕ → List Bytes → Option Found
walked role held number [] = whole_field (ended_why role held)
walked role held number (piece ∷ pieces) = found_or (told_of_lem role held piece) number (λ next. walked role next (number + 1) pieces)

abbrev pub field_fault : Role → Bytes → Option Found
field_fault role field = walked role 0 1 (split space field)

-- the same as a fault of a line, by the field's number
abbrev pub spot_fault : Reason → ℕ → Option ℕ → Fault Reason
spot_fault why field (Some piece) = record { why = why; spot = PV.Piece field piece }
spot_fault why field None = record { why = why; spot = PV.Field field }

abbrev pub fault_in : Found → ℕ → Fault Reason
fault_in found field = spot_fault found.why field found.piece

-- a reason that is about a whole line
abbrev pub about : {R : Type 0} → R → Fault R
about why = record { why = why; spot = PV.Line }
