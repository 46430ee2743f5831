-- Loading and writing by computation: where one of these is unfolded, `refl` loads a quoted text or writes a given listing.
use Prim.Native.String.{String}
use Rattle.std.specs.Prelude.{true}
use Rattle.listing.specs.Lists as Lists
use Rattle.listing.specs.Listing as Listing
use Rattle.listing.specs.Listing.{Listing}
use Rattle.listing.specs.Bytes as Bytes
use Rattle.listing.specs.Bytes.{Bytes, bytes_of}
use Rattle.listing.specs.Expressions as Expressions
use Rattle.listing.specs.Form as Form
use Rattle.listing.specs.Text as Text
use Rattle.listing.specs.Text.{text_of}
use Rattle.listing.specs.Limits as Limits
use Rattle.listing.specs.Questions as Questions
use Rattle.listing.specs.Load as Load
use Rattle.listing.specs.Load.{Loading, loading}

-- what loading these bytes gives, the table being long enough
unfoldable pub load : Bytes → Loading
unfolding Lists.all Lists.all_but_last Lists.last_or Lists.present Lists.total Lists.running_totals Lists.both Lists.first_no_from
    Listing.code_of Listing.routines_of Listing.listing_of
    Bytes.extend Bytes.split Bytes.is_figure Bytes.read_on Bytes.read_figure
    Expressions.each Expressions.alone Expressions.read_literal Expressions.read_piece Expressions.read_expression
    Expressions.effect_of Expressions.may_come Expressions.held_with Expressions.leaves_one_from
    Form.fields_of Form.next_field_lem Form.none_left_lem Form.one_piece_lem Form.one_to Form.read_kind Form.read_kinds
    Form.read_names Form.read_call Form.read_letter Form.read_by_letter Form.read_record Form.may_stand_on Form.read_line
    Limits.routines_on Limits.instructions_on Limits.names_on Limits.instruction_pieces Limits.pieces_on Limits.within Limits.limit_answers
    Questions.closed_lines Questions.unclosed Questions.read_lines Questions.is_closed Questions.form_answers Questions.place2
    Questions.records_of Questions.listing_in Questions.place3
    Questions.piece_is_there Questions.argument_count Questions.call_is_there Questions.is_there Questions.opens_as_stated
    Questions.routines_there Questions.there_answers Questions.place4
    Questions.may_be_last Questions.last_answers Questions.routines_end Questions.ending_answers Questions.place5
    Load.questions2to5 Load.loading
load text = loading true text

-- the same of a quoted text
unfoldable pub load_quoted : String → Loading
unfolding bytes_of load
load_quoted text = load (bytes_of text)

-- the text of a listing
unfoldable pub write : Listing → Bytes
unfolding Listing.routine_lines Listing.lines_of
    Bytes.join Bytes.digits Bytes.figure
    Text.signed_figure Text.piece_text Text.kind_text Text.kinds_text Text.call_field Text.instruction_fields Text.line_fields Text.join_fields Text.lines_text
write listing = text_of listing
