-- Why the bytes of a piece are out of form, by the readers of the listing's form: there is a reason exactly if the reader does not read them.
use Rattle.std.specs.Prelude.{cond, [], ◌∷◌, ℕ, eqb, ltb, leb, length, Option, None, Some, Result, Ok, Err}
use Rattle.std.proofs.Math.Option as M
use Rattle.listing.specs.Lists.{is_some}
use Rattle.listing.specs.Bytes.{Bytes, space, read_figure}
use Rattle.listing.specs.Listing.{Piece}
use Rattle.listing.specs.Expressions.{Effect, adds, joins, effect_of, may_come, held_with}
use Rattle.listing.specs.Form.{read_kinds}
use Rattle.explain_parts.specs.Parts.{first_part_lem}
use Rattle.explain_fields.specs.declared.reasons.Strange.{Strange}
use Rattle.explain_fields.specs.declared.reasons.Strange.TheVariants as SV
use Rattle.explain_fields.specs.declared.reasons.Reason.{Reason}
use Rattle.explain_fields.specs.declared.reasons.Reason.TheVariants as WV

-- a carriage return, or a byte that is not ASCII
abbrev pub strange_byte : ℕ → Option Strange
strange_byte byte = cond (eqb byte 13) (Some SV.CarriageReturn) (cond (leb 128 byte) (Some SV.NotAscii) None)

-- the first byte that is strange decides
abbrev pub or_in : Option Strange → Option Strange → Option Strange
or_in (Some strange) later = Some strange
or_in None later = later

unfoldable pub first_strange : Bytes → Option Strange
first_strange [] = None
first_strange (byte ∷ rest) = or_in (strange_byte byte) (first_strange rest)

-- of a piece that is out of form: nothing is there, or a byte is strange
unfoldable pub strange_in : Bytes → Option Strange
strange_in [] = Some SV.Nothing
strange_in (byte ∷ rest) = first_strange (byte ∷ rest)

-- of a field that is one piece: spaces in it come first
abbrev pub strange_field : Bytes → Option Strange
strange_field field = cond (ltb (length (first_part_lem space field)) (length field)) (Some SV.SpacesForTabs) (strange_in field)

-- something is strange, or otherwise
abbrev pub strange_or : Reason → Option Strange → Reason
strange_or otherwise (Some strange) = WV.Strange strange
strange_or otherwise None = otherwise

abbrev pub why_bad : Reason → Bytes → Reason
why_bad otherwise piece = strange_or otherwise (strange_in piece)

-- why a piece is no figure, no row of kinds
abbrev pub figure_why : Bytes → Option Reason
figure_why piece = cond (is_some (read_figure piece)) None (Some (why_bad WV.BadFigure piece))

abbrev pub kinds_why : Bytes → Option Reason
kinds_why piece = cond (is_some (read_kinds piece)) None (Some (why_bad WV.BadKinds piece))

-- how many values an expression holds after a piece that comes when it holds so many, or why the piece may not come
abbrev pub why_not : Effect → Reason
why_not adds = WV.NinthValue
why_not joins = WV.LacksOperand

abbrev pub weighed_by : ℕ → Effect → Result ℕ Reason
weighed_by held effect = cond (may_come held effect) (Ok (held_with held effect)) (Err (why_not effect))

abbrev pub weighed : ℕ → M.Option Piece → Bytes → Result ℕ Reason
weighed held M.none piece = Err (why_bad WV.BadPiece piece)
weighed held (M.some p) piece = weighed_by held (effect_of p)
