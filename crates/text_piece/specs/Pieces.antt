-- What a piece's bytes give: a figure, a piece of an expression.
use Rattle.std.specs.Prelude.{cond, ◌&&◌, ℕ, ◌-◌, ◌^◌, min, eqb, ltb, leb}
use Rattle.std.proofs.Math.Option.{Option, none, some}
use Rattle.listing.specs.Bytes.{Bytes, read_figure}
use Rattle.listing.specs.Expressions.{half_range, word_range, read_piece}
use Rattle.listing.specs.Listing as L
use Rattle.listing_effect.specs.declared.Effect.{Effect}
use Rattle.listing_effect.specs.declared.Effect.TheVariants as EV
use Rattle.text_piece.specs.declared.figure.Figure.{Figure}
use Rattle.text_piece.specs.declared.figure.Figure.TheVariants as FV
use Rattle.text_piece.specs.declared.piece.Piece.{Piece}
use Rattle.text_piece.specs.declared.piece.Piece.TheVariants as PV

-- numbers stop here: every limit is lower
abbrev pub cap : ℕ
cap = 2 ^ 40

-- ── figures ──────────────────────────────────────────────────────────────────────
abbrev pub as_figure : Option ℕ → Figure
as_figure none = FV.Bad
as_figure (some n) = FV.Value (min n cap)

abbrev pub figure_answer : Bytes → Figure
figure_answer piece = as_figure (read_figure piece)

-- ── pieces ───────────────────────────────────────────────────────────────────────
abbrev pub as_piece : Option L.Piece → Piece
as_piece none = PV.Bad
as_piece (some (L.Piece.literal v)) = PV.Literal v
as_piece (some (L.Piece.value_of n)) = PV.Value (min n cap)
as_piece (some (L.Piece.written_mark n)) = PV.Mark (min n cap)
as_piece (some L.Piece.plus) = PV.Plus
as_piece (some L.Piece.minus) = PV.Minus
as_piece (some L.Piece.times) = PV.Times
as_piece (some L.Piece.less) = PV.Less
as_piece (some L.Piece.divide) = PV.Divide
as_piece (some L.Piece.remainder) = PV.Remainder

abbrev pub piece_answer : Bytes → Piece
piece_answer piece = as_piece (read_piece piece)

-- what a piece does to the values held
abbrev pub effect_in : Piece → Effect
effect_in (PV.Literal v) = EV.Adds
effect_in (PV.Value n) = EV.Adds
effect_in (PV.Mark n) = EV.Adds
effect_in PV.Plus = EV.Joins
effect_in PV.Minus = EV.Joins
effect_in PV.Times = EV.Joins
effect_in PV.Less = EV.Joins
effect_in PV.Divide = EV.Joins
effect_in PV.Remainder = EV.Joins
effect_in PV.Bad = EV.Unknown

-- a piece, if nothing is left of its text
abbrev pub if_alone : ℕ → ℕ → Piece → Piece
if_alone from to p = cond (eqb from to) p PV.Bad

-- a literal by its figure, after a minus and without one
abbrev pub negative : Figure → Piece
negative FV.Bad = PV.Bad
negative (FV.Value v) = cond (leb 1 v && leb v half_range) (PV.Literal (word_range - v)) PV.Bad

abbrev pub positive : Figure → Piece
positive FV.Bad = PV.Bad
positive (FV.Value v) = cond (ltb v half_range) (PV.Literal v) PV.Bad

-- a mark and a name's value by their figure
abbrev pub marking : Figure → Piece
marking FV.Bad = PV.Bad
marking (FV.Value v) = PV.Mark v

abbrev pub valuing : Figure → Piece
valuing FV.Bad = PV.Bad
valuing (FV.Value v) = PV.Value v
