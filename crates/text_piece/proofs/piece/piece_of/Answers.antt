-- `text_piece::piece_of` meets its contract.
use mathlib.Core.Path.{sym, ◌∙◌}
use Rattle.text_piece.proofs.Pieces as pieces
use Rattle.text_piece.proofs.piece.piece_of.Goals as goal

pub returns-then-from-to : goal.returns-then-from-to
returns-then-from-to c = sym (pieces.piece_none c.args.s.now _ _ c.if-from-to.true)

pub returns-in_default-figure_of : goal.returns-in_default-figure_of
returns-in_default-figure_of c = sym (pieces.piece_mark _ _ _ c.requires c.if-from-to.false c.in-64.is ∙ rw (← c.figure_of.ensures, c.in_default-figure_of.is))

pub returns-in_default-figure_of-2 : goal.returns-in_default-figure_of-2
returns-in_default-figure_of-2 c =
    let r = c.in_default.in_default-own.rest in
    sym (pieces.piece_value _ _ _ c.requires c.if-from-to.false r.0.0.0.0.0.0.0.1 r.0.0.0.0.0.0.1 r.0.0.0.0.0.1 r.0.0.0.0.1 r.0.0.0.1 r.0.0.1 r.0.1 r.1 ∙ rw (← c.figure_of-in_default.ensures, c.in_default-figure_of-2.is))

pub returns-in-35 : goal.returns-in-35
returns-in-35 c = c.literal_of.ensures ∙ sym (pieces.piece_literal _ _ _ c.requires c.if-from-to.false c.in-35.is)

pub returns-in-Value : goal.returns-in-Value
returns-in-Value c = sym (pieces.piece_mark _ _ _ c.requires c.if-from-to.false c.in-64.is ∙ rw (← c.figure_of.ensures, c.in-Value.is))

pub returns-in-43 : goal.returns-in-43
returns-in-43 c = c.if_alone.ensures ∙ sym (pieces.piece_plus _ _ _ c.requires c.if-from-to.false c.in-43.is)

pub returns-in-45 : goal.returns-in-45
returns-in-45 c = c.if_alone-in-45.ensures ∙ sym (pieces.piece_minus _ _ _ c.requires c.if-from-to.false c.in-45.is)

pub returns-in-42 : goal.returns-in-42
returns-in-42 c = c.if_alone-in-42.ensures ∙ sym (pieces.piece_times _ _ _ c.requires c.if-from-to.false c.in-42.is)

pub returns-in-60 : goal.returns-in-60
returns-in-60 c = c.if_alone-in-60.ensures ∙ sym (pieces.piece_less _ _ _ c.requires c.if-from-to.false c.in-60.is)

pub returns-in-47 : goal.returns-in-47
returns-in-47 c = c.if_alone-in-47.ensures ∙ sym (pieces.piece_divide _ _ _ c.requires c.if-from-to.false c.in-47.is)

pub returns-in-37 : goal.returns-in-37
returns-in-37 c = c.if_alone-in-37.ensures ∙ sym (pieces.piece_remainder _ _ _ c.requires c.if-from-to.false c.in-37.is)

pub returns-in-Value-figure_of : goal.returns-in-Value-figure_of
returns-in-Value-figure_of c =
    let r = c.in_default.in_default-own.rest in
    sym (pieces.piece_value _ _ _ c.requires c.if-from-to.false r.0.0.0.0.0.0.0.1 r.0.0.0.0.0.0.1 r.0.0.0.0.0.1 r.0.0.0.0.1 r.0.0.0.1 r.0.0.1 r.0.1 r.1 ∙ rw (← c.figure_of-in_default.ensures, c.in-Value-figure_of.is))
