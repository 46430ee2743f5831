-- `explain_fields::piece::weigh` meets its contract.
use mathlib.Core.Path.{◌∙◌, ap}
use native.Mathlib.Numerals.{add-one}
use borrow.Author.Tests.{lt-ltb, le-ltb, le-leb, lt-leb}
use Rattle.text_piece.specs.Pieces.{effect_in}
use Rattle.listing.specs.Expressions.{may_come, held_with}
use Rattle.explain_fields.proofs.Pieces.{adds_one, joins_two, no_piece_lem}
use Rattle.explain_fields.proofs.piece.weigh.Goals as goal

pub returns-then-held-lt-MOST_HELD : goal.returns-then-held-lt-MOST_HELD
unfolding may_come held_with
returns-then-held-lt-MOST_HELD c = rw (← adds_one _ _ _ (c.effect_of-effect.ensures ∙ ap effect_in c.piece_of.ensures) c.in-Adds.is, lt-ltb _ 8 c.if-held-lt-MOST_HELD.true, add-one)

pub returns-then-held-lt2 : goal.returns-then-held-lt2
unfolding may_come held_with
returns-then-held-lt2 c = rw (← joins_two _ _ _ (c.effect_of-effect.ensures ∙ ap effect_in c.piece_of.ensures) c.in-Joins.is, lt-leb 2 _ c.if-held-lt2.true)

pub returns-else-held-lt-MOST_HELD : goal.returns-else-held-lt-MOST_HELD
unfolding may_come held_with
returns-else-held-lt-MOST_HELD c = rw (← adds_one _ _ _ (c.effect_of-effect.ensures ∙ ap effect_in c.piece_of.ensures) c.in-Adds.is, le-ltb _ 8 c.if-held-lt-MOST_HELD.false)

pub returns-else-held-lt2 : goal.returns-else-held-lt2
unfolding may_come held_with
returns-else-held-lt2 c = rw (← joins_two _ _ _ (c.effect_of-effect.ensures ∙ ap effect_in c.piece_of.ensures) c.in-Joins.is, le-leb 2 _ c.if-held-lt2.false)

pub returns-in-Unknown : goal.returns-in-Unknown
returns-in-Unknown c = rw c.why_bad.ensures (no_piece_lem _ _ _ (c.effect_of-effect.ensures ∙ ap effect_in c.piece_of.ensures) c.in-Unknown.is)
