-- `signed_quotient` meets its contract: what it joins are the definition's signs and magnitudes, and no divisor's magnitude is 0.
use mathlib.Core.Path.{◌∙◌}
use borrow.Author.Rules.{rules}
use Rattle.words_division.proofs.Words.{magnitude_some, quotient_of_parts}
use Rattle.words_division.proofs.signed_quotient.Goals as goal

pub nonzero_div-magnitude : goal.nonzero_div-magnitude
nonzero_div-magnitude c = rw c.magnitude-2.ensures (magnitude_some c.args.y c.requires c.ranges.y.fits)

pub returns : goal.returns
returns c =
    let a = c.args in
    c.with_sign.ensures
    ∙ quotient_of_parts a.x a.y c.is_negative.ensures c.magnitude.ensures c.magnitude-2.ensures
    c.is_negative-2.ensures
