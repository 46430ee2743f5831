-- `signed_remainder` meets its contract: what it joins are the dividend's sign and the magnitudes, and no divisor's magnitude is 0.
use mathlib.Core.Path.{◌∙◌}
use borrow.Author.Rules.{rules}
use Rattle.words_division.proofs.Words.{magnitude_some, remainder_of_parts}
use Rattle.words_division.proofs.signed_remainder.Goals as goal

pub nonzero_rem-magnitude : goal.nonzero_rem-magnitude
nonzero_rem-magnitude c = rw c.magnitude-2.ensures (magnitude_some c.args.y c.requires c.ranges.y.fits)

pub returns : goal.returns
returns c =
    let a = c.args in
    c.with_sign.ensures
    ∙ remainder_of_parts a.x a.y c.is_negative.ensures c.magnitude.ensures c.magnitude-2.ensures
