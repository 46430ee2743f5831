-- `explain_words::flag_of` meets its contract.
use mathlib.Core.Path.{◌∙◌}
use native.Mathlib.Omega.{arith}
use Rattle.explain_words.proofs.Flags.{other_length, other_first, by_second}
use Rattle.explain_words.proofs.flag_of.Goals as goal

pub returns-then-word-ne2 : goal.returns-then-word-ne2
returns-then-word-ne2 c = other_length _ c.if-word-ne2.true

pub bounds-word-0 : goal.bounds-word-0
bounds-word-0 c = omega (arith, c.if-word-ne2.false)

pub returns-then-word-ne45 : goal.returns-then-word-ne45
returns-then-word-ne45 c = other_first _ c.if-word-ne2.false c.if-word-ne45.true

pub bounds-word-1 : goal.bounds-word-1
bounds-word-1 c = omega (arith, c.if-word-ne2.false)

pub returns : goal.returns
returns c = c.letter_flag.ensures ∙ by_second _ c.if-word-ne2.false c.if-word-ne45.false
