use mathlib.Core.Path.{ap, sym, ◌∙◌}
use Rattle.test_cases.specs.Frame.{word_at}
use Rattle.test_cases.proofs.Telling.{tells_no}
use Rattle.test_stored_comparisons.proofs.Comparing.{by_alike, no_place}
use Rattle.test_stored_comparisons.proofs.compare.Goals as goal

pub returns-then-found-ne0 : goal.returns-then-found-ne0
returns-then-found-ne0 c = absurd (c.if-found-ne0.true (no_place _ _ c.fabrwent_alike-found.ensures.place))

pub returns-then-word_at-found : goal.returns-then-word_at-found
returns-then-word_at-found c = tells_no (λ r. c.if-word_at-found.true (c.word_at.ensures ∙ (r.number_is_lem ∙ sym c.fabrwent_alike-found.ensures.number)))

pub returns : goal.returns
returns c =
    let f = c.fabrwent_alike-found in
    by_alike f.result.number f.result.alike f.ensures.number f.ensures.alike (sym c.word_at.ensures ∙ c.if-word_at-found.false)
    c.word_at-2.result (c.word_at-2.ensures ∙ ap (word_at c.args.s.now) c.past.ensures)
