-- `test_stored_windows::case_at` meets its contract.
use mathlib.Core.Path.{ap, ◌∙◌}
use Rattle.test_cases.specs.Frame.{word_at, onward}
use Rattle.test_stored_windows.proofs.cases.case_at.Goals as goal

pub returns : goal.returns
returns c =
    let part = c.part_at-part.ensures in
    let s = c.args.s.now in
    let middle = c.past-middle.ensures in
    record {
      name_is = c.word_at-name.ensures;
      begins = part.begins ∙ ap (λ p. onward s p 4) c.past.ensures;
      ends = part.ends ∙ ap (λ p. onward s c.part_at-part.result.from (word_at s p)) c.past.ensures;
      ordered = part.ordered;
      within = part.within;
      asked = c.asked_at-asked.ensures;
      answer = rw middle at c.answer_at-answer.ensures;
      edges_are = c.past-edges.ensures ∙ ap (λ p. onward s p 16) middle;
      pairs_are = c.past-pairs.ensures;
      next_is = c.past-next.ensures;
    }
