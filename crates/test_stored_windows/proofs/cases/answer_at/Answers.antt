-- `test_stored_windows::answer_at` meets its contract.
use mathlib.Core.Path.{ap, ◌∙◌}
use Rattle.test_cases.specs.Frame.{word_at}
use Rattle.test_stored_windows.proofs.cases.answer_at.Goals as goal

pub returns : goal.returns
returns c =
    let s = c.args.s.now in
    record {
      number_is_lem = c.word_at-number.ensures;
      place_is_lem = c.word_at-place.ensures ∙ ap (word_at s) c.past.ensures;
      listed_is = c.word_at-listed.ensures ∙ ap (word_at s) c.past-2.ensures;
      line_is = c.word_at-line.ensures ∙ ap (word_at s) c.past-3.ensures;
    }
