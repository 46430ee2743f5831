-- `test_stored_windows::asked_at` meets its contract.
use mathlib.Core.Path.{ap, ◌∙◌}
use Rattle.test_cases.specs.Frame.{moment_at}
use Rattle.test_stored_windows.specs.Cases.{room_at}
use Rattle.test_stored_windows.proofs.cases.asked_at.Goals as goal

pub returns : goal.returns
returns c =
    let s = c.args.s.now in
    record {
      first_is = c.moment_at-first.ensures;
      end_is_lem = c.moment_at-end.ensures ∙ ap (λ p. moment_at s p) c.past.ensures;
      moments_are = c.room_at-moments.ensures ∙ ap (λ p. room_at s p) c.past-2.ensures;
      inputs_are_lem = c.room_at-inputs.ensures ∙ ap (λ p. room_at s p) c.past-3.ensures;
      values_are = c.room_at-values.ensures ∙ ap (λ p. room_at s p) c.past-4.ensures;
    }
