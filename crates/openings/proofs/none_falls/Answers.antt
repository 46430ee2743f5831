-- `openings::none_falls` meets its contract.
use Rattle.std.proofs.lemmas.List.Sorted.{non_decreasing_from_is_sorted}
use Rattle.openings.proofs.Asking as asking
use Rattle.openings.proofs.none_falls.Goals as goal

pub returns : goal.returns
returns c = asking.answers _ _ (non_decreasing_from_is_sorted c.args.moments.now c.is_sorted.result c.is_sorted.ensures.cases)
