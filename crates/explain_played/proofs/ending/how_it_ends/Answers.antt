-- `explain_played::ending::how_it_ends` meets its contract.
use mathlib.Core.Path.{sym, ap, ◌∙◌}
use mathlib.Core.List.{◌++◌}
use lib.Seq.{length-take-le}
use Rattle.listing.specs.Bytes.{Bytes}
use Rattle.explain_played.specs.Endings.{leading_figure}
use Rattle.explain_played.specs.declared.spot.Spot.{Spot}
use Rattle.explain_played.proofs.Steps.{lent_long}
use Rattle.explain_played.proofs.LastLine.{last_line, last_room, whole_print}
use Rattle.explain_played.proofs.ending.how_it_ends.Goals as goal

pub last_step-last-requires : goal.last_step-last-requires
last_step-last-requires c = lent_long c.memory-table.ensures c.memory-machine.ensures c.piece-out.ensures

pub slice_bounds-out-end : goal.slice_bounds-out-end
slice_bounds-out-end c = last_room c.last_step-last.ensures

pub slice_bounds-leading_figure-end : goal.slice_bounds-leading_figure-end
slice_bounds-leading_figure-end c = sym (length-take-le _ _ (last_room c.last_step-last.ensures))

pub returns : goal.returns
returns c =
    let last = c.last_step-last.ensures in
    let end = last_line last in
    record {
      before = _;
      after = _;
      last = _;
      steps = last;
      front = last.bytes;
      code = end.code;
      present = end.present;
      whole = whole_print last ∙ ap (λ (b : Bytes). last.bytes ++ b) end.is;
      code_is = c.leading_figure.ensures ∙ ap leading_figure end.is;
      line_is_lem = ap (λ (s : Spot). s.line) c.spot_of-spot.ensures;
      moment_is = ap (λ (s : Spot). s.moment) c.spot_of-spot.ensures;
    }
