use mathlib.Core.Path.{ap, ◌∙◌}
use Prim.Native.Nat.{ℕ}
use Rattle.test_cases.specs.Frame.{word_at, onward}
use Rattle.test_sessions.proofs.case_at.Goals as goal

pub returns : goal.returns
returns c =
    let s = c.args.s.now in
    let one = c.part_at-listing.ensures in
    let two = c.part_at-trace.ensures in
    let three = c.part_at-print.ensures in
    let p = c.past.ensures in (
      record {
        name_is = c.word_at-name.ensures;
        listing_begins = one.begins ∙ ap (λ (x : ℕ). onward s x 4) p;
        listing_ends = one.ends ∙ ap (λ (x : ℕ). onward s c.part_at-listing.result.from (word_at s x)) p;
        trace_begins = two.begins;
        trace_ends = two.ends;
        print_begins = three.begins;
        print_ends = three.ends;
      },
      record {
        listing_ordered = one.ordered;
        listing_within = one.within;
        trace_ordered = two.ordered;
        trace_within = two.within;
        print_ordered = three.ordered;
        print_within = three.within;
      },
    )
