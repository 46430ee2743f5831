-- `explain_parts::part_end` meets its contract.
use lib.Dec.{eqb}
use lib.ListN.{length-drop}
use lib.Seq.{take_all}
use native.Mathlib.Omega.{arith}
use mathlib.Core.Path.{◌∙◌}
use Rattle.std.proofs.Common.{rules, tests}
use Rattle.std.proofs.lemmas.Iterator.{YieldsList-from_slice}
use Rattle.std.proofs.lemmas.Iterator.Search.{position_from_yields_List}
use Rattle.explain_parts.proofs.Parts.{ends_at, ends_with}
use Rattle.explain_parts.proofs.part.part_end.Goals as goal

pub returns-in-Some : goal.returns-in-Some
returns-in-Some c =
    let found = position_from_yields_List (λ byte. eqb byte c.args.separator) _ _ _ c.position.ensures.ran (YieldsList-from_slice _ (c.iter.ensures.rest ∙ take_all _ _ (omega (arith, length-drop c.args.at c.args.s.now)))) (λ x b q k. search (rules, tests)) in
    ends_at _ _ _ c.requires _ found _ c.in-Some.is

pub returns-in-None : goal.returns-in-None
returns-in-None c =
    let found = position_from_yields_List (λ byte. eqb byte c.args.separator) _ _ _ c.position.ensures.ran (YieldsList-from_slice _ (c.iter.ensures.rest ∙ take_all _ _ (omega (arith, length-drop c.args.at c.args.s.now)))) (λ x b q k. search (rules, tests)) in
    ends_with _ _ _ c.requires _ found c.in-None.is
