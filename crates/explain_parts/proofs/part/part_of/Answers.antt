-- `explain_parts::part_of` meets its contract.
use Rattle.std.proofs.Common.{rules, tests}
use Rattle.std.proofs.lemmas.Iterator.Consumers.{nth_from_yields_List}
use Rattle.explain_parts.proofs.Parts.{yields_parts, part_there, part_none}
use Rattle.explain_parts.proofs.part.part_of.Goals as goal

pub returns-in-Some-clause-is : goal.returns-in-Some-clause-is
returns-in-Some-clause-is c =
    part_there _ _ _ _ _ c.in-Some.is
    (nth_from_yields_List _ _ _ c.nth.ensures.ran (yields_parts _ _ _ c.split.ensures.rest c.split.ensures.done c.split.ensures.closure (λ x b q k. search (rules, tests))))

pub returns-in-None-clause-is : goal.returns-in-None-clause-is
returns-in-None-clause-is c =
    part_none _ _ _ _ c.in-None.is
    (nth_from_yields_List _ _ _ c.nth.ensures.ran (yields_parts _ _ _ c.split.ensures.rest c.split.ensures.done c.split.ensures.closure (λ x b q k. search (rules, tests))))
