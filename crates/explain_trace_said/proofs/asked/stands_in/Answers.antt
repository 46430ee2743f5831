-- `explain_trace_said::asked::stands_in` meets its contract.
use mathlib.Core.Path.{◌∙◌}
use lib.Dec.{eqb}
use Rattle.std.proofs.Common.{rules, tests}
use Rattle.std.proofs.lemmas.Iterator.{YieldsList-from_slice}
use Rattle.std.proofs.lemmas.Iterator.Search.{any_from_yields_List}
use Rattle.explain_trace_said.proofs.Saying.{stands_in_lem}
use Rattle.explain_trace_said.proofs.asked.stands_in.Goals as goal

pub returns : goal.returns
returns c =
    any_from_yields_List (λ b. eqb b c.args.byte) _ _ _ c.any.ensures.ran (YieldsList-from_slice _ c.iter.ensures.rest) (λ x b q k. search (rules, tests))
    ∙ stands_in_lem _ _
