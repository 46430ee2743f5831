-- `explain::said::put_rule` meets its contract.
use native.Mathlib.Omega.{arith}
use Rattle.session_print.proofs.LineBytes as line
use Rattle.explain_listing.proofs.said.put_rule.Goals as goal

pub returns : goal.returns
returns c =
    let rule = c.put_sentence-a.ensures in
    (line.then_bytes rule.0 (line.one_byte _ _ 10 _ c.put_byte.ensures), omega (arith, rule.1))
