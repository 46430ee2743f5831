-- `explain_trace_said::reason::put_rule` meets its contract.
use mathlib.Core.Path.{refl}
use Rattle.session_print.proofs.LineBytes as line
use Rattle.listing.specs.Bytes.{bytes_of, join}
use Rattle.explain_trace_said.specs.Reasons.{rule_texts, joined_rules}
use Rattle.explain_trace_said.proofs.Saying.{rule_by_line}
use Rattle.explain_trace_said.proofs.reason.put_rule.Goals as goal

pub returns : goal.returns
unfolding joined_rules rule_texts bytes_of join
returns c = let p = c.put_line.ensures in (line.same_bytes (rule_by_line _ _ refl) p.0, p.1)
