-- `session_trace::ended` meets its contract.
use borrow.Enum.Refused.{opened}
use mathlib.Core.Path.{sym, ap, ◌∙◌}
use borrow.Author.Tests.{eq-eqb, ne_eqb}
use Rattle.session_trace.specs.Groups.{ended_by}
use Rattle.session_trace.proofs.Groups as groups
use Rattle.session_trace.proofs.group.ended.Goals as goal

pub returns-in_default : goal.returns-in_default
returns-in_default c = groups.ended_other c.args.length c.args.line (opened c.in_default.in_default-own.keys2)

pub returns-then-stop-eq10 : goal.returns-then-stop-eq10
returns-then-stop-eq10 c = sym (ap (ended_by c.args.length) c.in-Last.is ∙ rw (eq-eqb _ 10 c.if-stop-eq10.true))

pub returns : goal.returns
returns c = sym (ap (ended_by c.args.length) c.in-Last.is ∙ rw (ne_eqb _ 10 c.if-stop-eq10.false))
