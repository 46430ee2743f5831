-- `explain_parts::shown::put_escaped` meets its contract.
use native.Mathlib.Omega.{arith}
use Rattle.session_print.proofs.LineBytes as line
use Rattle.explain_parts.proofs.Showing as showing
use Rattle.explain_parts.proofs.shown.put_escaped.Goals as goal

pub returns-then-b-eq9 : goal.returns-then-b-eq9
returns-then-b-eq9 c = (showing.tab_put _ c.if-b-eq9.true c.put_byte.ensures c.put_byte-then-b-eq9.ensures, omega arith)

pub returns-then-b-lt32 : goal.returns-then-b-lt32
returns-then-b-lt32 c = let p = c.put_hex.ensures in (line.same_bytes (showing.below_shown _ c.if-b-eq9.false c.if-b-lt32.true) p.0, p.1)

pub returns-then-b-gt126 : goal.returns-then-b-gt126
returns-then-b-gt126 c = let p = c.put_hex-then-b-gt126.ensures in (line.same_bytes (showing.above_shown _ c.if-b-eq9.false c.if-b-lt32.false c.if-b-gt126.true) p.0, p.1)

pub returns : goal.returns
returns c = (line.same_bytes (showing.plain_shown _ c.if-b-eq9.false c.if-b-lt32.false c.if-b-gt126.false) (line.one_byte _ _ _ _ c.put_byte-2.ensures), omega arith)
