-- `explain_trace_said::asked::put_word` meets its contract.
use native.Mathlib.Omega.{arith}
use Rattle.listing.specs.Bytes.{bytes_of}
use Rattle.session_print.proofs.LineBytes as line
use Rattle.explain_trace_said.specs.Asked.{word_text}
use Rattle.explain_trace_said.proofs.asked.put_word.Goals as goal

pub returns-then-alone : goal.returns-then-alone
unfolding word_text bytes_of
returns-then-alone c = let a = c.put_text.ensures in (line.same_bytes (rw c.if-alone.true) a.0, omega (arith, a.1))

pub returns : goal.returns
unfolding word_text bytes_of
returns c = let a = c.put_text-2.ensures in (line.same_bytes (rw c.if-alone.false) a.0, omega (arith, a.1))
