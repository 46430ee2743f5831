-- `explain_reasons::tally::limit_of` meets its contract.
use borrow.Author.Tests.{lt-ltb, le-ltb}
use Rattle.explain_reasons.specs.Tallies.{limit_of}
use Rattle.explain_reasons.proofs.tally.limit_of.Goals as goal

pub returns-then-held-gt49152 : goal.returns-then-held-gt49152
unfolding limit_of
returns-then-held-gt49152 c = rw (lt-ltb 49152 _ c.if-held-gt49152.true)

pub returns-then-held-gt64 : goal.returns-then-held-gt64
unfolding limit_of
returns-then-held-gt64 c = rw (le-ltb 49152 _ c.if-held-gt49152.false, lt-ltb 64 _ c.if-held-gt64.true)

pub returns-then-held-gt512 : goal.returns-then-held-gt512
unfolding limit_of
returns-then-held-gt512 c = rw (le-ltb 49152 _ c.if-held-gt49152.false, le-ltb 64 _ c.if-held-gt64.false, lt-ltb 512 _ c.if-held-gt512.true)

pub returns-then-held-gt4096 : goal.returns-then-held-gt4096
unfolding limit_of
returns-then-held-gt4096 c = rw (le-ltb 49152 _ c.if-held-gt49152.false, le-ltb 64 _ c.if-held-gt64.false, le-ltb 512 _ c.if-held-gt512.false, lt-ltb 4096 _ c.if-held-gt4096.true)

pub returns : goal.returns
unfolding limit_of
returns c = rw (le-ltb 49152 _ c.if-held-gt49152.false, le-ltb 64 _ c.if-held-gt64.false, le-ltb 512 _ c.if-held-gt512.false, le-ltb 4096 _ c.if-held-gt4096.false)
