-- `explain::verdict::judge` meets its contract.
use Rattle.explain_listing.specs.Verdicts.{too_long}
use Rattle.explain_listing.proofs.Judging.{it_loads, it_fails}
use Rattle.explain_listing.proofs.verdict.judge.Goals as goal

pub returns-then-listing-gt-LONGEST : goal.returns-then-listing-gt-LONGEST
returns-then-listing-gt-LONGEST c = too_long c.if-listing-gt-LONGEST.true

pub returns-in-Done : goal.returns-in-Done
returns-in-Done c = it_loads c.args.listing.now c.table-words.result c.load-answer.result c.if-listing-gt-LONGEST.false c.table-words.ensures c.load-answer.ensures.0 c.in-Done.is

pub returns-in-Refused : goal.returns-in-Refused
returns-in-Refused c = it_fails c.args.listing.now c.table-words.result c.load-answer.result _ _ c.if-listing-gt-LONGEST.false c.table-words.ensures c.load-answer.ensures.0 c.in-Refused.is
