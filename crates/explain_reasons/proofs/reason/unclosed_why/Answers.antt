-- `explain_reasons::reason::unclosed_why` meets its contract.
use Rattle.explain_reasons.proofs.Tallies.{empty_text, some_text}
use Rattle.explain_reasons.proofs.reason.unclosed_why.Goals as goal

pub returns-then-listing-eq0 : goal.returns-then-listing-eq0
returns-then-listing-eq0 c = empty_text c.args.listing.now c.if-listing-eq0.true

pub returns : goal.returns
returns c = some_text c.args.listing.now c.if-listing-eq0.false
