-- `text_limits::count_opens` meets its contract.
use native.Mathlib.Omega.{arith}
use Rattle.text_limits.proofs.CountLaws as laws
use Rattle.text_limits.proofs.counts.count_opens.Goals as goal

pub returns-then-held-ge-MOST_ROUTINES : goal.returns-then-held-ge-MOST_ROUTINES
returns-then-held-ge-MOST_ROUTINES c =
    let a = c.args in
    laws.too_many_routines a.held c.requires a.arguments a.locals c.if-held-ge-MOST_ROUTINES.true

pub returns-then-arguments-gt-MOST_NAMES : goal.returns-then-arguments-gt-MOST_NAMES
returns-then-arguments-gt-MOST_NAMES c =
    let a = c.args in
    laws.too_many_names a.held c.requires a.arguments a.locals (omega arith) (omega (arith, c.if-arguments-gt-MOST_NAMES.true))

pub returns-then-arguments-locals : goal.returns-then-arguments-locals
returns-then-arguments-locals c =
    let a = c.args in
    laws.too_many_names a.held c.requires a.arguments a.locals (omega arith) (omega (arith, c.if-arguments-locals.true, c.if-arguments-gt-MOST_NAMES.false))

pub returns : goal.returns
returns c =
    let a = c.args in
    laws.opens_counted a.held c.requires a.arguments a.locals (omega arith) (omega (arith, c.if-arguments-locals.false, c.if-arguments-gt-MOST_NAMES.false))
