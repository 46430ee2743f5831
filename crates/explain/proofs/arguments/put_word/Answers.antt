-- `explain::arguments::put_word` meets its contract.
use mathlib.Core.Path.{refl, sym, ◌∙◌}
use native.Mathlib.Omega.{arith}
use Rattle.explain.specs.Arguments.{no_listing, trace, flag, listing}
use Rattle.explain.proofs.arguments.put_word.Goals as goal

pub returns-in-Some : goal.returns-in-Some
returns-in-Some g c = let p = c.put_traced.ensures in (trace c.if-held.true c.in-Some.is p.0, p.1)

pub returns-in-None : goal.returns-in-None
returns-in-None g c = let p = c.put_usage.ensures in (no_listing c.if-held.true c.in-None.is p.0, omega (arith, p.1))

pub returns-then-is_flag : goal.returns-then-is_flag
returns-then-is_flag g c = (flag c.if-held.false (sym c.is_flag.ensures ∙ c.if-is_flag.true) refl, omega arith)

pub returns : goal.returns
returns g c = let p = c.put_file.ensures in (listing c.if-held.false (sym c.is_flag.ensures ∙ c.if-is_flag.false) p.0, p.1)
