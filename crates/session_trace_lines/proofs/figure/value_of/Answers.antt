-- `session_trace_lines::value_of` meets its contract.
use Prim.Native.Nat.{◌≤◌, ◌<◌}
use mathlib.Core.Path.{sym, ◌∙◌}
use native.Mathlib.Omega.{arith}
use lib.ListN.{length}
use borrow.Author.Rules.{rules}
use Rattle.session_trace_lines.proofs.Bounds as bounds
use Rattle.session_trace_lines.proofs.figure.value_of.Goals as goal

pub returns-then-from-to : goal.returns-then-from-to
returns-then-from-to c =
    let a = c.args in
    sym (bounds.signed_none a.s.now a.from a.to c.if-from-to.true)

pub returns-in_default : goal.returns-in_default
returns-in_default c =
    let a = c.args in
    let s = a.s.now in
    let k : a.to ≤ length s = c.requires.1 in
    let low : a.from ≤ a.to = c.requires.0 in
    let first : a.from < a.to = omega (arith, low, c.if-from-to.false) in
    sym (bounds.signed_minus s a.from a.to first k c.if-s-from-eq45.true _ (sym c.in_default.is ∙ c.figure_up_to.ensures))

pub returns-then-n-lt1 : goal.returns-then-n-lt1
returns-then-n-lt1 c =
    let a = c.args in
    let s = a.s.now in
    let k : a.to ≤ length s = c.requires.1 in
    let low : a.from ≤ a.to = c.requires.0 in
    let first : a.from < a.to = omega (arith, low, c.if-from-to.false) in
    sym (bounds.signed_minus s a.from a.to first k c.if-s-from-eq45.true _ (sym c.in-Value.is ∙ c.figure_up_to.ensures) ∙ bounds.negated_zero _ c.if-n-lt1.true)

pub overflow_sub-result : goal.overflow_sub-result
overflow_sub-result c =
    let small = bounds.below_fits _ _ _ (sym c.in-Value.is ∙ c.figure_up_to.ensures) in
    search rules

pub returns-then-s-from-eq45 : goal.returns-then-s-from-eq45
returns-then-s-from-eq45 c =
    let a = c.args in
    let s = a.s.now in
    let k : a.to ≤ length s = c.requires.1 in
    let low : a.from ≤ a.to = c.requires.0 in
    let first : a.from < a.to = omega (arith, low, c.if-from-to.false) in
    sym (bounds.signed_minus s a.from a.to first k c.if-s-from-eq45.true _ (sym c.in-Value.is ∙ c.figure_up_to.ensures) ∙ bounds.negated_in _ (omega (arith, c.if-n-lt1.false)))

pub returns : goal.returns
returns c =
    let a = c.args in
    let s = a.s.now in
    let k : a.to ≤ length s = c.requires.1 in
    let low : a.from ≤ a.to = c.requires.0 in
    let first : a.from < a.to = omega (arith, low, c.if-from-to.false) in
    bounds.signed_plain s a.from a.to first k c.if-s-from-eq45.false _ c.figure_up_to-2.ensures
