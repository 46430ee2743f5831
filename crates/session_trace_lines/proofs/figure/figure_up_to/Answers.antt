-- `session_trace_lines::figure_up_to` meets its contract.
use Prim.Native.Nat.{◌≤◌, ◌<◌}
use mathlib.Core.Path.{sym, ◌∙◌}
use native.Mathlib.Omega.{arith}
use lib.ListN.{length, get_or}
use borrow.Author.Rules.{rules}
use Rattle.session_trace_lines.proofs.Bounds as bounds
use Rattle.session_trace_lines.proofs.figure.figure_up_to.Goals as goal

pub returns-then-from-to : goal.returns-then-from-to
returns-then-from-to c = let a = c.args in sym (bounds.figure_none _ a.s.now a.from a.to c.if-from-to.true)

pub returns-then-from-to-2 : goal.returns-then-from-to-2
returns-then-from-to-2 c =
    let a = c.args in
    let s = a.s.now in
    let k : a.to ≤ length s = c.requires.1 in
    sym (bounds.zero_only a.most s a.from a.to k c.if-s-from-eq48.true c.if-from-to-2.true)

pub returns-then-s-from-eq48 : goal.returns-then-s-from-eq48
returns-then-s-from-eq48 c =
    let a = c.args in
    let s = a.s.now in
    let k : a.to ≤ length s = c.requires.1 in
    sym (bounds.zero_leads a.most s a.from a.to k c.requires.0 c.if-from-to.false c.if-s-from-eq48.true c.if-from-to-2.false)

pub loop-i-init : goal.loop-i-init
loop-i-init c = bounds.reading_begun _ _ _ c.requires.0

pub returns-then-not-is_digit : goal.returns-then-not-is_digit
returns-then-not-is_digit c =
    let a = c.args in
    let s = a.s.now in
    let k : a.to ≤ length s = c.requires.1 in
    let v = c.loop-i in
    sym (bounds.reading_bad s a.from a.to a.most v.n v.i k v.invariant c.loop-i-test.true _ c.is_digit.ensures c.if-not-is_digit.true)

pub overflow_sub-b : goal.overflow_sub-b
overflow_sub-b c = let d = bounds.digit_low (get_or c.args.s.now c.loop-i.i 0) _ c.is_digit.ensures c.if-not-is_digit.false in omega (arith, d)

pub append_digit-requires : goal.append_digit-requires
append_digit-requires c = let d = bounds.digit_high (get_or c.args.s.now c.loop-i.i 0) _ c.is_digit.ensures c.if-not-is_digit.false in omega (arith, d, c.from.ensures)

pub returns-in_default : goal.returns-in_default
returns-in_default c =
    let a = c.args in
    let s = a.s.now in
    let k : a.to ≤ length s = c.requires.1 in
    let bits : a.most < 18446744073709551616 = search rules in
    let v = c.loop-i in
    sym (bounds.reading_large s a.from a.to a.most v.n v.i k bits v.invariant c.loop-i-test.true _ c.from.ensures
    (sym c.in_default.is ∙ c.append_digit.ensures))

pub loop-i-preserved : goal.loop-i-preserved
loop-i-preserved c =
    let a = c.args in
    let s = a.s.now in
    let k : a.to ≤ length s = c.requires.1 in
    let v = c.loop-i in
    bounds.reading_on s a.from a.to a.most v.n v.i k v.invariant c.loop-i-test.true _ c.is_digit.ensures c.if-not-is_digit.false
    _ c.from.ensures _ (sym c.in-Some.is ∙ c.append_digit.ensures)

pub returns-then-n-most : goal.returns-then-n-most
returns-then-n-most c =
    let a = c.args in
    let s = a.s.now in
    let k : a.to ≤ length s = c.requires.1 in
    let v = c.loop-i in
    sym (bounds.reading_over s a.from a.to a.most v.n v.i k v.invariant c.loop-i-test.false c.if-n-most.true)

pub returns : goal.returns
returns c =
    let a = c.args in
    let s = a.s.now in
    let k : a.to ≤ length s = c.requires.1 in
    let v = c.loop-i in
    bounds.reading_done s a.from a.to a.most v.n v.i k c.requires.0 v.invariant c.loop-i-test.false c.if-from-to.false c.if-s-from-eq48.false c.if-n-most.false
