-- `session_print::put_write_lines` meets its contract.
use mathlib.Core.Path.{◌≡◌}
use mathlib.Core.Logic.{inl, inr}
use native.Mathlib.Omega.{arith}
use borrow.Author.Rules.{rules}
use Rattle.session_print.proofs.ListedWrites as listed
use Rattle.session_print.proofs.lines.put_write_lines.Goals as goal

pub loop-number-init : goal.loop-number-init
loop-number-init c =
    let a = c.args in
    let it = c.into_iter-number-iterator.result in
    let numbers : it.a.rest.now ≡ a.numbers.now = search rules in
    let values : it.b.rest.now ≡ a.values.now = search rules in
    rw (numbers, values) (listed.putting_begun a.out.now a.at a.moment a.numbers.now a.values.now)

pub put_write_line-place-requires : goal.put_write_line-place-requires
put_write_line-place-requires c = omega (arith, c.loop-number.invariant.few, c.requires.0, c.requires.1)

pub loop-number-preserved : goal.loop-number-preserved
loop-number-preserved c =
    let next = c.in-Some.ensures.steps in
    let e = c.put_write_line-place.ensures in
    listed.putting_on _ _ _ _ _ _ _ _ _ _ _ (rw (next.0, next.1) at c.loop-number.invariant) _ _ e.0 e.1

pub returns : goal.returns
returns c =
    listed.putting_done c.loop-number.invariant
    (elim c.in-None.ensures.steps [ inl h ↦ listed.no_numbers _ _ _ h.1.0 | inr h ↦ listed.no_values _ _ _ h.1.0 ])
