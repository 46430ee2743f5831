-- `session_trace::next_call` meets its contract.
use borrow.Enum.Refused.{opened}
use mathlib.Core.Path.{sym, subst, ◌∙◌}
use native.Mathlib.Omega.{arith}
use Rattle.session_trace.specs.Groups.{NextIs, JoinsIs}
use Rattle.session_trace.specs.declared.group.Next.{Next}
use Rattle.session_trace.specs.declared.group.Next.TheVariants.{Broken}
use Rattle.std.specs.Prelude.{Option}
use Rattle.session_trace.specs.declared.group.Joined.{Joined}
use Rattle.session_trace.proofs.Groups as groups
use Rattle.session_trace.proofs.Scripts as scripts
use Rattle.session_trace.proofs.group.next_call.Goals as goal

pub returns-in_default : goal.returns-in_default
returns-in_default c =
    let a = c.args in
    let s = a.trace.now in
    groups.nothing_read s a.at a.numbers.now a.values.now c.ended.result
    (subst (λ (r : Next). NextIs s a.at a.numbers.now a.values.now r) (sym c.ended.ensures) (groups.no_input_next s a.at _ _ _ c.read_trace_line-line.ensures (opened c.in_default.in_default-own.keys2)))

pub returns-then-stop-ne10 : goal.returns-then-stop-ne10
returns-then-stop-ne10 c =
    let a = c.args in
    let s = a.trace.now in
    groups.nothing_read s a.at a.numbers.now a.values.now Broken (scripts.input_open s a.at _ _ _ _ _ (sym c.in-Input.is ∙ c.read_trace_line-line.ensures) c.if-stop-ne10.true)

pub loop-input-init : goal.loop-input-init
loop-input-init c =
    let a = c.args in
    let s = a.trace.now in
    let j = scripts.from_input s a.at _ _ _ _ _ (sym c.in-Input.is ∙ c.read_trace_line-line.ensures) c.if-stop-ne10.false in
    groups.group_begun s a.at _ _ _ _ _ _ _ _ _ j c.requires.1 c.requires.2 c.put_input-count.ensures

pub joining-requires : goal.joining-requires
joining-requires c = c.loop-input.invariant.inside

pub returns : goal.returns
returns c =
    let a = c.args in
    let s = a.trace.now in
    let v = c.loop-input in
    let time = c.in-Input.time in
    let apart = subst (λ (r : Option Joined). JoinsIs s v.next time r) c.in_default-joining.is c.joining.ensures in
    let put = c.put_input-count.ensures in
    groups.group_read v.invariant put apart

pub put_input-count-requires-in-Some : goal.put_input-count-requires-in-Some
put_input-count-requires-in-Some c =
    let v = c.loop-input.invariant in
    (groups.group_few v, v.kept.long_numbers, v.kept.long_values)

pub loop-input-smaller : goal.loop-input-smaller
loop-input-smaller c =
    let a = c.args in
    let s = a.trace.now in
    let v = c.loop-input in
    let time = c.in-Input.time in
    let j = subst (λ (r : Option Joined). JoinsIs s v.next time r) c.in-Some.is c.joining.ensures in
    omega (arith, j.forward, j.inside)

pub loop-input-preserved : goal.loop-input-preserved
loop-input-preserved c =
    let a = c.args in
    let s = a.trace.now in
    let v = c.loop-input in
    let time = c.in-Input.time in
    let j = subst (λ (r : Option Joined). JoinsIs s v.next time r) c.in-Some.is c.joining.ensures in
    groups.group_on v.invariant _ _ _ _ _ _ j c.put_input-count-in-Some.ensures
