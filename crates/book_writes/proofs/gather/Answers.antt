-- `book_writes::gather` meets its contract.
use borrow.Enum.Refused.{opened}
use mathlib.Core.Path.{refl, sym, subst, ◌∙◌}
use native.Mathlib.Omega.{arith}
use lib.Seq.{length-take-le}
use Rattle.session_trace.specs.Groups.{NextIs}
use Rattle.session_trace.specs.declared.group.Next.{Next}
use Rattle.book_writes.proofs.Gathering as gathering
use Rattle.book_writes.proofs.gather.Goals as goal

pub loop-moment-init : goal.loop-moment-init
loop-moment-init c =
    let p = c.requires in
    (gathering.going_begun _ _ _ _ p.0 p.1 p.2, refl, refl)

pub next_call-requires : goal.next_call-requires
next_call-requires c =
    let v = c.loop-moment.invariant in
    (v.0.inside, omega (arith, v.1), omega (arith, v.2))

pub shape_of-moments-then-more-count : goal.shape_of-moments-then-more-count
shape_of-moments-then-more-count c = c.loop-moment.invariant.0.moments_long ∙ sym c.requires.0

pub shape_of-outputs-then-more-count : goal.shape_of-outputs-then-more-count
shape_of-outputs-then-more-count c = c.loop-moment.invariant.0.outputs_long ∙ sym c.requires.1

pub shape_of-values-then-more-count : goal.shape_of-values-then-more-count
shape_of-values-then-more-count c = c.loop-moment.invariant.0.values_long ∙ sym c.requires.2

pub returns-then-more-count : goal.returns-then-more-count
returns-then-more-count c =
    let v = c.loop-moment in
    let s = c.args.print.now in
    let made = c.next_call in
    let n = made.ensures in
    let a = n.numbers_stay.size in
    let b = n.values_stay.size in
    let call = subst (λ (r : Next). NextIs s v.at made.new.numbers made.new.values r) c.in-Call.is n.is in
    gathering.too_many s _ _ _ v.count v.at v.invariant.0 made.new.numbers made.new.values _ _ _ call (omega (arith, v.invariant.1, a)) (omega (arith, v.invariant.2, b)) c.if-more-count.true

pub put_writes-requires : goal.put_writes-requires
put_writes-requires c =
    let v = c.loop-moment in
    let s = c.args.print.now in
    let made = c.next_call in
    let n = made.ensures in
    let a = n.numbers_stay.size in
    let b = n.values_stay.size in
    let call = subst (λ (r : Next). NextIs s v.at made.new.numbers made.new.values r) c.in-Call.is n.is in
    let x = length-take-le c.in-Call.more made.new.numbers (omega (arith, v.invariant.1, a, call.few)) in
    let y = length-take-le c.in-Call.more made.new.values (omega (arith, v.invariant.2, b, call.few)) in
    (v.invariant.0.moments_long, v.invariant.0.outputs_long, v.invariant.0.values_long, omega (arith, v.invariant.0.few, c.if-more-count.false, x), x ∙ sym y)

pub loop-moment-smaller : goal.loop-moment-smaller
loop-moment-smaller c =
    let v = c.loop-moment in
    let s = c.args.print.now in
    let made = c.next_call in
    let n = made.ensures in
    let a = n.numbers_stay.size in
    let b = n.values_stay.size in
    let call = subst (λ (r : Next). NextIs s v.at made.new.numbers made.new.values r) c.in-Call.is n.is in
    omega (arith, call.forward, call.inside)

pub loop-moment-preserved : goal.loop-moment-preserved
loop-moment-preserved c =
    let v = c.loop-moment in
    let s = c.args.print.now in
    let made = c.next_call in
    let n = made.ensures in
    let a = n.numbers_stay.size in
    let b = n.values_stay.size in
    let call = subst (λ (r : Next). NextIs s v.at made.new.numbers made.new.values r) c.in-Call.is n.is in
    let e = c.put_writes.ensures in
    let x = length-take-le c.in-Call.more made.new.numbers (omega (arith, v.invariant.1, a, call.few)) in
    (gathering.going_on s _ _ _ v.count v.at v.invariant.0 made.new.numbers made.new.values _ _ _ call _ _ _ c.if-more-count.false (rw x at e.0) e.1 e.2 e.3, a ∙ v.invariant.1, b ∙ v.invariant.2)

pub returns : goal.returns
returns c =
    let v = c.loop-moment in
    let made = c.next_call in
    gathering.gathered_other _ _ _ _ v.count v.at v.invariant.0 made.new.numbers made.new.values made.result made.ensures.is (opened c.in_default.in_default-own.keys2)
