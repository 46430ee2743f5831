-- `engine_run::run_on` meets its contract.
use mathlib.Core.Path.{refl, ◌∙◌}
use native.Mathlib.Omega.{arith}
use borrow.Author.Rules.{rules}
use Rattle.engine_run_laws.specs.Going.{Going}
use Rattle.engine_run_laws.proofs.Going.{one_taken, going_begins, may_step_now, going_on, going_ends, going_halts, going_used_up}
use Rattle.engine_straight.proofs.OnTheWay.{may_run_on_now, may_go_alone, going_then, stops_then, went_to, went_to_stop}
use Rattle.engine_run.proofs.run_on.Goals as goal

pub loop-left-init : goal.loop-left-init
loop-left-init c = going_begins _ _ c.requires

pub run_straight-requires : goal.run_straight-requires
run_straight-requires c = may_go_alone _ _ c.requires c.loop-left.invariant

pub shape_of-m-in-StopsWith : goal.shape_of-m-in-StopsWith
shape_of-m-in-StopsWith c = c.run_straight.ensures.long ∙ c.loop-left.invariant.stays.outside.size

pub returns-in-StopsWith : goal.returns-in-StopsWith
returns-in-StopsWith c =
    let g = c.loop-left.invariant in
    let pre = c.requires in
    stops_then _ _ g _ (went_to_stop _ _ _ _ _ _ _ _ c.in-StopsWith.is (c.run_straight.ensures.went _ refl (may_run_on_now _ _ pre g)))

pub shape_of-m-then-left-eq0 : goal.shape_of-m-then-left-eq0
shape_of-m-then-left-eq0 c = c.run_straight.ensures.long ∙ c.loop-left.invariant.stays.outside.size

pub returns-then-left-eq0 : goal.returns-then-left-eq0
returns-then-left-eq0 c =
    let g = c.loop-left.invariant in
    let pre = c.requires in
    let w = went_to _ _ _ _ _ _ _ _ c.in-At.is (c.run_straight.ensures.went _ refl (may_run_on_now _ _ pre g)) in
    let h = going_then _ _ g w.0 in
    going_used_up _ _ h c.if-left-eq0.true

pub step-stepped-requires : goal.step-stepped-requires
step-stepped-requires c =
    let g = c.loop-left.invariant in
    let pre = c.requires in
    let w = went_to _ _ _ _ _ _ _ _ c.in-At.is (c.run_straight.ensures.went _ refl (may_run_on_now _ _ pre g)) in
    let h = going_then _ _ g w.0 in
    (may_step_now _ _ pre h, w.2 (omega (arith, c.if-left-eq0.false)))

pub loop-left-smaller : goal.loop-left-smaller
loop-left-smaller c =
    let g = c.loop-left.invariant in
    let pre = c.requires in
    let w = went_to _ _ _ _ _ _ _ _ c.in-At.is (c.run_straight.ensures.went _ refl (may_run_on_now _ _ pre g)) in
    let h = going_then _ _ g w.0 in
    omega (arith, w.1, c.if-left-eq0.false)

pub loop-left-preserved : goal.loop-left-preserved
loop-left-preserved c =
    let g = c.loop-left.invariant in
    let pre = c.requires in
    let w = went_to _ _ _ _ _ _ _ _ c.in-At.is (c.run_straight.ensures.went _ refl (may_run_on_now _ _ pre g)) in
    let h = going_then _ _ g w.0 in
    going_on _ _ (one_taken _ _ h (omega (arith, c.if-left-eq0.false))) (c.step-stepped.ensures _) pre c.in-Goes.is

pub shape_of-m-in-Ends : goal.shape_of-m-in-Ends
shape_of-m-in-Ends c = (c.step-stepped.ensures 0).stays.outside.size ∙ c.run_straight.ensures.long ∙ c.loop-left.invariant.stays.outside.size

pub returns-in-Ends : goal.returns-in-Ends
returns-in-Ends c =
    let g = c.loop-left.invariant in
    let pre = c.requires in
    let w = went_to _ _ _ _ _ _ _ _ c.in-At.is (c.run_straight.ensures.went _ refl (may_run_on_now _ _ pre g)) in
    let h = going_then _ _ g w.0 in
    going_ends _ _ (one_taken _ _ h (omega (arith, c.if-left-eq0.false))) (c.step-stepped.ensures _) pre c.in-Ends.is

pub shape_of-m-in-Stops : goal.shape_of-m-in-Stops
shape_of-m-in-Stops c = (c.step-stepped.ensures 0).stays.outside.size ∙ c.run_straight.ensures.long ∙ c.loop-left.invariant.stays.outside.size

pub returns-in-Stops : goal.returns-in-Stops
returns-in-Stops c =
    let g = c.loop-left.invariant in
    let pre = c.requires in
    let w = went_to _ _ _ _ _ _ _ _ c.in-At.is (c.run_straight.ensures.went _ refl (may_run_on_now _ _ pre g)) in
    let h = going_then _ _ g w.0 in
    going_halts _ _ (one_taken _ _ h (omega (arith, c.if-left-eq0.false))) (c.step-stepped.ensures _) _ c.in-Stops.is

pub shape_of-m : goal.shape_of-m
shape_of-m c = c.loop-left.invariant.stays.outside.size

pub returns : goal.returns
returns c = going_used_up _ _ c.loop-left.invariant (omega (arith, c.loop-left-test.false))
