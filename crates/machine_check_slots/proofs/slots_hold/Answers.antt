-- `machine_check_slots::slots_hold` meets its contract.
use mathlib.Core.Path.{◌≡◌, refl, sym, ◌∙◌}
use mathlib.Core.Bool.{true, false}
use lib.ListN.{length-set}
use native.Mathlib.Omega.{arith}
use Rattle.machine_check_slots.proofs.Laws.{one_slot}
use Rattle.machine_words.proofs.TestLaws.{fails_by, not_both, has_failed, has_passed}
use Rattle.machine_check_slots.proofs.SlotLaws.{slots_begin, slots_go_on, slots_end, no_slot_kept, one_more_kept}
use Rattle.machine_check_slots.proofs.KeptLaws.{kept_on, kept_so_far, kept_all}
use borrow.Author.Rules.{rules}
use Rattle.machine_check_slots.proofs.slots_hold.Goals as goal

pub loop-s-init : goal.loop-s-init
loop-s-init c = (slots_begin _ _ _ _, search rules, no_slot_kept _ _, refl)

pub returns-in_err-here : goal.returns-in_err-here
returns-in_err-here c =
    let v = c.loop-s in
    let more = c.loop-s-test.true in
    let f = has_failed _ _ _ c.slot_holds.ensures c.in_err-here.was in
    let no = sym (sym (one_slot _ _ _ v.s false more f) ∙ v.invariant.0.holds) in
    (fails_by _ _ c.from_residual.ensures no, not_both no, kept_so_far _ _ _ _ v.s more f ∙ v.invariant.3)

pub loop-s-preserved : goal.loop-s-preserved
loop-s-preserved c =
    let v = c.loop-s in
    let more = c.loop-s-test.true in
    let p = has_passed _ _ _ _ c.slot_holds.ensures c.in_ok-here.was in (
      slots_go_on _ _ _ _ _ _ _ v.s more v.invariant.0 (one_slot _ _ _ v.s true more p.0) p.1 c.sooner-found.ensures,
      simp length-set v.invariant.1,
      one_more_kept _ _ _ v.s _ more v.invariant.0.within v.invariant.1 v.invariant.2 p.1,
      sym (kept_on _ _ _ _ v.s _ more p.0 p.1) ∙ v.invariant.3,
    )

pub returns : goal.returns
returns c =
    let v = c.loop-s in
    let z : v.s ≡ 0 = omega (arith, c.loop-s-test.false) in
    (slots_end _ _ _ _ _ _ c.loop-s-test.false v.invariant.0, λ e. rw z at v.invariant.2, kept_all _ _ _ _ v.s z ∙ v.invariant.3)
