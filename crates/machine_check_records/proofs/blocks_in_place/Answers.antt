-- `machine_check_records::blocks_in_place` meets its contract.
use mathlib.Core.Path.{◌≡◌, sym, ◌∙◌}
use mathlib.Core.Bool.{true, false}
use Rattle.machine.specs.Words.{moment_at, zero_from, blocks_in_place, slots_hold}
use Rattle.machine_words.specs.Tests.{blocks_due}
use Rattle.machine_words.proofs.TestLaws.{fails, fails_by, not_both, has_failed, has_passed}
use Rattle.machine_check_slots.proofs.SlotLaws.{all_kept}
use Rattle.machine_check_slots.proofs.KeptLaws.{environment_unfit, environment_unrested, none_kept, outer_fails, outer_kept}
use borrow.Author.Rules.{rules}
use Rattle.machine_check_records.proofs.blocks_in_place.Goals as goal

pub returns-then-not-zero_from : goal.returns-then-not-zero_from
returns-then-not-zero_from c =
    let a = c.args in
    let z : zero_from a.m.now 12104 8 ≡ false = sym c.zero_from.ensures ∙ c.if-not-zero_from.true in
    let no = environment_unfit a.size a.m.now z in
    (fails _ _ no, not_both no, none_kept _ _ _ z)

pub returns-in_err-outer : goal.returns-in_err-outer
returns-in_err-outer c =
    let a = c.args in
    let q = has_failed _ _ _ c.block_rests.ensures c.in_err-outer.was in
    let z : zero_from a.m.now 12104 8 ≡ true = sym c.zero_from.ensures ∙ c.if-not-zero_from.false in
    let now_is : c.present_moment-present.result.0 ≡ moment_at a.m.now 1 = c.present_moment-present.ensures in
    let no = environment_unrested a.size a.m.now z _ now_is q in
    (fails_by _ _ c.from_residual.ensures no, not_both no, outer_fails _ _ _ z _ now_is q)

pub returns : goal.returns
unfolding blocks_due
returns c =
    let q = has_passed _ _ _ _ c.block_rests.ensures c.in_ok-outer.was in
    let same : blocks_in_place c.args.size c.args.m.now ≡ slots_hold c.args.n c.present_moment-present.result.0 c.args.m.now 64 =
    unfold blocks_in_place in
    rw (sym c.zero_from.ensures ∙ c.if-not-zero_from.false, ← c.present_moment-present.ensures, q.0, ← c.requires.2) in (
      rw (same, ← q.1) c.slots_hold.ensures.0,
      λ e. all_kept _ _ c.args.dues.now _ _ (search rules) q.1 (c.slots_hold.ensures.1 (sym same ∙ e)),
      c.slots_hold.ensures.2 ∙ outer_kept _ _ c.args.dues.now (sym c.zero_from.ensures ∙ c.if-not-zero_from.false) _ c.present_moment-present.ensures _ _ c.requires.2 q.0 q.1,
    )
