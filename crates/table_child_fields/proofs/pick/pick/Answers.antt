-- `table_child_fields::pick::pick` meets its contract.
use Rattle.table_child_fields.proofs.PickLaws.{no_maker_low, no_maker_high, a_maker_picked}
use Rattle.table_child_fields.proofs.pick.pick.Goals as goal

pub returns-then-child-fields : goal.returns-then-child-fields
returns-then-child-fields c = no_maker_low _ _ _ _ _ c.if-child-fields.true

pub returns-then-fields-skip : goal.returns-then-fields-skip
returns-then-fields-skip c = no_maker_high _ _ _ _ _ c.if-child-fields.false c.if-fields-skip.true

pub returns : goal.returns
returns c =
    let a = c.args in
    a_maker_picked a.t.now a.fields.head a.fields.left a.fields.next a.child c.head_after-head.result _ _ c.if-child-fields.false c.if-fields-skip.false c.head_after-head.ensures
    c.head_at-routine.ensures.1 c.next_head-after.ensures
