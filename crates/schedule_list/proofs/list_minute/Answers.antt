-- `schedule_list::list_minute` meets its contract.
use mathlib.Core.Path.{sym, ap, ◌∙◌}
use Prim.Native.Nat.{◌*◌}
use Rattle.words.specs.Moments.{later_of}
use Rattle.schedule_list.proofs.Delays.{never_too_late, at_sum}
use Rattle.schedule_list.proofs.Lists as lists
use Rattle.schedule_list.proofs.list_minute.Goals as goal

pub returns-then-before-at : goal.returns-then-before-at
returns-then-before-at c =
    let a = c.args in
    lists.written_alike _ a.before a.at a.place _ _ _ c.if-before-at.true

pub returns-in_default : goal.returns-in_default
returns-in_default c = absurd (never_too_late c.args.first (c.args.later * 60000) c.requires.1 (sym (ap later_of c.in_default.is) ∙ c.later_moment.ensures))

pub list_changes-requires : goal.list_changes-requires
list_changes-requires c =
    let e = at_sum c.args.first (c.args.later * 60000) c.in-At.moment.0 (sym (ap later_of c.in-At.is) ∙ c.later_moment.ensures) in
    rw e c.requires.2

pub returns : goal.returns
returns c =
    let e = at_sum c.args.first (c.args.later * 60000) c.in-At.moment.0 (sym (ap later_of c.in-At.is) ∙ c.later_moment.ensures) in
    rw e at c.list_changes.ensures
