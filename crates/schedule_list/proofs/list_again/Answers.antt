-- `schedule_list::list_again` meets its contract.
use mathlib.Core.Path.{refl, sym, ap, ◌∙◌}
use lib.ListN.{set}
use Rattle.words.specs.Moments.{later_of}
use Rattle.schedule_list.proofs.Delays.{never_too_late, at_sum}
use Rattle.schedule_list.proofs.list_again.Goals as goal

pub returns-in_default : goal.returns-in_default
returns-in_default c = absurd (never_too_late _ _ c.requires.4 (sym (ap later_of c.in_default.is) ∙ c.later_moment.ensures))

pub returns : goal.returns
returns c =
    let e = at_sum _ _ c.in-At.moment.0 (sym (ap later_of c.in-At.is) ∙ c.later_moment.ensures) in
    (ap (set c.args.moments.now c.args.place) e, refl, refl)
