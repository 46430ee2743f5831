use Rattle.schedule.specs.Edges.{changes}
use Rattle.schedule_week.specs.Week.{is_marked}
use Rattle.schedule_list.specs.Lists.{Written}
use Rattle.schedule_list.proofs.list_changes.Given as goal

abbrev pub invariant-loop-input : goal.invariant-loop-input
invariant-loop-input l = Written (changes l.moment (is_marked l.before) (is_marked l.at) l.input) l.place l.initial.moments l.initial.inputs l.initial.values l.moments l.inputs l.values l.next
