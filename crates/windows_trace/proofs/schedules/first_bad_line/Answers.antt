-- `windows_trace::first_bad_line` meets its contract.
use Rattle.windows_trace.proofs.schedules.first_bad_line.Goals as goal

pub read_schedule-requires : goal.read_schedule-requires
read_schedule-requires c = c.empty_week-week.ensures.1
