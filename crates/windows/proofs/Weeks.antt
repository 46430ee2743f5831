-- The week that reading a schedule leaves tells of every moment which inputs are open. Letters: t a text, s the schedule read, w the week.
use mathlib.Core.Path.{◌≡◌, sym, ◌∙◌}
use mathlib.Core.List.{List, [], ◌∷◌}
use mathlib.Core.Option.{some}
use Prim.Native.Nat.{ℕ, ◌/◌, ◌%◌}
use native.Mathlib.Omega.{arith}
use Rattle.listing.specs.Bytes.{Bytes}
use Rattle.listing.specs.Expressions.{each}
use Rattle.listing.specs.Questions.{closed_lines}
use Rattle.listing.proofs.FieldsBack.{bound}
use Rattle.schedule.specs.Calendar.{weekday_after}
use Rattle.schedule.specs.Schedule.{Window, Schedule}
use Rattle.schedule.specs.Form.{read_window}
use Rattle.schedule_laws.proofs.Places as places
use Rattle.schedule_week.specs.Week.{WeekOf}
use Rattle.schedule_week.proofs.Union.{union_is}
use Rattle.schedule_read.specs.Reading.{ahead, windows_before, WeekAfter, WeekBefore}
use Rattle.schedule_minutes.proofs.Agree.{Tells}

-- where every line is a window, all of them come before the first that is none
windows_all : (lines : List Bytes) (ws : List Window) → each read_window lines ≡ some ws → windows_before lines ≡ ws
unfolding each windows_before ahead
windows_all [] ws e = let z : ws ≡ [] = cc in sym z
windows_all (line ∷ lines) ws e =
    let u = bound (read_window line) _ ws e in
    let v = bound (each read_window lines) _ ws u.on in
    let z : u.got ∷ v.got ≡ ws = let f : some (u.got ∷ v.got) ≡ some ws = v.on in cc in
    rw (u.from, windows_all lines v.got v.from) z

pub week_tells : (t : Bytes) (s : Schedule) (w : List ℕ) → places.Reads t s → WeekBefore (closed_lines t) w → Tells s w
week_tells t s w r before k m h =
    let by_lines : WeekBefore (r.line ∷ r.lines) w = rw r.closed at before in
    let by-date : WeekAfter (some s.date) r.lines w = rw r.date_read at by_lines in
    let week : WeekOf (weekday_after s.date 0) s.windows w = rw (windows_all r.lines s.windows r.windows_read) at by-date in
    union_is s r.is_schedule k m ∙ sym (week.bits k (m / 60000 % 10080) (omega arith))
