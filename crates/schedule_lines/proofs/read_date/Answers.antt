-- `schedule_lines::read_date` meets its contract.
use mathlib.Core.Path.{sym, ◌∙◌}
use Rattle.text_jumps.proofs.Chain.{number_got}
use Rattle.schedule_lines.proofs.Fields.{Numbered}
use Rattle.schedule_lines.proofs.Dates as dates
use Rattle.schedule_lines.proofs.read_date.Goals as goal
use Rattle.schedule_lines.proofs.read_date.Goals.{then-stop-eq9-via-then-stop-eq9, then-stop-eq9-via-else-stop-eq9+then-not-is_real_date}

pub returns-in_default : goal.returns-in_default
returns-in_default c =
    let a = c.args in
    dates.year_none a.s.now a.place (sym c.in_default.is ∙ c.number_field.ensures)

pub number_field-requires-2 : goal.number_field-requires-2
number_field-requires-2 c =
    let year : Numbered c.args.s.now c.args.place 9 c.in-Read.year c.in-Read.b1 c.in-Read.p1 = number_got _ _ _ c.requires _ _ _ (sym c.in-Read.is ∙ c.number_field.ensures) in
    year.1.within

pub returns-in_default-number_field : goal.returns-in_default-number_field
returns-in_default-number_field c =
    let year : Numbered c.args.s.now c.args.place 9 c.in-Read.year c.in-Read.b1 c.in-Read.p1 = number_got _ _ _ c.requires _ _ _ (sym c.in-Read.is ∙ c.number_field.ensures) in
    dates.month_none _ _ year (sym c.in_default-number_field.is ∙ c.number_field-2.ensures)

pub number_field-requires-3 : goal.number_field-requires-3
number_field-requires-3 c =
    let year : Numbered c.args.s.now c.args.place 9 c.in-Read.year c.in-Read.b1 c.in-Read.p1 = number_got _ _ _ c.requires _ _ _ (sym c.in-Read.is ∙ c.number_field.ensures) in
    let month : Numbered c.args.s.now c.in-Read.p1 c.in-Read.b1 c.in-Read-number_field.month c.in-Read-number_field.b2 c.in-Read-number_field.p2 = number_got _ _ _ year.1.within _ _ _ (sym c.in-Read-number_field.is ∙ c.number_field-2.ensures) in
    month.1.within

pub returns-in_default-number_field-2 : goal.returns-in_default-number_field-2
returns-in_default-number_field-2 c =
    let year : Numbered c.args.s.now c.args.place 9 c.in-Read.year c.in-Read.b1 c.in-Read.p1 = number_got _ _ _ c.requires _ _ _ (sym c.in-Read.is ∙ c.number_field.ensures) in
    let month : Numbered c.args.s.now c.in-Read.p1 c.in-Read.b1 c.in-Read-number_field.month c.in-Read-number_field.b2 c.in-Read-number_field.p2 = number_got _ _ _ year.1.within _ _ _ (sym c.in-Read-number_field.is ∙ c.number_field-2.ensures) in
    dates.day_none _ _ year month (sym c.in_default-number_field-2.is ∙ c.number_field-3.ensures)

pub returns-then-stop-eq9 : goal.returns-then-stop-eq9
returns-then-stop-eq9 c =
    let year : Numbered c.args.s.now c.args.place 9 c.in-Read.year c.in-Read.b1 c.in-Read.p1 = number_got _ _ _ c.requires _ _ _ (sym c.in-Read.is ∙ c.number_field.ensures) in
    let month : Numbered c.args.s.now c.in-Read.p1 c.in-Read.b1 c.in-Read-number_field.month c.in-Read-number_field.b2 c.in-Read-number_field.p2 = number_got _ _ _ year.1.within _ _ _ (sym c.in-Read-number_field.is ∙ c.number_field-2.ensures) in
    let day : Numbered c.args.s.now c.in-Read-number_field.p2 c.in-Read-number_field.b2 c.in-Read-number_field-2.day c.in-Read-number_field-2.stop c.in-Read-number_field-2.next = number_got _ _ _ month.1.within _ _ _ (sym c.in-Read-number_field-2.is ∙ c.number_field-3.ensures) in
    elim c.then-stop-eq9.branch [
      | then-stop-eq9-via-then-stop-eq9 w ↦ dates.more_fields _ _ year month day w.if-stop-eq9.true
      | then-stop-eq9-via-else-stop-eq9+then-not-is_real_date w ↦ dates.date_unreal _ _ year month day w.if-stop-eq9.false (sym w.is_real_date.ensures ∙ w.if-not-is_real_date.true)
    ]

pub returns : goal.returns
returns c =
    let year : Numbered c.args.s.now c.args.place 9 c.in-Read.year c.in-Read.b1 c.in-Read.p1 = number_got _ _ _ c.requires _ _ _ (sym c.in-Read.is ∙ c.number_field.ensures) in
    let month : Numbered c.args.s.now c.in-Read.p1 c.in-Read.b1 c.in-Read-number_field.month c.in-Read-number_field.b2 c.in-Read-number_field.p2 = number_got _ _ _ year.1.within _ _ _ (sym c.in-Read-number_field.is ∙ c.number_field-2.ensures) in
    let day : Numbered c.args.s.now c.in-Read-number_field.p2 c.in-Read-number_field.b2 c.in-Read-number_field-2.day c.in-Read-number_field-2.stop c.in-Read-number_field-2.next = number_got _ _ _ month.1.within _ _ _ (sym c.in-Read-number_field-2.is ∙ c.number_field-3.ensures) in
    dates.date_read _ _ year month day c.if-stop-eq9.false (sym c.is_real_date.ensures ∙ c.if-not-is_real_date.false)
