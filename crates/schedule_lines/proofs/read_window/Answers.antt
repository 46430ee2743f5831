-- `schedule_lines::read_window` meets its contract.
use mathlib.Core.Path.{sym, ◌∙◌}
use Rattle.text_jumps.proofs.Chain.{number_got}
use Rattle.schedule_lines.proofs.Fields.{Numbered}
use Rattle.schedule_lines.proofs.Windows as windows
use Rattle.schedule_lines.proofs.read_window.Goals as goal
use Rattle.schedule_lines.proofs.read_window.Goals.{then-stop-eq9-via-then-stop-eq9, then-stop-eq9-via-else-stop-eq9+then-not-is_window}

pub returns-in_default : goal.returns-in_default
returns-in_default c =
    let a = c.args in
    windows.input_none a.s.now a.place (sym c.in_default.is ∙ c.number_field.ensures)

pub number_field-requires-2 : goal.number_field-requires-2
number_field-requires-2 c =
    let input : Numbered c.args.s.now c.args.place 9 c.in-Read.input c.in-Read.b1 c.in-Read.p1 = number_got _ _ _ c.requires _ _ _ (sym c.in-Read.is ∙ c.number_field.ensures) in
    input.1.within

pub returns-in_default-number_field : goal.returns-in_default-number_field
returns-in_default-number_field c =
    let input : Numbered c.args.s.now c.args.place 9 c.in-Read.input c.in-Read.b1 c.in-Read.p1 = number_got _ _ _ c.requires _ _ _ (sym c.in-Read.is ∙ c.number_field.ensures) in
    windows.weekday_none _ _ input (sym c.in_default-number_field.is ∙ c.number_field-2.ensures)

pub number_field-requires-3 : goal.number_field-requires-3
number_field-requires-3 c =
    let input : Numbered c.args.s.now c.args.place 9 c.in-Read.input c.in-Read.b1 c.in-Read.p1 = number_got _ _ _ c.requires _ _ _ (sym c.in-Read.is ∙ c.number_field.ensures) in
    let weekday : Numbered c.args.s.now c.in-Read.p1 c.in-Read.b1 c.in-Read-number_field.weekday c.in-Read-number_field.b2 c.in-Read-number_field.p2 = number_got _ _ _ input.1.within _ _ _ (sym c.in-Read-number_field.is ∙ c.number_field-2.ensures) in
    weekday.1.within

pub returns-in_default-number_field-2 : goal.returns-in_default-number_field-2
returns-in_default-number_field-2 c =
    let input : Numbered c.args.s.now c.args.place 9 c.in-Read.input c.in-Read.b1 c.in-Read.p1 = number_got _ _ _ c.requires _ _ _ (sym c.in-Read.is ∙ c.number_field.ensures) in
    let weekday : Numbered c.args.s.now c.in-Read.p1 c.in-Read.b1 c.in-Read-number_field.weekday c.in-Read-number_field.b2 c.in-Read-number_field.p2 = number_got _ _ _ input.1.within _ _ _ (sym c.in-Read-number_field.is ∙ c.number_field-2.ensures) in
    windows.opening_none _ _ input weekday (sym c.in_default-number_field-2.is ∙ c.number_field-3.ensures)

pub number_field-requires-4 : goal.number_field-requires-4
number_field-requires-4 c =
    let input : Numbered c.args.s.now c.args.place 9 c.in-Read.input c.in-Read.b1 c.in-Read.p1 = number_got _ _ _ c.requires _ _ _ (sym c.in-Read.is ∙ c.number_field.ensures) in
    let weekday : Numbered c.args.s.now c.in-Read.p1 c.in-Read.b1 c.in-Read-number_field.weekday c.in-Read-number_field.b2 c.in-Read-number_field.p2 = number_got _ _ _ input.1.within _ _ _ (sym c.in-Read-number_field.is ∙ c.number_field-2.ensures) in
    let opening : Numbered c.args.s.now c.in-Read-number_field.p2 c.in-Read-number_field.b2 c.in-Read-number_field-2.opening c.in-Read-number_field-2.b3 c.in-Read-number_field-2.p3 = number_got _ _ _ weekday.1.within _ _ _ (sym c.in-Read-number_field-2.is ∙ c.number_field-3.ensures) in
    opening.1.within

pub returns-in_default-number_field-3 : goal.returns-in_default-number_field-3
returns-in_default-number_field-3 c =
    let input : Numbered c.args.s.now c.args.place 9 c.in-Read.input c.in-Read.b1 c.in-Read.p1 = number_got _ _ _ c.requires _ _ _ (sym c.in-Read.is ∙ c.number_field.ensures) in
    let weekday : Numbered c.args.s.now c.in-Read.p1 c.in-Read.b1 c.in-Read-number_field.weekday c.in-Read-number_field.b2 c.in-Read-number_field.p2 = number_got _ _ _ input.1.within _ _ _ (sym c.in-Read-number_field.is ∙ c.number_field-2.ensures) in
    let opening : Numbered c.args.s.now c.in-Read-number_field.p2 c.in-Read-number_field.b2 c.in-Read-number_field-2.opening c.in-Read-number_field-2.b3 c.in-Read-number_field-2.p3 = number_got _ _ _ weekday.1.within _ _ _ (sym c.in-Read-number_field-2.is ∙ c.number_field-3.ensures) in
    windows.closing_none _ _ input weekday opening (sym c.in_default-number_field-3.is ∙ c.number_field-4.ensures)

pub returns-then-stop-eq9 : goal.returns-then-stop-eq9
returns-then-stop-eq9 c =
    let input : Numbered c.args.s.now c.args.place 9 c.in-Read.input c.in-Read.b1 c.in-Read.p1 = number_got _ _ _ c.requires _ _ _ (sym c.in-Read.is ∙ c.number_field.ensures) in
    let weekday : Numbered c.args.s.now c.in-Read.p1 c.in-Read.b1 c.in-Read-number_field.weekday c.in-Read-number_field.b2 c.in-Read-number_field.p2 = number_got _ _ _ input.1.within _ _ _ (sym c.in-Read-number_field.is ∙ c.number_field-2.ensures) in
    let opening : Numbered c.args.s.now c.in-Read-number_field.p2 c.in-Read-number_field.b2 c.in-Read-number_field-2.opening c.in-Read-number_field-2.b3 c.in-Read-number_field-2.p3 = number_got _ _ _ weekday.1.within _ _ _ (sym c.in-Read-number_field-2.is ∙ c.number_field-3.ensures) in
    let closing : Numbered c.args.s.now c.in-Read-number_field-2.p3 c.in-Read-number_field-2.b3 c.in-Read-number_field-3.closing c.in-Read-number_field-3.stop c.in-Read-number_field-3.next = number_got _ _ _ opening.1.within _ _ _ (sym c.in-Read-number_field-3.is ∙ c.number_field-4.ensures) in
    elim c.then-stop-eq9.branch [
      | then-stop-eq9-via-then-stop-eq9 w ↦ windows.more_fields _ _ input weekday opening closing w.if-stop-eq9.true
      | then-stop-eq9-via-else-stop-eq9+then-not-is_window w ↦ windows.no_window_lem _ _ input weekday opening closing w.if-stop-eq9.false (sym w.is_window.ensures ∙ w.if-not-is_window.true)
    ]

pub returns : goal.returns
returns c =
    let input : Numbered c.args.s.now c.args.place 9 c.in-Read.input c.in-Read.b1 c.in-Read.p1 = number_got _ _ _ c.requires _ _ _ (sym c.in-Read.is ∙ c.number_field.ensures) in
    let weekday : Numbered c.args.s.now c.in-Read.p1 c.in-Read.b1 c.in-Read-number_field.weekday c.in-Read-number_field.b2 c.in-Read-number_field.p2 = number_got _ _ _ input.1.within _ _ _ (sym c.in-Read-number_field.is ∙ c.number_field-2.ensures) in
    let opening : Numbered c.args.s.now c.in-Read-number_field.p2 c.in-Read-number_field.b2 c.in-Read-number_field-2.opening c.in-Read-number_field-2.b3 c.in-Read-number_field-2.p3 = number_got _ _ _ weekday.1.within _ _ _ (sym c.in-Read-number_field-2.is ∙ c.number_field-3.ensures) in
    let closing : Numbered c.args.s.now c.in-Read-number_field-2.p3 c.in-Read-number_field-2.b3 c.in-Read-number_field-3.closing c.in-Read-number_field-3.stop c.in-Read-number_field-3.next = number_got _ _ _ opening.1.within _ _ _ (sym c.in-Read-number_field-3.is ∙ c.number_field-4.ensures) in
    windows.window_read _ _ input weekday opening closing c.if-stop-eq9.false (sym c.is_window.ensures ∙ c.if-not-is_window.false)
