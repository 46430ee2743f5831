-- `text_records::form_place` meets its contract.
use Rattle.std.proofs.Common.{◌≡◌, sym, ◌∙◌, arith, lt-ltb}
use Rattle.text_jumps.specs.declared.scope.Scope.{Scope}
use Rattle.text_records.proofs.Lines as lines
use Rattle.text_records.proofs.form.form_place.Goals as goal

abbrev nothing : Scope
nothing = record { names = 0; size = 0 }

pub loop-at-init : goal.loop-at-init
loop-at-init c = lines.pass_begun c.args.s.now

pub returns-in_default : goal.returns-in_default
returns-in_default c =
    let v = c.loop-at in
    let s = c.args.s.now in
    let u = lines.line_unread _ nothing s v.at.offset v.at.line (sym c.in_default.is ∙ c.read_line.ensures) in
    lines.place_some _ _ v.invariant.some_line (sym (sym v.invariant.same ∙ lines.place_unread s v.at.offset v.at.line c.loop-at-test.true u))

pub returns-then-read-ne10 : goal.returns-then-read-ne10
returns-then-read-ne10 c =
    let v = c.loop-at in
    let s = c.args.s.now in
    let l = lines.line_read _ nothing s v.at.offset v.at.line _ (sym c.in-Some.is ∙ c.read_line.ensures) in
    lines.place_some _ _ v.invariant.some_line (sym (sym v.invariant.same ∙ lines.place_open s v.at.offset v.at.line c.loop-at-test.true (λ e. c.if-read-ne10.true (sym l.stop_is ∙ e))))

pub returns-then-not-may_stand_on : goal.returns-then-not-may_stand_on
returns-then-not-may_stand_on c =
    let v = c.loop-at in
    let s = c.args.s.now in
    let l = lines.line_read _ nothing s v.at.offset v.at.line _ (sym c.in-Some.is ∙ c.read_line.ensures) in
    lines.place_some _ _ v.invariant.some_line (sym (sym v.invariant.same ∙ lines.place_unread s v.at.offset v.at.line c.loop-at-test.true (l.refused (sym c.may_stand_on.ensures ∙ c.if-not-may_stand_on.true))))

pub loop-at-smaller : goal.loop-at-smaller
loop-at-smaller c =
    let v = c.loop-at in
    let s = c.args.s.now in
    let l = lines.line_read _ nothing s v.at.offset v.at.line _ (sym c.in-Some.is ∙ c.read_line.ensures) in
    let m : lines.LineRead s v.at.offset v.at.line _ 10 _ = rw c.if-read-ne10.false at l in
    omega (arith, lines.pass_moved s v.at.offset v.at.line _ _ v.invariant m (sym c.may_stand_on.ensures ∙ c.if-not-may_stand_on.false), c.loop-at-test.true)

pub loop-at-preserved : goal.loop-at-preserved
loop-at-preserved c =
    let v = c.loop-at in
    let s = c.args.s.now in
    let l = lines.line_read _ nothing s v.at.offset v.at.line _ (sym c.in-Some.is ∙ c.read_line.ensures) in
    let m : lines.LineRead s v.at.offset v.at.line _ 10 _ = rw c.if-read-ne10.false at l in
    lines.pass_on s v.at.offset v.at.line _ _ v.invariant m (sym c.may_stand_on.ensures ∙ c.if-not-may_stand_on.false)

pub returns-then-at-eq1 : goal.returns-then-at-eq1
returns-then-at-eq1 c =
    let v = c.loop-at in
    let s = c.args.s.now in
    lines.place_some _ _ (omega arith) (sym (sym v.invariant.same ∙ lines.place_end s v.at.offset v.at.line c.loop-at-test.false ∙ rw c.if-at-eq1.true))

pub returns : goal.returns
returns c =
    let v = c.loop-at in
    let s = c.args.s.now in
    let n : v.at.line ≡ 1 → ⊥ = c.if-at-eq1.false in
    lines.place_none _ (sym v.invariant.same ∙ lines.place_end s v.at.offset v.at.line c.loop-at-test.false ∙ rw (lt-ltb 1 v.at.line (omega (arith, v.invariant.some_line))))
