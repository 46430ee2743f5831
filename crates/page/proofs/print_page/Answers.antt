-- `page::print_page` meets its contract.
use mathlib.Core.Path.{◌≡◌, refl, sym, ◌∙◌}
use Rattle.openings.proofs.Verdicts as verdicts
use denote.Enum.Bare.{sameb}
use Rattle.openings.specs.contracts.Order.{the_type}
use Rattle.openings.specs.declared.Order.{Order}
use Rattle.openings.specs.declared.Order.TheVariants.{InOrder, AnyOrder}
use Rattle.page.proofs.Answers as answers
use Rattle.page.proofs.print_page.Goals as goal

pub returns-then-memory-lt-PAGE_BYTES : goal.returns-then-memory-lt-PAGE_BYTES
returns-then-memory-lt-PAGE_BYTES c =
    let a = c.args in
    answers.memory_short a.moments.now a.outputs.now a.values.now a.page a.memory.now c.if-memory-lt-PAGE_BYTES.true _ c.refused.ensures

pub returns-then-moments-outputs : goal.returns-then-moments-outputs
returns-then-moments-outputs c =
    let a = c.args in
    answers.outputs_unequal a.moments.now a.outputs.now a.values.now a.page a.memory.now c.if-memory-lt-PAGE_BYTES.false c.if-moments-outputs.true _ c.refused-then-moments-outputs.ensures

pub returns-then-moments-values : goal.returns-then-moments-values
returns-then-moments-values c =
    let a = c.args in
    answers.values_unequal a.moments.now a.outputs.now a.values.now a.page a.memory.now c.if-memory-lt-PAGE_BYTES.false c.if-moments-outputs.false c.if-moments-values.true _ c.refused-then-moments-values.ensures

in_order_test : (o : Order) → sameb the_type o InOrder ≡ verdicts.is_in_order o
in_order_test InOrder = refl
in_order_test AnyOrder = refl

pub write_page-requires : goal.write_page-requires
write_page-requires c =
    let ms = c.args.moments.now in
    let os = c.args.outputs.now in
    let vs = c.args.values.now in
    let same = c.if-moments-outputs.false in
    let long = c.if-moments-values.false in
    let passes = verdicts.passed ms os vs _ (c.put_questions.ensures vs (sym long)) same _ c.in-Some.is in
    (c.if-memory-lt-PAGE_BYTES.false, same, long, passes.rises, passes.once, c.eq.ensures ∙ in_order_test _ ∙ passes.order)

pub returns : goal.returns
returns c =
    let a = c.args in
    let ms = a.moments.now in
    let os = a.outputs.now in
    let vs = a.values.now in
    let same = c.if-moments-outputs.false in
    let long = c.if-moments-values.false in
    let passes = verdicts.passed ms os vs _ (c.put_questions.ensures vs (sym long)) same _ c.in-Some.is in
    let e = c.write_page.ensures in
    rw c.gone_through.ensures (answers.page_printed ms os vs a.page a.memory.now c.if-memory-lt-PAGE_BYTES.false same long passes.rises passes.once _ _ e.0 e.1)

pub returns-in_default : goal.returns-in_default
returns-in_default c =
    let a = c.args in
    let ms = a.moments.now in
    let os = a.outputs.now in
    let vs = a.values.now in
    let same = c.if-moments-outputs.false in
    let long = c.if-moments-values.false in
    let refused = verdicts.refused ms os vs _ (c.put_questions.ensures vs (sym long)) c.in_default.is in
    answers.turned_away_lem ms os vs a.page a.memory.now c.if-memory-lt-PAGE_BYTES.false same long refused _ c.turned_away.ensures _ c.refused-in_default.ensures
