-- `call_questions::instant_question` meets its contract.
use mathlib.Core.Path.{sym, ◌∙◌}
use Rattle.call_questions.proofs.Calling.{long, instant_short, instant_unequal, instant_no_table, instant_by_machine}
use Rattle.call_questions.proofs.instant_question.Goals as goal

pub returns-then-not-long_enough : goal.returns-then-not-long_enough
returns-then-not-long_enough c = instant_short _ _ _ _ _ _ _ _ _ c.requires (sym c.long_enough.ensures ∙ c.if-not-long_enough.true)

pub returns-then-in_numbers-in_values : goal.returns-then-in_numbers-in_values
returns-then-in_numbers-in_values c = instant_unequal _ _ _ _ _ _ _ _ _ c.requires (sym c.long_enough.ensures ∙ c.if-not-long_enough.false) c.if-in_numbers-in_values.true

pub returns-then-not-is_table : goal.returns-then-not-is_table
returns-then-not-is_table c = instant_no_table _ _ _ _ _ _ _ _ _ c.requires (sym c.long_enough.ensures ∙ c.if-not-long_enough.false) c.if-in_numbers-in_values.false (sym c.is_table.ensures ∙ c.if-not-is_table.true)

pub machine_question-requires : goal.machine_question-requires
machine_question-requires c =
    let l = long _ _ _ _ (sym c.long_enough.ensures ∙ c.if-not-long_enough.false) in
    (l.table_long, l.machine_long, sym c.is_table.ensures ∙ c.if-not-is_table.false, c.requires)

pub returns : goal.returns
returns c =
    let m = c.machine_question.ensures in
    instant_by_machine _ _ _ _ _ _ _ _ _ m.places (sym c.long_enough.ensures ∙ c.if-not-long_enough.false) c.if-in_numbers-in_values.false (sym c.is_table.ensures ∙ c.if-not-is_table.false) _ m
