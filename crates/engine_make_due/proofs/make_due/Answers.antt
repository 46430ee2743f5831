-- `engine_make_due::make_due` meets its contract.
use mathlib.Core.Path.{◌≡◌, sym, ap, ◌∙◌}
use Prim.Native.Nat.{◌+◌, ◌*◌, ◌<◌}
use native.Mathlib.Omega.{arith}
use borrow.Author.Rules.{rules}
use Rattle.engine_variables.proofs.Readings.{number_due, number_of_due}
use Rattle.engine_make_due.proofs.MadeBlocks.{due_changes, due_block_made, due_block_later}
use Rattle.engine_blocks.specs.Blocks.{block, variable_in}
use Rattle.engine_blocks.specs.Changes.{unmarked_block}
use Rattle.engine_make_due.proofs.make_due.Goals as goal
use Rattle.engine_make_due.proofs.make_due.Goals.{in_default-via-in-Some+else-moment-present, in_default-via-in_default}

pub returns-in-Some : goal.returns-in-Some
unfolding variable_in number_due
returns-in-Some c =
    let a = c.args in
    let i = a.index in
    let b = block a.m.now a.s in
    let read = ap number_due c.in-Some.ensures.word ∙ number_of_due (b (10 + i * 6) + b (11 + i * 6) * 4294967296) (b (9 + i * 6)) in
    due_changes a.s i a.present.0 (search rules) (search rules) (search rules) (rw (due_block_made b i (search rules) a.present.0 (sym read ∙ c.if-moment-present.true)) c.make.ensures)

pub returns-in_default : goal.returns-in_default
unfolding variable_in unmarked_block number_due
returns-in_default c =
    let a = c.args in
    let i = a.index in
    let b = block a.m.now a.s in
    let read = number_of_due (b (10 + i * 6) + b (11 + i * 6) * 4294967296) (b (9 + i * 6)) in
    let some : 0 < a.present.0 = search rules in
    let later : b (10 + i * 6) + b (11 + i * 6) * 4294967296 ≡ a.present.0 → ⊥ = λ z.
    elim c.in_default.branch [
      | in_default-via-in-Some+else-moment-present w ↦ w.if-moment-present.false (ap number_due w.in-Some.ensures.word ∙ read ∙ z)
      | in_default-via-in_default w ↦ let none : 0 ≡ a.present.0 = sym (ap number_due w.in_default.is) ∙ (ap number_due c.due.ensures.word ∙ (read ∙ z)) in omega arith
    ] in
    due_changes a.s i a.present.0 (search rules) (search rules) (search rules) (rw (due_block_later b i (search rules) a.present.0 later) c.unmark.ensures.in_block)
