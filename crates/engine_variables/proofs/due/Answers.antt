-- `engine_variables::due` meets its contract.
use mathlib.Core.Path.{sym, ap₂, ◌∙◌}
use Prim.Native.Nat.{ℕ, ◌+◌, ◌*◌}
use borrow.Author.Rules.{rules}
use Rattle.walk.specs.State.{Variable}
use Rattle.engine_variables.proofs.Readings.{read_of, due_none, due_some}
use Rattle.engine_variables.specs.Bindings.{due_moment}
use Rattle.engine_blocks.specs.Blocks.{block, variable_in}
use Rattle.engine_variables.proofs.due.Goals as goal

pub returns-then-moment-eq0 : goal.returns-then-moment-eq0
unfolding variable_in
returns-then-moment-eq0 c =
    let a = c.args in
    let b = block a.m.now a.s in
    let words = ap₂ (λ (k l : ℕ). k + l * 4294967296) (c.from-first.ensures ∙ c.word_at.ensures) (c.from-second.ensures ∙ c.word_at-2.ensures) in
    read_of (λ (x : Variable). due_moment x.waiting) a.m.now a.s a.index _ (search rules) (due_none _ (b (9 + a.index * 6)) (sym words ∙ c.if-moment-eq0.true))

pub returns-else-moment-eq0 : goal.returns-else-moment-eq0
unfolding variable_in
returns-else-moment-eq0 c =
    let a = c.args in
    let b = block a.m.now a.s in
    let words = ap₂ (λ (k l : ℕ). k + l * 4294967296) (c.from-first.ensures ∙ c.word_at.ensures) (c.from-second.ensures ∙ c.word_at-2.ensures) in
    read_of (λ (x : Variable). due_moment x.waiting) a.m.now a.s a.index _ (search rules) (rw (sym words) (due_some _ (b (9 + a.index * 6)) c.if-moment-eq0.false))
