use mathlib.Core.Path.{refl, ap, ◌∙◌}
use Prim.Native.Nat.{ℕ, ◌+◌}
use Rattle.test_calls.proofs.Casing.{case_ran, counted}
use Rattle.test_calls.proofs.run_case.Goals as goal

pub returns : goal.returns
returns c =
    let a = c.args in
    let part = c.part_at-part in
    let l = c.loads-loaded in
    let r = c.run_items-run in
    case_ran a.s.now a.at c.past.result part.result.from part.result.to c.past-first.result c.word_at-count.result l.result
    c.unused_memory-table.result c.unused_memory-machine.result c.unused_memory-kept.result l.new.table _ _ _ r.result _
    c.past.ensures part.ensures.begins part.ensures.ends c.past-first.ensures c.word_at-count.ensures
    c.unused_memory-table.ensures.1 c.unused_memory-machine.ensures.1 c.unused_memory-kept.ensures.1 l.ensures r.ensures refl (ap (λ (n : ℕ). n + r.result.failed) (c.from.ensures ∙ counted l.result))
