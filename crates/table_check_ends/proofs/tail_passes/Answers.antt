-- `table_check_ends::tail_passes` meets its contract.
use Prim.Native.Nat.{◌+◌, ◌-◌, ◌*◌}
use mathlib.Core.Path.{◌≡◌, sym, ◌∙◌}
use mathlib.Core.Bool.{true}
use native.Mathlib.Omega.{arith}
use Rattle.std.proofs.lemmas.Bool.{false≢true}
use Rattle.table_check_ends.specs.Ends.{zeros_at, tail_test}
use Rattle.table_check_ends.proofs.tail_passes.Goals as goal
use Rattle.table_check_ends.proofs.tail_passes.Goals.{then-zeros_pass, else-zeros_pass, then-zeros_pass-2, else-zeros_pass-2, then-zeros_pass-3, else-zeros_pass-3}

pub returns-then-zeros_pass-4 : goal.returns-then-zeros_pass-4
unfolding tail_test
returns-then-zeros_pass-4 c =
    let a = c.args in
    let z : 328 - (8 + 5 * a.n) ≡ 320 - 5 * a.n = omega arith in
    let y : 2888 - (328 + 5 * a.first) ≡ 2560 - 5 * a.first = omega arith in
    elim c.if-zeros_pass-3.branch [
      | then-zeros_pass-3 u ↦ elim c.if-zeros_pass-2.branch [
        | then-zeros_pass-2 v ↦ elim c.if-zeros_pass.branch [
          | then-zeros_pass w ↦
              let h : zeros_at a.t.now 3 5 ≡ true = sym c.zeros_pass.ensures ∙ w.if-zeros_pass.true in
              let k : zeros_at a.t.now (8 + 5 * a.n) (328 - (8 + 5 * a.n)) ≡ true = sym w.zeros_pass-then-zeros_pass.ensures ∙ (sym w.value-is ∙ v.if-zeros_pass-2.true) in
              let j : zeros_at a.t.now (328 + 5 * a.first) (2888 - (328 + 5 * a.first)) ≡ true = sym v.zeros_pass-then-zeros_pass-2.ensures ∙ (sym v.value-is ∙ u.if-zeros_pass-3.true) in
              let i : zeros_at a.t.now a.cells (12288 - a.cells) ≡ true = sym u.zeros_pass-then-zeros_pass-3.ensures ∙ (sym u.value-is ∙ c.if-zeros_pass-4.true) in
              rw (h, ← z, k, ← y, j, i, ← c.operand_count.ensures)
          | else-zeros_pass w ↦ absurd (false≢true (sym w.if-zeros_pass.false ∙ (sym w.value-is ∙ v.if-zeros_pass-2.true)))
        ]
        | else-zeros_pass-2 v ↦ absurd (false≢true (sym v.if-zeros_pass-2.false ∙ (sym v.value-is ∙ u.if-zeros_pass-3.true)))
      ]
      | else-zeros_pass-3 u ↦ absurd (false≢true (sym u.if-zeros_pass-3.false ∙ (sym u.value-is ∙ c.if-zeros_pass-4.true)))
    ]
