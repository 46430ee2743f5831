-- `table_check_cells::calls_past` meets its contract.
use Prim.Native.Nat.{◌+◌, ◌-◌}
use mathlib.Core.Path.{◌≡◌, sym, ◌∙◌}
use mathlib.Core.Bool.{true, false}
use native.Mathlib.Omega.{arith}
use Rattle.table.specs.Decode.{word, after_call}
use Rattle.table_check_cells.specs.Pass.{names_test, head_test}
use Rattle.table_check_cells.proofs.Cells as cells
use Rattle.table_check_cells.proofs.calls_past.Goals as goal

pub loop-init : goal.loop-init
loop-init c =
    let z : c.args.n - 0 ≡ c.args.n = omega arith in
    (omega arith, rw z)

pub returns-then-not-head_passes : goal.returns-then-not-head_passes
returns-then-not-head_passes c =
    let v = c.loop in
    let a = c.args in
    let head : head_test a.t.now v.a ≡ false = sym c.head_passes.ensures ∙ c.if-not-head_passes.true in
    sym (cells.calls_head a.t.now a.names v.a (a.n - v.counter) (omega arith) head) ∙ v.invariant.1

pub returns-then-stop-gt-CELL_END : goal.returns-then-stop-gt-CELL_END
returns-then-stop-gt-CELL_END c =
    let v = c.loop in
    let a = c.args in
    sym (cells.calls_long a.t.now a.names v.a (a.n - v.counter) (omega arith) (omega (arith, c.next_head-stop.ensures, c.if-stop-gt-CELL_END.true))) ∙ v.invariant.1

pub names_pass-requires : goal.names_pass-requires
unfolding after_call
names_pass-requires c = omega (arith, c.if-stop-gt-CELL_END.false, c.next_head-stop.ensures, c.head_at-count.ensures.0, c.requires.0)

pub returns-then-not-names_pass : goal.returns-then-not-names_pass
returns-then-not-names_pass c =
    let v = c.loop in
    let a = c.args in
    let w = a.t.now in
    let count = c.head_at-count.ensures.0 in
    let names : names_test w a.names (v.a + 2) (word w (v.a + 0)) ≡ false = rw (← count) (sym c.names_pass.ensures ∙ c.if-not-names_pass.true) in
    sym (cells.calls_names w a.names v.a (a.n - v.counter) (omega arith) names) ∙ v.invariant.1

pub loop-preserved : goal.loop-preserved
loop-preserved c =
    let v = c.loop in
    let a = c.args in
    let w = a.t.now in
    let next = c.next_head-stop.ensures in
    let count = c.head_at-count.ensures.0 in
    let head : head_test w v.a ≡ true = sym c.head_passes.ensures ∙ c.if-not-head_passes.false in
    let names : names_test w a.names (v.a + 2) (word w (v.a + 0)) ≡ true = rw (← count) (sym c.names_pass.ensures ∙ c.if-not-names_pass.false) in
    let turn = cells.calls_turn w a.names v.a (a.n - v.counter) (a.n - (v.counter + 1)) (omega arith) head (omega (arith, next, c.if-stop-gt-CELL_END.false)) names in
    (omega (arith, next, c.if-stop-gt-CELL_END.false), rw next (turn ∙ v.invariant.1))

pub returns : goal.returns
returns c =
    let v = c.loop in
    let a = c.args in
    sym (cells.calls_end a.t.now a.names v.a (a.n - v.counter) (omega arith) v.invariant.0) ∙ v.invariant.1
