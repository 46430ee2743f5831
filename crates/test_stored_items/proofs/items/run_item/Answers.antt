use mathlib.Core.Path.{refl, sym, ap, ◌∙◌}
use native.Mathlib.Omega.{arith}
use lib.ListN.{length}
use Rattle.test_stored_items.specs.Items.{call, copy, comparison}
use Rattle.test_stored_items.proofs.items.run_item.Goals as goal

pub shape_of-table-then-kind-lt2 : goal.shape_of-table-then-kind-lt2
shape_of-table-then-kind-lt2 c = ap length c.run_spoilt.ensures.0

pub shape_of-machine-then-kind-lt2 : goal.shape_of-machine-then-kind-lt2
shape_of-machine-then-kind-lt2 c = c.run_spoilt.auto.machine

pub returns-then-kind-lt2 : goal.returns-then-kind-lt2
returns-then-kind-lt2 c =
    let r = c.run_spoilt.ensures in
    let w = c.word_at-kind.ensures in
    (r.0, call (omega arith) r.1 refl)

pub shape_of-machine-then-kind-eq2 : goal.shape_of-machine-then-kind-eq2
shape_of-machine-then-kind-eq2 c = refl

pub shape_of-kept-then-kind-eq2 : goal.shape_of-kept-then-kind-eq2
shape_of-kept-then-kind-eq2 c = c.copy.auto.to

pub returns-then-kind-eq2 : goal.returns-then-kind-eq2
returns-then-kind-eq2 c =
    let w = c.word_at-kind.ensures in
    (refl, copy (sym w ∙ c.if-kind-eq2.true) refl c.copy.ensures refl)

pub shape_of-table : goal.shape_of-table
shape_of-table c = ap length c.compare_spoilt.ensures.table_is_lem

pub shape_of-machine : goal.shape_of-machine
shape_of-machine c = ap length c.compare_spoilt.ensures.machine_is

pub shape_of-kept : goal.shape_of-kept
shape_of-kept c = refl

pub returns : goal.returns
returns c =
    let r = c.compare_spoilt.ensures in
    let w = c.word_at-kind.ensures in
    (r.table_is_lem, comparison (omega arith) r.machine_is refl r.tells)
