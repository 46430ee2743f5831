-- `engine_fill_row::field::field_of` meets its contract.
use mathlib.Core.Path.{refl, sym, ap, subst, ◌∙◌}
use Prim.Native.Nat.{ℕ, ◌+◌, ◌<◌, ◌≤◌}
use native.Mathlib.Omega.{arith}
use Rattle.table.specs.Decode.{word, head_after, size_of}
use Rattle.table.specs.Entry.{Fetched}
use Rattle.table_read.proofs.Fetching.{has_entry, entry_fetched}
use Rattle.engine_blocks.specs.Blocks.{rows_of}
use Rattle.engine_children.proofs.ChildSteps.{table_size_lem}
use Rattle.engine_fill_row.proofs.Fields.{fetched_there, parent_routine, parent_place, child_inside, head_inside, field_is}
use Rattle.engine_fill_row.proofs.field.field_of.Goals as goal
use Rattle.engine_fill_row.proofs.field.field_of.Goals.{After-place-at, After-fetch-e}

-- the parent's instruction, at the words that were read
there : (c : After-place-at) → c.routine-r.result < word c.args.t.now 2
there c = subst (λ (r : ℕ). r < word c.args.t.now 2) (sym c.routine-r.ensures) (parent_routine c.requires.2)

within : (c : After-place-at) → c.place-at.result < size_of c.args.t.now c.routine-r.result
within c =
    let t = c.args.t.now in
    subst (λ (x : ℕ). x < size_of t c.routine-r.result) (sym c.place-at.ensures) (subst (λ (r : ℕ). (rows_of c.args.m.now c.args.p).place < size_of t r) (sym c.routine-r.ensures) (parent_place c.requires.2))

pub fetch-e-requires : goal.fetch-e-requires
fetch-e-requires c =
    let k = (goal.at.fetch-e-requires c).After-place-at in
    has_entry c.args.t.now c.requires.0 c.routine-r.result (there k) c.place-at.result (within k)

-- what its entry tells
read : (c : After-fetch-e) → (let x = rows_of c.args.m.now c.args.p in
    let e = c.fetch-e.result in
    Fetched c.args.t.now x.routine x.place e.kind e.operand e.cells e.first e.second)
read c =
    fetched_there (rows_of c.args.m.now c.args.p) c.routine-r.ensures c.place-at.ensures
    (entry_fetched c.args.t.now c.requires.0 c.routine-r.result
    (subst (λ (r : ℕ). r < word c.args.t.now 2) (sym c.routine-r.ensures) (parent_routine c.requires.2)) c.place-at.result
    (subst (λ (x : ℕ). x < size_of c.args.t.now c.routine-r.result) (sym c.place-at.ensures) (subst (λ (r : ℕ). (rows_of c.args.m.now c.args.p).place < size_of c.args.t.now r) (sym c.routine-r.ensures) (parent_place c.requires.2)))
    c.fetch-e.result c.fetch-e.ensures)

pub head_after-head-requires : goal.head_after-head-requires
head_after-head-requires c =
    let a = c.args in
    let M = c.requires.2 in
    let E = read (goal.at.head_after-head-requires c).After-fetch-e in
    let i = child_inside M E in
    (table_size_lem a.t.now c.requires.0, λ j h. head_inside M E j (omega (arith, h, i, c.child-i.ensures)))

pub head_at-field-requires : goal.head_at-field-requires
head_at-field-requires c =
    let a = c.args in
    let M = c.requires.2 in
    let E = read (goal.at.head_at-field-requires c).After-fetch-e in (
      table_size_lem a.t.now c.requires.0,
      subst (λ (x : ℕ). x + 2 ≤ 12288) (sym c.head_after-head.ensures) (head_inside M E c.child-i.result (subst (λ (x : ℕ). x < c.fetch-e.result.first) (sym c.child-i.ensures) (child_inside M E))),
    )

pub returns : goal.returns
returns c =
    let a = c.args in
    let M = c.requires.2 in
    let E = read (goal.at.returns c).After-fetch-e in
    field_is M E _ (c.head_after-head.ensures ∙ ap (head_after a.t.now c.fetch-e.result.cells) c.child-i.ensures) c.head_at-field.ensures.1 refl
