-- `engine_triggers::list_names` meets its contract.
use mathlib.Core.Path.{◌≡◌, sym, ap, ◌∙◌}
use Prim.Native.Nat.{suc, ◌+◌, ◌*◌, ◌<◌}
use native.Mathlib.Numerals.{add-one}
use native.Mathlib.Omega.{arith}
use lib.ListN.{length}
use borrow.Author.Rules.{rules}
use Rattle.table.specs.Decode.{name_at, names_at}
use Rattle.table.proofs.Reach.{cells_by_place}
use Rattle.engine_rows.specs.Rows.{Rows}
use Rattle.engine_blocks.proofs.Staying.{rows_of_same}
use Rattle.engine_blocks.specs.Blocks.{rows_of}
use Rattle.engine_triggers.proofs.Chaining.{only_start, only_then}
use Rattle.engine_triggers.proofs.Listing.{length_names, bindings_few, lists_none, lists_next}
use Rattle.engine_triggers.specs.Awaited.{FewNames, lists_with}
use Rattle.engine_triggers.proofs.list_names.Goals as goal

pub loop-j-init : goal.loop-j-init
loop-j-init c =
    let a = c.args in
    let e : 4 * a.s + 0 ≡ 4 * a.s = omega arith in
    (search rules, only_start a.m.now, λ lists C. rw (e, lists_none (rows_of a.m.now a.s).bindings a.s a.t.now a.cells lists) C)

pub list_name-requires : goal.list_name-requires
list_name-requires c =
    let a = c.args in
    let v = c.loop-j in
    let t = a.t.now in
    let r = rows_of a.m.now a.s in
    let few : FewNames r (names_at t a.cells a.count) = search rules in
    let n = length_names t a.cells a.count in
    let h : v.j < a.count = search rules in
    let here : v.j < length (names_at t a.cells a.count) = omega arith in
    let e = c.name_at-name.ensures ∙ sym (cells_by_place (name_at t) a.count a.cells v.j 0 h) in
    let same = ap (λ (x : Rows). length (x a.s).bindings) (rows_of_same v.invariant.1.rows) in
    let low = few.named v.j here in
    let most = few.few in
    let sixteen = bindings_few a.m.now a.s (search rules) in
    (search rules, search rules, omega arith, omega arith, omega arith)

pub loop-j-preserved : goal.loop-j-preserved
loop-j-preserved c =
    let a = c.args in
    let v = c.loop-j in
    let t = a.t.now in
    let r = rows_of a.m.now a.s in
    let done = c.list_name.ensures in
    let f : suc (4 * a.s + v.j) ≡ 4 * a.s + suc v.j = omega arith in
    let rows = rows_of_same v.invariant.1.rows in
    let size = done.0.outside.size in (
      omega arith,
      only_then v.invariant.1 done.0,
      λ lists C. rw (add-one, lists_next r.bindings a.s t a.cells v.j lists, ← f)
          (rw (rows, c.name_at-name.ensures) at (done.1 (lists_with r.bindings a.s (names_at t a.cells v.j) lists) (v.invariant.2 lists C))),
    )

pub returns : goal.returns
returns c =
    let a = c.args in
    let v = c.loop-j in
    let z : v.j ≡ a.count = omega arith in
    (v.invariant.1, rw z at v.invariant.2)
