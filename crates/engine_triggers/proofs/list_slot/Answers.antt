-- `engine_triggers::list_slot` meets its contract.
use mathlib.Core.Bool.{true}
use mathlib.Core.List.{List}
use mathlib.Core.Path.{◌≡◌, sym, ap, ap₂, subst, ◌∙◌}
use Prim.Native.Nat.{ℕ, ◌≤◌}
use native.Mathlib.Omega.{arith}
use borrow.Author.Rules.{rules}
use Rattle.table_read.specs.Opened.{entry_at}
use Rattle.table_read.specs.declared.Entry.{Entry}
use Rattle.engine_rows.specs.Rows.{Row}
use Rattle.engine_blocks.specs.Blocks.{rows_of}
use Rattle.engine_triggers.proofs.Chaining.{only_start}
use Rattle.engine_triggers.proofs.Listing.{length_names}
use Rattle.engine_triggers.proofs.Slots.{entry_as, wait_names, no_names, slot_awake, slot_without_names, slot_asleep}
use Rattle.engine_triggers.specs.Awaited.{awaited_names, FewNames, Sleeper}
use Rattle.engine_triggers.proofs.list_slot.Goals as goal
use Rattle.engine_triggers.proofs.list_slot.Goals.{After-number-place}

-- ── what is known once the routine and the place are read ─────────────────────────────────────────
module _ (c : After-number-place) where
  abbrev t : List ℕ
  t = c.args.t.now

  abbrev row : Row
  row = rows_of c.args.m.now c.args.s

  routine_read : c.number-routine.result ≡ row.routine
  routine_read = c.number-routine.ensures.0 ∙ c.routine.ensures

  place_read : c.number-place.result ≡ row.place
  place_read = c.number-place.ensures.0 ∙ c.place.ensures

  sleeps : row.asleep ≡ true
  sleeps = sym c.asleep.ensures ∙ c.if-not-asleep.false

  sleeper : Sleeper t row
  sleeper = c.requires.2 sleeps

  read : (e : Entry) → e ≡ entry_at t c.number-routine.result c.number-place.result → e ≡ entry_at t row.routine row.place
  read e is = is ∙ ap₂ (entry_at t) routine_read place_read

pub returns-then-not-asleep : goal.returns-then-not-asleep
returns-then-not-asleep c =
    let a = c.args in
    let m = a.m.now in
    let r = rows_of m a.s in
    (only_start m, λ lists C. slot_awake m a.s r.bindings (awaited_names a.t.now r) lists r.asleep (sym c.asleep.ensures ∙ c.if-not-asleep.true) C)

pub fetch-entry-requires : goal.fetch-entry-requires
fetch-entry-requires c =
    let k = (goal.at.fetch-entry-requires c).After-number-place in
    ((sleeper k).table, entry_as (t k) _ _ _ _ (routine_read k) (place_read k) (sleeper k).entry)

pub returns-then-entry-ne-WAIT : goal.returns-then-entry-ne-WAIT
returns-then-entry-ne-WAIT c =
    let k = (goal.at.returns-then-entry-ne-WAIT c).After-number-place in
    let a = c.args in
    let r = row k in
    let none = no_names (t k) r c.fetch-entry.result (read k _ c.fetch-entry.ensures) c.if-entry-ne-WAIT.true in
    (only_start a.m.now, λ lists C. slot_without_names a.m.now a.s r.bindings (awaited_names (t k) r) lists r.asleep none C)

pub list_names-requires : goal.list_names-requires
list_names-requires c =
    let k = (goal.at.list_names-requires c).After-number-place in
    let e = c.fetch-entry.result in
    let is = read k e c.fetch-entry.ensures in
    let names = wait_names (t k) (row k) e is c.if-entry-ne-WAIT.false in
    let inside = (sleeper k).inside (sym (ap (λ (x : Entry). x.kind) is) ∙ c.if-entry-ne-WAIT.false) in
    (search rules, search rules, (sleeper k).table, rw is inside, subst (λ (ns : List ℕ). FewNames (row k) ns) names (sleeper k).names)

pub returns : goal.returns
returns c =
    let k = (goal.at.returns c).After-number-place in
    let a = c.args in
    let r = row k in
    let e = c.fetch-entry.result in
    let names = wait_names (t k) r e (read k e c.fetch-entry.ensures) c.if-entry-ne-WAIT.false in
    let most = (subst (λ (ns : List ℕ). FewNames r ns) names (sleeper k).names).few in
    let size = length_names (t k) e.cells e.first in
    let few : e.first ≤ 4 = omega arith in
    let done = c.list_names.ensures in
    (done.0, λ lists C. slot_asleep _ a.s r.bindings (awaited_names (t k) r) lists r.asleep (sleeps k) e.first few (rw names (done.1 lists C)))
