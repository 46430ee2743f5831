-- `engine_triggers::list_name` meets its contract.
use mathlib.Core.Path.{refl}
use Prim.Native.Nat.{◌+◌, ◌*◌, ◌<◌}
use native.Mathlib.Numerals.{add-one}
use lib.ListN.{length}
use borrow.Author.Rules.{rules}
use Rattle.engine_blocks.specs.Blocks.{rows_of}
use Rattle.engine_triggers.proofs.Chaining.{only_triggers, trigger_added, owner_known}
use Rattle.engine_triggers.proofs.list_name.Goals as goal

pub returns : goal.returns
returns c =
    let a = c.args in
    let m = a.m.now in
    let n = 4 * a.s + a.j in
    let b = c.owner-block in
    let named : a.name < length (rows_of m a.s).bindings = search rules in
    let e = b.ensures.owner named in
    let p = rw c.word_at-first.ensures at c.put_word.ensures in
    let q = rw add-one at c.put_word-2.ensures in
    let fit : a.j < 4 = search rules in
    let few : a.s < 64 = search rules in (
      only_triggers _ _ _ a.s a.j b.result.block b.result.index n refl fit few b.ensures.block b.ensures.index p q,
      λ lists C. owner_known a.s lists _ _ e
          (trigger_added _ _ _ a.s a.j b.result.block b.result.index n refl fit few b.ensures.block b.ensures.index p q lists C),
    )
