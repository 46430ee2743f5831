use Rattle.engine_order.proofs.OrderTurns.{built_below}
use Rattle.engine_finish.proofs.PlaceTurns.{built_differ}
use Rattle.engine_finish.proofs.Composed.{instant_ended}
use Rattle.engine_order.proofs.DueSlots.{all_due, cleared_clean}
use Rattle.engine_finish.specs.Ended.{Ended}
use Rattle.engine_rows.specs.Order.{walking_order}
use Rattle.engine_blocks.specs.Blocks.{rows_of}
use mathlib.Core.Path.{sym, subst}
use mathlib.Core.List.{List}
use Prim.Native.Nat.{ℕ}
use native.Mathlib.Omega.{arith}
use borrow.Author.Rules.{rules}
use Rattle.engine_finish.proofs.ending.finish.Goals as goal

pub order_slots-ordered-requires : goal.order_slots-ordered-requires
order_slots-ordered-requires c = (search rules, cleared_clean c.clear_header.ensures c.requires.2)

pub set_places-requires : goal.set_places-requires
set_places-requires c =
    let o = c.order_slots-ordered.ensures.0 in
    (search rules, search rules, built_below (omega arith) o, built_differ o)

pub returns : goal.returns
returns c =
    let a = c.args in
    let h = c.clear_header.ensures in
    let o = c.order_slots-ordered.ensures in (
      subst (λ (l : List ℕ). Ended a.present.0 (walking_order (rows_of a.m.now)) a.m.now l) (sym c.store_header.ensures)
          (instant_ended a.present.0 _ (search rules) h o.0 c.set_places.ensures c.clear_working.ensures),
      all_due a.m.now _ a.size _ _ h c.requires.1 c.sooner_of_variables-outer.ensures o.1,
    )
