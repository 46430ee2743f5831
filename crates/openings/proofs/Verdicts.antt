-- What a verdict says of the lists. Letters: ms moments, os outputs, vs values, v the verdict.
use mathlib.Core.Path.{◌≡◌, refl, sym, ◌∙◌}
use mathlib.Core.Bool.{Bool, true, false, ◌&&◌}
use mathlib.Core.List.{List}
use Prim.Native.Nat.{ℕ}
use lib.ListN.{length}
use Rattle.openings.specs.Writes.{writes_of}
use Rattle.openings.specs.Questions.{none_falls, listed_once}
use Rattle.openings.specs.InOrder.{in_order_lem}
use Rattle.openings.specs.Verdicts.{verdict_by, verdict}
use Rattle.openings.specs.declared.Order.{Order}
use Rattle.openings.specs.declared.Order.TheVariants.{InOrder, AnyOrder}
use Rattle.std.specs.Prelude.{Option, Some, None}
use Rattle.openings.proofs.InOrder.{in_order_rises, in_order_once}

-- both questions pass, and the order is known
pub record Passes (ms os vs : List ℕ) (ordered : Bool) : Type 0 where
  pub rises : none_falls ms ≡ true
  pub once : listed_once (writes_of ms os vs) ≡ true
  pub order : ordered ≡ in_order_lem ms os

abbrev pub is_in_order : Order → Bool
is_in_order InOrder = true
is_in_order AnyOrder = false

module _ (ms os vs : List ℕ) (v : Option Order) (is : v ≡ verdict ms os vs) where
  pub passed : length ms ≡ length os → (o : Order) → v ≡ Some o → Passes ms os vs (is_in_order o)
  unfolding verdict_by
  passed same o e = go o (in_order_lem ms os) refl (none_falls ms) refl (listed_once (writes_of ms os vs)) refl (sym is ∙ e)
    where
      go : (o : Order) (a : Bool) → in_order_lem ms os ≡ a → (b : Bool) → none_falls ms ≡ b → (c : Bool) → listed_once (writes_of ms os vs) ≡ c →
          verdict_by a (b && c) ≡ Some o → Passes ms os vs (is_in_order o)
      go InOrder true i b r c l f = record { rises = in_order_rises 0 0 ms os same i; once = in_order_once ms os vs i; order = sym i }
      go InOrder false i true r true l f = cc
      go InOrder false i true r false l f = cc
      go InOrder false i false r c l f = cc
      go AnyOrder true i b r c l f = cc
      go AnyOrder false i true r true l f = record { rises = r; once = l; order = sym i }
      go AnyOrder false i true r false l f = cc
      go AnyOrder false i false r c l f = cc

  -- if no moment falls, it was 11
  pub refused : v ≡ None → none_falls ms ≡ true → listed_once (writes_of ms os vs) ≡ false
  unfolding verdict_by
  refused e rises = go (in_order_lem ms os) (none_falls ms) rises (listed_once (writes_of ms os vs)) (sym is ∙ e)
    where
      go : (a b : Bool) → b ≡ true → (c : Bool) → verdict_by a (b && c) ≡ None → c ≡ false
      go true b r c f = cc
      go false true r true f = cc
      go false true r false f = refl
      go false false r c f = cc
