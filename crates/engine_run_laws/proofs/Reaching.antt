-- What one step asks follows from the run's invariant: the ready list is in order, the slots are below 64, the running routine has a parent.
-- Letters: σ rows, q a ready list; the others as in scheduler's Reachable.
use mathlib.Core.Path.{◌≡◌, refl, sym, ap, subst, ◌∙◌}
use mathlib.Core.Bool.{Bool, true, false}
use mathlib.Core.List.{List, [], ◌∷◌}
use Prim.Native.Nat.{ℕ, zero, suc, ◌+◌, ◌*◌, ◌^◌, ◌≤◌, ◌<◌}
use native.Mathlib.Omega.{arith}
use lib.ListN.{length}
use Rattle.engine_rows.specs.Rows.{Row, Rows}
use Rattle.engine_rows.proofs.RowBounds.{LowsRise, rise_none, rise_put}
use Rattle.engine_ready.specs.Ordered.{Later, later_none, later_one, Ordered, ordered_none, ordered_one}
use Rattle.engine_steps.specs.Asked.{Slots, slots_none, slots_one}

-- All slots of a list that rises from above s come later than s.
later_of_rise : {σ : Rows} {b : ℕ} {q : List ℕ} (s : ℕ) → (σ s).low < b → LowsRise σ b q → Later σ s q
later_of_rise s h rise_none = later_none
later_of_rise {σ} s h (rise_put {s = x} small from rest) =
    later_one {x = x} (omega arith) (λ e. let same : (σ x).low ≡ (σ s).low = ap (λ (k : ℕ). (σ k).low) e in omega arith) (later_of_rise s (omega arith) rest)

pub ordered_of_rise : {σ : Rows} {a : ℕ} {q : List ℕ} → LowsRise σ a q → Ordered σ q
ordered_of_rise rise_none = ordered_none
ordered_of_rise {σ} (rise_put {s = s} small from rest) = ordered_one small (later_of_rise s (omega arith) rest) (ordered_of_rise rest)

pub slots_of_order : {σ : Rows} {q : List ℕ} → Ordered σ q → Slots q
slots_of_order ordered_none = slots_none
slots_of_order (ordered_one small later rest) = slots_one small (slots_of_order rest)
