-- The slots of new children: below 64; and what they leave of the sleepers. Letters: rows as in scheduler's Engine.
use mathlib.Core.Path.{◌≡◌, refl, sym, ap, ◌∙◌}
use mathlib.Core.Bool.{Bool, true, false}
use mathlib.Core.List.{List, [], ◌∷◌, ◌++◌}
use Prim.Native.Nat.{ℕ, zero, suc, ◌+◌, ◌-◌, ◌≤◌, ◌<◌}
use native.Mathlib.Decide.{ℕ_discrete}
use native.Mathlib.Omega.{arith}
use lib.ListN.{get_or}
use Rattle.listing.specs.Listing.{Listing, Call}
use Rattle.walk.specs.State.{Variable}
use Rattle.walk.specs.Walk.{child_count}
use Rattle.table.specs.Decode.{calls_at, after_call}
use Rattle.engine_rows.specs.Rows.{Row, Rows, with_row}
use Rattle.engine_rows.specs.Engine.{free_else, free_slot, caller_at, child_row, rows_with_child, rows_with_new, new_slots}
use Rattle.engine_blocks.proofs.RowChanges.{with_row_same, with_row_other}
use Rattle.engine_steps.specs.Asked.{Slots, slots_none, slots_one}

pub count_calls : (w : List ℕ) (n a : ℕ) → child_count (calls_at w a n) ≡ n
unfolding calls_at child_count
count_calls w zero a = refl
count_calls w (suc n) a = ap suc (count_calls w n (after_call w a))

free_small : (rows : Rows) (n : ℕ) → free_slot rows n < 64
unfolding free_slot free_else
free_small rows zero = omega arith
free_small rows (suc n) = go (rows (63 - n)).used (free_small rows n)
  where
    go : (b : Bool) → free_slot rows n < 64 → free_else b (63 - n) (free_slot rows n) < 64
    go true l = l
    go false l = omega arith

module _ (listing : Listing) (now : ℕ) (environment : List Variable) (me n : ℕ) where
  pub new_small : (rows : Rows) (cs : List Call) (i k : ℕ) → get_or (new_slots listing now rows environment me n cs i) k 0 < 64
  unfolding new_slots
  new_small rows [] i k = omega arith
  new_small rows (c ∷ cs) i zero = free_small rows 64
  new_small rows (c ∷ cs) i (suc k) = new_small (rows_with_child listing now rows environment me n c i) cs (suc i) k

  -- A sleeper among the rows with new children slept before, at its place.
  pub new_sleepers : (rows : Rows) (cs : List Call) (i s : ℕ) → (rows_with_new listing now rows environment me n cs i s).asleep ≡ true
      → ((rows s).asleep ≡ true) × ((rows_with_new listing now rows environment me n cs i s).place ≡ (rows s).place)
  unfolding rows_with_new rows_with_child child_row
  new_sleepers rows [] i s h = (h, refl)
  new_sleepers rows (c ∷ cs) i s h = go (new_sleepers (rows_with_child listing now rows environment me n c i) cs (suc i) s h) (ℕ_discrete s (free_slot rows 64))
    where
      f : ℕ
      f = free_slot rows 64

      made : Row
      made = child_row listing now (caller_at rows environment me n) c i f

      go : ((rows_with_child listing now rows environment me n c i s).asleep ≡ true) × ((rows_with_new listing now rows environment me n (c ∷ cs) i s).place ≡ (rows_with_child listing now rows environment me n c i s).place)
          → Dec (s ≡ f) → ((rows s).asleep ≡ true) × ((rows_with_new listing now rows environment me n (c ∷ cs) i s).place ≡ (rows s).place)
      go deep (yes e) =
          let new : with_row rows f made s ≡ made = ap (with_row rows f made) e ∙ with_row_same rows f made in
          let no_sleep : made.asleep ≡ true = sym (ap (λ (r : Row). r.asleep) new) ∙ deep.0 in
          let z : ◌≡◌ {A = ℕ} 0 1 = cc in absurd (omega arith)
      go deep (no d) =
          let old : with_row rows f made s ≡ rows s = with_row_other rows f made s d in
          (sym (ap (λ (r : Row). r.asleep) old) ∙ deep.0, deep.1 ∙ ap (λ (r : Row). r.place) old)

pub slots_each : (l : List ℕ) → ((k : ℕ) → get_or l k 0 < 64) → Slots l
slots_each [] h = slots_none
slots_each (s ∷ l) h = slots_one (h 0) (slots_each l (λ k. h (suc k)))

pub slots_join : {a b : List ℕ} → Slots a → Slots b → Slots (a ++ b)
slots_join slots_none p = p
slots_join (slots_one h q) p = slots_one h (slots_join q p)
