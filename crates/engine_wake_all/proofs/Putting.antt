-- The pass of a write over a trigger list whose slots go before all who are ready, each in its turn.
use mathlib.Core.Bool.{true, false}
use mathlib.Core.List.{List, ◌∷◌, ◌++◌}
use mathlib.Core.Path.{◌≡◌, sym, ap, ◌∙◌}
use Prim.Native.Nat.{ℕ, suc, ◌+◌, ◌-◌, ◌/◌, ◌≤◌, ◌<◌}
use native.Mathlib.Omega.{arith}
use lib.Dec.{leb, ltb}
use lib.ListN.{length, take, set, length-set, length-append}
use lib.Seq.{get_or-take, length-take-le}
use borrow.Author.Tests.{ltb-true, leb-true, lt-ltb, lt-leb, le-leb}
use Rattle.std.specs.Prelude.{Some}
use Rattle.std.specs.declared.option.Option.{Option}
use Rattle.engine_rows.specs.Ready.{insert, insert_all_lem}
use Rattle.machine.proofs.Basics.{and_left, and_right}
use Rattle.engine_rows.specs.Rows.{Rows}
use Rattle.engine_blocks.specs.Blocks.{rows_of}
use Rattle.engine_ready.proofs.Distinct.{ordered_insert, ordered_few}
use Rattle.engine_ready.proofs.Falling.{length_falling, falling_alike, falling_put}
use Rattle.engine_push.proofs.Insertion.{insert_first}
use Rattle.engine_ready.specs.Ordered.{Ordered, first_low, comes_first}
use Rattle.engine_ready.specs.Slots.{falling}
use Rattle.engine_triggers.proofs.Chaining.{chained_here, chained_none, chained_from}
use Rattle.engine_wake.proofs.Waking.{wake_next, wake_none, is_woken, inserted}
use Rattle.engine_triggers.specs.Chains.{next_trigger, chained}
use Rattle.engine_wake.specs.Wakes.{triggered_from}
use Rattle.engine_wake_all.specs.First.{goes_first}

-- ── whether a trigger's slot goes first ───────────────────────────────────────────────────────────
pub record GoesFirst (rows : Rows) (next most : ℕ) (low : Option ℕ) : Type 0 where
  pub some : 0 < next
  pub near : next ≤ most
  pub sleeps : (rows ((next - 1) / 4)).asleep ≡ true
  pub early : comes_first (rows ((next - 1) / 4)).low low ≡ true

module _ (rows : Rows) (next most : ℕ) (low : Option ℕ) where
  pub first_goes : goes_first rows next most low ≡ true → GoesFirst rows next most low
  unfolding goes_first
  first_goes e =
      let f = and_right (ltb 0 next) _ e in
      let g = and_right (leb next most) _ f in
      let slot = (next - 1) / 4 in
      record {
        some = ltb-true _ _ (and_left (ltb 0 next) _ e);
        near = leb-true _ _ (and_left (leb next most) _ f);
        sleeps = and_left (rows slot).asleep _ g;
        early = and_right (rows slot).asleep _ g;
      }

  pub no_trigger : next ≡ 0 → false ≡ goes_first rows next most low
  unfolding goes_first
  no_trigger e = rw e

  pub too_far : (next ≡ 0 → ⊥) → most < next → false ≡ goes_first rows next most low
  unfolding goes_first
  too_far n h = rw (lt-ltb 0 next (omega (arith, n)), lt-leb next most h)

  module _ (some : next ≡ 0 → ⊥) (near : next ≤ most) where
    pub not_asleep : (rows ((next - 1) / 4)).asleep ≡ false → false ≡ goes_first rows next most low
    unfolding goes_first
    not_asleep e = rw (lt-ltb 0 next (omega (arith, some)), le-leb next most near, e)

    pub by_priority : (rows ((next - 1) / 4)).asleep ≡ true → comes_first (rows ((next - 1) / 4)).low low ≡ goes_first rows next most low
    unfolding goes_first
    by_priority e = rw (lt-ltb 0 next (omega (arith, some)), le-leb next most near, e)

-- ── the pass ──────────────────────────────────────────────────────────────────────────────────────
-- `count` slots of `new` are gathered and go before the others, the last one first; `low` is the priority of the first. What is left of the pass, from trigger
-- `next` on, gives `whole`.
pub record Putting (words whole others : List ℕ) (next most : ℕ) (low : Option ℕ) (new : List ℕ) (count : ℕ) : Type 0 where
  pub size : length new ≡ 64
  pub bound : most ≤ 256
  pub order : Ordered (rows_of words) (falling new 0 count ++ others)
  pub first : low ≡ first_low (rows_of words) (falling new 0 count ++ others)
  pub left : insert_all_lem (rows_of words) (triggered_from (rows_of words) 0 (chained words most next)) (falling new 0 count ++ others) ≡ whole

module _ (words whole others : List ℕ) (next most : ℕ) (low : Option ℕ) (new : List ℕ) (count : ℕ) (P : Putting words whole others next most low new count) where
  abbrev l : List ℕ
  l = falling new 0 count ++ others

  size_of : length l ≡ count + length others
  size_of = length-append (falling new 0 count) others ∙ ap (λ (k : ℕ). k + length others) (length_falling new 0 count)

  pub putting_few : count + length others ≤ 64
  putting_few = let a = ordered_few (rows_of words) l P.order in let b = size_of in omega arith

  pub gathered_long : length (take count new) ≡ count
  gathered_long = let a = putting_few in let b = P.size in length-take-le count new (omega arith)

  -- The slots gathered are those of the first `count` places.
  pub gathered : falling (take count new) 0 count ≡ falling new 0 count
  gathered = falling_alike (take count new) new 0 0 count (λ k h. let z : 0 + k ≡ k = omega arith in rw z (get_or-take count new k 0 h))

  pub putting_end : next ≡ 0 → l ≡ whole
  putting_end e =
      let none = ap (λ (t : ℕ). chained words most t) e ∙ chained_none words most in
      sym (wake_none (rows_of words) 0 l) ∙ sym (ap (λ (ss : List ℕ). insert_all_lem (rows_of words) (triggered_from (rows_of words) 0 ss) l) none) ∙ P.left

  module _ (G : GoesFirst (rows_of words) next most low) where
    abbrev n : ℕ
    n = next - 1

    abbrev slot : ℕ
    slot = n / 4

    slot_small : slot < 64
    slot_small = let a = G.near in let b = P.bound in let c = G.some in omega arith

    goes : insert (rows_of words) slot l ≡ slot ∷ l
    goes = insert_first (rows_of words) slot l (rw P.first at G.early)

    still : Ordered (rows_of words) (slot ∷ l)
    still = rw (sym goes) (ordered_insert (rows_of words) slot l slot_small P.order)

    -- "so 64 places suffice"
    pub putting_room : count < 64
    putting_room = let a = ordered_few (rows_of words) (slot ∷ l) still in let b = size_of in omega arith

    put : falling (set new count slot) 0 (suc count) ++ others ≡ slot ∷ l
    put = ap (λ (k : List ℕ). k ++ others) (falling_put new count slot (let a = P.size in let b = putting_room in omega arith))

    goes_on : insert_all_lem (rows_of words) (triggered_from (rows_of words) 0 (chained words most next)) l
        ≡ insert_all_lem (rows_of words) (triggered_from (rows_of words) 0 (chained words n (next_trigger words n))) (slot ∷ l)
    goes_on =
        let f : next ≡ suc n = let h = G.some in omega arith in
        let chain = chained_from words most next G.near ∙ ap (λ (t : ℕ). chained words t t) f ∙ chained_here words n in
        let w = is_woken (rows_of words) 0 slot G.sleeps (omega arith) in
        ap (λ (ss : List ℕ). insert_all_lem (rows_of words) (triggered_from (rows_of words) 0 ss) l) chain
        ∙ wake_next (rows_of words) 0 slot (chained words n (next_trigger words n)) l
        ∙ ap (λ (k : List ℕ). insert_all_lem (rows_of words) (triggered_from (rows_of words) 0 (chained words n (next_trigger words n))) k)
        (sym (inserted (rows_of words) _ slot l w) ∙ goes)

    pub putting_next : Putting words whole others (next_trigger words n) n (Some (rows_of words slot).low) (set new count slot) (suc count)
    unfolding first_low
    putting_next =
        record {
          size = length-set new count slot ∙ P.size;
          bound = let a = G.near in let b = P.bound in omega arith;
          order = rw put still;
          first = rw put;
          left = rw put (sym goes_on ∙ P.left);
        }
