-- What the tests of the words tell of each word, slot and place.
use mathlib.Core.Path.{◌≡◌, refl}
use mathlib.Core.Bool.{Bool, true, false, ◌&&◌}
use mathlib.Core.List.{List}
use Prim.Native.Nat.{ℕ, zero, suc, ◌+◌, ◌-◌, ◌<◌, ◌≤◌}
use lib.Dec.{leb, ltb, eqb}
use lib.ListN.{get_or}
use borrow.Author.Tests.{ltb-true, leb-true, eqb-true, eqb-false, eq-eqb, ne_eqb}
use native.Mathlib.Omega.{arith}
use Rattle.machine.specs.Words.{block_at, environment_block, moment_at, slot_of, zero_from, block_rests, slot_holds, slots_hold, knows_place, know_places, header_in_place, blocks_in_place, words_in_place}
use Rattle.machine.proofs.Basics.{and_left, and_right}

pub zeros_read : (w : List ℕ) (a k j : ℕ) → j < k → zero_from w a k ≡ true → get_or w (a + j) 0 ≡ 0
unfolding zero_from
zeros_read w a zero j h e = absurd (let z : ⊥ = omega arith in z)
zeros_read w a (suc k) zero h e = let p : a + 0 ≡ a = omega arith in rw p (eqb-true _ _ (and_left (eqb (get_or w a 0) 0) _ e))
zeros_read w a (suc k) (suc j) h e = let p : a + suc j ≡ a + 1 + j = omega arith in rw p (zeros_read w (a + 1) k j (omega arith) (and_right (eqb (get_or w a 0) 0) _ e))

module _ (w : List ℕ) where
  pub block_few : (now a k : ℕ) → block_rests now w a k ≡ true → k ≤ 16
  unfolding block_rests
  block_few now a k e = leb-true _ _ (and_left (leb k 16) _ e)

  pub knows_place_lem : (n k : ℕ) → k < n → know_places w n ≡ true → (slot_of w k < 64) × (get_or w (block_at (slot_of w k)) 0 ≡ k + 1)
  unfolding know_places knows_place
  knows_place_lem zero k h e = absurd (let z : ⊥ = omega arith in z)
  knows_place_lem (suc n) k h e = by (eqb k n) refl (knows_place_lem n k) (and_left (knows_place w n) _ e) (and_right (knows_place w n) _ e)
    where
      by : (b : Bool) → eqb k n ≡ b → (k < n → know_places w n ≡ true → (slot_of w k < 64) × (get_or w (block_at (slot_of w k)) 0 ≡ k + 1)) →
          knows_place w n ≡ true → know_places w n ≡ true → (slot_of w k < 64) × (get_or w (block_at (slot_of w k)) 0 ≡ k + 1)
      by true q r a b =
          let p : k ≡ n = eqb-true _ _ q in
          rw p (ltb-true _ _ (and_left (ltb (slot_of w n) 64) _ a), eqb-true _ _ (and_right (ltb (slot_of w n) 64) _ a))
      by false q r a b = let p : k ≡ n → ⊥ = eqb-false _ _ q in r (omega (arith, p)) b

  pub slot_holds_lem : (n now m s : ℕ) → s < m → slots_hold n now w m ≡ true → slot_holds n now w s ≡ true
  unfolding slots_hold
  slot_holds_lem n now zero s h e = absurd (let z : ⊥ = omega arith in z)
  slot_holds_lem n now (suc m) s h e = by (eqb s m) refl (slot_holds_lem n now m s) (and_left (slot_holds n now w m) _ e) (and_right (slot_holds n now w m) _ e)
    where
      by : (b : Bool) → eqb s m ≡ b → (s < m → slots_hold n now w m ≡ true → slot_holds n now w s ≡ true) →
          slot_holds n now w m ≡ true → slots_hold n now w m ≡ true → slot_holds n now w s ≡ true
      by true q r a b = let p : s ≡ m = eqb-true _ _ q in rw p a
      by false q r a b = let p : s ≡ m → ⊥ = eqb-false _ _ q in r (omega (arith, p)) b

  -- a slot in use
  pub record UsedSlot (n now s : ℕ) : Type 0 where
    pub low : get_or w (block_at s) 0 ≤ n
    pub led : get_or w (63 + get_or w (block_at s) 0) 0 ≡ s
    pub kept : zero_from w (block_at s + 5) 3 ≡ true
    pub rests : block_rests now w (block_at s) (get_or w (block_at s + 4) 0) ≡ true

  pub used_slot : (n now s : ℕ) → slot_holds n now w s ≡ true → (get_or w (block_at s) 0 ≡ 0 → ⊥) → UsedSlot n now s
  unfolding slot_holds
  used_slot n now s e ne =
      let p = get_or w (block_at s) 0 in
      let k = get_or w (block_at s + 4) 0 in
      let e0 : leb p n && (eqb (get_or w (63 + p) 0) s && (zero_from w (block_at s + 5) 3 && block_rests now w (block_at s) k)) ≡ true = rw (ne_eqb _ _ ne) at e in
      let e1 = and_right (leb p n) _ e0 in
      let e2 = and_right (eqb (get_or w (63 + p) 0) s) _ e1 in
      record {
        low = leb-true _ _ (and_left (leb p n) _ e0);
        led = eqb-true _ _ (and_left (eqb (get_or w (63 + p) 0) s) _ e1);
        kept = and_left (zero_from w (block_at s + 5) 3) _ e2;
        rests = and_right (zero_from w (block_at s + 5) 3) _ e2;
      }

  pub free_slot_lem : (n now s : ℕ) → slot_holds n now w s ≡ true → get_or w (block_at s) 0 ≡ 0 → zero_from w (block_at s) 184 ≡ true
  unfolding slot_holds
  free_slot_lem n now s e z = rw (eq-eqb _ _ z) at e

  -- ── the whole memory ────────────────────────────────────────────────────────────────────────────
  pub record InPlace (size : ℕ) : Type 0 where
    pub first : get_or w 0 0 ≡ 0
    pub few : get_or w 3 0 ≤ 64
    pub header : zero_from w 4 60 ≡ true
    pub places : know_places w (get_or w 3 0) ≡ true
    pub order : zero_from w (64 + get_or w 3 0) (264 - get_or w 3 0) ≡ true
    pub outer : zero_from w environment_block 8 ≡ true
    pub environment : block_rests (moment_at w 1) w environment_block size ≡ true
    pub slots : slots_hold (get_or w 3 0) (moment_at w 1) w 64 ≡ true

  pub in_place : (size : ℕ) → words_in_place size w ≡ true → InPlace size
  unfolding words_in_place header_in_place blocks_in_place
  in_place size pass =
      let k = get_or w 3 0 in
      let t = moment_at w 1 in
      let h0 = and_left (header_in_place w) _ pass in
      let h1 = and_right (eqb (get_or w 0 0) 0) _ h0 in
      let h2 = and_right (leb k 64) _ h1 in
      let h3 = and_right (zero_from w 4 60) _ h2 in
      let b0 = and_right (header_in_place w) _ pass in
      let b1 = and_right (zero_from w environment_block 8) _ b0 in
      record {
        first = eqb-true _ _ (and_left (eqb (get_or w 0 0) 0) _ h0);
        few = leb-true _ _ (and_left (leb k 64) _ h1);
        header = and_left (zero_from w 4 60) _ h2;
        places = and_left (know_places w k) _ h3;
        order = and_right (know_places w k) _ h3;
        outer = and_left (zero_from w environment_block 8) _ b0;
        environment = and_left (block_rests t w environment_block size) _ b1;
        slots = and_right (block_rests t w environment_block size) _ b1;
      }
