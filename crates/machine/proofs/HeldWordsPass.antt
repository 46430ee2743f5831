-- Words that hold records at rest are in place, and give the records back.
use mathlib.Core.Path.{◌≡◌, refl, sym, ◌∙◌}
use mathlib.Core.Bool.{Bool, true, false, cond, ◌&&◌, not}
use mathlib.Core.List.{List, [], ◌∷◌}
use Prim.Native.Nat.{ℕ, zero, suc, ◌+◌, ◌*◌, ◌-◌, ◌<◌, ◌≤◌, ◌%◌, ◌/◌}
use lib.Dec.{ltb, eqb}
use lib.ListN.{length, get_or, get_or-eq_default}
use borrow.Author.Tests.{lt-ltb, ltb-true, le-leb, eqb-true, eqb-false, eq-eqb, ne_eqb}
use native.Mathlib.Omega.{arith}
use native.Mathlib.Nat.{mod-add-div'}
use native.Mathlib.Numerals.{add-one}
use Rattle.walk.specs.State.{Waiting, idle, due, Variable}
use Rattle.walk.specs.Question7.{due_after, at_rest, all_at_rest}
use Rattle.machine.specs.Records.{Record}
use Rattle.machine.specs.Words.{block_at, environment_block, moment_at, waiting_of, variable_in, variables_in, record_in, slot_of, records_in, zero_from, variable_rests, variables_rest, block_rests, slot_holds, slots_hold, knows_place, know_places, header_in_place, blocks_in_place, words_in_place}
use Rattle.machine.specs.Layout.{waiting_value, waiting_moment, variables_words, header_words, record_words, environment_words, Reads, no_record, SlotsFor, Holds}
use Rattle.machine.proofs.Basics.{and_left, and_right}

pub get_or-nil : (j : ℕ) → get_or {A = ℕ} [] j 0 ≡ 0
get_or-nil zero = refl
get_or-nil (suc j) = refl

-- Where a slot stands in the order list, if it does.
pub data Found (slots : List ℕ) (n s : ℕ) : Type 0 where
  found : (k : ℕ) → k < n → get_or slots k 0 ≡ s → Found slots n s
  missing : ((k : ℕ) → k < n → get_or slots k 0 ≡ s → ⊥) → Found slots n s

pub find : (slots : List ℕ) (n s : ℕ) → Found slots n s
find slots zero s = missing (λ k h e. absurd (let z : ⊥ = omega arith in z))
find slots (suc n) s = here (eqb (get_or slots n 0) s) refl (find slots n s)
  where
    here : (x : Bool) → eqb (get_or slots n 0) s ≡ x → Found slots n s → Found slots (suc n) s
    here true e r = found n (omega arith) (eqb-true _ _ e)
    here false e (found k h q) = found k (omega arith) q
    here false e (missing f) = missing (λ k h q. last k h q (eqb k n) refl)
      where
        last : (k : ℕ) → k < suc n → get_or slots k 0 ≡ s → (y : Bool) → eqb k n ≡ y → ⊥
        last k h q true u = let p : k ≡ n = eqb-true _ _ u in eqb-false (get_or slots n 0) s e (rw p at q)
        last k h q false u = let p : k ≡ n → ⊥ = eqb-false _ _ u in f k (omega arith) q

pub length-variables_words : (xs : List Variable) → length (variables_words xs) ≡ length xs * 6
unfolding variables_words
length-variables_words [] = refl
length-variables_words (x ∷ xs) =
    let e = length-variables_words xs in
    let p : suc (suc (suc (suc (suc (suc (length (variables_words xs))))))) ≡ suc (length xs) * 6 = omega arith in p

waiting_back : (now : ℕ) (x : Waiting) → due_after now x ≡ true →
    (waiting_of (waiting_moment x) (waiting_value x) ≡ x) × (cond (eqb (waiting_moment x) 0) (eqb (waiting_value x) 0) (ltb now (waiting_moment x)) ≡ true)
unfolding due_after waiting_of waiting_moment waiting_value
waiting_back now idle q = (refl, refl)
waiting_back now (due zero v) q = let l : now < 0 = ltb-true _ _ (and_left (ltb now 0) _ q) in absurd (let z : ⊥ = omega arith in z)
waiting_back now (due (suc d) v) q = (refl, rw (ne_eqb (suc d) 0 (λ z. omega arith)) (and_left (ltb now (suc d)) _ q))

module _ (w : List ℕ) where
  pub zero_from_lem : (a k : ℕ) → ((j : ℕ) → j < k → get_or w (a + j) 0 ≡ 0) → zero_from w a k ≡ true
  unfolding zero_from
  zero_from_lem a zero f = refl
  zero_from_lem a (suc k) f =
      let p : a + 0 ≡ a = omega arith in
      rw (
        eq-eqb _ _ (rw p at (f 0 (omega arith))),
        zero_from_lem (a + 1) k (λ j h. let q : a + suc j ≡ a + 1 + j = omega arith in rw q at (f (suc j) (omega arith))),
      )

  variables_back : (now a : ℕ) (xs : List Variable) → all_at_rest now xs ≡ true → Reads w a (length xs * 6) (variables_words xs) →
      (variables_in w a (length xs) ≡ xs) × (variables_rest now w a (length xs) ≡ true)
  unfolding all_at_rest at_rest variables_in variable_in variables_rest variable_rests variables_words zero_from
  variables_back now a [] q r = (refl, refl)
  variables_back now a (x ∷ xs) q r =
      let one = ltb x.value 4294967296 && (not x.written && due_after now x.waiting) in
      let q1 = and_right (ltb x.value 4294967296) _ (and_left one _ q) in
      let (b, f) = waiting_back now x.waiting (and_right (not x.written) _ q1) in
      let u : x.written ≡ false = unmarked x.written (and_left (not x.written) _ q1) in
      let p0 : a + 0 ≡ a = omega arith in
      let p3 : a + 3 ≡ a + 2 + 1 = omega arith in
      let p5 : a + 5 ≡ a + 4 + 1 = omega arith in
      let r0 : get_or w a 0 ≡ x.value = rw p0 at (r 0 (omega arith)) in
      let r1 : get_or w (a + 1) 0 ≡ waiting_value x.waiting = r 1 (omega arith) in
      let r2 : get_or w (a + 2) 0 ≡ waiting_moment x.waiting % 4294967296 = r 2 (omega arith) in
      let r3 : get_or w (a + 2 + 1) 0 ≡ waiting_moment x.waiting / 4294967296 = rw p3 at (r 3 (omega arith)) in
      let r4 : get_or w (a + 4) 0 ≡ 0 = r 4 (omega arith) in
      let r5 : get_or w (a + 4 + 1) 0 ≡ 0 = rw p5 at (r 5 (omega arith)) in
      let m : moment_at w (a + 2) ≡ waiting_moment x.waiting = rw (r2, r3) (mod-add-div' (waiting_moment x.waiting) 4294967296) in
      let (bs, fs) = variables_back now (a + 6) xs (and_right one _ q)
      (λ j h. let p : a + suc (suc (suc (suc (suc (suc j))))) ≡ a + 6 + j = omega arith in rw p at (r (suc (suc (suc (suc (suc (suc j)))))) (omega arith))) in
      (rw (r0, r1, m, b, ← u, bs), rw (m, r1, f, r4, r5, fs))
    where
      unmarked : (b : Bool) → not b ≡ true → b ≡ false
      unmarked false h = refl
      unmarked true h = sym h

  block_back : (now a : ℕ) (xs : List Variable) → all_at_rest now xs ≡ true → length xs ≤ 16 → Reads w (a + 8) 176 (variables_words xs) →
      (variables_in w (a + 8) (length xs) ≡ xs) × (block_rests now w a (length xs) ≡ true)
  unfolding block_rests
  block_back now a xs q l r =
      let (b, f) = variables_back now (a + 8) xs q (λ j h. r j (omega arith)) in (
        b,
        rw (
          le-leb _ _ l,
          f,
          zero_from_lem (a + 8 + length xs * 6) (176 - length xs * 6)
              (λ j h. let p : a + 8 + (length xs * 6 + j) ≡ a + 8 + length xs * 6 + j = omega arith in
              rw p at (r (length xs * 6 + j) (omega arith)) ∙
              get_or-eq_default (variables_words xs) 0 {n = length xs * 6 + j} (omega (arith, length-variables_words xs))),
        ),
      )

  -- a record's block
  pub record Block (now a p : ℕ) (x : Record) : Type 0 where
    pub first : get_or w a 0 ≡ p
    pub back : record_in w a ≡ x
    pub kept : zero_from w (a + 5) 3 ≡ true
    pub rests : block_rests now w a (get_or w (a + 4) 0) ≡ true

  pub record_back : (now a p : ℕ) (x : Record) → all_at_rest now x.own ≡ true → length x.own ≤ 16 → Reads w a 184 (record_words p x) → Block now a p x
  unfolding record_words record_in
  record_back now a p x q l r =
      let p0 : a + 0 ≡ a = omega arith in
      let n4 : get_or w (a + 4) 0 ≡ length x.own = r 4 (omega arith) in
      let (b, f) = block_back now a x.own q l
      (λ j h. let e : a + suc (suc (suc (suc (suc (suc (suc (suc j))))))) ≡ a + 8 + j = omega arith in
      rw e at (r (suc (suc (suc (suc (suc (suc (suc (suc j)))))))) (omega arith))) in
      record {
        first = rw p0 at (r 0 (omega arith));
        back = rw (r 1 (omega arith), r 2 (omega arith), r 3 (omega arith), n4, b);
        kept = zero_from_lem (a + 5) 3 (λ j h. three j h);
        rests = rw n4 f;
      }
    where
      three : (j : ℕ) → j < 3 → get_or w (a + 5 + j) 0 ≡ 0
      three zero h = let e : a + 5 ≡ a + 5 + 0 = omega arith in rw e at (r 5 (omega arith))
      three (suc zero) h = let e : a + 6 ≡ a + 5 + 1 = omega arith in rw e at (r 6 (omega arith))
      three (suc (suc zero)) h = let e : a + 7 ≡ a + 5 + 2 = omega arith in rw e at (r 7 (omega arith))
      three (suc (suc (suc j))) h = absurd (let z : ⊥ = omega arith in z)

  records_back : (xs : List Record) (k : ℕ) → ((i : ℕ) → i < length xs → record_in w (block_at (slot_of w (k + i))) ≡ get_or xs i no_record) → records_in w k (length xs) ≡ xs
  unfolding records_in
  records_back [] k f = refl
  records_back (x ∷ xs) k f =
      let p : k + 0 ≡ k = omega arith in
      rw (
        rw p at (f 0 (omega arith)),
        records_back xs (suc k) (λ i h. let q : k + suc i ≡ suc k + i = omega arith in rw q at (f (suc i) (omega arith))),
      )

  slots_hold_lem : (n now m : ℕ) → ((s : ℕ) → s < m → slot_holds n now w s ≡ true) → slots_hold n now w m ≡ true
  unfolding slots_hold
  slots_hold_lem n now zero f = refl
  slots_hold_lem n now (suc m) f = rw (f m (omega arith), slots_hold_lem n now m (λ s h. f s (omega arith)))

  know_places_lem : (m : ℕ) → ((k : ℕ) → k < m → knows_place w k ≡ true) → know_places w m ≡ true
  unfolding know_places
  know_places_lem zero f = refl
  know_places_lem (suc m) f = rw (f m (omega arith), know_places_lem m (λ k h. f k (omega arith)))

-- records whose variables are at rest, at most 16 each
pub record RecordsRest (now : ℕ) (xs : List Record) : Type 0 where
  pub resting : (k : ℕ) → k < length xs → all_at_rest now (get_or xs k no_record).own ≡ true
  pub few : (k : ℕ) → k < length xs → length (get_or xs k no_record).own ≤ 16

module _ (w slots : List ℕ) (now : ℕ) (environment : List Variable) (xs : List Record) (S : SlotsFor slots xs) (H : Holds w slots now environment xs)
    (rests : all_at_rest now environment ≡ true) (narrow : length environment ≤ 16) (R : RecordsRest now xs) (few : length xs ≤ 64) where
  pub held_first : get_or w 0 0 ≡ 0
  unfolding header_words
  held_first = H.header 0 (omega arith)

  pub held_count : get_or w 3 0 ≡ length xs
  unfolding header_words
  held_count = H.header 3 (omega arith)

  pub held_moment : moment_at w 1 ≡ now
  unfolding header_words
  held_moment =
      let l : get_or w 1 0 ≡ now % 4294967296 = H.header 1 (omega arith) in
      let h : get_or w 2 0 ≡ now / 4294967296 = H.header 2 (omega arith) in
      rw (l, h) (mod-add-div' now 4294967296)

  held_slot : (k : ℕ) → k < length xs → slot_of w k ≡ get_or slots k 0
  held_slot k h = H.order k (omega arith)

  held_block : (k : ℕ) → k < length xs → Block w now (block_at (get_or slots k 0)) (suc k) (get_or xs k no_record)
  held_block k h = record_back w now (block_at (get_or slots k 0)) (suc k) (get_or xs k no_record) (R.resting k h) (R.few k h) (H.used k h)

  held_records_from : records_in w 0 (length xs) ≡ xs
  held_records_from = records_back w xs 0 (λ i h. let p : 0 + i ≡ i = omega arith in rw (p, held_slot i h) (held_block i h).back)

  pub held_records : records_in w 0 (get_or w 3 0) ≡ xs
  held_records = rw held_count held_records_from

  slot_of_lem : (s : ℕ) → s < 64 → Found slots (length xs) s → slot_holds (length xs) now w s ≡ true
  unfolding slot_holds
  slot_of_lem s h (found k l e) =
      let B = rw e at (held_block k l) in
      let p : 63 + suc k ≡ 64 + k = omega arith in
      let o : get_or w (64 + k) 0 ≡ s = held_slot k l ∙ e in
      rw (B.first, ne_eqb (suc k) 0 (λ z. omega arith), le-leb (suc k) (length xs) l, p, eq-eqb _ _ o, B.kept, B.rests)
  slot_of_lem s h (missing f) =
      let z = H.free s h f in
      let p : block_at s + 0 ≡ block_at s = omega arith in
      let z0 : get_or w (block_at s) 0 ≡ 0 = rw p at (z 0 (omega arith)) in
      rw (eq-eqb _ _ z0, zero_from_lem w (block_at s) 184 (λ j l. z j l ∙ get_or-nil j))

  place_of : (k : ℕ) → k < length xs → knows_place w k ≡ true
  unfolding knows_place
  place_of k h = rw (held_slot k h, lt-ltb _ _ (S.below k h), eq-eqb _ _ ((held_block k h).first ∙ sym (add-one k)))

  held_outer : (variables_in w (environment_block + 8) (length environment) ≡ environment) × (block_rests now w environment_block (length environment) ≡ true)
  unfolding environment_words
  held_outer = block_back w now environment_block environment rests narrow
      (λ j h. let e : environment_block + suc (suc (suc (suc (suc (suc (suc (suc j))))))) ≡ environment_block + 8 + j = omega arith in
      rw e at (H.outer (suc (suc (suc (suc (suc (suc (suc (suc j)))))))) (omega arith)))

  pub held_environment : variables_in w (environment_block + 8) (length environment) ≡ environment
  held_environment = held_outer.0

  header_rest : (j : ℕ) → j < 60 → get_or w (4 + j) 0 ≡ 0
  unfolding header_words
  header_rest j h =
      let e : 0 + suc (suc (suc (suc j))) ≡ 4 + j = omega arith in
      rw e at (H.header (suc (suc (suc (suc j)))) (omega arith)) ∙ get_or-nil j

  order_rest : (j : ℕ) → j < 264 - length xs → get_or w (64 + length xs + j) 0 ≡ 0
  order_rest j h =
      let e : 64 + (length xs + j) ≡ 64 + length xs + j = omega arith in
      rw e at (H.order (length xs + j) (omega arith)) ∙ get_or-eq_default slots 0 {n = length xs + j} (omega (arith, S.size))

  outer_rest : (j : ℕ) → j < 8 → get_or w (environment_block + j) 0 ≡ 0
  unfolding environment_words
  outer_rest j h = H.outer j (omega arith) ∙ first_eight j h
    where
      first_eight : (i : ℕ) → i < 8 → get_or (environment_words environment) i 0 ≡ 0
      first_eight zero l = refl
      first_eight (suc zero) l = refl
      first_eight (suc (suc zero)) l = refl
      first_eight (suc (suc (suc zero))) l = refl
      first_eight (suc (suc (suc (suc zero)))) l = refl
      first_eight (suc (suc (suc (suc (suc zero))))) l = refl
      first_eight (suc (suc (suc (suc (suc (suc zero)))))) l = refl
      first_eight (suc (suc (suc (suc (suc (suc (suc zero))))))) l = refl
      first_eight (suc (suc (suc (suc (suc (suc (suc (suc i)))))))) l = absurd (let z : ⊥ = omega arith in z)

  pub held_in_place : words_in_place (length environment) w ≡ true
  unfolding words_in_place header_in_place blocks_in_place
  held_in_place =
      rw (
        held_first,
        held_count,
        held_moment,
        le-leb (length xs) 64 few,
        zero_from_lem w 4 60 header_rest,
        know_places_lem w (length xs) place_of,
        zero_from_lem w (64 + length xs) (264 - length xs) order_rest,
        zero_from_lem w environment_block 8 outer_rest,
        held_outer.1,
        slots_hold_lem w (length xs) now 64 (λ s h. slot_of_lem s h (find slots (length xs) s)),
      )
