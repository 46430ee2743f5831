-- The layout holds what it is the layout of, and no other 12,288 words do.
use mathlib.Core.Path.{◌≡◌, refl, sym, ap, ◌∙◌}
use mathlib.Core.Bool.{Bool, true, false, cond}
use mathlib.Core.List.{List, [], ◌∷◌, ◌++◌}
use Prim.Native.Nat.{ℕ, zero, suc, ◌+◌, ◌*◌, ◌-◌, ◌<◌, ◌≤◌, ◌%◌, ◌/◌}
use lib.Dec.{ltb, eqb}
use lib.ListN.{length, get_or, length-append, length-replicate, get_or-append}
use lib.Seq.{get_or-append-add, ext_get_or}
use borrow.Author.Tests.{ltb-true, ltb-false, eq-eqb, ne_eqb}
use native.Mathlib.Omega.{arith}
use native.Mathlib.Nat.{mod-lt, div-lt_iff_lt-mul, div-add-mod'}
use Rattle.walk.specs.State.{Variable}
use Rattle.machine.specs.Records.{Record}
use Rattle.machine.specs.Words.{block_at, environment_block}
use Rattle.machine.specs.Layout.{zeros, padded, header_words, record_words, environment_words, slot_words, blocks_from, laid_out, no_record, SlotsFor, Holds}
use Rattle.machine.proofs.HeldWordsPass.{get_or-nil, Found, found, missing, find, length-variables_words}

get_or-zeros : (n j : ℕ) → get_or (zeros n) j 0 ≡ 0
unfolding zeros
get_or-zeros zero zero = refl
get_or-zeros zero (suc j) = refl
get_or-zeros (suc n) zero = refl
get_or-zeros (suc n) (suc j) = get_or-zeros n j

get_or-zeros_after : (xs : List ℕ) (n j : ℕ) → get_or (xs ++ zeros n) j 0 ≡ get_or xs j 0
get_or-zeros_after [] n j = get_or-zeros n j ∙ sym (get_or-nil j)
get_or-zeros_after (x ∷ xs) n zero = refl
get_or-zeros_after (x ∷ xs) n (suc j) = get_or-zeros_after xs n j

get_or-padded : (n : ℕ) (xs : List ℕ) (j : ℕ) → get_or (padded n xs) j 0 ≡ get_or xs j 0
unfolding padded
get_or-padded n xs j = get_or-zeros_after xs (n - length xs) j

length_padded : (n : ℕ) (xs : List ℕ) → length xs ≤ n → length (padded n xs) ≡ n
unfolding padded zeros
length_padded n xs h = simp (length-append, length-replicate) (omega arith)

-- the part after a first part of known length
second : (p q : List ℕ) (n j : ℕ) → length p ≡ n → get_or (p ++ q) (n + j) 0 ≡ get_or q j 0
second p q n j e = rw (← e) (get_or-append-add p q j 0)

first : (p q : List ℕ) (n j : ℕ) → length p ≡ n → j < n → get_or (p ++ q) j 0 ≡ get_or p j 0
first p q n j e h = get_or-append p q 0 j (omega arith)

-- every record has at most 16 variables
abbrev Few : List Record → Type 0
Few xs = (k : ℕ) → k < length xs → length (get_or xs k no_record).own ≤ 16

length-record_words : (p : ℕ) (x : Record) → length x.own ≤ 16 → length (record_words p x) ≤ 184
unfolding record_words
length-record_words p x h = omega (arith, length-variables_words x.own)

length_cond : (b : Bool) (xs ys : List ℕ) → length xs ≤ 184 → length ys ≤ 184 → length (cond b xs ys) ≤ 184
length_cond true xs ys p q = p
length_cond false xs ys p q = q

length-slot_words : (s p : ℕ) (slots : List ℕ) (xs : List Record) → Few xs → length (slot_words s p slots xs) ≤ 184
unfolding slot_words
length-slot_words s p [] xs f = omega arith
length-slot_words s p (q ∷ slots) [] f = omega arith
length-slot_words s p (q ∷ slots) (x ∷ xs) f =
    length_cond (eqb q s) (record_words p x) (slot_words s (suc p) slots xs) (length-record_words p x (f 0 (omega arith)))
    (length-slot_words s (suc p) slots xs (λ k h. f (suc k) (omega arith)))

slot_of_record : (slots : List ℕ) (xs : List Record) (p k : ℕ) → length slots ≡ length xs → k < length xs →
    ((i j : ℕ) → i < length xs → j < length xs → get_or slots i 0 ≡ get_or slots j 0 → i ≡ j) →
    slot_words (get_or slots k 0) p slots xs ≡ record_words (p + k) (get_or xs k no_record)
unfolding slot_words
slot_of_record [] [] p k e h d = absurd (let z : ⊥ = omega arith in z)
slot_of_record [] (x ∷ xs) p k e h d = absurd (let z : ⊥ = omega arith in z)
slot_of_record (q ∷ slots) [] p k e h d = absurd (let z : ⊥ = omega arith in z)
slot_of_record (q ∷ slots) (x ∷ xs) p zero e h d = let z : p + 0 ≡ p = omega arith in rw (eq-eqb q q refl, z)
slot_of_record (q ∷ slots) (x ∷ xs) p (suc k) e h d =
    let ne : q ≡ get_or slots k 0 → ⊥ = λ z. (let y : 0 ≡ suc k = d 0 (suc k) (omega arith) h z in let b : ⊥ = omega arith in b) in
    let z : suc p + k ≡ p + suc k = omega arith in
    rw (ne_eqb _ _ ne, ← z) (slot_of_record slots xs (suc p) k (omega arith) (omega arith)
    (λ i j a b c. let y : suc i ≡ suc j = d (suc i) (suc j) (omega arith) (omega arith) c in omega arith))

free_slot_lem : (slots : List ℕ) (xs : List Record) (s p : ℕ) → ((k : ℕ) → k < length xs → get_or slots k 0 ≡ s → ⊥) → slot_words s p slots xs ≡ []
unfolding slot_words
free_slot_lem [] xs s p f = refl
free_slot_lem (q ∷ slots) [] s p f = refl
free_slot_lem (q ∷ slots) (x ∷ xs) s p f = rw (ne_eqb q s (f 0 (omega arith))) (free_slot_lem slots xs s (suc p) (λ k h. f (suc k) (omega arith)))

length_blocks : (slots : List ℕ) (xs : List Record) (s m : ℕ) → Few xs → length (blocks_from slots xs s m) ≡ m * 184
unfolding blocks_from
length_blocks slots xs s zero f = refl
length_blocks slots xs s (suc m) f =
    simp length-append (omega (arith, length_padded 184 (slot_words s 1 slots xs) (length-slot_words s 1 slots xs f), length_blocks slots xs (suc s) m f))

block_words : (slots : List ℕ) (xs : List Record) (s m i j : ℕ) → Few xs → i < m → j < 184 →
    get_or (blocks_from slots xs s m) (i * 184 + j) 0 ≡ get_or (slot_words (s + i) 1 slots xs) j 0
unfolding blocks_from
block_words slots xs s zero i j f h l = absurd (let z : ⊥ = omega arith in z)
block_words slots xs s (suc m) zero j f h l =
    let p : 0 * 184 + j ≡ j = omega arith in
    let q : s + 0 ≡ s = omega arith in
    rw (p, q) (first (padded 184 (slot_words s 1 slots xs)) (blocks_from slots xs (suc s) m) 184 j (length_padded 184 (slot_words s 1 slots xs) (length-slot_words s 1 slots xs f)) l
    ∙ get_or-padded 184 (slot_words s 1 slots xs) j)
block_words slots xs s (suc m) (suc i) j f h l =
    let p : suc i * 184 + j ≡ 184 + (i * 184 + j) = omega arith in
    let q : suc s + i ≡ s + suc i = omega arith in
    rw (p, ← q) (second (padded 184 (slot_words s 1 slots xs)) (blocks_from slots xs (suc s) m) 184 (i * 184 + j) (length_padded 184 (slot_words s 1 slots xs) (length-slot_words s 1 slots xs f))
    ∙ block_words slots xs (suc s) m i j f (omega arith) l)

module _ (slots : List ℕ) (now : ℕ) (environment : List Variable) (xs : List Record) (S : SlotsFor slots xs) (narrow : length environment ≤ 16)
    (f : Few xs) (few : length xs ≤ 64) where
  one : List ℕ
  one = padded 64 (header_words now (length xs))

  two : List ℕ
  two = padded 264 slots

  three : List ℕ
  three = blocks_from slots xs 0 64

  four : List ℕ
  four = padded 184 (environment_words environment)

  length_one : length one ≡ 64
  unfolding one header_words
  length_one = length_padded 64 (header_words now (length xs)) (omega arith)

  length_two : length two ≡ 264
  unfolding two
  length_two = length_padded 264 slots (omega (arith, S.size))

  length_three : length three ≡ 11776
  unfolding three
  length_three = length_blocks slots xs 0 64 f

  length_four : length four ≡ 184
  unfolding four environment_words
  length_four = length_padded 184 (environment_words environment) (omega (arith, length-variables_words environment))

  w : List ℕ
  w = laid_out slots now environment xs

  pub laid_out_length : length (laid_out slots now environment xs) ≡ 12288
  unfolding laid_out one two three four
  laid_out_length = simp length-append (omega (arith, length_one, length_two, length_three, length_four))

  after_one : (j : ℕ) → get_or w (64 + j) 0 ≡ get_or (two ++ (three ++ four)) j 0
  unfolding w laid_out one two three four
  after_one j = second one (two ++ (three ++ four)) 64 j length_one

  after_two : (j : ℕ) → get_or w (328 + j) 0 ≡ get_or (three ++ four) j 0
  after_two j =
      let p : 64 + (264 + j) ≡ 328 + j = omega arith in
      rw p at (after_one (264 + j)) ∙ second two (three ++ four) 264 j length_two

  block_at_lem : (s j : ℕ) → s < 64 → j < 184 → get_or w (block_at s + j) 0 ≡ get_or (slot_words s 1 slots xs) j 0
  unfolding three
  block_at_lem s j h l =
      let p : 328 + (s * 184 + j) ≡ block_at s + j = omega arith in
      let q : 0 + s ≡ s = omega arith in
      rw p at (after_two (s * 184 + j)) ∙ first three four 11776 (s * 184 + j) length_three (omega arith) ∙
      rw q at (block_words slots xs 0 64 s j f h l)

  pub laid_out_holds : Holds (laid_out slots now environment xs) slots now environment xs
  unfolding w laid_out one two three four
  laid_out_holds = record {
    header = λ j h.
        let p : 0 + j ≡ j = omega arith in
        rw p (first one (two ++ (three ++ four)) 64 j length_one h ∙ get_or-padded 64 (header_words now (length xs)) j);
    order = λ j h. after_one j ∙ first two (three ++ four) 264 j length_two h ∙ get_or-padded 264 slots j;
    used = λ k h j l.
        let p : 1 + k ≡ suc k = omega arith in
        block_at_lem (get_or slots k 0) j (S.below k h) l ∙ ap (λ u. get_or u j 0) (rw p at (slot_of_record slots xs 1 k S.size h S.distinct));
    free = λ s h g j l. block_at_lem s j h l ∙ ap (λ u. get_or u j 0) (free_slot_lem slots xs s 1 g);
    outer = λ j h.
        let p : 328 + (11776 + j) ≡ environment_block + j = omega arith in
        rw p at (after_two (11776 + j)) ∙ second three four 11776 j length_three ∙ get_or-padded 184 (environment_words environment) j;
  }

-- ── every word is determined ──────────────────────────────────────────────────────────────────────
module _ (w v slots : List ℕ) (now : ℕ) (environment : List Variable) (xs : List Record)
    (H : Holds w slots now environment xs) (K : Holds v slots now environment xs) where
  same_slot : (s j : ℕ) → s < 64 → j < 184 → Found slots (length xs) s → get_or w (block_at s + j) 0 ≡ get_or v (block_at s + j) 0
  same_slot s j h l (found k b e) = rw e at (H.used k b j l ∙ sym (K.used k b j l))
  same_slot s j h l (missing f) = H.free s h f j l ∙ sym (K.free s h f j l)

  same_block : (a : ℕ) → a < 11776 → get_or w (328 + a) 0 ≡ get_or v (328 + a) 0
  same_block a h =
      let s : a / 184 < 64 = (div-lt_iff_lt-mul {k = 184} {x = a} {y = 64} (omega arith)).1 h in
      let p : block_at (a / 184) + a % 184 ≡ 328 + a = omega (arith, div-add-mod' a 184) in
      rw p at (same_slot (a / 184) (a % 184) s (mod-lt a (omega arith)) (find slots (length xs) (a / 184)))

  same_word : (a : ℕ) → a < 12288 → get_or w a 0 ≡ get_or v a 0
  same_word a h = in_header (ltb a 64) refl
    where
      in_outer : get_or w (environment_block + (a - environment_block)) 0 ≡ get_or v (environment_block + (a - environment_block)) 0
      in_outer = H.outer (a - environment_block) (omega arith) ∙ sym (K.outer (a - environment_block) (omega arith))

      in_blocks : (b : Bool) → ltb a 12104 ≡ b → 328 ≤ a → get_or w a 0 ≡ get_or v a 0
      in_blocks true e l =
          let q : a < 12104 = ltb-true _ _ e in
          let p : 328 + (a - 328) ≡ a = omega arith in rw p at (same_block (a - 328) (omega arith))
      in_blocks false e l =
          let q : 12104 ≤ a = ltb-false _ _ e in
          let p : environment_block + (a - environment_block) ≡ a = omega arith in rw p at in_outer

      in_order : (b : Bool) → ltb a 328 ≡ b → 64 ≤ a → get_or w a 0 ≡ get_or v a 0
      in_order true e l =
          let q : a < 328 = ltb-true _ _ e in
          let p : 64 + (a - 64) ≡ a = omega arith in
          rw p at (H.order (a - 64) (omega arith) ∙ sym (K.order (a - 64) (omega arith)))
      in_order false e l = in_blocks (ltb a 12104) refl (ltb-false _ _ e)

      in_header : (b : Bool) → ltb a 64 ≡ b → get_or w a 0 ≡ get_or v a 0
      in_header true e =
          let p : 0 + a ≡ a = omega arith in
          rw p at (H.header a (ltb-true _ _ e) ∙ sym (K.header a (ltb-true _ _ e)))
      in_header false e = in_order (ltb a 328) refl (ltb-false _ _ e)

  pub holds_determines : length w ≡ 12288 → length v ≡ 12288 → w ≡ v
  holds_determines m n = ext_get_or 0 w v (m ∙ sym n) (λ i h. same_word i (omega arith))
