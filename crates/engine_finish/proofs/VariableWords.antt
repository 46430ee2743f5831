-- The words of a clean block's variables are those that the layout has for the variables without their marks.
-- Letters: b a block, c the number of its variables, i a variable, f one of its six words, q a word counted from the first variable.
use mathlib.Core.Path.{◌≡◌, refl, sym, ap, ◌∙◌}
use mathlib.Core.List.{List, [], ◌∷◌}
use Prim.Native.Nat.{ℕ, zero, suc, ◌+◌, ◌*◌, ◌/◌, ◌%◌, ◌≤◌, ◌<◌, min}
use native.Mathlib.Decide.{dec_lt}
use native.Mathlib.Omega.{arith}
use lib.ListN.{length, get_or, get_or-eq_default}
use Rattle.walk.specs.State.{Variable, no_variable, unmarked_of}
use Rattle.walk.specs.Instant.{unmarked}
use Rattle.machine.specs.Words.{waiting_of}
use Rattle.machine.specs.Layout.{variables_words, waiting_value, waiting_moment}
use Rattle.machine.proofs.HeldWordsPass.{length-variables_words}
use Rattle.engine_blocks.specs.Tabulate.{tabulate_from}
use Rattle.engine_blocks.specs.Blocks.{Block, variable_in, variables_in}
use Rattle.engine_blocks.specs.Changes.{cleared}
use Rattle.engine_blocks.proofs.Tabulated.{get_d_tabulate, length_tabulate}
use Rattle.engine_blocks.proofs.Puts.{put_other, cleared_inside, cleared_below}
use Rattle.engine_variables.proofs.Readings.{moment_of_lem}
use Rattle.engine_clean.specs.Clean.{CleanBlock}
use Rattle.engine_finish.specs.Ended.{idle_block}

-- ── the words of a list of variables, by variable and word ────────────────────────────────────────
unfoldable pub word_of : Variable → ℕ → ℕ
word_of x f =
    get_or (x.value ∷ waiting_value x.waiting ∷ waiting_moment x.waiting % 4294967296 ∷ waiting_moment x.waiting / 4294967296 ∷ 0 ∷ 0 ∷ []) f 0

first_words_lem : (x : Variable) (xs : List Variable) (f : ℕ) → f < 6 → get_or (variables_words (x ∷ xs)) f 0 ≡ word_of x f
unfolding variables_words word_of
first_words_lem x xs zero l = refl
first_words_lem x xs (suc zero) l = refl
first_words_lem x xs (suc (suc zero)) l = refl
first_words_lem x xs (suc (suc (suc zero))) l = refl
first_words_lem x xs (suc (suc (suc (suc zero)))) l = refl
first_words_lem x xs (suc (suc (suc (suc (suc zero))))) l = refl
first_words_lem x xs (suc (suc (suc (suc (suc (suc f)))))) l = absurd (let z : ⊥ = omega arith in z)

later_words_lem : (x : Variable) (xs : List Variable) (q : ℕ) → get_or (variables_words (x ∷ xs)) (suc (suc (suc (suc (suc (suc q)))))) 0 ≡ get_or (variables_words xs) q 0
unfolding variables_words
later_words_lem x xs q = refl

pub words_at : (xs : List Variable) (i f : ℕ) → i < length xs → f < 6 → get_or (variables_words xs) (f + i * 6) 0 ≡ word_of (get_or xs i no_variable) f
words_at [] i f h l = absurd (let z : ⊥ = omega arith in z)
words_at (x ∷ xs) zero f h l = let e : f + 0 * 6 ≡ f = omega arith in rw e (first_words_lem x xs f l)
words_at (x ∷ xs) (suc i) f h l =
    let e : f + suc i * 6 ≡ suc (suc (suc (suc (suc (suc (f + i * 6)))))) = omega arith in
    rw e (later_words_lem x xs (f + i * 6) ∙ words_at xs i f (omega arith) l)

pub words_past : (xs : List Variable) (q : ℕ) → length xs * 6 ≤ q → get_or (variables_words xs) q 0 ≡ 0
words_past xs q h = get_or-eq_default (variables_words xs) 0 (rw (length-variables_words xs) h)

-- ── variables without marks ───────────────────────────────────────────────────────────────────────
unmarked_tabulated : (i n : ℕ) (f : ℕ → Variable) → unmarked (tabulate_from i n f) ≡ tabulate_from i n (λ j. unmarked_of (f j))
unfolding unmarked tabulate_from unmarked_of
unmarked_tabulated i zero f = refl
unmarked_tabulated i (suc n) f = ap (λ (l : List Variable). unmarked_of (f i) ∷ l) (unmarked_tabulated (suc i) n f)

unmarked_listed : (b : Block) (c : ℕ) → c ≤ 16 → unmarked (variables_in b c) ≡ tabulate_from 0 c (λ i. unmarked_of (variable_in b i))
unfolding variables_in
unmarked_listed b c h = let e : min c 16 ≡ c = omega arith in rw e (unmarked_tabulated 0 c (variable_in b))

pub unmarked_length : (b : Block) (c : ℕ) → c ≤ 16 → length (unmarked (variables_in b c)) ≡ c
unmarked_length b c h = ap length (unmarked_listed b c h) ∙ length_tabulate 0 c (λ i. unmarked_of (variable_in b i))

unmarked_at : (b : Block) (c i : ℕ) → c ≤ 16 → i < c → get_or (unmarked (variables_in b c)) i no_variable ≡ unmarked_of (variable_in b i)
unmarked_at b c i h l =
    ap (λ (xs : List Variable). get_or xs i no_variable) (unmarked_listed b c h) ∙ get_d_tabulate c (λ j. unmarked_of (variable_in b j)) i no_variable l

waiting_value_lem : (d v : ℕ) → (d ≡ 0 → v ≡ 0) → waiting_value (waiting_of d v) ≡ v
unfolding waiting_value waiting_of
waiting_value_lem zero v h = sym (h refl)
waiting_value_lem (suc d) v h = refl

module _ (b : Block) (c : ℕ) (t : CleanBlock c b) (narrow : (k : ℕ) → b k < 4294967296) where
  variable_word : (i f : ℕ) → i < 16 → f < 6 → b (8 + (f + i * 6)) ≡ word_of (unmarked_of (variable_in b i)) f
  unfolding word_of unmarked_of variable_in
  variable_word i zero h l = let e : 8 + (0 + i * 6) ≡ 8 + i * 6 = omega arith in rw e
  variable_word i (suc zero) h l = let e : 8 + (1 + i * 6) ≡ 9 + i * 6 = omega arith in rw e (sym (waiting_value_lem _ (b (9 + i * 6)) (t.idle i h)))
  variable_word i (suc (suc zero)) h l =
      let e : 8 + (2 + i * 6) ≡ 10 + i * 6 = omega arith in
      let p : (b (10 + i * 6) + b (11 + i * 6) * 4294967296) % 4294967296 ≡ b (10 + i * 6) = omega (arith, narrow (10 + i * 6)) in
      rw (e, moment_of_lem (b (10 + i * 6) + b (11 + i * 6) * 4294967296) (b (9 + i * 6))) (sym p)
  variable_word i (suc (suc (suc zero))) h l =
      let e : 8 + (3 + i * 6) ≡ 11 + i * 6 = omega arith in
      let p : (b (10 + i * 6) + b (11 + i * 6) * 4294967296) / 4294967296 ≡ b (11 + i * 6) = omega (arith, narrow (10 + i * 6)) in
      rw (e, moment_of_lem (b (10 + i * 6) + b (11 + i * 6) * 4294967296) (b (9 + i * 6))) (sym p)
  variable_word i (suc (suc (suc (suc zero)))) h l = let e : 8 + (4 + i * 6) ≡ 12 + i * 6 = omega arith in rw e (t.spare_low i h)
  variable_word i (suc (suc (suc (suc (suc zero))))) h l = let e : 8 + (5 + i * 6) ≡ 13 + i * 6 = omega arith in rw e (t.spare_high i h)
  variable_word i (suc (suc (suc (suc (suc (suc f)))))) h l = absurd (let z : ⊥ = omega arith in z)

  blank_word : (i f : ℕ) → c ≤ i → i < 16 → f < 6 → b (8 + (f + i * 6)) ≡ 0
  blank_word i zero g h l = let e : 8 + (0 + i * 6) ≡ 8 + i * 6 = omega arith in rw e (t.past i g h).value
  blank_word i (suc zero) g h l = let e : 8 + (1 + i * 6) ≡ 9 + i * 6 = omega arith in rw e (t.past i g h).waiting
  blank_word i (suc (suc zero)) g h l = let e : 8 + (2 + i * 6) ≡ 10 + i * 6 = omega arith in rw e (t.past i g h).low
  blank_word i (suc (suc (suc zero))) g h l = let e : 8 + (3 + i * 6) ≡ 11 + i * 6 = omega arith in rw e (t.past i g h).high
  blank_word i (suc (suc (suc (suc zero)))) g h l = let e : 8 + (4 + i * 6) ≡ 12 + i * 6 = omega arith in rw e (t.spare_low i h)
  blank_word i (suc (suc (suc (suc (suc zero))))) g h l = let e : 8 + (5 + i * 6) ≡ 13 + i * 6 = omega arith in rw e (t.spare_high i h)
  blank_word i (suc (suc (suc (suc (suc (suc f)))))) g h l = absurd (let z : ⊥ = omega arith in z)

  own_words : (i f : ℕ) → i < 16 → f < 6 → b (8 + (f + i * 6)) ≡ get_or (variables_words (unmarked (variables_in b c))) (f + i * 6) 0
  own_words i f h l = go (dec_lt i c)
    where
      long : length (unmarked (variables_in b c)) ≡ c
      long = unmarked_length b c t.few

      go : Dec (i < c) → b (8 + (f + i * 6)) ≡ get_or (variables_words (unmarked (variables_in b c))) (f + i * 6) 0
      go (yes g) =
          variable_word i f h l ∙ (ap (λ (x : Variable). word_of x f) (sym (unmarked_at b c i t.few g))
          ∙ sym (words_at (unmarked (variables_in b c)) i f (omega (arith, long, g)) l))
      go (no g) = blank_word i f (omega (arith, g)) h l ∙ sym (words_past (unmarked (variables_in b c)) (f + i * 6) (omega (arith, long, g)))

  pub resting_words : (q : ℕ) → q < 176 → idle_block b (8 + q) ≡ get_or (variables_words (unmarked (variables_in b c))) q 0
  unfolding idle_block
  resting_words q h = put_other (cleared 104 184 b) 7 0 (8 + q) (λ e. omega arith) ∙ go (dec_lt q 96)
    where
      go : Dec (q < 96) → cleared 104 184 b (8 + q) ≡ get_or (variables_words (unmarked (variables_in b c))) q 0
      go (yes g) =
          let e : q ≡ q % 6 + q / 6 * 6 = omega arith in
          cleared_below 104 184 b (8 + q) (omega arith)
          ∙ (ap (λ (z : ℕ). b (8 + z)) e ∙ (own_words (q / 6) (q % 6) (omega arith) (omega arith) ∙ ap (λ (z : ℕ). get_or (variables_words (unmarked (variables_in b c))) z 0) (sym e)))
      go (no g) =
          cleared_inside 104 184 b (8 + q) (omega (arith, g)) (omega arith)
          ∙ sym (words_past (unmarked (variables_in b c)) q (omega (arith, g, unmarked_length b c t.few, t.few)))
