-- A block whose words are laid out as docs/LAYOUT.md says, between two calls: it is clean, its working words are 0, and its variables are read back.
-- Letters: b a block, i a variable, f one of its six words, q a word counted from the first variable.
use mathlib.Core.Path.{◌≡◌, refl, sym, ap, ◌∙◌}
use mathlib.Core.Bool.{Bool, true, false, ◌&&◌, not}
use mathlib.Core.List.{List, [], ◌∷◌}
use Prim.Native.Nat.{ℕ, zero, suc, ◌+◌, ◌*◌, ◌-◌, ◌/◌, ◌%◌, ◌≤◌, ◌<◌, min}
use native.Mathlib.Decide.{dec_lt}
use native.Mathlib.Nat.{mod-add-div'}
use native.Mathlib.Omega.{arith}
use lib.Dec.{ltb}
use lib.ListN.{length, get_or}
use lib.Seq.{ext_get_or}
use borrow.Author.Tests.{ltb-true}
use Rattle.walk.specs.State.{Waiting, idle, due, Variable, no_variable}
use Rattle.walk.specs.Question7.{due_after, at_rest, all_at_rest}
use Rattle.machine.specs.Words.{waiting_of}
use Rattle.machine.specs.Layout.{variables_words, waiting_value, waiting_moment}
use Rattle.machine.proofs.Basics.{and_left, and_right}
use Rattle.engine_blocks.specs.Tabulate.{tabulate_from}
use Rattle.engine_blocks.specs.Blocks.{Block, nonzero, variable_in, variables_in}
use Rattle.engine_blocks.proofs.Tabulated.{get_d_tabulate, length_tabulate}
use Rattle.engine_queue.proofs.Queueing.{Rests}
use Rattle.engine_finish.proofs.VariableWords.{word_of, words_at, words_past}

-- Eight words, then the variables, then zeros.
pub record Laid (now : ℕ) (b : Block) (p level child place count : ℕ) (own : List Variable) : Type 0 where
  pub few : length own ≤ 16
  pub rest : all_at_rest now own ≡ true
  pub words : (j : ℕ) → j < 184 → b j ≡ get_or (p ∷ level ∷ child ∷ place ∷ count ∷ 0 ∷ 0 ∷ 0 ∷ variables_words own) j 0

-- ── variables at rest ─────────────────────────────────────────────────────────────────────────────
rest_at : (now : ℕ) (xs : List Variable) (i : ℕ) → all_at_rest now xs ≡ true → i < length xs → at_rest now (get_or xs i no_variable) ≡ true
unfolding all_at_rest
rest_at now [] i r h = absurd (let z : ⊥ = omega arith in z)
rest_at now (x ∷ xs) zero r h = and_left (at_rest now x) (all_at_rest now xs) r
rest_at now (x ∷ xs) (suc i) r h = rest_at now xs i (and_right (at_rest now x) (all_at_rest now xs) r) (omega arith)

record Rested (x : Variable) : Type 0 where
  unwritten : x.written ≡ false
  back : waiting_of (waiting_moment x.waiting) (waiting_value x.waiting) ≡ x.waiting
  idle : waiting_moment x.waiting ≡ 0 → waiting_value x.waiting ≡ 0

not_true : (b : Bool) → not b ≡ true → b ≡ false
not_true false h = refl
not_true true h = sym h

waiting_rests : (now : ℕ) (w : Waiting) → due_after now w ≡ true → (waiting_of (waiting_moment w) (waiting_value w) ≡ w) × (waiting_moment w ≡ 0 → waiting_value w ≡ 0)
unfolding due_after waiting_of waiting_moment waiting_value
waiting_rests now idle h = (refl, λ e. refl)
waiting_rests now (due zero v) h =
    let l : now < 0 = ltb-true now 0 (and_left (ltb now 0) _ h) in absurd (let z : ⊥ = omega arith in z)
waiting_rests now (due (suc t) v) h = (refl, λ e. absurd (let z : ⊥ = omega arith in z))

rested : (now : ℕ) (x : Variable) → at_rest now x ≡ true → Rested x
unfolding at_rest
rested now x h =
    let k = and_right (ltb x.value 4294967296) (not x.written && due_after now x.waiting) h in
    let w = waiting_rests now x.waiting (and_right (not x.written) (due_after now x.waiting) k) in
    record { unwritten = not_true x.written (and_left (not x.written) (due_after now x.waiting) k); back = w.0; idle = w.1 }

-- ── a variable's words ────────────────────────────────────────────────────────────────────────────
module _ {now : ℕ} {b : Block} {p level child place count : ℕ} {own : List Variable} (L : Laid now b p level child place count own) where
  pub variable_words : (q : ℕ) → q < 176 → b (8 + q) ≡ get_or (variables_words own) q 0
  variable_words q h = let e : 8 + q ≡ suc (suc (suc (suc (suc (suc (suc (suc q))))))) = omega arith in rw e (L.words _ (omega arith))

  pub no_working_words : (k : ℕ) → 104 ≤ k → k < 184 → b k ≡ 0
  no_working_words k l h =
      let e : k ≡ 8 + (k - 8) = omega arith in
      let few = L.few in
      ap b e ∙ (variable_words (k - 8) (omega arith) ∙ words_past own (k - 8) (omega arith))

  word_here : (i f : ℕ) → i < length own → f < 6 → b (8 + (f + i * 6)) ≡ word_of (get_or own i no_variable) f
  word_here i f h l = let few = L.few in variable_words (f + i * 6) (omega arith) ∙ words_at own i f h l

  word_past : (i f : ℕ) → length own ≤ i → i < 16 → f < 6 → b (8 + (f + i * 6)) ≡ 0
  word_past i f h g l = variable_words (f + i * 6) (omega arith) ∙ words_past own (f + i * 6) (omega arith)

  spare : (i f : ℕ) → i < 16 → f < 6 → ((x : Variable) → word_of x f ≡ 0) → b (8 + (f + i * 6)) ≡ 0
  spare i f h l none = go (dec_lt i (length own))
    where
      go : Dec (i < length own) → b (8 + (f + i * 6)) ≡ 0
      go (yes g) = word_here i f g l ∙ none (get_or own i no_variable)
      go (no g) = word_past i f (omega arith) h l

  idle_word : (i : ℕ) → i < 16 → b (10 + i * 6) + b (11 + i * 6) * 4294967296 ≡ 0 → b (9 + i * 6) ≡ 0
  unfolding word_of
  idle_word i h none = go (dec_lt i (length own))
    where
      e₁ : 9 + i * 6 ≡ 8 + (1 + i * 6)
      e₁ = omega arith

      e₂ : 10 + i * 6 ≡ 8 + (2 + i * 6)
      e₂ = omega arith

      e₃ : 11 + i * 6 ≡ 8 + (3 + i * 6)
      e₃ = omega arith

      go : Dec (i < length own) → b (9 + i * 6) ≡ 0
      go (yes g) =
          let x = get_or own i no_variable in
          let R = rested now x (rest_at now own i L.rest g) in
          let low : b (10 + i * 6) ≡ waiting_moment x.waiting % 4294967296 = ap b e₂ ∙ word_here i 2 g (omega arith) in
          let high : b (11 + i * 6) ≡ waiting_moment x.waiting / 4294967296 = ap b e₃ ∙ word_here i 3 g (omega arith) in
          ap b e₁ ∙ (word_here i 1 g (omega arith) ∙ R.idle (omega (arith, low, high, none)))
      go (no g) = ap b e₁ ∙ word_past i 1 (omega arith) h (omega arith)

  pub laid_rests : Rests (length own) b
  unfolding word_of
  laid_rests =
      record {
        few = L.few;
        kept = three;
        spare_low = λ i h. let e : 12 + i * 6 ≡ 8 + (4 + i * 6) = omega arith in ap b e ∙ spare i 4 h (omega arith) (λ x. refl);
        spare_high = λ i h. let e : 13 + i * 6 ≡ 8 + (5 + i * 6) = omega arith in ap b e ∙ spare i 5 h (omega arith) (λ x. refl);
        past = λ i h g. record {
          value = let e : 8 + i * 6 ≡ 8 + (0 + i * 6) = omega arith in ap b e ∙ word_past i 0 h g (omega arith);
          waiting = let e : 9 + i * 6 ≡ 8 + (1 + i * 6) = omega arith in ap b e ∙ word_past i 1 h g (omega arith);
          low = let e : 10 + i * 6 ≡ 8 + (2 + i * 6) = omega arith in ap b e ∙ word_past i 2 h g (omega arith);
          high = let e : 11 + i * 6 ≡ 8 + (3 + i * 6) = omega arith in ap b e ∙ word_past i 3 h g (omega arith);
        };
        idle = idle_word;
      }
    where
      three : (k : ℕ) → 5 ≤ k → k < 8 → b k ≡ 0
      three zero l h = absurd (let z : ⊥ = omega arith in z)
      three (suc zero) l h = absurd (let z : ⊥ = omega arith in z)
      three (suc (suc zero)) l h = absurd (let z : ⊥ = omega arith in z)
      three (suc (suc (suc zero))) l h = absurd (let z : ⊥ = omega arith in z)
      three (suc (suc (suc (suc zero)))) l h = absurd (let z : ⊥ = omega arith in z)
      three (suc (suc (suc (suc (suc zero))))) l h = L.words 5 (omega arith)
      three (suc (suc (suc (suc (suc (suc zero)))))) l h = L.words 6 (omega arith)
      three (suc (suc (suc (suc (suc (suc (suc zero))))))) l h = L.words 7 (omega arith)
      three (suc (suc (suc (suc (suc (suc (suc (suc k)))))))) l h = absurd (let z : ⊥ = omega arith in z)

  variable_back : (i : ℕ) → i < length own → variable_in b i ≡ get_or own i no_variable
  unfolding variable_in word_of nonzero
  variable_back i h =
      let few = L.few in
      let x = get_or own i no_variable in
      let R = rested now x (rest_at now own i L.rest h) in
      let e₀ : 8 + i * 6 ≡ 8 + (0 + i * 6) = omega arith in
      let e₁ : 9 + i * 6 ≡ 8 + (1 + i * 6) = omega arith in
      let e₂ : 10 + i * 6 ≡ 8 + (2 + i * 6) = omega arith in
      let e₃ : 11 + i * 6 ≡ 8 + (3 + i * 6) = omega arith in
      let v : b (8 + i * 6) ≡ x.value = ap b e₀ ∙ word_here i 0 h (omega arith) in
      let w : b (9 + i * 6) ≡ waiting_value x.waiting = ap b e₁ ∙ word_here i 1 h (omega arith) in
      let low : b (10 + i * 6) ≡ waiting_moment x.waiting % 4294967296 = ap b e₂ ∙ word_here i 2 h (omega arith) in
      let high : b (11 + i * 6) ≡ waiting_moment x.waiting / 4294967296 = ap b e₃ ∙ word_here i 3 h (omega arith) in
      let m : b (10 + i * 6) + b (11 + i * 6) * 4294967296 ≡ waiting_moment x.waiting = rw (low, high) (mod-add-div' (waiting_moment x.waiting) 4294967296) in
      let mark : b (128 + i) ≡ 0 = no_working_words (128 + i) (omega arith) (omega arith) in
      rw (v, w, m, mark, R.back, ← R.unwritten)

  pub variables_back : variables_in b (length own) ≡ own
  unfolding variables_in
  variables_back =
      let few = L.few in
      let e : min (length own) 16 ≡ length own = omega arith in
      rw e (ext_get_or no_variable (tabulate_from 0 (length own) (variable_in b)) own (length_tabulate 0 (length own) (variable_in b))
      (λ i h. let l : i < length own = rw (length_tabulate 0 (length own) (variable_in b)) at h in
      get_d_tabulate (length own) (variable_in b) i no_variable l ∙ variable_back i l))
