-- Due writes made variable by variable in a block are the row's due writes; the block stays clean.
-- Letters: b a block, t a moment above 0, c how many variables are done, i a variable's index, k an offset.
use mathlib.Core.Path.{◌≡◌, refl, sym, ap, ◌∙◌}
use mathlib.Core.Bool.{Bool, true, false, cond}
use mathlib.Core.List.{List, ◌∷◌}
use Prim.Native.Nat.{ℕ, zero, suc, ◌+◌, ◌*◌, ◌≤◌, ◌<◌, min}
use native.Mathlib.Decide.{ℕ_discrete}
use native.Mathlib.Omega.{arith}
use Rattle.walk.specs.State.{Variable, made_due}
use Rattle.walk.specs.Instant.{due_writes}
use Rattle.engine_rows.specs.Rows.{with_own}
use Rattle.engine_rows.specs.Beginning.{own_if}
use Rattle.engine_blocks.specs.Tabulate.{tabulate_from}
use Rattle.engine_blocks.specs.Blocks.{Block, nonzero, variable_in, variables_in, row_at}
use Rattle.engine_blocks.specs.Changes.{due_block}
use Rattle.engine_blocks.proofs.Tabulated.{tabulate_same}
use Rattle.engine_blocks.proofs.RowChanges.{variable_same, bindings_same}
use Rattle.engine_variables.proofs.VariableChanges.{other_variable}
use Rattle.engine_make_due.proofs.MadeBlocks.{due_within, due_variable}
use Rattle.engine_clean.specs.Clean.{CleanSlot, CleanEnvironment}
use Rattle.engine_clean.proofs.Whole.{due_slot_lem, due_environment}
use Rattle.engine_due.specs.Passes.{due_first, due_slot}

-- ── words that no variable has ────────────────────────────────────────────────────────────────────
module _ (b : Block) (t : ℕ) where
  pub first_words_stay : (c k : ℕ) → c ≤ 16 → k < 8 → due_first c t b k ≡ b k
  unfolding due_first
  first_words_stay zero k l h = refl
  first_words_stay (suc c) k l h = (due_within (due_first c t b) c l t).below k (omega arith) ∙ first_words_stay c k (omega arith) h

  pub late_words_stay : (c k : ℕ) → c ≤ 16 → 104 ≤ k → (128 ≤ k → k < 144 → ⊥) → due_first c t b k ≡ b k
  unfolding due_first
  late_words_stay zero k h l n = refl
  late_words_stay (suc c) k h l n =
      (due_within (due_first c t b) c h t).above k (omega arith) (λ e. n (omega arith) (omega arith)) ∙ late_words_stay c k (omega arith) l n

  -- ── variables not done yet, and those done ──────────────────────────────────────────────────────
  later_word : (c i k : ℕ) → c ≤ i → i < 16 → 8 ≤ k → k < 14 → due_first c t b (k + i * 6) ≡ b (k + i * 6)
  unfolding due_first
  later_word zero i k h l p q = refl
  later_word (suc c) i k h l p q =
      (due_within (due_first c t b) c (omega arith) t).above (k + i * 6) (omega arith) (λ e. omega arith) ∙ later_word c i k (omega arith) l p q

  later_mark : (c i : ℕ) → c ≤ i → i < 16 → due_first c t b (128 + i) ≡ b (128 + i)
  unfolding due_first
  later_mark zero i h l = refl
  later_mark (suc c) i h l = (due_within (due_first c t b) c (omega arith) t).above (128 + i) (omega arith) (λ e. omega arith) ∙ later_mark c i (omega arith) l

  pub later_variable : (c i : ℕ) → c ≤ i → i < 16 → variable_in (due_first c t b) i ≡ variable_in b i
  later_variable c i h l =
      variable_same b (due_first c t b) i (later_word c i 8 h l (omega arith) (omega arith)) (later_word c i 9 h l (omega arith) (omega arith))
      (later_word c i 10 h l (omega arith) (omega arith)) (later_word c i 11 h l (omega arith) (omega arith)) (later_mark c i h l)

  pub done_variable : 0 < t → (c i : ℕ) → c ≤ 16 → i < c → variable_in (due_first c t b) i ≡ made_due t (variable_in b i)
  unfolding due_first
  done_variable pos zero i l h = absurd (let z : ⊥ = omega arith in z)
  done_variable pos (suc c) i l h = go (ℕ_discrete i c) (λ g. done_variable pos c i (omega arith) g)
    where
      go : Dec (i ≡ c) → (i < c → variable_in (due_first c t b) i ≡ made_due t (variable_in b i)) → variable_in (due_block c t (due_first c t b)) i ≡ made_due t (variable_in b i)
      go (yes e) earlier = rw e (due_variable (due_first c t b) c l t pos ∙ ap (made_due t) (later_variable c c (omega arith) (omega arith)))
      go (no n) earlier = other_variable (due_first c t b) (due_block c t (due_first c t b)) c l (due_within (due_first c t b) c l t) i (omega arith) n ∙ earlier (omega arith)

-- ── the list of variables ─────────────────────────────────────────────────────────────────────────
due_tabulated : (t i n : ℕ) (f : ℕ → Variable) → due_writes t (tabulate_from i n f) ≡ tabulate_from i n (λ j. made_due t (f j))
unfolding due_writes tabulate_from
due_tabulated t i zero f = refl
due_tabulated t i (suc n) f = ap (λ (l : List Variable). made_due t (f i) ∷ l) (due_tabulated t (suc i) n f)

pub due_variables : (b : Block) (t n : ℕ) → 0 < t → variables_in (due_first (min n 16) t b) n ≡ due_writes t (variables_in b n)
unfolding variables_in
due_variables b t n pos =
    tabulate_same 0 (min n 16) _ _ (λ k p q. done_variable b t pos (min n 16) k (omega arith) (omega arith)) ∙ sym (due_tabulated t 0 (min n 16) (variable_in b))

-- ── the row ───────────────────────────────────────────────────────────────────────────────────────
due_first_row : (b : Block) (t : ℕ) → 0 < t → row_at (due_first (min (b 4) 16) t b) ≡ with_own (row_at b) (due_writes t (row_at b).own)
unfolding row_at with_own
due_first_row b t pos =
    let c : min (b 4) 16 ≤ 16 = omega arith in
    let low : (k : ℕ) → k < 8 → due_first (min (b 4) 16) t b k ≡ b k = λ k h. first_words_stay b t (min (b 4) 16) k c h in
    let late : (k : ℕ) → 104 ≤ k → k < 128 → due_first (min (b 4) 16) t b k ≡ b k = λ k h g. late_words_stay b t (min (b 4) 16) k c h (λ p q. omega arith) in
    rw (
      low 0 (omega arith),
      low 1 (omega arith),
      low 2 (omega arith),
      low 3 (omega arith),
      low 4 (omega arith),
      late 104 (omega arith) (omega arith),
      late 105 (omega arith) (omega arith),
      late 106 (omega arith) (omega arith),
      late 107 (omega arith) (omega arith),
      late 108 (omega arith) (omega arith),
      late 109 (omega arith) (omega arith),
      late 111 (omega arith) (omega arith),
      bindings_same b (due_first (min (b 4) 16) t b) (λ k l h. late k (omega arith) (omega arith)),
      due_variables b t (b 4) pos,
    )

pub due_row : (b : Block) (t : ℕ) → 0 < t → row_at (due_slot t b) ≡ with_own (row_at b) (own_if (row_at b).used (due_writes t (row_at b).own) (row_at b).own)
unfolding due_slot own_if with_own row_at
due_row b t pos = go (nonzero (b 0)) refl
  where
    go : (x : Bool) → nonzero (b 0) ≡ x → row_at (cond x (due_first (min (b 4) 16) t b) b) ≡ with_own (row_at b) (own_if x (due_writes t (row_at b).own) (row_at b).own)
    go true e = due_first_row b t pos
    go false e = refl

-- ── clean ──────────────────────────────────────────────────────────────────────────────────────────
due_first_slot : (b : Block) (t c : ℕ) → CleanSlot b → c ≤ b 4 → c ≤ 16 → CleanSlot (due_first c t b)
unfolding due_first
due_first_slot b t zero s h l = s
due_first_slot b t (suc c) s h l =
    due_slot_lem (due_first c t b) c (due_first_slot b t c s (omega arith) (omega arith)) (rw (first_words_stay b t c 4 (omega arith) (omega arith)) (omega arith)) t

pub due_slot_clean : (b : Block) (t : ℕ) → CleanSlot b → CleanSlot (due_slot t b)
unfolding due_slot
due_slot_clean b t s = go (nonzero (b 0))
  where
    go : (x : Bool) → CleanSlot (cond x (due_first (min (b 4) 16) t b) b)
    go true = due_first_slot b t (min (b 4) 16) s (omega arith) (omega arith)
    go false = s

pub due_environment_clean : (b : Block) (t n c : ℕ) → CleanEnvironment n b → c ≤ n → CleanEnvironment n (due_first c t b)
unfolding due_first
due_environment_clean b t n zero s h = s
due_environment_clean b t n (suc c) s h = due_environment n (due_first c t b) c (due_environment_clean b t n c s (omega arith)) h t
