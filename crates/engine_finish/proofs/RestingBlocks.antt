-- A clean block without working words holds the words that the layout has for a routine, for a free slot, for the environment.
-- Letters: b a block, j an offset.
use mathlib.Core.Path.{◌≡◌, refl, sym, ap, ◌∙◌}
use mathlib.Core.Bool.{cond, ◌&&◌}
use mathlib.Core.List.{List}
use Prim.Native.Nat.{ℕ, zero, suc, ◌+◌, ◌-◌, ◌≤◌, ◌<◌}
use native.Mathlib.Decide.{dec_lt, ℕ_discrete}
use native.Mathlib.Omega.{arith}
use lib.Dec.{eqb, leb, ltb}
use lib.ListN.{get_or}
use Rattle.walk.specs.State.{Variable}
use Rattle.walk.specs.Instant.{unmarked}
use Rattle.machine.specs.Records.{Record}
use Rattle.machine.specs.Layout.{variables_words, record_words, environment_words}
use Rattle.engine_blocks.specs.Blocks.{Block, variables_in}
use Rattle.engine_blocks.specs.Changes.{put_in, cleared}
use Rattle.engine_blocks.proofs.Puts.{put_same, put_other, cleared_inside, cleared_below}
use Rattle.engine_clean.specs.Clean.{CleanBlock, CleanSlot, CleanEnvironment}
use Rattle.engine_finish.specs.Ended.{idle_block, resting_block}
use Rattle.engine_finish.proofs.VariableWords.{unmarked_length, resting_words}

-- What is kept of the routine in a block.
unfoldable pub record_of : Block → Record
record_of b = record { level = b 1; child = b 2; place = b 3; own = unmarked (variables_in b (b 4)) }

idle_low : (b : Block) (k : ℕ) → k < 104 → (k ≡ 7 → ⊥) → idle_block b k ≡ b k
unfolding idle_block
idle_low b k h n = put_other (cleared 104 184 b) 7 0 k n ∙ cleared_below 104 184 b k h

idle_seven : (b : Block) → idle_block b 7 ≡ 0
unfolding idle_block
idle_seven b = put_same (cleared 104 184 b) 7 0

idle_late : (b : Block) (k : ℕ) → 104 ≤ k → k < 184 → idle_block b k ≡ 0
unfolding idle_block
idle_late b k h l = put_other (cleared 104 184 b) 7 0 k (λ e. omega arith) ∙ cleared_inside 104 184 b k h l

idle_same : (a b : Block) (k : ℕ) → a k ≡ b k → idle_block a k ≡ idle_block b k
unfolding idle_block cleared put_in
idle_same a b k e = ap (λ (z : ℕ). cond (eqb k 7) 0 (cond (leb 104 k && ltb k 184) 0 z)) e

resting_low : (b : Block) (p k : ℕ) → k < 104 → (k ≡ 0 → ⊥) → (k ≡ 7 → ⊥) → resting_block p b k ≡ b k
unfolding resting_block
resting_low b p k h n s = idle_low (put_in b 0 p) k h s ∙ put_other b 0 p k n

resting_first : (b : Block) (p : ℕ) → resting_block p b 0 ≡ p
unfolding resting_block
resting_first b p = idle_low (put_in b 0 p) 0 (omega arith) (λ e. omega arith) ∙ put_same b 0 p

resting_seven : (b : Block) (p : ℕ) → resting_block p b 7 ≡ 0
unfolding resting_block
resting_seven b p = idle_seven (put_in b 0 p)

resting_later : (b : Block) (p k : ℕ) → 0 < k → resting_block p b k ≡ idle_block b k
unfolding resting_block
resting_later b p k h = idle_same (put_in b 0 p) b k (put_other b 0 p k (λ e. omega arith))

pub record_words_lem : (b : Block) (p : ℕ) → CleanBlock (b 4) b → ((k : ℕ) → b k < 4294967296) → (j : ℕ) → j < 184 → resting_block p b j ≡ get_or (record_words p (record_of b)) j 0
unfolding record_words record_of
record_words_lem b p t narrow zero h = resting_first b p
record_words_lem b p t narrow (suc zero) h = resting_low b p 1 (omega arith) (λ e. omega arith) (λ e. omega arith)
record_words_lem b p t narrow (suc (suc zero)) h = resting_low b p 2 (omega arith) (λ e. omega arith) (λ e. omega arith)
record_words_lem b p t narrow (suc (suc (suc zero))) h = resting_low b p 3 (omega arith) (λ e. omega arith) (λ e. omega arith)
record_words_lem b p t narrow (suc (suc (suc (suc zero)))) h = resting_low b p 4 (omega arith) (λ e. omega arith) (λ e. omega arith) ∙ sym (unmarked_length b (b 4) t.few)
record_words_lem b p t narrow (suc (suc (suc (suc (suc zero))))) h = resting_low b p 5 (omega arith) (λ e. omega arith) (λ e. omega arith) ∙ t.kept 5 (omega arith) (omega arith)
record_words_lem b p t narrow (suc (suc (suc (suc (suc (suc zero)))))) h = resting_low b p 6 (omega arith) (λ e. omega arith) (λ e. omega arith) ∙ t.kept 6 (omega arith) (omega arith)
record_words_lem b p t narrow (suc (suc (suc (suc (suc (suc (suc zero))))))) h = resting_seven b p
record_words_lem b p t narrow (suc (suc (suc (suc (suc (suc (suc (suc q)))))))) h =
    let e : suc (suc (suc (suc (suc (suc (suc (suc q))))))) ≡ 8 + q = omega arith in
    ap (resting_block p b) e ∙ (resting_later b p (8 + q) (omega arith) ∙ resting_words b (b 4) t narrow q (omega arith))

none_before : (xs : List Variable) (j : ℕ) → j < 8 → get_or (environment_words xs) j 0 ≡ 0
unfolding environment_words
none_before xs zero h = refl
none_before xs (suc zero) h = refl
none_before xs (suc (suc zero)) h = refl
none_before xs (suc (suc (suc zero))) h = refl
none_before xs (suc (suc (suc (suc zero)))) h = refl
none_before xs (suc (suc (suc (suc (suc zero))))) h = refl
none_before xs (suc (suc (suc (suc (suc (suc zero)))))) h = refl
none_before xs (suc (suc (suc (suc (suc (suc (suc zero))))))) h = refl
none_before xs (suc (suc (suc (suc (suc (suc (suc (suc q)))))))) h = absurd (let z : ⊥ = omega arith in z)

after_eight : (xs : List Variable) (q : ℕ) → get_or (environment_words xs) (8 + q) 0 ≡ get_or (variables_words xs) q 0
unfolding environment_words
after_eight xs q = let e : 8 + q ≡ suc (suc (suc (suc (suc (suc (suc (suc q))))))) = omega arith in rw e

pub environment_words_lem : (b : Block) (n : ℕ) → CleanEnvironment n b → ((k : ℕ) → b k < 4294967296) → (j : ℕ) → j < 184 →
    idle_block b j ≡ get_or (environment_words (unmarked (variables_in b n))) j 0
environment_words_lem b n t narrow j h = go (dec_lt j 8)
  where
    go : Dec (j < 8) → idle_block b j ≡ get_or (environment_words (unmarked (variables_in b n))) j 0
    go (yes g) = low (ℕ_discrete j 7) ∙ sym (none_before (unmarked (variables_in b n)) j g)
      where
        low : Dec (j ≡ 7) → idle_block b j ≡ 0
        low (yes e) = ap (idle_block b) e ∙ idle_seven b
        low (no e) = idle_low b j (omega (arith, g)) e ∙ t.before j (omega (arith, g, e))
    go (no g) =
        let q : ℕ = j - 8 in
        let e : j ≡ 8 + q = omega (arith, g) in
        ap (idle_block b) e ∙ (resting_words b n t.clean narrow q (omega (arith, g)) ∙ (sym (after_eight (unmarked (variables_in b n)) q)
        ∙ ap (λ (z : ℕ). get_or (environment_words (unmarked (variables_in b n))) z 0) (sym e)))

pub free_words : (b : Block) → CleanSlot b → b 0 ≡ 0 → (j : ℕ) → j < 184 → idle_block b j ≡ 0
free_words b t e j h = go (dec_lt j 104)
  where
    go : Dec (j < 104) → idle_block b j ≡ 0
    go (yes g) = low (ℕ_discrete j 7)
      where
        low : Dec (j ≡ 7) → idle_block b j ≡ 0
        low (yes s) = ap (idle_block b) s ∙ idle_seven b
        low (no s) = idle_low b j g s ∙ t.free e j (omega (arith, g))
    go (no g) = idle_late b j (omega (arith, g)) h
