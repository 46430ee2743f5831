-- Each change that the engine's code makes to a block keeps it clean, and a change of one block keeps all blocks clean.
-- Letters: b a block, c its number of variables, i a variable's index, f an offset, v a word, t a moment.
use mathlib.Core.Path.{◌≡◌, refl, sym, ◌∙◌}
use mathlib.Core.Bool.{Bool, true, false, cond}
use Prim.Native.Nat.{ℕ, ◌+◌, ◌*◌, ◌/◌, ◌%◌, ◌≤◌, ◌<◌}
use native.Mathlib.Decide.{ℕ_discrete}
use native.Mathlib.Omega.{arith}
use lib.Dec.{eqb}
use borrow.Author.Tests.{eq-eqb, ne_eqb}
use Rattle.engine_blocks.specs.Blocks.{Block, block}
use Rattle.engine_blocks.specs.Changes.{put_in, assigned_block, scheduled_block, queued_block, overwritten_block, made_block, unmarked_block, due_block}
use Rattle.engine_clean.specs.Clean.{Blank, CleanBlock}

-- ── one word stored ───────────────────────────────────────────────────────────────────────────────
pub put_other : (b : Block) (f v k : ℕ) → (k ≡ f → ⊥) → put_in b f v k ≡ b k
unfolding put_in
put_other b f v k h = rw (ne_eqb k f h)

pub put_same : (b : Block) (f v : ℕ) → put_in b f v f ≡ v
unfolding put_in
put_same b f v = rw (eq-eqb f f refl)

-- An offset that no rule of tidiness speaks of: neither 5 to 7 nor a word of a variable.
pub record Loose (f : ℕ) : Type 0 where
  pub not_kept : 5 ≤ f → f < 8 → ⊥
  pub not_variable : 8 ≤ f → f < 104 → ⊥

pub loose_low : (f : ℕ) → f < 5 → Loose f
loose_low f h = record { not_kept = λ a b. omega arith; not_variable = λ a b. omega arith }

pub loose_high : (f : ℕ) → 104 ≤ f → Loose f
loose_high f h = record { not_kept = λ a b. omega arith; not_variable = λ a b. omega arith }

pub store_loose : (c : ℕ) (b : Block) (f v : ℕ) → Loose f → CleanBlock c b → CleanBlock c (put_in b f v)
store_loose c b f v l t =
    record {
      few = t.few;
      kept = λ k h g. put_other b f v k (λ e. l.not_kept (omega arith) (omega arith)) ∙ t.kept k h g;
      spare_low = λ i h. put_other b f v (12 + i * 6) (λ e. l.not_variable (omega arith) (omega arith)) ∙ t.spare_low i h;
      spare_high = λ i h. put_other b f v (13 + i * 6) (λ e. l.not_variable (omega arith) (omega arith)) ∙ t.spare_high i h;
      past = λ i h g. record {
        value = put_other b f v (8 + i * 6) (λ e. l.not_variable (omega arith) (omega arith)) ∙ (t.past i h g).value;
        waiting = put_other b f v (9 + i * 6) (λ e. l.not_variable (omega arith) (omega arith)) ∙ (t.past i h g).waiting;
        low = put_other b f v (10 + i * 6) (λ e. l.not_variable (omega arith) (omega arith)) ∙ (t.past i h g).low;
        high = put_other b f v (11 + i * 6) (λ e. l.not_variable (omega arith) (omega arith)) ∙ (t.past i h g).high;
      };
      idle = λ i h e.
          let p = put_other b f v (10 + i * 6) (λ q. l.not_variable (omega arith) (omega arith)) in
          let q = put_other b f v (11 + i * 6) (λ q. l.not_variable (omega arith) (omega arith)) in
          put_other b f v (9 + i * 6) (λ q. l.not_variable (omega arith) (omega arith)) ∙ t.idle i h (omega (arith, p, q, e));
      quiet = λ z i h.
          let p = put_other b f v (10 + i * 6) (λ q. l.not_variable (omega arith) (omega arith)) in
          let q = put_other b f v (11 + i * 6) (λ q. l.not_variable (omega arith) (omega arith)) in
          let none = t.quiet (sym (put_other b f v 7 (λ e. l.not_kept (omega arith) (omega arith))) ∙ z) i h in
          omega (arith, p, q, none);
    }

-- ── one variable changed ──────────────────────────────────────────────────────────────────────────
-- The block differs, of the words that tidiness speaks of, in the four words of variable i alone, and in word 7.
abbrev pub SameBut : ℕ → Block → Block → Type 0
SameBut i b b' = (k : ℕ) → 5 ≤ k → k < 104 → (k ≡ 7 → ⊥) → (8 + i * 6 ≤ k → k < 12 + i * 6 → ⊥) → b' k ≡ b k

-- Two variables have no word in common.
apart : (i j k : ℕ) → (j ≡ i → ⊥) → 8 + j * 6 ≤ k → k < 14 + j * 6 → 8 + i * 6 ≤ k → k < 12 + i * 6 → ⊥
apart i j k h a b c d = h (omega arith)

module _ (c : ℕ) (b b' : Block) (i : ℕ) (within : i < c) (t : CleanBlock c b) (same : SameBut i b b')
    (idles : b' (10 + i * 6) + b' (11 + i * 6) * 4294967296 ≡ 0 → b' (9 + i * 6) ≡ 0)
  where
    other_words : (j k : ℕ) → (j ≡ i → ⊥) → j < 16 → 8 + j * 6 ≤ k → k < 14 + j * 6 → b' k ≡ b k
    other_words j k h l x y = same k (omega arith) (omega arith) (λ e. omega arith) (λ p q. apart i j k h x y p q)

    other_blank : (j : ℕ) → c ≤ j → j < 16 → Blank b' j
    other_blank j h g =
        let n : j ≡ i → ⊥ = λ e. omega arith in
        record {
          value = other_words j (8 + j * 6) n g (omega arith) (omega arith) ∙ (t.past j h g).value;
          waiting = other_words j (9 + j * 6) n g (omega arith) (omega arith) ∙ (t.past j h g).waiting;
          low = other_words j (10 + j * 6) n g (omega arith) (omega arith) ∙ (t.past j h g).low;
          high = other_words j (11 + j * 6) n g (omega arith) (omega arith) ∙ (t.past j h g).high;
        }

    other_idle : (j : ℕ) → j < 16 → Dec (j ≡ i) → b' (10 + j * 6) + b' (11 + j * 6) * 4294967296 ≡ 0 → b' (9 + j * 6) ≡ 0
    other_idle j g (yes e) h =
        let z : b' (10 + i * 6) + b' (11 + i * 6) * 4294967296 ≡ 0 = rw e at h in rw e (idles z)
    other_idle j g (no n) h =
        let p = other_words j (10 + j * 6) n g (omega arith) (omega arith) in
        let q = other_words j (11 + j * 6) n g (omega arith) (omega arith) in
        other_words j (9 + j * 6) n g (omega arith) (omega arith) ∙ t.idle j g (omega (arith, p, q, h))

    -- word 7 and the other variables stay
    pub quiet_still : b' 7 ≡ b 7 → (b 7 ≡ 0 → b' (10 + i * 6) + b' (11 + i * 6) * 4294967296 ≡ 0) → b' 7 ≡ 0 → (j : ℕ) → j < 16 →
        b' (10 + j * 6) + b' (11 + j * 6) * 4294967296 ≡ 0
    quiet_still seven here z j h = go (ℕ_discrete j i)
      where
        go : Dec (j ≡ i) → b' (10 + j * 6) + b' (11 + j * 6) * 4294967296 ≡ 0
        go (yes e) = rw e (here (sym seven ∙ z))
        go (no n) =
            let p = other_words j (10 + j * 6) n h (omega arith) (omega arith) in
            let q = other_words j (11 + j * 6) n h (omega arith) (omega arith) in
            let none = t.quiet (sym seven ∙ z) j h in
            omega (arith, p, q, none)

    pub one_variable_changed : (b' 7 ≡ 0 → (j : ℕ) → j < 16 → b' (10 + j * 6) + b' (11 + j * 6) * 4294967296 ≡ 0) → CleanBlock c b'
    one_variable_changed quiet =
        record {
          few = t.few;
          kept = λ k h g. same k h (omega arith) (λ e. omega arith) (λ p q. omega arith) ∙ t.kept k h g;
          spare_low = λ j h. same (12 + j * 6) (omega arith) (omega arith) (λ e. omega arith) (λ p q. omega arith) ∙ t.spare_low j h;
          spare_high = λ j h. same (13 + j * 6) (omega arith) (omega arith) (λ e. omega arith) (λ p q. omega arith) ∙ t.spare_high j h;
          past = other_blank;
          idle = λ j h. other_idle j h (ℕ_discrete j i);
          quiet = quiet;
        }

module _ (c : ℕ) (b : Block) (i : ℕ) (within : i < c) (t : CleanBlock c b) where
  pub assigned_clean : (v : ℕ) → CleanBlock c (assigned_block i v b)
  unfolding assigned_block
  assigned_clean v =
      let l : i < 16 = omega (arith, t.few) in
      let b₁ = put_in b (8 + i * 6) v in
      let p = put_other b (8 + i * 6) v (10 + i * 6) (λ q. omega arith) in
      let q = put_other b (8 + i * 6) v (11 + i * 6) (λ q. omega arith) in
      let same : SameBut i b b₁ = λ k h g s n. put_other b (8 + i * 6) v k (λ e. n (omega arith) (omega arith)) in
      let idles : b₁ (10 + i * 6) + b₁ (11 + i * 6) * 4294967296 ≡ 0 → b₁ (9 + i * 6) ≡ 0 =
      λ e. put_other b (8 + i * 6) v (9 + i * 6) (λ q. omega arith) ∙ t.idle i l (omega (arith, p, q, e)) in
      store_loose c b₁ (128 + i) 1 (loose_high (128 + i) (omega arith))
      (one_variable_changed c b b₁ i within t same idles
      (quiet_still c b b₁ i within t same idles (put_other b (8 + i * 6) v 7 (λ e. omega arith)) (λ z. let none = t.quiet z i l in omega (arith, p, q, none))))

  -- a store apart from k, after others
  then : (b₁ : Block) (f v k : ℕ) → (k ≡ f → ⊥) → b₁ k ≡ b k → put_in b₁ f v k ≡ b k
  then b₁ f v k n e = put_other b₁ f v k n ∙ e

  pub scheduled_clean : (m v : ℕ) → 0 < m → CleanBlock c (queued_block (scheduled_block i m v b))
  unfolding queued_block scheduled_block
  scheduled_clean m v pos =
      let l : i < 16 = omega (arith, t.few) in
      let b₁ = put_in b (9 + i * 6) v in
      let b₂ = put_in b₁ (10 + i * 6) (m % 4294967296) in
      let b₃ = put_in b₂ (11 + i * 6) (m / 4294967296) in
      one_variable_changed c b (put_in b₃ 7 1) i within t
      (λ k h g s n.
      then b₃ 7 1 k s (then b₂ (11 + i * 6) (m / 4294967296) k (λ e. n (omega arith) (omega arith))
      (then b₁ (10 + i * 6) (m % 4294967296) k (λ e. n (omega arith) (omega arith)) (then b (9 + i * 6) v k (λ e. n (omega arith) (omega arith)) refl))))
      (λ e.
      let high = put_other b₃ 7 1 (11 + i * 6) (λ q. omega arith) ∙ put_same b₂ (11 + i * 6) (m / 4294967296) in
      let low = put_other b₃ 7 1 (10 + i * 6) (λ q. omega arith) ∙ (put_other b₂ (11 + i * 6) (m / 4294967296) (10 + i * 6) (λ q. omega arith) ∙ put_same b₁ (10 + i * 6) (m % 4294967296)) in
      absurd (let z : ⊥ = omega (arith, high, low, e) in z))
      (λ z. let one = put_same b₃ 7 1 in absurd (let y : ⊥ = omega (arith, one, z) in y))

  pub unmarked_clean : CleanBlock c (unmarked_block i b)
  unfolding unmarked_block
  unmarked_clean = store_loose c b (128 + i) 0 (loose_high (128 + i) (omega arith)) t

  pub overwritten_clean : (v : ℕ) → CleanBlock c (overwritten_block i v b)
  unfolding overwritten_block
  overwritten_clean v =
      let b₁ = put_in b (8 + i * 6) v in
      let b₂ = put_in b₁ (9 + i * 6) 0 in
      let b₃ = put_in b₂ (10 + i * 6) 0 in
      let b₄ = put_in b₃ (11 + i * 6) 0 in
      let apart : (k : ℕ) → (8 + i * 6 ≤ k → k < 12 + i * 6 → ⊥) → b₄ k ≡ b k = λ k n.
      then b₃ (11 + i * 6) 0 k (λ e. n (omega arith) (omega arith)) (then b₂ (10 + i * 6) 0 k (λ e. n (omega arith) (omega arith))
      (then b₁ (9 + i * 6) 0 k (λ e. n (omega arith) (omega arith)) (then b (8 + i * 6) v k (λ e. n (omega arith) (omega arith)) refl))) in
      let same : SameBut i b b₄ = λ k h g s n. apart k n in
      let idles : b₄ (10 + i * 6) + b₄ (11 + i * 6) * 4294967296 ≡ 0 → b₄ (9 + i * 6) ≡ 0 =
      λ e. put_other b₃ (11 + i * 6) 0 (9 + i * 6) (λ q. omega arith) ∙ (put_other b₂ (10 + i * 6) 0 (9 + i * 6) (λ q. omega arith) ∙ put_same b₁ (9 + i * 6) 0) in
      let low = put_other b₃ (11 + i * 6) 0 (10 + i * 6) (λ q. omega arith) ∙ put_same b₂ (10 + i * 6) 0 in
      let high = put_same b₃ (11 + i * 6) 0 in
      store_loose c b₄ (128 + i) 1 (loose_high (128 + i) (omega arith))
      (one_variable_changed c b b₄ i within t same idles
      (quiet_still c b b₄ i within t same idles (apart 7 (λ p q. omega arith)) (λ z. omega (arith, low, high))))

  pub made_clean : CleanBlock c (made_block i b)
  unfolding made_block
  made_clean = overwritten_clean (b (9 + i * 6))

  pub due_clean : (m : ℕ) → CleanBlock c (due_block i m b)
  unfolding due_block
  due_clean m = go (eqb (b (10 + i * 6) + b (11 + i * 6) * 4294967296) m)
    where
      go : (x : Bool) → CleanBlock c (cond x (made_block i b) (unmarked_block i b))
      go true = made_clean
      go false = unmarked_clean
