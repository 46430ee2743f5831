-- A block of which nothing is due at t, and nothing written, is as it would be with the writes due at t made.
-- Letters: b a block, t a moment above 0, c how many variables, i a variable's index, x and y moments due or none.
use mathlib.Core.Path.{◌≡◌, refl, sym, ap, ◌∙◌, fun_ext}
use mathlib.Core.Bool.{Bool, true, false, cond}
use Prim.Native.Nat.{ℕ, zero, suc, ◌+◌, ◌*◌, ◌≤◌, ◌<◌, min}
use native.Mathlib.Decide.{dec_lt}
use native.Mathlib.Omega.{arith}
use lib.Dec.{eqb, leb}
use borrow.Author.Tests.{leb-true, leb-false, eqb-true, ne_eqb}
use Rattle.walk.specs.State.{Variable}
use Rattle.walk.specs.Instant.{NextDue, never, moment, earlier_of, earlier, due_of, due_of_variables}
use Rattle.walk_laws.proofs.NextDue.{DueOnlyAfter, never_due, due_later}
use Rattle.machine.specs.Words.{waiting_of}
use Rattle.engine_blocks.specs.Tabulate.{tabulate_from}
use Rattle.engine_blocks.specs.Blocks.{Block, nonzero, variable_in, variables_in}
use Rattle.engine_blocks.specs.Changes.{put_in, unmarked_block, due_block}
use Rattle.engine_due.specs.Passes.{due_first, due_slot}
use Rattle.engine_due.specs.Reaching.{Unwritten}

-- ── the earlier of two is after t ─────────────────────────────────────────────────────────────────
pub both_after : (t : ℕ) (x y : NextDue) → DueOnlyAfter t (earlier x y) → DueOnlyAfter t x × DueOnlyAfter t y
unfolding earlier earlier_of
both_after t never y h = (never_due, h)
both_after t (moment a) never h = (h, never_due)
both_after t (moment a) (moment b) h = go (leb a b) refl h
  where
    later : {m : ℕ} → DueOnlyAfter t (moment m) → t < m
    later (due_later l) = l

    go : (p : Bool) → leb a b ≡ p → DueOnlyAfter t (earlier_of p a b) → DueOnlyAfter t (moment a) × DueOnlyAfter t (moment b)
    go true e k = let l = later k in let g : a ≤ b = leb-true _ _ e in (k, due_later {m = b} (omega arith))
    go false e k = let l = later k in let g : b < a = leb-false _ _ e in (due_later {m = a} (omega arith), k)

-- ── one variable ──────────────────────────────────────────────────────────────────────────────────
each_after : (t i k : ℕ) (f : ℕ → Variable) → DueOnlyAfter t (due_of_variables (tabulate_from i k f)) → (j : ℕ) → i ≤ j → j < i + k →
    DueOnlyAfter t (due_of (f j).waiting)
unfolding due_of_variables tabulate_from
each_after t i zero f h j l g = absurd (let z : ⊥ = omega arith in z)
each_after t i (suc k) f h j l g = let p = both_after t _ _ h in go (dec_lt i j) p.0 (λ l'. each_after t (suc i) k f p.1 j l' (omega arith))
  where
    go : Dec (i < j) → DueOnlyAfter t (due_of (f i).waiting) → (suc i ≤ j → DueOnlyAfter t (due_of (f j).waiting)) → DueOnlyAfter t (due_of (f j).waiting)
    go (yes m) here later = later (omega arith)
    go (no m) here later = let e : i ≡ j = omega (arith, m) in rw e at here

not_now : (t d v : ℕ) → 0 < t → DueOnlyAfter t (due_of (waiting_of d v)) → d ≡ t → ⊥
unfolding due_of waiting_of
not_now t zero v pos h e = omega arith
not_now t (suc d) v pos (due_later l) e = omega arith

pub unmarked_same : (b : Block) (i : ℕ) → b (128 + i) ≡ 0 → unmarked_block i b ≡ b
unfolding unmarked_block put_in
unmarked_same b i z = fun_ext λ k. go k (eqb k (128 + i)) refl
  where
    go : (k : ℕ) (p : Bool) → eqb k (128 + i) ≡ p → cond p 0 (b k) ≡ b k
    go k true e = let f : k ≡ 128 + i = eqb-true _ _ e in sym (ap b f ∙ z)
    go k false e = refl

zero_word : (n : ℕ) → nonzero n ≡ false → n ≡ 0
unfolding nonzero
zero_word zero e = refl
zero_word (suc n) e = cc

-- ── the variables of a block ──────────────────────────────────────────────────────────────────────
module _ (b : Block) (t : ℕ) where
  first_untouched : (c : ℕ) → ((i : ℕ) → i < c → b (10 + i * 6) + b (11 + i * 6) * 4294967296 ≡ t → ⊥) → ((i : ℕ) → i < c → b (128 + i) ≡ 0) → due_first c t b ≡ b
  unfolding due_first due_block
  first_untouched zero due mark = refl
  first_untouched (suc c) due mark =
      rw (first_untouched c (λ i h. due i (omega arith)) (λ i h. mark i (omega arith)), ne_eqb _ _ (due c (omega arith))) (unmarked_same b c (mark c (omega arith)))

  pub variables_passed_over : (c : ℕ) → c ≤ 16 → 0 < t → Unwritten c b → DueOnlyAfter t (due_of_variables (variables_in b c)) → due_first c t b ≡ b
  unfolding variables_in variable_in
  variables_passed_over c few pos un after =
      let e : min c 16 ≡ c = omega arith in
      let all = rw e at after in
      first_untouched c (λ i h. not_now t _ _ pos (each_after t 0 c (variable_in b) all i (omega arith) (omega arith))) (λ i h. zero_word _ (un.none i h))

  pub slot_passed_over : 0 < t → Unwritten (min (b 4) 16) b → (nonzero (b 0) ≡ true → DueOnlyAfter t (due_of_variables (variables_in b (b 4)))) → due_slot t b ≡ b
  unfolding due_slot variables_in
  slot_passed_over pos un after = go (nonzero (b 0)) refl
    where
      same : variables_in b (min (b 4) 16) ≡ variables_in b (b 4)
      same = let e : min (min (b 4) 16) 16 ≡ min (b 4) 16 = omega arith in rw e

      go : (u : Bool) → nonzero (b 0) ≡ u → cond u (due_first (min (b 4) 16) t b) b ≡ b
      go true e = variables_passed_over (min (b 4) 16) (omega arith) pos un (rw same (after e))
      go false e = refl
