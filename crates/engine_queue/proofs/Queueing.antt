-- The blocks where a waiting write may stand noted at the beginning of an instant; and that the blocks are clean then: one without a note has no waiting write.
-- Letters: a the words before, m and m' those on the way, s a block's number, d its soonest moment due (0: none), b a block, c how many variables.
use mathlib.Core.Path.{◌≡◌, refl, sym, ◌∙◌}
use mathlib.Core.Bool.{Bool, true, false}
use mathlib.Core.List.{List}
use Prim.Native.Nat.{ℕ, zero, suc, ◌+◌, ◌*◌, ◌≤◌, ◌<◌, min}
use native.Mathlib.Decide.{ℕ_discrete, dec_lt}
use native.Mathlib.Numerals.{add-one}
use native.Mathlib.Omega.{arith}
use lib.Dec.{leb}
use lib.ListN.{get_or}
use Rattle.walk.specs.Instant.{NextDue, never, moment, earlier_of, earlier, due_of, due_of_variables}
use Rattle.machine.specs.Words.{waiting_of}
use Rattle.engine_blocks.specs.Tabulate.{tabulate_from}
use Rattle.engine_blocks.specs.Blocks.{Block, block, variable_in, variables_in}
use Rattle.engine_blocks.specs.Changes.{InBlock, put_in}
use Rattle.engine_blocks.proofs.Puts.{put_same, put_other}
use Rattle.engine_blocks.proofs.InBlocks.{other_block, same_outside}
use Rattle.engine_blocks.proofs.Queued.{seven_rows, seven_environment, seven_triggers}
use Rattle.engine_blocks.proofs.Staying.{outside_start, outside_then, triggers_start, triggers_then}
use Rattle.engine_clean.specs.Clean.{Blank, CleanBlock}
use Rattle.engine_queue.specs.Queue.{flag_of, Queued}

-- ── one block after the other ─────────────────────────────────────────────────────────────────────
pub none_queued : (dues m : List ℕ) → Queued 0 dues m m
none_queued dues m = record {
  noted = λ s h l. absurd (let z : ⊥ = omega arith in z);
  others = λ s h l. refl;
  rows = refl;
  environment = λ n. refl;
  outside = outside_start m;
  triggers = triggers_start m;
}

pub one_more_queued : (s v : ℕ) {dues a m m' : List ℕ} → s < 65 → v ≡ flag_of (get_or dues s 0) → Queued s dues a m → InBlock s m m' (put_in (block m s) 7 v) →
    Queued (s + 1) dues a m'
one_more_queued s v {dues} {a} {m} {m'} h e Q p = rw add-one (record {
  noted = λ q l g. noted q l g (ℕ_discrete q s);
  others = λ q l g. other_block p q (λ z. omega arith) ∙ Q.others q (omega arith) g;
  rows = seven_rows v p ∙ Q.rows;
  environment = λ n. seven_environment v p n ∙ Q.environment n;
  outside = outside_then Q.outside (same_outside p (omega arith));
  triggers = triggers_then Q.triggers (seven_triggers v p);
})
  where
    noted : (q : ℕ) → q < suc s → q ≤ 64 → Dec (q ≡ s) → block m' q ≡ put_in (block a q) 7 (flag_of (get_or dues q 0))
    noted q l g (yes z) = rw z (p.words ∙ rw (e, Q.others s (omega arith) (omega arith)))
    noted q l g (no z) = other_block p q z ∙ Q.noted q (omega (arith, z)) g

-- ── no waiting write ──────────────────────────────────────────────────────────────────────────────
-- the moment of variable i's waiting write, 0 without one
abbrev pub moment_of : Block → ℕ → ℕ
moment_of b i = b (10 + i * 6) + b (11 + i * 6) * 4294967296

neither : (x y : NextDue) → earlier x y ≡ never → (x ≡ never) × (y ≡ never)
unfolding earlier earlier_of
neither never y e = (refl, e)
neither (moment a) never e = let z : ◌≡◌ {A = ℕ} 0 1 = cc in absurd (omega arith)
neither (moment a) (moment b) e = go (leb a b) e
  where
    go : (p : Bool) → earlier_of p a b ≡ never → (moment a ≡ never) × (moment b ≡ never)
    go true f = let z : ◌≡◌ {A = ℕ} 0 1 = cc in absurd (omega arith)
    go false f = let z : ◌≡◌ {A = ℕ} 0 1 = cc in absurd (omega arith)

no_moment : (d v : ℕ) → due_of (waiting_of d v) ≡ never → d ≡ 0
unfolding due_of waiting_of
no_moment zero v e = refl
no_moment (suc d) v e = let z : ◌≡◌ {A = ℕ} 0 1 = cc in absurd (omega arith)

none_waits : (b : Block) (i k : ℕ) → due_of_variables (tabulate_from i k (variable_in b)) ≡ never → (j : ℕ) → i ≤ j → j < i + k → moment_of b j ≡ 0
unfolding due_of_variables tabulate_from variable_in
none_waits b i zero e j l h = absurd (let z : ⊥ = omega arith in z)
none_waits b i (suc k) e j l h = let p = neither _ _ e in go (ℕ_discrete i j) (no_moment _ _ p.0) (λ g. none_waits b (suc i) k p.1 j g (omega arith))
  where
    go : Dec (i ≡ j) → moment_of b i ≡ 0 → (suc i ≤ j → moment_of b j ≡ 0) → moment_of b j ≡ 0
    go (yes z) here later = rw z at here
    go (no z) here later = later (omega (arith, z))

-- ── clean, once noted ──────────────────────────────────────────────────────────────────────────────
-- A block at rest: as tidiness wants it, but that word 7 says nothing yet.
pub record Rests (c : ℕ) (b : Block) : Type 0 where
  pub few : c ≤ 16
  pub kept : (k : ℕ) → 5 ≤ k → k < 8 → b k ≡ 0
  pub spare_low : (i : ℕ) → i < 16 → b (12 + i * 6) ≡ 0
  pub spare_high : (i : ℕ) → i < 16 → b (13 + i * 6) ≡ 0
  pub past : (i : ℕ) → c ≤ i → i < 16 → Blank b i
  pub idle : (i : ℕ) → i < 16 → moment_of b i ≡ 0 → b (9 + i * 6) ≡ 0

module _ (c : ℕ) (b : Block) (R : Rests c b) where
  all_quiet : due_of_variables (variables_in b c) ≡ never → (i : ℕ) → i < 16 → moment_of b i ≡ 0
  unfolding variables_in
  all_quiet e i h = go (dec_lt i c)
    where
      all : min c 16 ≡ c
      all = let few = R.few in omega arith

      go : Dec (i < c) → moment_of b i ≡ 0
      go (yes l) = none_waits b 0 c (rw all at e) i (omega arith) (omega arith)
      go (no l) = let B = R.past i (omega arith) h in let low = B.low in let high = B.high in omega arith

  flag_none : (d : ℕ) → flag_of d ≡ 0 → d ≡ 0
  unfolding flag_of
  flag_none zero e = refl
  flag_none (suc d) e = absurd (let z : ⊥ = omega arith in z)

  pub noted_clean : (d : ℕ) → (d ≡ 0 → due_of_variables (variables_in b c) ≡ never) → CleanBlock c (put_in b 7 (flag_of d))
  noted_clean d none =
      let off : (k : ℕ) → (k ≡ 7 → ⊥) → put_in b 7 (flag_of d) k ≡ b k = λ k n. put_other b 7 (flag_of d) k n in
      record {
        few = R.few;
        kept = λ k h g. off k (λ e. omega arith) ∙ R.kept k h (omega arith);
        spare_low = λ i h. off (12 + i * 6) (λ e. omega arith) ∙ R.spare_low i h;
        spare_high = λ i h. off (13 + i * 6) (λ e. omega arith) ∙ R.spare_high i h;
        past = λ i h g. record {
          value = off (8 + i * 6) (λ e. omega arith) ∙ (R.past i h g).value;
          waiting = off (9 + i * 6) (λ e. omega arith) ∙ (R.past i h g).waiting;
          low = off (10 + i * 6) (λ e. omega arith) ∙ (R.past i h g).low;
          high = off (11 + i * 6) (λ e. omega arith) ∙ (R.past i h g).high;
        };
        idle = λ i h e.
            off (9 + i * 6) (λ z. omega arith) ∙ R.idle i h (omega (arith, off (10 + i * 6) (λ z. omega arith), off (11 + i * 6) (λ z. omega arith), e));
        quiet = λ e i h.
            let z = flag_none d (sym (put_same b 7 (flag_of d)) ∙ e) in
            let q = all_quiet (none z) i h in
            omega (arith, off (10 + i * 6) (λ y. omega arith), off (11 + i * 6) (λ y. omega arith), q);
      }
