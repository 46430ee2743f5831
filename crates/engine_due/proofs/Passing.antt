-- A pass over the blocks, one after the other: it begins with none done, and one more block done is one more.
-- When all are done, rows and environment are those of the blocks made, and all stay clean.
use mathlib.Core.Path.{◌≡◌, refl, sym, ap, ◌∙◌, subst, fun_ext}
use mathlib.Core.Bool.{Bool, true, false, cond}
use mathlib.Core.List.{List}
use Prim.Native.Nat.{ℕ, suc, ◌≤◌, ◌<◌, min}
use native.Mathlib.Decide.{ℕ_discrete, dec_lt}
use native.Mathlib.Omega.{arith}
use Rattle.walk.specs.Instant.{due_writes}
use Rattle.engine_rows.specs.Rows.{Row, free_row, with_own}
use Rattle.engine_rows.specs.Beginning.{own_if, due_in_rows}
use Rattle.engine_blocks.specs.Blocks.{Block, block, nonzero, row_at, rows_of, variables_in, environment_of}
use Rattle.engine_blocks.specs.Changes.{SameTriggers, InBlock}
use Rattle.engine_blocks.proofs.InBlocks.{other_block, same_outside}
use Rattle.engine_blocks.proofs.RowChanges.{row_of, row_past}
use Rattle.engine_clean.specs.Clean.{CleanSlot, CleanEnvironment}
use Rattle.engine_due.specs.Passes.{due_first, due_slot, Mapped}
use Rattle.engine_due.specs.Beginnings.{DueMade}
use Rattle.engine_due.proofs.DueBlocks.{late_words_stay, due_variables, due_row, due_slot_clean, due_environment_clean}

pub none_mapped : (f : Block → Block) (m : List ℕ) → Mapped 0 f m m
none_mapped f m = record { size = refl; header = refl; past = refl; made = λ s h l. absurd (let z : ⊥ = omega arith in z); others = λ s h l. refl }

pub one_more_mapped : (f : Block → Block) (a m m' : List ℕ) (k : ℕ) → k < 64 → Mapped k f a m → InBlock k m m' (f (block m k)) → Mapped (suc k) f a m'
one_more_mapped f a m m' k few done next =
    let o = same_outside next (omega arith) in
    record {
      size = o.size ∙ done.size;
      header = o.header ∙ done.header;
      past = o.past ∙ done.past;
      made = λ s h l. which s l (ℕ_discrete s k) (λ g. done.made s g l) (omega arith);
      others = λ s h l. other_block next s (λ e. omega arith) ∙ done.others s (omega arith) l;
    }
  where
    which : (s : ℕ) → s < 64 → Dec (s ≡ k) → (s < k → block m s ≡ f (block a s)) → s ≤ k → block m' s ≡ f (block a s)
    which s l (yes e) old h = rw e (next.words ∙ ap f (done.others k (omega arith) (omega arith)))
    which s l (no n) old h = other_block next s n ∙ old (omega (arith, n))

due_slot_late : (t : ℕ) (b : Block) (k : ℕ) → 144 ≤ k → due_slot t b k ≡ b k
unfolding due_slot
due_slot_late t b k h = go (nonzero (b 0))
  where
    go : (x : Bool) → cond x (due_first (min (b 4) 16) t b) b k ≡ b k
    go true = late_words_stay b t (min (b 4) 16) k (omega arith) (omega arith) (λ p q. omega arith)
    go false = refl

free_stays : (t : ℕ) → with_own free_row (own_if free_row.used (due_writes t free_row.own) free_row.own) ≡ free_row
unfolding free_row with_own own_if
free_stays t = refl

-- ── due writes everywhere ─────────────────────────────────────────────────────────────────────────
module _ (n t : ℕ) (few : n ≤ 16) (pos : 0 < t) (a m m' : List ℕ) (slots : Mapped 64 (due_slot t) a m) (outer : InBlock 64 m m' (due_first n t (block m 64))) where
  slot_block : (s : ℕ) → s < 64 → block m' s ≡ due_slot t (block a s)
  slot_block s h = other_block outer s (λ e. omega arith) ∙ slots.made s h h

  outer_block : block m' 64 ≡ due_first n t (block a 64)
  outer_block = outer.words ∙ ap (due_first n t) (slots.others 64 (omega arith) (omega arith))

  due_rows : rows_of m' ≡ due_in_rows t (rows_of a)
  unfolding due_in_rows
  due_rows = fun_ext λ s. go s (dec_lt s 64)
    where
      go : (s : ℕ) → Dec (s < 64) → rows_of m' s ≡ with_own (rows_of a s) (own_if (rows_of a s).used (due_writes t (rows_of a s).own) (rows_of a s).own)
      go s (yes h) = row_of m' s h ∙ (ap row_at (slot_block s h) ∙ (due_row (block a s) t pos ∙ ap (λ (r : Row). with_own r (own_if r.used (due_writes t r.own) r.own)) (sym (row_of a s h))))
      go s (no h) = row_past m' s (omega (arith, h)) ∙ sym (ap (λ (r : Row). with_own r (own_if r.used (due_writes t r.own) r.own)) (row_past a s (omega (arith, h))) ∙ free_stays t)

  due_environment_of : environment_of n m' ≡ due_writes t (environment_of n a)
  unfolding environment_of
  due_environment_of =
      let e : min n 16 ≡ n = omega arith in
      ap (λ (b : Block). variables_in b n) outer_block ∙ (ap (λ (c : ℕ). variables_in (due_first c t (block a 64)) n) (sym e) ∙ due_variables (block a 64) t n pos)

  due_triggers : SameTriggers a m'
  due_triggers = record { same = λ s k l h. go s k l h (dec_lt s 64) }
    where
      go : (s k : ℕ) → s ≤ 64 → 144 ≤ k → Dec (s < 64) → block m' s k ≡ block a s k
      go s k l h (yes g) = ap (λ (b : Block). b k) (slot_block s g) ∙ due_slot_late t (block a s) k h
      go s k l h (no g) =
          let e : s ≡ 64 = omega (arith, g) in
          rw e (ap (λ (b : Block). b k) outer_block ∙ late_words_stay (block a 64) t n k few (omega arith) (λ p q. omega arith))

  pub due_made : DueMade n t a m'
  due_made =
      let o = same_outside outer (omega arith) in
      record {
        rows = due_rows;
        environment = due_environment_of;
        outside = record { size = o.size ∙ slots.size; header = o.header ∙ slots.header; past = o.past ∙ slots.past };
        triggers = due_triggers;
        clean = λ w. record {
          slots = λ s h. subst (λ (b : Block). CleanSlot b) (sym (slot_block s h)) (due_slot_clean (block a s) t (w.slots s h));
          environment = subst (λ (b : Block). CleanEnvironment n b) (sym outer_block) (due_environment_clean (block a 64) t n n w.environment (omega arith));
        };
      }
