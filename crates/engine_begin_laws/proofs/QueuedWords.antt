-- The words with the blocks noted where a waiting write may stand: they are clean, and the rows are filled in from them as from the words found.
-- Letters: t the table's words, m₀ the machine's as found, m so noted, m₁ filled in, s the state that m₀ is read as, q a slot.
use mathlib.Core.Path.{◌≡◌, refl, sym, ap, subst, ◌∙◌}
use mathlib.Core.List.{List}
use mathlib.Core.Option.{some}
use Prim.Native.Nat.{ℕ, zero, suc, ◌+◌, ◌≤◌, ◌<◌}
use native.Mathlib.Decide.{ℕ_discrete}
use native.Mathlib.Omega.{arith}
use lib.ListN.{get_or, take}
use lib.Seq.{get_or-take}
use Rattle.listing.specs.Listing.{Listing}
use Rattle.walk.specs.State.{State}
use Rattle.walk.specs.Instant.{never, due_of_variables, environment_size}
use Rattle.walk.specs.Calls.{Words32, running}
use Rattle.table.specs.Decode.{table_listing}
use Rattle.machine.specs.Words.{slot_of}
use Rattle.machine.specs.Due.{due_at}
use Rattle.machine.specs.Limits.{WithinLimits}
use Rattle.machine.specs.ReadMachine.{read_machine}
use Rattle.machine_words.specs.Tests.{Dues}
use Rattle.engine_rows.specs.Records.{filled_rows}
use Rattle.engine_blocks.specs.Tabulate.{tabulate_from}
use Rattle.engine_blocks.specs.Blocks.{Block, block, variables_in, rows_of, environment_of}
use Rattle.engine_blocks.specs.Changes.{put_in}
use Rattle.engine_blocks.proofs.Puts.{put_other, put_same}
use Rattle.engine_blocks.proofs.Tabulated.{tabulate_same}
use Rattle.engine_clean.specs.Clean.{CleanSlot, CleanEnvironment, Clean}
use Rattle.engine_fill_row.specs.Filling.{order_of, ports_of, FillsRows, MayFillAll}
use Rattle.engine_queue.specs.Queue.{flag_of, Queued}
use Rattle.engine_queue.proofs.Queueing.{noted_clean}
use Rattle.engine_begin_laws.proofs.NotDue.{slot_due, environment_due}
use Rattle.engine_begin_laws.proofs.Found.{slot_found, outer_rests, outer_before}

none_at : (d : ℕ) → due_at d ≡ never → d ≡ 0
unfolding due_at
none_at zero e = refl
none_at (suc d) e = let z : ◌≡◌ {A = ℕ} 0 1 = cc in absurd (omega arith)

at_none : (d : ℕ) → d ≡ 0 → due_at d ≡ never
unfolding due_at
at_none d e = rw e

no_variables : (b : Block) → b 4 ≡ 0 → due_of_variables (variables_in b (b 4)) ≡ never
unfolding variables_in tabulate_from due_of_variables
no_variables b e = rw e

-- ── clean ──────────────────────────────────────────────────────────────────────────────────────────
module _ (listing : Listing) (L : WithinLimits listing) (m₀ : List ℕ) (small : Words32 m₀) (s : State) (e : read_machine listing (take 12288 m₀) ≡ some (running s))
    (dues m : List ℕ) (D : Dues (environment_size listing) (take 12288 m₀) dues) (Q : Queued 65 dues m₀ m) where
  known : (q : ℕ) → q < 64 → due_at (get_or dues q 0) ≡ due_of_variables (variables_in (block m₀ q) (block m₀ q 4))
  known q h = D.slots q h ∙ slot_due m₀ q h (slot_found listing L m₀ small s e q h).rests.few

  -- a free slot has no note
  free_note : (q : ℕ) → q < 64 → block m₀ q 0 ≡ 0 → (k : ℕ) → k < 144 → put_in (block m₀ q) 7 (flag_of (get_or dues q 0)) k ≡ 0
  unfolding flag_of
  free_note q h z k l = go (ℕ_discrete k 7)
    where
      zeros : (j : ℕ) → j < 184 → block m₀ q j ≡ 0
      zeros = (slot_found listing L m₀ small s e q h).free z

      none : get_or dues q 0 ≡ 0
      none = none_at (get_or dues q 0) (known q h ∙ no_variables (block m₀ q) (zeros 4 (omega arith)))

      go : Dec (k ≡ 7) → put_in (block m₀ q) 7 (flag_of (get_or dues q 0)) k ≡ 0
      go (yes f) = ap (put_in (block m₀ q) 7 (flag_of (get_or dues q 0))) f ∙ (put_same (block m₀ q) 7 (flag_of (get_or dues q 0)) ∙ ap flag_of none)
      go (no f) = put_other (block m₀ q) 7 (flag_of (get_or dues q 0)) k f ∙ zeros k (omega arith)

  slot_clean : (q : ℕ) → q < 64 → CleanSlot (block m q)
  slot_clean q h =
      let b = block m₀ q in
      let v = flag_of (get_or dues q 0) in
      let four = put_other b 7 v 4 (λ z. omega arith) in
      let first = put_other b 7 v 0 (λ z. omega arith) in
      let noted : CleanSlot (put_in b 7 v) = record {
        clean = rw four (noted_clean (b 4) b (slot_found listing L m₀ small s e q h).rests (get_or dues q 0) (λ z. sym (known q h) ∙ at_none (get_or dues q 0) z));
        free = λ z. free_note q h (sym first ∙ z);
      } in
      subst CleanSlot (sym (Q.noted q (omega arith) (omega arith))) noted

  outer_clean : CleanEnvironment (environment_size listing) (block m 64)
  unfolding environment_of
  outer_clean =
      let n = environment_size listing in
      let b = block m₀ 64 in
      let R = outer_rests listing L m₀ small s e in
      let none : get_or dues 64 0 ≡ 0 → due_of_variables (variables_in b n) ≡ never = λ z.
      sym (environment_due m₀ n R.few) ∙ (sym D.environment ∙ at_none (get_or dues 64 0) z) in
      let noted : CleanEnvironment n (put_in b 7 (flag_of (get_or dues 64 0))) = record {
        clean = noted_clean n b R (get_or dues 64 0) none;
        before = λ k h. put_other b 7 (flag_of (get_or dues 64 0)) k (λ z. omega arith) ∙ outer_before listing L m₀ small s e k (omega arith);
      } in
      subst (CleanEnvironment n) (sym (Q.noted 64 (omega arith) (omega arith))) noted

  pub queued_clean : Clean (environment_size listing) m
  queued_clean = record { slots = slot_clean; environment = outer_clean }

-- ── filled in as from the words found ─────────────────────────────────────────────────────────────
module _ (t m₀ dues m : List ℕ) (Q : Queued 65 dues m₀ m) (few : get_or m₀ 3 0 ≤ 64) where
  header_word : (j : ℕ) → j < 328 → get_or m j 0 ≡ get_or m₀ j 0
  header_word j h = sym (get_or-take 328 m j 0 h) ∙ (ap (λ (l : List ℕ). get_or l j 0) Q.outside.header ∙ get_or-take 328 m₀ j 0 h)

  same_order : order_of m ≡ order_of m₀
  unfolding order_of
  same_order =
      ap (λ (n : ℕ). tabulate_from 0 n (slot_of m)) (header_word 3 (omega arith)) ∙
      tabulate_same 0 (get_or m₀ 3 0) (slot_of m) (slot_of m₀) (λ k a b. header_word (64 + k) (omega arith))

  pub may_fill_queued : MayFillAll t m₀ → MayFillAll t m
  may_fill_queued F = record {
    size = let e = Q.outside.size in let h = F.size in omega arith;
    table = F.table;
    few = rw (header_word 3 (omega arith)) few;
    order = rw (Q.environment (environment_size (table_listing t)), Q.rows, same_order) F.order;
  }

  pub filled_queued : (m₁ : List ℕ) → FillsRows m (filled_rows (table_listing t) (rows_of m) (ports_of t m) (λ level. 64) (order_of m)) m₁ →
      FillsRows m (filled_rows (table_listing t) (rows_of m₀) (ports_of t m₀) (λ level. 64) (order_of m₀)) m₁
  filled_queued m₁ F = rw (Q.environment (environment_size (table_listing t)), Q.rows, same_order) at F
