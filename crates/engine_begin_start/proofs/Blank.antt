-- Blank memory, and main newly called in it.
-- Letters: t the table's words; m₀, m₁, m₂ the machine's at the entry, blank, with main; q a slot, n the number of environment variables.
use mathlib.Core.Path.{◌≡◌, refl, sym, ap, subst, ◌∙◌, fun_ext}
use mathlib.Core.Bool.{true}
use mathlib.Core.List.{List, [], ◌++◌}
use Prim.Native.Nat.{ℕ, zero, suc, ◌+◌, ◌-◌, ◌≤◌, ◌<◌, min}
use native.Mathlib.Decide.{dec_lt, ℕ_discrete}
use native.Mathlib.Omega.{arith}
use lib.ListN.{length, get_or, drop, replicate, length-append, length-drop, length-replicate, get_or-replicate, get_or-append}
use lib.Seq.{drop-append_seam}
use Rattle.listing.specs.Listing.{Listing}
use Rattle.walk.specs.State.{Variable, idle, new_variable}
use Rattle.walk.specs.Instant.{environment_size, main_call}
use Rattle.table.specs.Decode.{word, size_of, table_listing}
use Rattle.table.specs.Question6.{is_table}
use Rattle.table.proofs.Bounds.{bounds}
use Rattle.machine.specs.Words.{block_at, waiting_of}
use Rattle.machine_check.proofs.FromQuestion6.{table_within_limits}
use Rattle.engine_rows.specs.Rows.{Row, Rows, free_row, no_rows, with_row}
use Rattle.engine_rows.specs.Engine.{child_row}
use Rattle.engine_rows.specs.Beginning.{main_row, new_environment}
use Rattle.engine_rows.proofs.Held.{with_row-same, with_row-other}
use Rattle.engine_blocks.specs.Tabulate.{tabulate_from}
use Rattle.engine_blocks.specs.Blocks.{Block, block, nonzero, variable_in, variables_in, bindings_in, row_at, rows_of, environment_of}
use Rattle.engine_blocks.proofs.InBlocks.{block_word, block_end}
use Rattle.engine_blocks.proofs.RowChanges.{row_of}
use Rattle.engine_clean.specs.Clean.{CleanBlock, CleanSlot, CleanEnvironment, Clean}
use Rattle.engine_triggers.specs.Chains.{triggers_at}
use Rattle.engine_triggers.proofs.Chaining.{chained_none, lists_stay}
use Rattle.engine_main_row.specs.MainRoutine.{MainIs}
use Rattle.machine_halt.specs.Zeroed.{blank_words}
use Rattle.engine_ready.specs.Slots.{slots_of}
use Rattle.engine_steps.specs.declared.running.Running.{Running}
use Rattle.engine_run_laws.specs.Placed.{Placed}
use Rattle.engine_begin_start.specs.Begun.{BegunStart}
use Rattle.engine_begin_laws.proofs.Found.{no_row, false_not}

-- ── blank words ───────────────────────────────────────────────────────────────────────────────────
blank_length : length blank_words ≡ 12288
unfolding blank_words
blank_length = length-replicate {A = ℕ} 12288 0

blank_word : (k : ℕ) → k < 12288 → get_or blank_words k 0 ≡ 0
unfolding blank_words
blank_word k h = get_or-replicate 12288 k 0 0 h

-- a block of zeros
unfoldable zero_block : Block
zero_block k = 0

zero_variable : (i : ℕ) → variable_in zero_block i ≡ new_variable 0 0
unfolding variable_in zero_block nonzero waiting_of new_variable
zero_variable i = refl

zero_row : row_at zero_block ≡ free_row
unfolding row_at zero_block free_row bindings_in variables_in nonzero tabulate_from
zero_row = refl

fresh_variables : (i n : ℕ) (f : ℕ → Variable) → ((k : ℕ) → f k ≡ new_variable 0 0) → tabulate_from i n f ≡ replicate n (new_variable 0 0)
unfolding tabulate_from
fresh_variables i zero f e = refl
fresh_variables i (suc n) f e = rw (e i, fresh_variables (suc i) n f e)

zero_clean : (c : ℕ) → c ≤ 16 → CleanBlock c zero_block
unfolding zero_block
zero_clean c h = record {
  few = h;
  kept = λ k l g. refl;
  spare_low = λ i l. refl;
  spare_high = λ i l. refl;
  past = λ i l g. record { value = refl; waiting = refl; low = refl; high = refl };
  idle = λ i l e. refl;
  quiet = λ e i l. refl;
}

zero_slot : CleanSlot zero_block
unfolding zero_block
zero_slot = record { clean = zero_clean 0 (omega arith); free = λ e k h. refl }

zero_environment : (n : ℕ) → n ≤ 16 → CleanEnvironment n zero_block
unfolding zero_block
zero_environment n h = record { clean = zero_clean n h; before = λ k l. refl }

module _ (m₀ m₁ : List ℕ) (long : 12288 ≤ length m₀) (e : m₁ ≡ blank_words ++ drop 12288 m₀) where
  blank_size : length m₁ ≡ length m₀
  blank_size = ap length e ∙ (length-append blank_words (drop 12288 m₀) ∙ omega (arith, blank_length, length-drop 12288 m₀))

  blank_past : drop 12288 m₁ ≡ drop 12288 m₀
  blank_past = ap (λ (k : ℕ). drop k m₁) (sym blank_length) ∙ (ap (drop (length blank_words)) e ∙ drop-append_seam blank_words (drop 12288 m₀))

  zero_word : (k : ℕ) → k < 12288 → get_or m₁ k 0 ≡ 0
  zero_word k h = ap (λ (l : List ℕ). get_or l k 0) e ∙
      (get_or-append blank_words (drop 12288 m₀) 0 k (let b = blank_length in omega arith) ∙ blank_word k h)

  blank_block : (q : ℕ) → q ≤ 64 → block m₁ q ≡ zero_block
  unfolding zero_block
  blank_block q h = fun_ext λ k. go k (dec_lt k 184)
    where
      go : (k : ℕ) → Dec (k < 184) → block m₁ q k ≡ 0
      go k (yes l) = block_word m₁ q k l ∙ zero_word (block_at q + k) (omega arith)
      go k (no l) = block_end m₁ q k (omega arith)

  blank_rows : rows_of m₁ ≡ no_rows
  unfolding no_rows
  blank_rows = fun_ext λ q. go q (dec_lt q 64)
    where
      go : (q : ℕ) → Dec (q < 64) → rows_of m₁ q ≡ free_row
      go q (yes h) = row_of m₁ q h ∙ (ap row_at (blank_block q (omega arith)) ∙ zero_row)
      go q (no h) = no_row m₁ q (omega arith)

  blank_environment : (listing : Listing) → environment_size listing ≤ 16 → environment_of (environment_size listing) m₁ ≡ new_environment listing
  unfolding environment_of new_environment variables_in
  blank_environment listing few =
      let f : min (environment_size listing) 16 ≡ environment_size listing = omega arith in
      rw (blank_block 64 (omega arith), f) (fresh_variables 0 (environment_size listing) (variable_in zero_block) zero_variable)

  blank_clean : (n : ℕ) → n ≤ 16 → Clean n m₁
  blank_clean n few = record {
    slots = λ q h. rw (blank_block q (omega arith)) zero_slot;
    environment = rw (blank_block 64 (omega arith)) (zero_environment n few);
  }

  blank_lists : (q index : ℕ) → q ≤ 64 → triggers_at m₁ q index ≡ []
  unfolding triggers_at zero_block
  blank_lists q index h = rw (blank_block q h) (chained_none m₁ 256)

-- ── main alone ────────────────────────────────────────────────────────────────────────────────────
module _ (t : List ℕ) (table : is_table t ≡ true) where
  main_placed : (environment : List Variable) (s : ℕ) → Placed t (with_row no_rows s (main_row (table_listing t) environment s))
  unfolding main_row child_row main_call no_rows free_row
  main_placed environment s = record {
    routine = λ q u. routine q u (ℕ_discrete q s);
    place = λ q u. place q u (ℕ_discrete q s);
    sleeper = λ q a. absurd (awake q a (ℕ_discrete q s));
    parent = λ q c. absurd (childless q c (ℕ_discrete q s));
  }
    where
      main : Row
      main = main_row (table_listing t) environment s

      rows : Rows
      rows = with_row no_rows s main

      here : (q : ℕ) → q ≡ s → rows q ≡ main
      here q e = ap rows e ∙ with_row-same no_rows s main

      away : (q : ℕ) → (q ≡ s → ⊥) → rows q ≡ free_row
      away q ne = with_row-other no_rows s main q ne

      routine : (q : ℕ) → (rows q).used ≡ true → Dec (q ≡ s) → (rows q).routine < word t 2
      routine q u (yes e) = subst (λ (r : Row). r.routine < word t 2) (sym (here q e)) (let b = (bounds t table).some in omega arith)
      routine q u (no ne) = false_not (sym (ap (λ (r : Row). r.used) (away q ne)) ∙ u)

      place : (q : ℕ) → (rows q).used ≡ true → Dec (q ≡ s) → (rows q).place < size_of t (rows q).routine
      place q u (yes e) = subst (λ (r : Row). r.place < size_of t r.routine) (sym (here q e))
          (let b = (bounds t table).line 0 (let a = (bounds t table).some in omega arith) in omega arith)
      place q u (no ne) = false_not (sym (ap (λ (r : Row). r.used) (away q ne)) ∙ u)

      awake : (q : ℕ) → (rows q).asleep ≡ true → Dec (q ≡ s) → ⊥
      awake q a (yes e) = false_not (sym (ap (λ (r : Row). r.asleep) (here q e)) ∙ a)
      awake q a (no ne) = false_not (sym (ap (λ (r : Row). r.asleep) (away q ne)) ∙ a)

      childless : (q : ℕ) → 0 < (rows q).children → Dec (q ≡ s) → ⊥
      childless q c (yes e) = let z : (rows q).children ≡ 0 = ap (λ (r : Row). r.children) (here q e) in omega arith
      childless q c (no ne) = let z : (rows q).children ≡ 0 = ap (λ (r : Row). r.children) (away q ne) in omega arith

  pub begun_start : (m₀ m₁ m₂ : List ℕ) (u : Running) → 12288 ≤ length m₀ → m₁ ≡ blank_words ++ drop 12288 m₀ → u.me < 64 →
      MainIs t m₁ u.me (λ environment. main_row (table_listing t) environment u.me) m₂ → slots_of u.ready ≡ [] → u.live ≡ 1 → u.woken ≡ 0 →
      BegunStart t m₀ m₂ u
  unfolding new_environment
  begun_start m₀ m₁ m₂ u long e small M none live woken =
      let listing = table_listing t in
      let few = (table_within_limits t table).ports in
      let rows = M.rows (new_environment listing) (length-replicate (environment_size listing) (new_variable 0 0)) ∙
      ap (λ (σ : Rows). with_row σ u.me (main_row listing (new_environment listing) u.me)) (blank_rows m₀ m₁ long e) in
      record {
        slot = small;
        rows = rows;
        environment = M.environment (environment_size listing) ∙ blank_environment m₀ m₁ long e listing few;
        lists = λ q i h l. lists_stay m₁ m₂ M.triggers q i h ∙ blank_lists m₀ m₁ long e q i h;
        ready_slots = none;
        live = live;
        woken = woken;
        clean = M.clean (environment_size listing) (blank_clean m₀ m₁ long e (environment_size listing) few);
        placed = rw rows (main_placed (new_environment listing) u.me);
        size = M.outside.size ∙ blank_size m₀ m₁ long e;
        past = M.outside.past ∙ blank_past m₀ m₁ long e;
      }
