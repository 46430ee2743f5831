-- Main's row: newly called, and filled in. The letters are those of specs/MainRoutine.
use mathlib.Core.Path.{◌≡◌, refl, sym, ap, ap₂, subst, ◌∙◌}
use mathlib.Core.Bool.{Bool, true, false}
use mathlib.Core.List.{List}
use Prim.Native.Nat.{ℕ, ◌+◌, ◌*◌, ◌≤◌, ◌<◌, min}
use native.Mathlib.Omega.{arith}
use lib.ListN.{length, replicate}
use Rattle.walk.specs.State.{Variable, new_variable}
use Rattle.walk.specs.Walk.{routine_at, instruction_at}
use Rattle.walk.specs.Instant.{environment_size, main_call}
use Rattle.table.specs.Decode.{table_listing}
use Rattle.table.specs.Question6.{is_table}
use Rattle.table_read.specs.Opened.{Opened}
use Rattle.engine_rows.specs.Rows.{Row, with_row}
use Rattle.engine_rows.specs.Engine.{child_row}
use Rattle.engine_rows.specs.Beginning.{environment_caller, main_row}
use Rattle.engine_rows.specs.Records.{is_wait, filled_row_lem}
use Rattle.engine_blocks.specs.Tabulate.{tabulate_from}
use Rattle.engine_blocks.specs.Blocks.{Block, block, nonzero, variable_in, variables_in, row_at, rows_of}
use Rattle.engine_blocks.specs.Changes.{InBlock, put_in, cleared}
use Rattle.engine_blocks.proofs.Puts.{put_other, cleared_inside, cleared_above}
use Rattle.engine_blocks.proofs.InBlocks.{same_outside, same_triggers}
use Rattle.engine_blocks.proofs.RowChanges.{row_of, rows_in_block, environment_stays}
use Rattle.engine_clean.specs.Clean.{CleanSlot}
use Rattle.engine_clean.proofs.Whole.{slot_keeps_clean}
use Rattle.engine_new_rows.specs.declared.rows.Parent.{Parent}
use Rattle.engine_new_names.specs.Naming.{NamesBound}
use Rattle.engine_new_rows.specs.NewRow.{kept_block, working_block, Reaches}
use Rattle.engine_new_names.proofs.Lists.{tabulate_tail}
use Rattle.engine_new_names.proofs.OwnNames.{changed_then}
use Rattle.engine_new_names.proofs.Passing.{fresh_variable}
use Rattle.engine_fill_row.specs.Filling.{MayFillMain}
use Rattle.engine_fill_row.specs.Row.{working_row, RowFilled}
use Rattle.engine_main_row.specs.MainRoutine.{main_bindings, MainParent, MainIs}
use Rattle.engine_fill_row.proofs.CleanFilled.{in_use, filled_slot}
use Rattle.engine_fill_row.proofs.WorkingRows.{row_filled}
use Rattle.engine_fill_row.proofs.ChildFilled.{working_is_filled}
use Rattle.engine_main_row.proofs.MainNames.{main_owns}

pub main_reaches : {t : List ℕ} {q : Parent} → MainParent t q → Reaches q 0
main_reaches P = record { most = omega arith; bits = omega (arith, P.bits); low = rw (P.low, P.bits) (omega arith) }

-- A change of slot s alone is a change of the rows, whatever the environment.
rows_with_lem : {before after : List ℕ} {s : ℕ} {row : Row} → s < 64 → InBlock s before after (block after s) → rows_of after s ≡ row → rows_of after ≡ with_row (rows_of before) s row
rows_with_lem {before} {after} {s} h p e = rows_in_block p h ∙ ap (with_row (rows_of before) s) (sym (row_of after s h) ∙ e)

-- ── filled in ─────────────────────────────────────────────────────────────────────────────────────
module _ {t before m after : List ℕ} {s : ℕ} (asleep : ℕ) {q : Parent} (M : MayFillMain t (rows_of before) s) (P : MainParent t q)
    (marked : nonzero asleep ≡ is_wait (instruction_at (table_listing t) 0 (rows_of before s).place))
    (w : InBlock s before m (working_block (block before s) q 0 asleep 0)) (N : NamesBound m s (main_bindings t s) after)
  where
    filled_row_is : (environment : List Variable) → length environment ≡ environment_size (table_listing t)
        → working_row (rows_of before s) q 0 (nonzero asleep) 0 (main_bindings t s)
        ≡ filled_row_lem (table_listing t) (environment_caller (table_listing t) environment) (main_call (table_listing t)) (rows_of before s) s
    unfolding environment_caller main_call
    filled_row_is environment e =
        ap₂ (λ (i : ℕ) (b : Bool). working_row (rows_of before s) q i b 0 (main_bindings t s)) (sym M.child) marked
        ∙ working_is_filled (table_listing t) (environment_caller (table_listing t) environment) (main_call (table_listing t)) (rows_of before s) s q M.live M.level
        P.slot (P.base ∙ sym e) P.low P.bits

    R : RowFilled before s (working_row (rows_of before s) q 0 (nonzero asleep) 0 (main_bindings t s)) after
    R = row_filled 0 asleep 0 q w N _ M.slot refl

    pub main_filled : MainIs t before s (λ (environment : List Variable). filled_row_lem (table_listing t) (environment_caller (table_listing t) environment) (main_call (table_listing t)) (rows_of before s) s) after
    main_filled =
        record {
          rows = λ environment e. rows_with_lem M.slot R.in_block (R.row ∙ filled_row_is environment e);
          environment = environment_stays R.in_block M.slot;
          outside = same_outside R.in_block (omega (arith, M.slot));
          triggers = same_triggers R.in_block (λ k h. R.kept k (λ x y. omega arith));
          clean = λ k T. slot_keeps_clean R.in_block M.slot
              (filled_slot (block before s) (block after s) (λ j h. R.kept j (λ x y. omega arith)) (in_use before s M.slot M.live) (T.slots s M.slot)) T;
        }

-- ── newly called ──────────────────────────────────────────────────────────────────────────────────
-- Block s cleared, then its kept words: in use, level 0, first child field, its locals.
module _ (b : Block) (locals : ℕ) (few : locals ≤ 16) where
  abbrev begun : Block
  begun = kept_block (cleared 0 144 b) 0 0 locals

  zero_word : (k : ℕ) → 5 ≤ k → k < 144 → begun k ≡ 0
  unfolding kept_block
  zero_word k h l =
      put_other _ 4 locals k (λ e. omega arith) ∙ (put_other _ 2 0 k (λ e. omega arith) ∙ (put_other _ 1 0 k (λ e. omega arith)
      ∙ (put_other _ 0 1 k (λ e. omega arith) ∙ cleared_inside 0 144 b k (omega arith) l)))

  number_word : begun 4 ≡ locals
  unfolding kept_block put_in
  number_word = refl

  first_in_use : begun 0 ≡ 0 → ⊥
  unfolding kept_block put_in
  first_in_use e = omega arith

  begun_clean : CleanSlot begun
  begun_clean =
      record {
        clean = rw number_word (record {
          few = few;
          kept = λ k h g. zero_word k h (omega arith);
          spare_low = λ j h. zero_word (12 + j * 6) (omega arith) (omega arith);
          spare_high = λ j h. zero_word (13 + j * 6) (omega arith) (omega arith);
          past = λ j h g. record {
            value = zero_word (8 + j * 6) (omega arith) (omega arith);
            waiting = zero_word (9 + j * 6) (omega arith) (omega arith);
            low = zero_word (10 + j * 6) (omega arith) (omega arith);
            high = zero_word (11 + j * 6) (omega arith) (omega arith);
          };
          idle = λ j h e. zero_word (9 + j * 6) (omega arith) (omega arith);
          quiet = λ e j h. let low = zero_word (10 + j * 6) (omega arith) (omega arith) in let high = zero_word (11 + j * 6) (omega arith) (omega arith) in omega arith;
        });
        free = λ e. absurd (first_in_use e);
      }

  locals_fresh : variables_in begun locals ≡ replicate locals (new_variable 0 0)
  unfolding variables_in tabulate_from
  locals_fresh =
      let all : min locals 16 ≡ locals = omega arith in
      let z : 0 + locals ≡ locals = omega arith in
      rw all (subst (λ (n : ℕ). tabulate_from 0 n (variable_in begun) ≡ replicate locals (new_variable 0 0)) z
      (tabulate_tail 0 locals (variable_in begun) (variable_in begun) (new_variable 0 0) (λ k h. refl) (λ k h l.
      fresh_variable 0 begun k 0 (zero_word (8 + k * 6) (omega arith) (omega arith)) (zero_word (9 + k * 6) (omega arith) (omega arith))
      (zero_word (10 + k * 6) (omega arith) (omega arith)) (zero_word (11 + k * 6) (omega arith) (omega arith)) (zero_word (128 + k) (omega arith) (omega arith)))))

  begun_used : (row_at begun).used ≡ true
  unfolding row_at nonzero kept_block put_in
  begun_used = refl

  begun_level : (row_at begun).level ≡ 0
  unfolding row_at kept_block put_in
  begun_level = refl

  begun_child : (row_at begun).child ≡ 0
  unfolding row_at kept_block put_in
  begun_child = refl

  begun_place : (row_at begun).place ≡ 0
  unfolding row_at kept_block put_in cleared
  begun_place = refl

  begun_own : (row_at begun).own ≡ replicate locals (new_variable 0 0)
  unfolding row_at
  begun_own = ap (variables_in begun) number_word ∙ locals_fresh

-- main's row, from its kept part
main_working : (t : List ℕ) (table : is_table t ≡ true) (s : ℕ) (q : Parent) (x : Row) (environment : List Variable) → MainParent t q → x.used ≡ true → x.level ≡ 0 → x.child ≡ 0
    → x.place ≡ 0 → x.own ≡ replicate (routine_at (table_listing t) 0).locals (new_variable 0 0) → length environment ≡ environment_size (table_listing t)
    → working_row x q 0 false 0 (main_bindings t s) ≡ main_row (table_listing t) environment s
unfolding working_row main_row child_row environment_caller main_call
main_working t table s q x environment P u v w z o e =
    rw (u, v, w, z, o, P.slot, P.base, P.low, P.bits, e, main_owns t table)

module _ {t m₀ m₁ m₂ m₃ m₄ : List ℕ} {s count bits locals size : ℕ} {q : Parent} (table : is_table t ≡ true) (slot : s < 64) (O : Opened t 0 count bits locals size) (P : MainParent t q)
    (blank : InBlock s m₀ m₁ (cleared 0 144 (block m₀ s))) (kept : InBlock s m₁ m₂ (kept_block (block m₁ s) 0 0 locals))
    (w : InBlock s m₂ m₃ (working_block (block m₂ s) q 0 0 0)) (N : NamesBound m₃ s (main_bindings t s) m₄)
  where
    few : locals ≤ 16
    few = omega (arith, O.names)

    begun_block : block m₂ s ≡ kept_block (cleared 0 144 (block m₀ s)) 0 0 locals
    begun_block = kept.words ∙ ap (λ (b : Block). kept_block b 0 0 locals) blank.words

    R₂ : RowFilled m₂ s (working_row (rows_of m₂ s) q 0 (nonzero 0) 0 (main_bindings t s)) m₄
    R₂ = row_filled 0 0 0 q w N _ slot refl

    whole : InBlock s m₀ m₄ (block m₄ s)
    whole = changed_then (changed_then (subst (λ (b : Block). InBlock s m₀ m₁ b) (sym blank.words) blank) kept) R₂.in_block

    row_is : (environment : List Variable) → length environment ≡ environment_size (table_listing t) → rows_of m₄ s ≡ main_row (table_listing t) environment s
    unfolding nonzero
    row_is environment e =
        R₂.row ∙ (ap (λ (x : Row). working_row x q 0 false 0 (main_bindings t s)) (row_of m₂ s slot ∙ ap row_at begun_block)
        ∙ main_working t table s q (row_at (kept_block (cleared 0 144 (block m₀ s)) 0 0 locals)) environment P (begun_used (block m₀ s) locals few) (begun_level (block m₀ s) locals few)
        (begun_child (block m₀ s) locals few) (begun_place (block m₀ s) locals few)
        (begun_own (block m₀ s) locals few ∙ ap (λ (n : ℕ). replicate n (new_variable 0 0)) (sym O.own)) e)

    trigger_word : (k : ℕ) → 144 ≤ k → block m₄ s k ≡ block m₀ s k
    unfolding kept_block
    trigger_word k h =
        R₂.kept k (λ x y. omega arith) ∙ (ap (λ (b : Block). b k) begun_block
        ∙ (put_other _ 4 locals k (λ e. omega arith) ∙ (put_other _ 2 0 k (λ e. omega arith) ∙ (put_other _ 1 0 k (λ e. omega arith)
        ∙ (put_other _ 0 1 k (λ e. omega arith) ∙ cleared_above 0 144 (block m₀ s) k h)))))

    first_word : block m₂ s 0 ≡ 0 → ⊥
    unfolding kept_block put_in
    first_word e = let z : ◌≡◌ {A = ℕ} 1 0 = sym (ap (λ (b : Block). b 0) begun_block) ∙ e in omega arith

    pub main_made : MainIs t m₀ s (λ (environment : List Variable). main_row (table_listing t) environment s) m₄
    main_made =
        record {
          rows = λ environment e. rows_with_lem slot whole (row_is environment e);
          environment = environment_stays whole slot;
          outside = same_outside whole (omega arith);
          triggers = same_triggers whole trigger_word;
          clean = λ k T. slot_keeps_clean whole slot
              (filled_slot (block m₂ s) (block m₄ s) (λ j h. R₂.kept j (λ x y. omega arith)) first_word
              (subst (λ (b : Block). CleanSlot b) (sym begun_block) (begun_clean (block m₀ s) locals few))) T;
        }
