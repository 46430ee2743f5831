-- What the end of an instant leaves is read, at the next call, as the state that the rows held.
-- Letters: s the state, σ the rows at the end of the run, n the number of environment variables.
use mathlib.Core.Path.{◌≡◌, refl, sym, ap, subst, ◌∙◌}
use mathlib.Core.Bool.{Bool, true, false, cond}
use mathlib.Core.List.{List, []}
use mathlib.Core.Option.{some}
use Prim.Native.Nat.{ℕ, zero, suc, ◌+◌, ◌≤◌, ◌<◌}
use native.Mathlib.Omega.{arith}
use lib.Dec.{ltb}
use lib.ListN.{length, get_or, take}
use lib.Seq.{get_or-take}
use Rattle.listing.specs.Listing.{Listing}
use Rattle.walk.specs.State.{Variable, State}
use Rattle.walk.specs.Instant.{unmarked}
use Rattle.walk.specs.Calls.{Words32, running}
use Rattle.walk.specs.Question7.{IsState}
use Rattle.engine_rows.specs.Rows.{Rows, with_own}
use Rattle.engine_rows.specs.Beginning.{own_if, unmarked_rows}
use Rattle.engine_rows.specs.Order.{walking_order}
use Rattle.engine_rows.specs.Records.{kept_in, kept_of}
use Rattle.engine_rows.proofs.Sorted.{In}
use Rattle.engine_rows.proofs.Folding.{Distinct}
use Rattle.engine_rows.proofs.Holds as rows-hold
use Rattle.engine_rows.proofs.CallEnd.{Left, left_by_rows}
use Rattle.machine.specs.Records.{Record, records_of}
use Rattle.machine.specs.Words.{block_at, environment_block}
use Rattle.machine.specs.Layout.{record_words, environment_words, header_words, Reads, no_record, SlotsFor, Holds}
use Rattle.machine.specs.Limits.{WithinLimits}
use Rattle.machine.specs.ReadMachine.{read_machine}
use Rattle.machine.proofs.MachineWords.{held_words_are_read}
use Rattle.engine_blocks.specs.Tabulate.{tabulate_from}
use Rattle.engine_blocks.specs.Blocks.{Block, block, nonzero, variables_in, row_at, rows_of, environment_of}
use Rattle.engine_blocks.proofs.InBlocks.{block_word}
use Rattle.engine_blocks.proofs.RowChanges.{row_of}
use Rattle.engine_clean.specs.Clean.{CleanSlot, Clean}
use Rattle.engine_finish.specs.Ended.{Ended}
use Rattle.engine_finish.proofs.RestingBlocks.{record_of, record_words_lem, environment_words_lem, free_words}
use Rattle.engine_finish.proofs.KeptRecords.{row_record, records_length, record_at_lem, walking_order_unmarked, slot_in, PlaceOf, place_of, distinct_places}

narrow_block : (w : List ℕ) → Words32 w → (s k : ℕ) → block w s k < 4294967296
unfolding block
narrow_block w small s k = go (ltb k 184)
  where
    go : (x : Bool) → cond x (get_or w (block_at s + k) 0) 0 < 4294967296
    go true = small (block_at s + k)
    go false = omega arith

-- The words of a block among the first 12,288.
pub first_block : (w : List ℕ) (s j : ℕ) → s ≤ 64 → j < 184 → get_or (take 12288 w) (block_at s + j) 0 ≡ block w s j
first_block w s j h l = get_or-take 12288 w (block_at s + j) 0 (omega arith) ∙ sym (block_word w s j l)

nil_word : (j : ℕ) → get_or {A = ℕ} [] j 0 ≡ 0
nil_word zero = refl
nil_word (suc j) = refl

no_variables : (b : Block) → unmarked (variables_in b 0) ≡ variables_in b 0
unfolding unmarked variables_in tabulate_from
no_variables b = refl

pub zero_of : (n : ℕ) → nonzero n ≡ false → n ≡ 0
unfolding nonzero
zero_of zero e = refl
zero_of (suc n) e = cc

-- A free slot's own variables are none, so that unmarking them changes nothing.
own_unmarked : (b : Block) → CleanSlot b → own_if (nonzero (b 0)) (unmarked (variables_in b (b 4))) (variables_in b (b 4)) ≡ unmarked (variables_in b (b 4))
unfolding own_if
own_unmarked b t = go (nonzero (b 0)) refl
  where
    none : unmarked (variables_in b 0) ≡ variables_in b 0
    none = no_variables b

    go : (x : Bool) → nonzero (b 0) ≡ x → own_if x (unmarked (variables_in b (b 4))) (variables_in b (b 4)) ≡ unmarked (variables_in b (b 4))
    go true e = refl
    go false e =
        let z : b 4 ≡ 0 = t.free (zero_of (b 0) e) 4 (omega arith) in
        ap (variables_in b) z ∙ (sym none ∙ ap (λ (c : ℕ). unmarked (variables_in b c)) (sym z))

module _ (before : List ℕ) (n : ℕ) (clean : Clean n before) where
  row_record_lem : (s : ℕ) → s < 64 → row_record (unmarked_rows (rows_of before) s) ≡ record_of (block before s)
  unfolding row_record unmarked_rows with_own record_of row_at
  row_record_lem s h =
      rw (row_of before s h)
      (ap (λ (xs : List Variable). record { level = block before s 1; child = block before s 2; place = block before s 3; own = xs }) (own_unmarked (block before s) (clean.slots s h)))

  used_row : (s : ℕ) → s < 64 → nonzero (block before s 0) ≡ true → (unmarked_rows (rows_of before) s).used ≡ true
  unfolding unmarked_rows with_own row_at
  used_row s h e = rw (row_of before s h) e

module _ (listing : Listing) (L : WithinLimits listing) (n : ℕ) (before after : List ℕ) (small : Words32 before) (clean : Clean n before) (s : State)
    (H : rows-hold.Holds false listing (unmarked_rows (rows_of before)) (unmarked (environment_of n before)) s) (I : IsState listing s)
    (E : Ended s.now (walking_order (rows_of before)) before after) where
  abbrev σ : Rows
  σ = unmarked_rows (rows_of before)

  abbrev order : List ℕ
  order = walking_order (rows_of before)

  left : Left listing σ s
  left = left_by_rows listing σ (unmarked (environment_of n before)) s false H I

  same_order : walking_order σ ≡ order
  same_order = walking_order_unmarked (rows_of before)

  -- The state's condition, with the tree as the rows give it.
  abbrev state : IsState listing s
  state = record { moment = I.moment; size = I.size; resting = I.resting; tree = left.children; few = I.few }

  abbrev xs : List Record
  xs = records_of left.children 0

  kept : kept_in σ order ≡ kept_of left.children 0
  kept = ap (kept_in σ) (sym same_order) ∙ left.kept

  many : length xs ≡ length order
  many = records_length left.children σ order kept

  slot_small : (k : ℕ) → k < length order → get_or order k 0 < 64
  slot_small k l = left.small (get_or order k 0) (subst (λ (q : List ℕ). In (get_or order k 0) q) (sym same_order) (slot_in order k l))

  slots_for : SlotsFor order xs
  slots_for =
      record {
        size = sym many;
        below = λ k l. slot_small k (omega (arith, many, l));
        distinct = λ i k a b e. distinct_places order (subst Distinct same_order left.distinct) i k (omega (arith, many, a)) (omega (arith, many, b)) e;
      }

  is_free : (q : ℕ) → q < 64 → ((k : ℕ) → k < length xs → get_or order k 0 ≡ q → ⊥) → block before q 0 ≡ 0
  is_free q l none = go (nonzero (block before q 0)) refl
    where
      go : (x : Bool) → nonzero (block before q 0) ≡ x → block before q 0 ≡ 0
      go true e =
          let p : PlaceOf q order =
          place_of order (subst (λ (z : List ℕ). In q z) (sym (rows-hold.holds_order H) ∙ same_order) (H.whole q (used_row before n clean q l e))) in
          absurd (none p.place (omega (arith, many, p.within)) p.is)
      go false e = zero_of (block before q 0) e

  used_words : (k : ℕ) → k < length order → Reads (take 12288 after) (block_at (get_or order k 0)) 184 (record_words (suc k) (get_or xs k no_record))
  used_words k l j g =
      let q : ℕ = get_or order k 0 in
      let h : q < 64 = slot_small k l in
      first_block after q j (omega (arith, h)) g
      ∙ (ap (λ (b : Block). b j) (E.used k l)
      ∙ (record_words_lem (block before q) (suc k) (clean.slots q h).clean (narrow_block before small q) j g
      ∙ ap (λ (x : Record). get_or (record_words (suc k) x) j 0) (sym (record_at_lem left.children σ order kept k l ∙ row_record_lem before n clean q h))))

  outer_words : Reads (take 12288 after) environment_block 184 (environment_words s.environment)
  unfolding environment_of
  outer_words j g =
      first_block after 64 j (omega arith) g
      ∙ (ap (λ (b : Block). b j) E.outer
      ∙ (environment_words_lem (block before 64) n clean.environment (narrow_block before small 64) j g
      ∙ ap (λ (e : List Variable). get_or (environment_words e) j 0) H.environment_is))

  ended_holds : Holds (take 12288 after) order s.now s.environment xs
  ended_holds =
      record {
        header = λ j l. first_word j l ∙ (E.header j l ∙ ap (λ (c : ℕ). get_or (header_words s.now c) j 0) (sym many));
        order = λ j l. get_or-take 12288 after (64 + j) 0 (omega arith) ∙ E.listed j l;
        used = λ k l. used_words k (omega (arith, many, l));
        free = λ q l none j g.
            first_block after q j (omega arith) g
            ∙ (ap (λ (b : Block). b j) (E.free q l (λ k m e. none k (omega (arith, many, m)) e))
            ∙ (free_words (block before q) (clean.slots q l) (is_free q l none) j g ∙ sym (nil_word j)));
        outer = outer_words;
      }
    where
      first_word : (j : ℕ) → j < 64 → get_or (take 12288 after) (0 + j) 0 ≡ get_or after j 0
      first_word j l = let e : 0 + j ≡ j = omega arith in rw e (get_or-take 12288 after j 0 (omega arith))

  -- The memory that a call leaves passes question 7 as the state that it reached.
  pub ended_is_read : read_machine listing (take 12288 after) ≡ some (running s)
  ended_is_read = held_words_are_read listing L s state (take 12288 after) order slots_for ended_holds
