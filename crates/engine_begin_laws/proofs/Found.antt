-- What question 7 lets pass: words that are read as a running state hold what is kept of the state's routines, and nothing else.
-- Letters: t the table's words, words the machine's, w the first 12,288 of them, s the state, k a place in the walking order, q a slot.
use mathlib.Core.Path.{◌≡◌, refl, sym, ap, subst, ◌∙◌}
use mathlib.Core.Bool.{Bool, true, false}
use mathlib.Core.List.{List, [], ◌∷◌}
use mathlib.Core.Option.{some}
use Prim.Native.Nat.{ℕ, zero, suc, ◌+◌, ◌-◌, ◌≤◌, ◌<◌}
use native.Mathlib.Decide.{dec_lt}
use native.Mathlib.Omega.{arith}
use lib.ListN.{length, get_or, take, length-take, get_or-eq_default}
use lib.Seq.{ext_get_or, get_or-take}
use borrow.Author.Tests.{le-ltb}
use Rattle.listing.specs.Listing.{Listing}
use Rattle.walk.specs.State.{State, live_in_forest}
use Rattle.walk.specs.Instant.{environment_size}
use Rattle.walk.specs.Question7.{IsState, all_at_rest}
use Rattle.walk.specs.Calls.{Words32, running}
use Rattle.machine.specs.Records.{Record, records_of}
use Rattle.machine.specs.Words.{slot_of}
use Rattle.machine.specs.Layout.{variables_words, header_words, record_words, environment_words, no_record, SlotsFor}
use Rattle.machine.specs.Layout as layout
use Rattle.machine.specs.Limits.{WithinLimits}
use Rattle.machine.specs.ReadMachine.{read_machine}
use Rattle.machine.proofs.HeldWordsPass.{get_or-nil, Found, found, missing, find, RecordsRest}
use Rattle.machine.proofs.RecordsExact.{record_count}
use Rattle.machine.proofs.StateRecords.{plain_rests, state_records_plain}
use Rattle.machine.proofs.MachineWords.{LaidOut, read_is_laid_out}
use Rattle.engine_rows.specs.Rows.{Row, choose_row, free_row}
use Rattle.engine_rows.specs.Records.{Kept, kept_in, kept_of}
use Rattle.engine_rows.proofs.Sorted.{In}
use Rattle.engine_rows.proofs.Folding.{Distinct, distinct_nil, distinct_put}
use Rattle.engine_rows.proofs.CallOnRows.{Keeps}
use Rattle.engine_blocks.specs.Tabulate.{tabulate_from}
use Rattle.engine_blocks.specs.Blocks.{block, nonzero, row_at, rows_of, environment_of}
use Rattle.engine_blocks.proofs.RowChanges.{row_of}
use Rattle.engine_blocks.proofs.Tabulated.{get_d_tabulate, length_tabulate}
use Rattle.engine_triggers.specs.Chains.{NoTriggers}
use Rattle.engine_fill_row.specs.Filling.{order_of}
use Rattle.engine_finish.proofs.EndedIsRead.{first_block}
use Rattle.engine_finish.proofs.KeptRecords.{to_record, to_records, forest_records, row_record, kept_length, kept_at, slot_in, place_of}
use Rattle.engine_queue.proofs.Queueing.{Rests}
use Rattle.engine_begin_laws.proofs.LaidBlocks.{Laid, no_working_words, laid_rests, variables_back}

-- ── lists of slots and records ────────────────────────────────────────────────────────────────────
distinct_of : (l : List ℕ) → ((i k : ℕ) → i < length l → k < length l → get_or l i 0 ≡ get_or l k 0 → i ≡ k) → Distinct l
distinct_of [] h = distinct_nil
distinct_of (x ∷ l) h =
    distinct_put
    (λ i. let p = place_of l i in
    let z : suc p.place ≡ 0 = h (suc p.place) 0 (omega (arith, p.within)) (omega arith) p.is in omega arith)
    (distinct_of l (λ i k a b e. let z : suc i ≡ suc k = h (suc i) (suc k) (omega arith) (omega arith) e in omega arith))

unfoldable from_records : List Record → List Kept
from_records [] = []
from_records (x ∷ xs) = record { level = x.level; child = x.child; place = x.place; own = x.own } ∷ from_records xs

from_to : (xs : List Kept) → from_records (to_records xs) ≡ xs
unfolding from_records to_records to_record
from_to [] = refl
from_to (x ∷ xs) = ap (λ (l : List Kept). x ∷ l) (from_to xs)

same_records : (xs ys : List Kept) → to_records xs ≡ to_records ys → xs ≡ ys
same_records xs ys e = sym (from_to xs) ∙ (ap from_records e ∙ from_to ys)

small_part : (n : ℕ) (words : List ℕ) → Words32 words → Words32 (take n words)
small_part n words small k = go (dec_lt k n)
  where
    go : Dec (k < n) → get_or (take n words) k 0 < 4294967296
    go (yes h) = rw (get_or-take n words k 0 h) (small k)
    go (no h) =
        let l = length-take n words in
        let past : length (take n words) ≤ k = omega arith in
        rw (get_or-eq_default (take n words) 0 {n = k} past) (omega arith)

-- ── blocks ────────────────────────────────────────────────────────────────────────────────────────
nonzero_suc : (n k : ℕ) → n ≡ suc k → nonzero n ≡ true
unfolding nonzero
nonzero_suc n k e = rw e

nonzero_none : (n : ℕ) → n ≡ 0 → nonzero n ≡ true → ⊥
unfolding nonzero
nonzero_none n e h = let f : nonzero 0 ≡ true = rw e at h in let z : ◌≡◌ {A = ℕ} 0 1 = cc in omega arith

-- no row past slot 63
pub no_row : (words : List ℕ) (q : ℕ) → 64 ≤ q → rows_of words q ≡ free_row
unfolding rows_of choose_row
no_row words q h = rw (le-ltb q 64 h)

pub false_not : {A : Type 0} → false ≡ true → A
false_not e = let z : ◌≡◌ {A = ℕ} 0 1 = cc in absurd (omega arith)

-- a row in use, or marked, is in one of the slots
row_small : (words : List ℕ) (q : ℕ) (field : Row → Bool) → field free_row ≡ false → field (rows_of words q) ≡ true → q < 64
row_small words q field none e = go (dec_lt q 64)
  where
    go : Dec (q < 64) → q < 64
    go (yes h) = h
    go (no h) = false_not (sym (ap field (no_row words q (omega arith)) ∙ none) ∙ e)

module _ (listing : Listing) (L : WithinLimits listing) (words : List ℕ) (small : Words32 words) (s : State)
    (e : read_machine listing (take 12288 words) ≡ some (running s)) where
  w : List ℕ
  w = take 12288 words

  laid : LaidOut listing w s
  unfolding w
  laid = read_is_laid_out listing w s (small_part 12288 words small) e

  pub found_state : IsState listing s
  found_state = laid.state

  xs : List Record
  xs = records_of found_state.tree 0

  rests : RecordsRest s.now xs
  unfolding xs
  rests = plain_rests s.now (records_of found_state.tree 0) (state_records_plain listing L s found_state)

  slots : List ℕ
  slots = laid.slots

  abbrev H : Type 0
  H = layout.Holds w slots s.now s.environment xs

  holds : H
  unfolding xs slots found_state
  holds = laid.holds

  apart : SlotsFor slots xs
  unfolding xs slots found_state
  apart = laid.distinct

  -- the words before the blocks
  header_word : (j : ℕ) → j < 328 → get_or words j 0 ≡ get_or w j 0
  unfolding w
  header_word j h = sym (get_or-take 12288 words j 0 (omega arith))

  count : get_or words 3 0 ≡ length xs
  unfolding header_words
  count = header_word 3 (omega arith) ∙ holds.header 3 (omega arith)

  pub found_live : get_or words 3 0 ≡ live_in_forest s.tree
  unfolding xs
  found_live = count ∙ record_count found_state.tree 0

  pub found_few : get_or words 3 0 ≤ 64
  found_few = rw found_live found_state.few

  order : order_of words ≡ slots
  unfolding order_of
  order =
      let n = length_tabulate 0 (get_or words 3 0) (slot_of words) in
      let size = apart.size in
      let few = found_few in
      ext_get_or 0 (tabulate_from 0 (get_or words 3 0) (slot_of words)) slots (n ∙ (count ∙ sym size))
      (λ k h. let l : k < get_or words 3 0 = omega arith in
      get_d_tabulate (get_or words 3 0) (slot_of words) k 0 l ∙ (header_word (64 + k) (omega arith) ∙ holds.order k (omega arith)))

  -- ── each block ──────────────────────────────────────────────────────────────────────────────────
  slot_below : (k : ℕ) → k < length xs → get_or slots k 0 < 64
  slot_below k h = apart.below k h

  used_block : (k : ℕ) → k < length xs →
      Laid s.now (block words (get_or slots k 0)) (suc k) (get_or xs k no_record).level (get_or xs k no_record).child (get_or xs k no_record).place
      (length (get_or xs k no_record).own) (get_or xs k no_record).own
  unfolding record_words w
  used_block k h = record {
    few = rests.few k h;
    rest = rests.resting k h;
    words = λ j l. let b = slot_below k h in sym (first_block words (get_or slots k 0) j (omega arith) l) ∙ holds.used k h j l;
  }

  free_words : (j : ℕ) → get_or {A = ℕ} [] j 0 ≡ get_or (0 ∷ 0 ∷ 0 ∷ 0 ∷ 0 ∷ 0 ∷ 0 ∷ 0 ∷ variables_words []) j 0
  unfolding variables_words
  free_words zero = refl
  free_words (suc zero) = refl
  free_words (suc (suc zero)) = refl
  free_words (suc (suc (suc zero))) = refl
  free_words (suc (suc (suc (suc zero)))) = refl
  free_words (suc (suc (suc (suc (suc zero))))) = refl
  free_words (suc (suc (suc (suc (suc (suc zero)))))) = refl
  free_words (suc (suc (suc (suc (suc (suc (suc zero))))))) = refl
  free_words (suc (suc (suc (suc (suc (suc (suc (suc j)))))))) = get_or-nil (suc (suc (suc (suc (suc (suc (suc (suc j)))))))) ∙ sym (get_or-nil j)

  abbrev Missing : ℕ → Type 0
  Missing q = (k : ℕ) → k < length xs → get_or slots k 0 ≡ q → ⊥

  zero_block_lem : (q : ℕ) → q < 64 → Missing q → (j : ℕ) → j < 184 → block words q j ≡ 0
  unfolding w
  zero_block_lem q h none j l = sym (first_block words q j (omega arith) l) ∙ (holds.free q h none j l ∙ get_or-nil j)

  free_block : (q : ℕ) → q < 64 → Missing q → Laid s.now (block words q) 0 0 0 0 0 []
  unfolding all_at_rest
  free_block q h none = record {
    few = omega arith;
    rest = refl;
    words = λ j l. zero_block_lem q h none j l ∙ (sym (get_or-nil j) ∙ free_words j);
  }

  outer_block : Laid s.now (block words 64) 0 0 0 0 0 s.environment
  unfolding environment_words w
  outer_block = record {
    few = rw found_state.size L.ports;
    rest = found_state.resting;
    words = λ j l. sym (first_block words 64 j (omega arith) l) ∙ holds.outer j l;
  }

  -- ── what the rows keep ──────────────────────────────────────────────────────────────────────────
  row_kept : (k : ℕ) → k < length xs → row_record (rows_of words (get_or slots k 0)) ≡ get_or xs k no_record
  unfolding row_record row_at
  row_kept k h =
      let B = used_block k h in
      let x = get_or xs k no_record in
      rw (row_of words (get_or slots k 0) (slot_below k h), B.words 1 (omega arith), B.words 2 (omega arith), B.words 3 (omega arith), B.words 4 (omega arith), variables_back B)

  kept : kept_in (rows_of words) slots ≡ kept_of found_state.tree 0
  unfolding xs
  kept = same_records (kept_in (rows_of words) slots) (kept_of found_state.tree 0)
      (ext_get_or no_record (to_records (kept_in (rows_of words) slots)) xs (kept_length (rows_of words) slots ∙ apart.size)
      (λ k h. let l : k < length slots = rw (kept_length (rows_of words) slots) at h in
      kept_at (rows_of words) slots k l ∙ row_kept k (rw apart.size at l))
      ∙ forest_records found_state.tree 0)

  row_used : (k : ℕ) → k < length xs → (rows_of words (get_or slots k 0)).used ≡ true
  unfolding row_at
  row_used k h = ap (λ (r : Row). r.used) (row_of words (get_or slots k 0) (slot_below k h)) ∙ nonzero_suc _ k ((used_block k h).words 0 (omega arith))

  -- a slot's block, taken or free
  pub record SlotFound (q : ℕ) : Type 0 where
    pub rests : Rests (block words q 4) (block words q)
    pub free : block words q 0 ≡ 0 → (k : ℕ) → k < 184 → block words q k ≡ 0
    pub working : (k : ℕ) → 104 ≤ k → k < 184 → block words q k ≡ 0

  pub slot_found : (q : ℕ) → q < 64 → SlotFound q
  slot_found q h = go (find slots (length xs) q)
    where
      go : Found slots (length xs) q → SlotFound q
      go (found k l f) =
          let B = used_block k l in
          let one = B.words 0 (omega arith) in
          let four = B.words 4 (omega arith) in
          subst SlotFound f (record {
            rests = rw four (laid_rests B);
            free = λ z. absurd (let y : ⊥ = omega arith in y);
            working = no_working_words B;
          })
      go (missing none) =
          let B = free_block q h none in
          let four = B.words 4 (omega arith) in
          record {
            rests = rw four (laid_rests B);
            free = λ z k l. zero_block_lem q h none k l;
            working = no_working_words B;
          }

  pub outer_rests : Rests (environment_size listing) (block words 64)
  outer_rests = rw (← found_state.size) (laid_rests outer_block)

  pub outer_before : (k : ℕ) → k < 8 → block words 64 k ≡ 0
  outer_before zero h = outer_block.words 0 (omega arith)
  outer_before (suc zero) h = outer_block.words 1 (omega arith)
  outer_before (suc (suc zero)) h = outer_block.words 2 (omega arith)
  outer_before (suc (suc (suc zero))) h = outer_block.words 3 (omega arith)
  outer_before (suc (suc (suc (suc zero)))) h = outer_block.words 4 (omega arith)
  outer_before (suc (suc (suc (suc (suc zero))))) h = outer_block.words 5 (omega arith)
  outer_before (suc (suc (suc (suc (suc (suc zero)))))) h = outer_block.words 6 (omega arith)
  outer_before (suc (suc (suc (suc (suc (suc (suc zero))))))) h = outer_block.words 7 (omega arith)
  outer_before (suc (suc (suc (suc (suc (suc (suc (suc k)))))))) h = absurd (let z : ⊥ = omega arith in z)

  pub found_environment : environment_of (environment_size listing) words ≡ s.environment
  unfolding environment_of
  found_environment = rw (← found_state.size) (variables_back outer_block)

  pub found_no_triggers : NoTriggers words
  found_no_triggers = record { none = λ q i h l. go q i l (dec_lt q 64) h }
    where
      go : (q i : ℕ) → i < 16 → Dec (q < 64) → q ≤ 64 → block words q (144 + i) ≡ 0
      go q i l (yes small) h = (slot_found q small).working (144 + i) (omega arith) (omega arith)
      go q i l (no big) h =
          let f : q ≡ 64 = omega arith in
          rw f (no_working_words outer_block (144 + i) (omega arith) (omega arith))

  -- ── what scheduler's beginning of a call asks ───────────────────────────────────────────────────
  used_in : (q : ℕ) → (rows_of words q).used ≡ true → In q slots
  unfolding free_row row_at
  used_in q u = go (find slots (length xs) q)
    where
      small_slot : q < 64
      small_slot = row_small words q (λ (r : Row). r.used) refl u

      go : Found slots (length xs) q → In q slots
      go (found k l f) = subst (λ z. In z slots) f (slot_in slots k (rw (← apart.size) at l))
      go (missing none) =
          absurd (nonzero_none (block words q 0) (zero_block_lem q small_slot none 0 (omega arith))
          (sym (ap (λ (r : Row). r.used) (row_of words q small_slot)) ∙ u))

  nobody_marked : (q : ℕ) → (rows_of words q).asleep ≡ true → In q slots
  unfolding free_row row_at
  nobody_marked q u =
      let h = row_small words q (λ (r : Row). r.asleep) refl u in
      absurd (nonzero_none (block words q 104) ((slot_found q h).working 104 (omega arith) (omega arith))
      (sym (ap (λ (r : Row). r.asleep) (row_of words q h)) ∙ u))

  in_small : (q : ℕ) → In q slots → q < 64
  in_small q i = let p = place_of slots i in rw (← p.is) (apart.below p.place (rw apart.size at p.within))

  in_used : (q : ℕ) → In q slots → (rows_of words q).used ≡ true
  in_used q i = let p = place_of slots i in
      subst (λ z. (rows_of words z).used ≡ true) p.is (row_used p.place (rw apart.size at p.within))

  keeps : Keeps listing (rows_of words) slots s found_state
  keeps = record {
    kept = kept;
    distinct = distinct_of slots (λ i k a b f. apart.distinct i k (rw apart.size at a) (rw apart.size at b) f);
    small = in_small;
    whole = used_in;
    unmarked = nobody_marked;
  }

  pub found_keeps : Keeps listing (rows_of words) (order_of words) s found_state
  found_keeps = rw order keeps

  pub found_used : (q : ℕ) → In q (order_of words) → (rows_of words q).used ≡ true
  found_used = rw order in_used
