-- The writes before the run, one after the other, each with the pass along its trigger list: due writes block by block, then inputs.
-- Letters: a the words at first, m and m' before and after one write, s and i a variable's block and index, q₀, q and q' the ready list, t a moment above 0.
use mathlib.Core.Path.{◌≡◌, refl, sym, ap, ◌∙◌}
use mathlib.Core.Bool.{Bool, true, false}
use mathlib.Core.List.{List}
use Prim.Native.Nat.{ℕ, ◌+◌, ◌≤◌, ◌<◌, min}
use native.Mathlib.Decide.{dec_lt}
use native.Mathlib.Numerals.{add-one}
use native.Mathlib.Omega.{arith}
use lib.ListN.{length}
use borrow.Author.Tests.{lt-ltb}
use Rattle.walk.specs.State.{Variable, input_to, made_due}
use Rattle.engine_rows.specs.Rows.{Owner, Row, rows_with}
use Rattle.engine_rows.specs.Ready.{insert_all_lem}
use Rattle.engine_blocks.specs.Blocks.{Block, block, variable_in, owner_at, row_at, rows_of, environment_of}
use Rattle.engine_variables.specs.Bindings.{variables_beside}
use Rattle.engine_blocks.specs.Changes.{InBlock, Changes, due_block, overwritten_block}
use Rattle.engine_blocks.specs.Store.{Store, store_of, variable_from, with_variable}
use Rattle.engine_variables.proofs.Readings.{variable_of_lem, length_variables}
use Rattle.engine_blocks.proofs.RowChanges.{row_of}
use Rattle.engine_make_due.proofs.MadeBlocks.{due_variable}
use Rattle.engine_ready.specs.Ordered.{Ordered}
use Rattle.engine_ready.proofs.Distinct.{ordered_same_lows}
use Rattle.engine_ready.proofs.SameLows.{low_with_owner}
use Rattle.engine_triggers.specs.Chains.{triggers_at}
use Rattle.engine_wake.specs.Wakes.{triggered_from}
use Rattle.engine_due.specs.Passes.{due_first, due_slot, Mapped}
use Rattle.engine_due.specs.Reaching.{Reaches, reached_if, ReachesOne, Unwritten, NothingWritten}
use Rattle.engine_due.proofs.DueBlocks.{first_words_stay, later_variable}
use Rattle.engine_due.proofs.Turns.{no_variable_done, one_more_done, block_passed_over}
use Rattle.engine_due.proofs.Passing.{none_mapped, one_more_mapped}
use Rattle.engine_due.proofs.Reached.{reaches_one, reaches_none, reaches_then}

-- ── what one write leaves as it was ───────────────────────────────────────────────────────────────
-- the order of the ready list
pub order_kept : {s : ℕ} {m m' : List ℕ} {b : Block} (p : Owner) (f : Variable → Variable) (q : List ℕ) → Changes s m m' b (with_variable p f) →
    Ordered (rows_of m) q → Ordered (rows_of m') q
unfolding store_of with_variable
order_kept {m = m} {m' = m'} p f q C o =
    let x = f (variable_from (store_of 0 m) p) in
    let rows : rows_of m' ≡ rows_with (rows_of m) p x = ap (λ (z : Store). z.rows) (C.store 0) in
    rw rows (ordered_same_lows (rows_of m) (rows_with (rows_of m) p x) (low_with_owner (rows_of m) p x) q o)

-- how many variables are beside: of a slot its own, of the environment n
pub slot_length : (n : ℕ) (m : List ℕ) (s i : ℕ) → s < 64 → length (variables_beside (store_of n m) (owner_at s i)) ≡ min (block m s 4) 16
unfolding variables_beside store_of owner_at row_at
slot_length n m s i h =
    let e : length (variables_beside (store_of n m) (owner_at s i)) ≡ length (rows_of m s).own = rw (lt-ltb s 64 h) in
    e ∙ (ap (λ (r : Row). length r.own) (row_of m s h) ∙ length_variables (block m s) (block m s 4))

pub port_length : (n : ℕ) (m : List ℕ) (i : ℕ) → length (variables_beside (store_of n m) (owner_at 64 i)) ≡ min n 16
unfolding variables_beside store_of owner_at environment_of
port_length n m i = length_variables (block m 64) n

beside_length : (n : ℕ) (a m : List ℕ) (s i : ℕ) → s ≤ 64 → block m s 4 ≡ block a s 4 →
    length (variables_beside (store_of n m) (owner_at s i)) ≡ length (variables_beside (store_of n a) (owner_at s 0))
beside_length n a m s i h e = go (dec_lt s 64)
  where
    go : Dec (s < 64) → length (variables_beside (store_of n m) (owner_at s i)) ≡ length (variables_beside (store_of n a) (owner_at s 0))
    go (yes l) = slot_length n m s i l ∙ (ap (λ k. min k 16) e ∙ sym (slot_length n a s 0 l))
    go (no l) = let f : s ≡ 64 = omega (arith, h, l) in rw f (port_length n m i ∙ sym (port_length n a 0))

-- ── the pass, by the mark ─────────────────────────────────────────────────────────────────────────
module _ (m : List ℕ) (s i : ℕ) (q : List ℕ) where
  pub passed : (mark : Bool) (q' : List ℕ) → mark ≡ true → mark ≡ (variable_in (block m s) i).written →
      q' ≡ insert_all_lem (rows_of m) (triggered_from (rows_of m) 0 (triggers_at m s i)) q → Ordered (rows_of m) q' → ReachesOne m s i q q'
  unfolding reached_if
  passed mark q' on e f o = record { slots = rw (sym e ∙ on) f; order = o }

  pub not_passed : (mark : Bool) → mark ≡ false → mark ≡ (variable_in (block m s) i).written → Ordered (rows_of m) q → ReachesOne m s i q q
  unfolding reached_if
  not_passed mark off e o = record { slots = rw (sym e ∙ off); order = o }

-- ── due writes in one block ───────────────────────────────────────────────────────────────────────
pub record DueSoFar (s count t i : ℕ) (a m q₀ q : List ℕ) : Type 0 where
  pub words : InBlock s a m (due_first i t (block a s))
  pub order : Ordered (rows_of m) q
  pub reaches : (n : ℕ) → count ≤ length (variables_beside (store_of n a) (owner_at s 0)) → Unwritten count (block a s) → Reaches n a m q₀ q

pub none_due_yet : (s count t : ℕ) (m q : List ℕ) → Ordered (rows_of m) q → DueSoFar s count t 0 m m q q
none_due_yet s count t m q o = record { words = no_variable_done t m s; order = o; reaches = λ n h u. reaches_none n m q }

module _ (s count t i : ℕ) (low : s ≤ 64) (few : count ≤ 16) (pos : 0 < t) (l : i < count) {a m m' q₀ q q' : List ℕ} (done : DueSoFar s count t i a m q₀ q)
    (C : Changes s m m' (due_block i t (block m s)) (with_variable (owner_at s i) (λ x. made_due t x))) (O : ReachesOne m' s i q q') where
  due_reaches : (n : ℕ) → count ≤ length (variables_beside (store_of n a) (owner_at s 0)) → Unwritten count (block a s) → Reaches n m m' q q'
  due_reaches n long u =
      let four : block m s 4 ≡ block a s 4 = ap (λ (b : Block). b 4) done.words.words ∙ first_words_stay (block a s) t i 4 (omega arith) (omega arith) in
      let size = beside_length n a m s i low four in
      let inside : i < length (variables_beside (store_of n m) (owner_at s i)) = omega arith in
      let read = variable_of_lem m n s i low inside in
      let before : variable_in (block m s) i ≡ variable_in (block a s) i =
      ap (λ (b : Block). variable_in b i) done.words.words ∙ later_variable (block a s) t i i (omega arith) (omega arith) in
      let off : (variable_from (store_of n m) (owner_at s i)).written ≡ false = ap (λ (x : Variable). x.written) (read ∙ before) ∙ u.none i l in
      let then : variable_in (block m' s) i ≡ made_due t (variable_from (store_of n m) (owner_at s i)) =
      ap (λ (b : Block). variable_in b i) C.in_block.words ∙ (due_variable (block m s) i (omega arith) t pos ∙ ap (made_due t) (sym read)) in
      reaches_one n m m' s i (λ x. made_due t x) low (omega arith) (C.store n) C.triggers inside
      (λ on. absurd (let z : ◌≡◌ {A = Bool} true false = sym on ∙ off in let w : ◌≡◌ {A = ℕ} 0 1 = cc in let v : ⊥ = omega arith in v)) q q'
      (variable_in (block m' s) i).written (ap (λ (x : Variable). x.written) then) O.slots

  pub one_more_due : DueSoFar s count t (i + 1) a m' q₀ q'
  one_more_due = record {
    words = one_more_done t i done.words C.in_block;
    order = O.order;
    reaches = λ n h u. reaches_then (done.reaches n h u) (due_reaches n h u);
  }

-- ── due writes in all slots, and in the environment ───────────────────────────────────────────────
-- a slot's own variables, all of them
pub slot_reaches : (n s count : ℕ) {a m q₀ q : List ℕ} → s < 64 → count ≡ min (block a s 4) 16 →
    ((k : ℕ) → count ≤ length (variables_beside (store_of k a) (owner_at s 0)) → Unwritten count (block a s) → Reaches k a m q₀ q) →
    Unwritten (min (block a s 4) 16) (block a s) → Reaches n a m q₀ q
slot_reaches n s count {a} h e all u = let size = slot_length n a s 0 h in all n (omega arith) (rw e u)

pub record SlotsSoFar (t s : ℕ) (a m q₀ q : List ℕ) : Type 0 where
  pub words : Mapped s (due_slot t) a m
  pub order : Ordered (rows_of m) q
  pub reaches : (n : ℕ) → NothingWritten n a → Reaches n a m q₀ q

pub no_slot_yet : (t : ℕ) (m q : List ℕ) → Ordered (rows_of m) q → SlotsSoFar t 0 m m q q
no_slot_yet t m q o = record { words = none_mapped (due_slot t) m; order = o; reaches = λ n N. reaches_none n m q }

pub one_more_slot : (t s : ℕ) {a m m' q₀ q q' : List ℕ} → s < 64 → SlotsSoFar t s a m q₀ q → InBlock s m m' (due_slot t (block m s)) → Ordered (rows_of m') q' →
    ((n : ℕ) → Unwritten (min (block m s 4) 16) (block m s) → Reaches n m m' q q') → SlotsSoFar t (s + 1) a m' q₀ q'
one_more_slot t s {a} {m} {m'} h done next o one = record {
  words = rw add-one (one_more_mapped (due_slot t) a m m' s h done.words next);
  order = o;
  reaches = λ n N. reaches_then (done.reaches n N) (one n (rw (done.words.others s (omega arith) (omega arith)) (N.slots s h)));
}

-- What is known of a block at first is known when its turn comes.
pub slot_told : (t s : ℕ) {a m : List ℕ} {known : Type 0} → Mapped s (due_slot t) a m → s < 64 → (known → due_slot t (block a s) ≡ block a s) →
    known → due_slot t (block m s) ≡ block m s
slot_told t s M h told k = rw (M.others s (omega arith) (omega arith)) (told k)

pub environment_told : (n t : ℕ) {a m : List ℕ} → Mapped 64 (due_slot t) a m → due_first n t (block a 64) ≡ block a 64 → InBlock 64 m m (due_first n t (block m 64))
environment_told n t {a} {m} M told =
    block_passed_over m 64 _ (rw (M.others 64 (omega arith) (omega arith)) told)

pub all_reach : (n t : ℕ) {a m m' q₀ q q' : List ℕ} → n ≤ 16 → Mapped 64 (due_slot t) a m → ((k : ℕ) → NothingWritten k a → Reaches k a m q₀ q) →
    ((k : ℕ) → n ≤ length (variables_beside (store_of k m) (owner_at 64 0)) → Unwritten n (block m 64) → Reaches k m m' q q') → NothingWritten n a → Reaches n a m' q₀ q'
all_reach n t {m = m} few slots first outer N =
    let size = port_length n m 0 in
    reaches_then (first n N) (outer n (omega arith) (rw (slots.others 64 (omega arith) (omega arith)) N.environment))

-- ── an input ──────────────────────────────────────────────────────────────────────────────────────
input_marks : (moment : ℕ) (x : Variable) (v : ℕ) → (input_to moment x v).written ≡ true
unfolding input_to
input_marks moment x v = refl

pub input_reaches : (n i v : ℕ) {m m' q q' : List ℕ} → i < 16 → i < n →
    ((moment : ℕ) → Changes 64 m m' (overwritten_block i v (block m 64)) (with_variable (owner_at 64 i) (λ x. input_to moment x v))) →
    q' ≡ insert_all_lem (rows_of m') (triggered_from (rows_of m') 0 (triggers_at m' 64 i)) q → Reaches n m m' q q'
unfolding reached_if
input_reaches n i v {m} {m'} {q} {q'} few l C e =
    let size = port_length n m i in
    let x = variable_from (store_of n m) (owner_at 64 i) in
    reaches_one n m m' 64 i (λ x. input_to 0 x v) (omega arith) few ((C 0).store n) (C 0).triggers (omega arith) (λ on. input_marks 0 x v) q q' true
    (sym (input_marks 0 x v)) e
