-- One write, and the pass along the trigger list of its variable: the ready list goes on to hold just those who wait on what is written.
-- Letters: m and m' the words before and after the write, s and i the variable's block and index, p its owner, x the variable then, q and q' the ready list.
use mathlib.Core.Path.{◌≡◌, refl, sym, ap, subst, ◌∙◌}
use mathlib.Core.Bool.{Bool, true, false}
use mathlib.Core.List.{List, [], ◌∷◌, ◌++◌}
use Prim.Native.Nat.{ℕ, ◌≤◌, ◌<◌}
use native.Mathlib.Decide.{dec_lt}
use native.Mathlib.Omega.{arith}
use lib.ListN.{length, set}
use lib.Seq.{get_or-set_same}
use borrow.Author.Tests.{lt-ltb, le-ltb}
use Rattle.listing.specs.Listing.{Listing}
use Rattle.walk.specs.State.{Variable, no_variable}
use Rattle.walk.specs.Memory.{variable_at}
use Rattle.engine_rows.specs.Ready.{insert, insert_all_lem}
use Rattle.engine_rows.specs.Rows.{Owner, in_environment, in_slot, Row, Rows, free_row, with_own, variable_of, rows_with, environment_with}
use Rattle.engine_rows.specs.Triggers.{wakes_now, triggers_of}
use Rattle.engine_rows.proofs.Sorted.{In, in_left, in_right, in_cases, Either, this, that}
use Rattle.engine_rows.proofs.Waking.{row_awaits}
use Rattle.engine_blocks.specs.Blocks.{owner_at, rows_of, environment_of}
use Rattle.engine_variables.specs.Bindings.{variables_beside}
use Rattle.engine_blocks.specs.Changes.{SameTriggers}
use Rattle.engine_blocks.specs.Store.{Store, store_of, variable_from, with_variable}
use Rattle.engine_blocks.proofs.RowChanges.{row_past, with_row_same}
use Rattle.engine_ready.proofs.SameLows.{insert_all_same_lows, low_with_owner}
use Rattle.engine_triggers.specs.Chains.{triggers_at}
use Rattle.engine_wake.specs.Wakes.{triggered_from}
use Rattle.engine_triggers.proofs.Chaining.{lists_stay}
use Rattle.engine_wake.proofs.Waking.{all_only, all_in}
use Rattle.engine_due.specs.Reaching.{ReadySoFar, Reaches, reached_if}
use Rattle.engine_rows.proofs.Marking.{triggers_only, triggers_in, triggers_same, asleep_same, wakes_kept, wakes_marked, wakes_cases}

not_both : {A : Type 0} {b : Bool} → b ≡ true → b ≡ false → A
not_both e f = let z : ◌≡◌ {A = Bool} true false = sym e ∙ f in let w : ◌≡◌ {A = ℕ} 0 1 = cc in absurd (omega arith)

insert_append : (rows : Rows) (a b l : List ℕ) → insert_all_lem rows (a ++ b) l ≡ insert_all_lem rows b (insert_all_lem rows a l)
unfolding insert_all_lem
insert_append rows [] b l = refl
insert_append rows (s ∷ a) b l = insert_append rows a b (insert rows s l)

-- a variable that is there is read back
read_back : (store : Store) (p : Owner) (x : Variable) (i : ℕ) → p ≡ in_environment i → i < length store.environment →
    variable_of (rows_with store.rows p x) (environment_with p store.environment x) p ≡ x
unfolding variable_of environment_with variable_at
read_back store p x i e h = rw e (get_or-set_same store.environment i x no_variable h)

read_back_slot : (store : Store) (p : Owner) (x : Variable) (s i : ℕ) → p ≡ in_slot s i → i < length (store.rows s).own →
    variable_of (rows_with store.rows p x) (environment_with p store.environment x) p ≡ x
unfolding variable_of rows_with variable_at with_own
read_back_slot store p x s i e h =
    rw (e, with_row_same store.rows s (with_own (store.rows s) (set (store.rows s).own i x))) (get_or-set_same (store.rows s).own i x no_variable h)

module _ (store : Store) (s i : ℕ) (low : s ≤ 64) (inside : i < length (variables_beside store (owner_at s i))) (x : Variable) where
  back : variable_of (rows_with store.rows (owner_at s i) x) (environment_with (owner_at s i) store.environment x) (owner_at s i) ≡ x
  unfolding variables_beside owner_at
  back = go (dec_lt s 64)
    where
      go : Dec (s < 64) → variable_of (rows_with store.rows (owner_at s i) x) (environment_with (owner_at s i) store.environment x) (owner_at s i) ≡ x
      go (yes h) = read_back_slot store (owner_at s i) x s i (rw (lt-ltb s 64 h)) (rw (lt-ltb s 64 h) at inside)
      go (no h) =
          let f : 64 ≤ s = omega arith in
          read_back store (owner_at s i) x i (rw (le-ltb s 64 f)) (rw (le-ltb s 64 f) at inside)

-- ── one write ─────────────────────────────────────────────────────────────────────────────────────
module _ (n : ℕ) (m m' : List ℕ) (s i : ℕ) (f : Variable → Variable) (low : s ≤ 64) (few : i < 16)
    (change : store_of n m' ≡ with_variable (owner_at s i) f (store_of n m)) (T : SameTriggers m m')
    (inside : i < length (variables_beside (store_of n m) (owner_at s i)))
    (up : (variable_from (store_of n m) (owner_at s i)).written ≡ true → (f (variable_from (store_of n m) (owner_at s i))).written ≡ true) where
  abbrev p : Owner
  p = owner_at s i

  abbrev x : Variable
  x = f (variable_from (store_of n m) (owner_at s i))

  rows_then : rows_of m' ≡ rows_with (rows_of m) p x
  unfolding store_of with_variable
  rows_then = ap (λ (z : Store). z.rows) change

  environment_then : environment_of n m' ≡ environment_with p (environment_of n m) x
  unfolding store_of with_variable
  environment_then = ap (λ (z : Store). z.environment) change

  there : variable_of (rows_with (rows_of m) p x) (environment_with p (environment_of n m) x) p ≡ x
  unfolding store_of
  there = back (store_of n m) s i low inside x

  marked_up : (variable_of (rows_of m) (environment_of n m) p).written ≡ true → x.written ≡ true
  unfolding store_of variable_from
  marked_up = up

  module _ (listing : Listing) (q : List ℕ) (R : ReadySoFar listing n m q) where
    abbrev σ : Rows
    σ = rows_of m

    abbrev environment : List Variable
    environment = environment_of n m

    wakes_of : (k : ℕ) → wakes_now listing (rows_of m') (environment_of n m') k ≡ wakes_now listing (rows_with σ p x) (environment_with p environment x) k
    wakes_of k = rw (rows_then, environment_then)

    lists_then : (b j : ℕ) → b ≤ 64 → j < 16 → triggers_at m' b j ≡ triggers_of listing (rows_of m') (owner_at b j)
    lists_then b j h l = lists_stay m m' T b j h ∙ (R.lists b j h l ∙ rw rows_then (sym (triggers_same listing σ p x (owner_at b j))))

    still_made : q ≡ insert_all_lem (rows_of m') R.woken []
    still_made = R.made ∙ rw rows_then (insert_all_same_lows σ (rows_with σ p x) (low_with_owner σ p x) R.woken [])

    kept : (k : ℕ) → In k R.woken → wakes_now listing (rows_of m') (environment_of n m') k ≡ true
    kept k h = wakes_of k ∙ wakes_kept listing σ environment p x there marked_up k (R.sound k h)

    -- not marked: nobody is reached
    unmarked : x.written ≡ false → ReadySoFar listing n m' q
    unmarked off = record {
      woken = R.woken;
      made = still_made;
      sound = kept;
      full = λ k h. go k (wakes_cases listing σ environment p x there marked_up k (sym (wakes_of k) ∙ h));
      lists = lists_then;
    }
      where
        go : (k : ℕ) → Either (wakes_now listing σ environment k ≡ true) ((x.written ≡ true) × ((σ k).asleep ≡ true) × (row_awaits listing (σ k) p ≡ true)) → In k R.woken
        go k (this h) = R.full k h
        go k (that h) = not_both h.0 off

    -- marked: those on the list
    abbrev reached : List ℕ
    reached = triggered_from (rows_of m') 0 (triggers_at m' s i)

    asleep_then : (k : ℕ) → (rows_of m' k).asleep ≡ (σ k).asleep
    asleep_then k = rw rows_then (asleep_same σ p x k)

    on_list : triggers_at m' s i ≡ triggers_of listing σ p
    on_list = lists_stay m m' T s i low ∙ R.lists s i low few

    reached_wakes : x.written ≡ true → (k : ℕ) → In k reached → wakes_now listing (rows_of m') (environment_of n m') k ≡ true
    reached_wakes on k h =
        let d = all_only (rows_of m') k (triggers_at m' s i) h in
        let listed : In k (triggers_of listing σ p) = rw on_list at d.0 in
        wakes_of k ∙ wakes_marked listing σ environment p x there marked_up k on (sym (asleep_then k) ∙ d.1) (triggers_only listing σ p k listed)

    slot_of_lem : (k : ℕ) → (σ k).asleep ≡ true → k < 64
    unfolding free_row
    slot_of_lem k a = go (dec_lt k 64)
      where
        go : Dec (k < 64) → k < 64
        go (yes h) = h
        go (no h) = not_both a (ap (λ (r : Row). r.asleep) (row_past m k (omega (arith, h))))

    awaits_reached : (k : ℕ) → (σ k).asleep ≡ true → row_awaits listing (σ k) p ≡ true → In k reached
    awaits_reached k a w =
        let listed : In k (triggers_at m' s i) = rw on_list (triggers_in listing σ p k (slot_of_lem k a) a w) in
        all_in (rows_of m') k (triggers_at m' s i) listed (asleep_then k ∙ a)

    marked : x.written ≡ true → ReadySoFar listing n m' (insert_all_lem (rows_of m') reached q)
    marked on = record {
      woken = R.woken ++ reached;
      made = ap (insert_all_lem (rows_of m') reached) still_made ∙ sym (insert_append (rows_of m') R.woken reached []);
      sound = λ k h. sound_by k (in_cases R.woken reached h);
      full = λ k h. full_by k (wakes_cases listing σ environment p x there marked_up k (sym (wakes_of k) ∙ h));
      lists = lists_then;
    }
      where
        sound_by : (k : ℕ) → Either (In k R.woken) (In k reached) → wakes_now listing (rows_of m') (environment_of n m') k ≡ true
        sound_by k (this h) = kept k h
        sound_by k (that h) = reached_wakes on k h

        full_by : (k : ℕ) → Either (wakes_now listing σ environment k ≡ true) ((x.written ≡ true) × ((σ k).asleep ≡ true) × (row_awaits listing (σ k) p ≡ true)) →
            In k (R.woken ++ reached)
        full_by k (this h) = in_left R.woken reached (R.full k h)
        full_by k (that h) = in_right R.woken reached (awaits_reached k h.1 h.2)

  -- the pass is made exactly if the variable is written
  pub reaches_one : (q q' : List ℕ) (mark : Bool) → mark ≡ x.written → q' ≡ reached_if mark m' s i q → Reaches n m m' q q'
  unfolding reached_if
  reaches_one q q' true e w = record { goes_on = λ listing R. subst (ReadySoFar listing n m') (sym w) (marked listing q R (sym e)) }
  reaches_one q q' false e w = record { goes_on = λ listing R. subst (ReadySoFar listing n m') (sym w) (unmarked listing q R (sym e)) }

-- ── none, and one after the other ─────────────────────────────────────────────────────────────────
pub reaches_none : (n : ℕ) (m q : List ℕ) → Reaches n m m q q
reaches_none n m q = record { goes_on = λ listing R. R }

pub reaches_then : {n : ℕ} {a b c q q' q'' : List ℕ} → Reaches n a b q q' → Reaches n b c q' q'' → Reaches n a c q q''
reaches_then A B = record { goes_on = λ listing R. B.goes_on listing (A.goes_on listing R) }
