-- Nothing is due before t. So a block whose soonest moment due is known, and is not t, has nothing due at t: making the writes due at t would change nothing.
-- Letters: σ rows, q a slot, s the state, x a moment due or none, d one as a number (0: none), m₀ and m the machine's words, the tree's as in
-- scheduler's Place and Held.
use mathlib.Core.Path.{◌≡◌, refl, sym, ap, subst, ◌∙◌, fun_ext}
use mathlib.Core.Bool.{Bool, true, false, cond}
use mathlib.Core.List.{List, [], ◌∷◌}
use Prim.Native.Nat.{ℕ, zero, suc, ◌+◌, ◌*◌, ◌-◌, ◌<◌, ◌≤◌}
use native.Mathlib.Decide.{dec_lt, ℕ_discrete}
use native.Mathlib.Omega.{arith}
use lib.Dec.{ltb}
use lib.ListN.{get_or, take}
use lib.Seq.{get_or-take}
use borrow.Author.Tests.{ltb-true, ltb-false}
use Rattle.listing.specs.Listing.{Listing}
use Rattle.walk.specs.State.{Variable, State}
use Rattle.walk.specs.Instant.{NextDue, never, moment, due_of_variables, next_due}
use Rattle.walk.specs.Calls.{due_before}
use Rattle.walk.specs.Question7.{IsState, all_at_rest}
use Rattle.walk_laws.proofs.NextDue.{DueOnlyAfter, never_due, due_later}
use Rattle.walk_laws.proofs.Idle.{NoMarks, at_rest_no_marks}
use Rattle.machine.specs.Words as words
use Rattle.machine.specs.Words.{block_at, environment_block}
use Rattle.machine.specs.Due.{due_at}
use Rattle.machine_words.specs.Tests.{slot_due_lem, Dues}
use Rattle.engine_rows.specs.Rows.{Row, Rows, with_row, with_children}
use Rattle.engine_rows.specs.Beginning.{due_if, due_below, next_due_of_rows}
use Rattle.engine_rows.specs.Records.{filled_row_lem, filled_at, filled_rows}
use Rattle.engine_rows.proofs.Place.{Tree, nil, put, erase}
use Rattle.engine_rows.proofs.Sorted.{In, here, there, in_cases, Either, this, that}
use Rattle.engine_rows.proofs.Held.{Entry, row_for, Held, held_put, with_row-same, with_row-other}
use Rattle.engine_rows.proofs.Kept.{slots_of}
use Rattle.engine_rows.proofs.Begun.{Settled, at_wait, at_fork, state_settled}
use Rattle.engine_rows.proofs.Holds.{Holds, holds_due}
use Rattle.engine_blocks.specs.Blocks.{block, nonzero, variables_in, row_at, rows_of, environment_of}
use Rattle.engine_blocks.proofs.RowChanges.{row_of}
use Rattle.engine_order.proofs.DueSlots.{block_due}
use Rattle.engine_finish.proofs.EndedIsRead.{first_block}
use Rattle.engine_due.specs.Beginnings.{DuesTell}
use Rattle.engine_due.specs.Reaching.{NothingWritten}
use Rattle.engine_due.proofs.PassedOver.{both_after, variables_passed_over, slot_passed_over}

-- ── moments ───────────────────────────────────────────────────────────────────────────────────────
not_before : (t : ℕ) (x : NextDue) → 0 < t → due_before x t ≡ false → DueOnlyAfter (t - 1) x
unfolding due_before
not_before t never pos e = never_due
not_before t (moment d) pos e = let l : t ≤ d = ltb-false _ _ e in due_later {m = d} (omega arith)

-- due at t or later, and known not to be due at t
after_unless : (t d : ℕ) (x : NextDue) → 0 < t → DueOnlyAfter (t - 1) x → due_at d ≡ x → (d ≡ t → ⊥) → DueOnlyAfter t x
unfolding due_at
after_unless t zero x pos h e n = subst (DueOnlyAfter t) e never_due
after_unless t (suc d) x pos h e n =
    let l = later (subst (DueOnlyAfter (t - 1)) (sym e) h) in
    subst (DueOnlyAfter t) e (due_later (omega (arith, n)))
  where
    later : {m : ℕ} → DueOnlyAfter (t - 1) (moment m) → t - 1 < m
    later (due_later l) = l

row_after : (t : ℕ) (σ : Rows) (x : NextDue) (n q : ℕ) → q < n → (σ q).used ≡ true → DueOnlyAfter t (due_below σ n x) → DueOnlyAfter t (due_of_variables (σ q).own)
unfolding due_below due_if
row_after t σ x zero q h u k = absurd (let z : ⊥ = omega arith in z)
row_after t σ x (suc n) q h u k = let p = both_after t _ _ k in go (dec_lt q n) p.0 (λ l. row_after t σ x n q l u p.1)
  where
    go : Dec (q < n) → DueOnlyAfter t (due_if (σ n).used (due_of_variables (σ n).own)) → (q < n → DueOnlyAfter t (due_of_variables (σ q).own)) →
        DueOnlyAfter t (due_of_variables (σ q).own)
    go (yes l) p r = r l
    go (no l) p r =
        let e : n ≡ q = omega (arith, l) in
        let v : (σ n).used ≡ true = rw e u in
        let w : DueOnlyAfter t (due_if true (due_of_variables (σ n).own)) = rw v at p in
        rw e at w

rest_after : (t : ℕ) (σ : Rows) (x : NextDue) (n : ℕ) → DueOnlyAfter t (due_below σ n x) → DueOnlyAfter t x
unfolding due_below
rest_after t σ x zero k = k
rest_after t σ x (suc n) k = rest_after t σ x n (both_after t _ _ k).1

-- ── the rows that hold a state ────────────────────────────────────────────────────────────────────
module _ (listing : Listing) (rest : List Variable → Bool) {σ : Rows} where
  own_rests : {d : Bool} (t : Tree) {p : List Entry} {b level : ℕ} → Held σ d p b t → Settled listing rest level (erase t) → (q : ℕ) → In q (slots_of t) →
      rest (σ q).own ≡ true
  unfolding erase slots_of row_for
  own_rests nil h w q i = elim i [ ]
  own_rests (put x nil f) (held_put z m e hk hf) (at_wait o j w) q (here g) = rw (g, e) o
  own_rests (put x nil f) (held_put z m e hk hf) (at_wait o j w) q (there i) = own_rests f hf w q i
  own_rests (put x (put y k c) f) (held_put z m e hk hf) (at_fork o j l wk w) q (here g) = rw (g, e) o
  own_rests (put x (put y k c) f) (held_put z m e hk hf) (at_fork o j l wk w) q (there i) =
      go (in_cases (slots_of (put y k c)) (slots_of f) i) (own_rests (put y k c) hk wk q) (own_rests f hf w q)
    where
      go : Either (In q (slots_of (put y k c))) (In q (slots_of f)) → (In q (slots_of (put y k c)) → rest (σ q).own ≡ true) →
          (In q (slots_of f) → rest (σ q).own ≡ true) → rest (σ q).own ≡ true
      go (this v) a b = a v
      go (that v) a b = b v

-- a live routine's own variables have no marks
module _ (listing : Listing) (σ : Rows) (s : State) (H : Holds true listing σ s.environment s) (I : IsState listing s) where
  pub used_no_marks : (q : ℕ) → (σ q).used ≡ true → NoMarks (σ q).own
  used_no_marks q u =
      let settled = subst (λ f. Settled listing (all_at_rest s.now) 0 f) (sym H.tree_is) (state_settled listing (all_at_rest s.now) I.tree) in
      at_rest_no_marks s.now (σ q).own (own_rests listing (all_at_rest s.now) H.tree H.held settled q (H.whole q u))

-- ── the pass over the walking order leaves own variables as they are ──────────────────────────────
module _ (listing : Listing) (environment : List Variable) where
  own_at : (σ : Rows) (latest : ℕ → ℕ) (l s q : ℕ) → (filled_at listing σ environment latest l s q).own ≡ (σ q).own
  unfolding filled_at filled_row_lem with_children
  own_at σ latest zero s q = go (ℕ_discrete q s)
    where
      go : Dec (q ≡ s) → (filled_at listing σ environment latest zero s q).own ≡ (σ q).own
      go (yes e) = rw e (ap (λ (r : Row). r.own) (with_row-same σ s _))
      go (no n) = ap (λ (r : Row). r.own) (with_row-other σ s _ q n)
  own_at σ latest (suc l) s q = go (ℕ_discrete q s)
    where
      p : ℕ
      p = latest l

      counted : Rows
      counted = with_row σ p (with_children (σ p) (suc (σ p).children))

      counted_own : Dec (q ≡ p) → (counted q).own ≡ (σ q).own
      counted_own (yes e) = rw e (ap (λ (r : Row). r.own) (with_row-same σ p _))
      counted_own (no n) = ap (λ (r : Row). r.own) (with_row-other σ p _ q n)

      go : Dec (q ≡ s) → (filled_at listing σ environment latest (suc l) s q).own ≡ (σ q).own
      go (yes e) = rw e (ap (λ (r : Row). r.own) (with_row-same counted s _))
      go (no n) = ap (λ (r : Row). r.own) (with_row-other counted s _ q n) ∙ counted_own (ℕ_discrete q p)

  pub own_kept : (ss : List ℕ) (σ : Rows) (latest : ℕ → ℕ) (q : ℕ) → (filled_rows listing σ environment latest ss q).own ≡ (σ q).own
  unfolding filled_rows
  own_kept [] σ latest q = refl
  own_kept (s ∷ ss) σ latest q = own_kept ss _ _ q ∙ own_at σ latest (σ s).level s q

-- ── the soonest moment due of a block, as question 7's pass reads it, and as rows have it ─────────
module _ (m : List ℕ) where
  same_first : (q : ℕ) → q ≤ 64 → block (take 12288 m) q ≡ block m q
  unfolding block
  same_first q h = fun_ext λ k. go k (ltb k 184) refl
    where
      go : (k : ℕ) (p : Bool) → ltb k 184 ≡ p → cond p (get_or (take 12288 m) (block_at q + k) 0) 0 ≡ cond p (get_or m (block_at q + k) 0) 0
      go k true e = let l : k < 184 = ltb-true _ _ e in get_or-take 12288 m (block_at q + k) 0 (omega arith)
      go k false e = refl

  variables_due : (q k : ℕ) → q ≤ 64 → k ≤ 16 → due_of_variables (words.variables_in (take 12288 m) (block_at q + 8) k) ≡ due_of_variables (variables_in (block m q) k)
  variables_due q k h few =
      let e : block_at q + 8 ≡ 336 + q * 184 = omega arith in
      rw e (block_due (take 12288 m) q k few ∙ ap (λ b. due_of_variables (variables_in b k)) (same_first q h))

  pub slot_due : (q : ℕ) → q < 64 → block m q 4 ≤ 16 → slot_due_lem (take 12288 m) q ≡ due_of_variables (variables_in (block m q) (block m q 4))
  unfolding slot_due_lem
  slot_due q h few = rw (first_block m q 4 (omega arith) (omega arith)) (variables_due q (block m q 4) (omega arith) few)

  row_due : (q : ℕ) → q < 64 → block m q 4 ≤ 16 → slot_due_lem (take 12288 m) q ≡ due_of_variables (rows_of m q).own
  unfolding row_at
  row_due q h few = slot_due q h few ∙ ap (λ (r : Row). due_of_variables r.own) (sym (row_of m q h))

  pub environment_due : (n : ℕ) → n ≤ 16 → due_of_variables (words.variables_in (take 12288 m) (environment_block + 8) n) ≡ due_of_variables (environment_of n m)
  unfolding environment_of
  environment_due n few = variables_due 64 n (omega arith) few

-- ── the words before the due writes ───────────────────────────────────────────────────────────────
-- m stands for rows that hold s, whose own variables are those of m₀; `dues` was kept of m₀.
module _ (listing : Listing) (n t : ℕ) (m₀ m dues : List ℕ) (σ : Rows) (s : State) (H : Holds true listing σ s.environment s) (pos : 0 < t)
    (quiet : due_before (next_due s) t ≡ false) (D : Dues n (take 12288 m₀) dues) (few : n ≤ 16) (own : (q : ℕ) → (σ q).own ≡ (rows_of m₀ q).own)
    (counts : (q : ℕ) → q < 64 → block m₀ q 4 ≤ 16) (environment₀ : environment_of n m₀ ≡ s.environment) (rows : rows_of m ≡ σ)
    (environment : environment_of n m ≡ s.environment) (N : NothingWritten n m) where
  rows_after : DueOnlyAfter (t - 1) (due_below σ 64 (due_of_variables s.environment))
  unfolding next_due_of_rows
  rows_after = subst (DueOnlyAfter (t - 1)) (sym (holds_due H)) (not_before t (next_due s) pos quiet)

  slot_after : (q : ℕ) → q < 64 → (get_or dues q 0 ≡ t → ⊥) → nonzero (block m q 0) ≡ true → DueOnlyAfter t (due_of_variables (variables_in (block m q) (block m q 4)))
  unfolding row_at
  slot_after q h other u =
      let same : σ q ≡ row_at (block m q) = ap (λ (ρ : Rows). ρ q) (sym rows) ∙ row_of m q h in
      let used : (σ q).used ≡ true = ap (λ (r : Row). r.used) same ∙ u in
      let known : due_at (get_or dues q 0) ≡ due_of_variables (σ q).own = D.slots q h ∙ (row_due m₀ q h (counts q h) ∙ ap due_of_variables (sym (own q))) in
      subst (λ (r : Row). DueOnlyAfter t (due_of_variables r.own)) same
      (after_unless t (get_or dues q 0) _ pos (row_after (t - 1) σ _ 64 q h used rows_after) known other)

  environment_after : (get_or dues 64 0 ≡ t → ⊥) → DueOnlyAfter t (due_of_variables (variables_in (block m 64) n))
  unfolding environment_of
  environment_after other =
      let known : due_at (get_or dues 64 0) ≡ due_of_variables s.environment = D.environment ∙ (environment_due m₀ n few ∙ ap due_of_variables environment₀) in
      subst (λ (xs : List Variable). DueOnlyAfter t (due_of_variables xs)) (sym environment)
      (after_unless t (get_or dues 64 0) _ pos (rest_after (t - 1) σ _ 64 rows_after) known other)

  pub dues_tell : DuesTell n t dues m
  dues_tell = record {
    slots = λ q h other. slot_passed_over (block m q) t pos (N.slots q h) (slot_after q h other);
    environment = λ other. variables_passed_over (block m 64) t n few pos N.environment (environment_after other);
  }
