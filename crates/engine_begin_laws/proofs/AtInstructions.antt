-- In rows that hold a state every live routine is at a wait or at an `F`, so it has an instruction behind its own.
-- Letters: t the table's words, σ rows, s a slot, r a routine's number.
use mathlib.Core.Path.{◌≡◌, refl, sym, ap, subst, ◌∙◌}
use mathlib.Core.Bool.{Bool, true, false}
use mathlib.Core.List.{List, []}
use Prim.Native.Nat.{ℕ, zero, suc, ◌≤◌, ◌<◌}
use native.Mathlib.Decide.{dec_lt}
use native.Mathlib.Omega.{arith}
use lib.ListN.{length, get_or, get_or-eq_default}
use Rattle.listing.specs.Listing.{Listing, Routine, Call, Instruction, wait, fork, end}
use Rattle.listing.specs.Questions.{may_be_last}
use Rattle.walk.specs.State.{Variable, State}
use Rattle.walk.specs.Walk.{no_routine, routine_at, instruction_at}
use Rattle.walk.specs.Question7.{IsState, all_at_rest}
use Rattle.table.specs.Decode.{word, size_of, table_listing}
use Rattle.table.specs.Question6.{is_table}
use Rattle.table.proofs.Reach.{routine_total, code_length_by_number}
use Rattle.table.proofs.Table.{table_meets}
use Rattle.table.proofs.Asked.{instruction_next}
use Rattle.engine_rows.specs.Rows.{Row, Rows}
use Rattle.engine_rows.proofs.Place.{Record, Tree, nil, put, Rests, rests_wait, rests_join}
use Rattle.engine_rows.proofs.Sorted.{In, here, there, in_cases, Either, this, that}
use Rattle.engine_rows.proofs.Held.{Entry, row_for, root_count, Held, held_nil, held_put}
use Rattle.engine_rows.proofs.Kept.{slots_of}
use Rattle.engine_rows.proofs.Begun.{Settled, state_settled, tree_rests}
use Rattle.engine_rows.proofs.Holds.{Holds}
use Rattle.engine_run_laws.specs.Placed.{GoesOn}

-- ── in the table ──────────────────────────────────────────────────────────────────────────────────
no_instruction_lem : (k : ℕ) → get_or {A = Instruction} [] k end ≡ end
no_instruction_lem zero = refl
no_instruction_lem (suc k) = refl

past_routines : (listing : Listing) (r place : ℕ) → length listing.routines ≤ r → instruction_at listing r place ≡ end
unfolding instruction_at routine_at no_routine
past_routines listing r place h =
    ap (λ (q : Routine). get_or q.code place end) (get_or-eq_default listing.routines no_routine h) ∙ no_instruction_lem place

past_code : (listing : Listing) (r place : ℕ) → length (routine_at listing r).code ≤ place → instruction_at listing r place ≡ end
unfolding instruction_at
past_code listing r place h = get_or-eq_default (routine_at listing r).code end h

end_last : (i : Instruction) → i ≡ end → may_be_last i ≡ false → ⊥
unfolding may_be_last
end_last i e h = let f : true ≡ false = sym (ap may_be_last e) ∙ h in let z : ◌≡◌ {A = ℕ} 0 1 = cc in omega arith

pub goes_on : (t : List ℕ) → is_table t ≡ true → (x : Row) → may_be_last (instruction_at (table_listing t) x.routine x.place) ≡ false → GoesOn t x
goes_on t table x last = at (dec_lt r (word t 2))
  where
    listing : Listing
    listing = table_listing t

    r : ℕ
    r = x.routine

    inside : (h : r < word t 2) → Dec (x.place < size_of t r) → GoesOn t x
    inside h (yes l) =
        let total = routine_total t in
        let size = code_length_by_number t r h in
        let next = instruction_next listing (table_meets t table) r (omega arith) x.place (omega arith) last in
        record { routine = h; next = omega arith }
    inside h (no l) = absurd (end_last _ (past_code listing r x.place (let size = code_length_by_number t r h in omega arith)) last)

    at : Dec (r < word t 2) → GoesOn t x
    at (yes h) = inside h (dec_lt x.place (size_of t r))
    at (no h) = absurd (end_last _ (past_routines listing r x.place (let total = routine_total t in omega arith)) last)

-- ── in rows that hold a state ─────────────────────────────────────────────────────────────────────
wait_not_last : (ns : List ℕ) → may_be_last (wait ns) ≡ false
unfolding may_be_last
wait_not_last ns = refl

fork_not_last : (cs : List Call) → may_be_last (fork cs) ≡ false
unfolding may_be_last
fork_not_last cs = refl

module _ (listing : Listing) (σ : Rows) where
  abbrev Behind : ℕ → Type 0
  Behind s = may_be_last (instruction_at listing (σ s).routine (σ s).place) ≡ false

  behind_row : (z : Bool) (p : List Entry) (c n : ℕ) (x : Record) → σ x.slot ≡ row_for z p c n x → (i : Instruction) →
      instruction_at listing x.routine x.place ≡ i → may_be_last i ≡ false → (s : ℕ) → s ≡ x.slot → Behind s
  unfolding row_for
  behind_row z p c n x e i at last s same =
      rw same (subst (λ (y : Row). may_be_last (instruction_at listing y.routine y.place) ≡ false) (sym e) (ap may_be_last at ∙ last))

  tree_behind : {d : Bool} {p : List Entry} {c : ℕ} {t : Tree} (s : ℕ) → Held σ d p c t → Rests listing false t → In s (slots_of t) → Behind s
  unfolding slots_of
  tree_behind s held_nil r i = elim i [ ]
  tree_behind {p = p} {c = c} s (held_put {x = x} {f = f} z m e hk hf) (rests_wait {ws = ws} new at r) (here i) =
      behind_row z p c (root_count nil) x e (wait ws) at (wait_not_last ws) s i
  tree_behind s (held_put {x = x} {f = f} z m e hk hf) (rests_wait new at r) (there i) = tree_behind s hf r i
  tree_behind {p = p} {c = c} s (held_put {x = x} {f = f} z m e hk hf) (rests_join {y = y} {k = k} {g = g} {cs = cs} new at q r) (here i) =
      behind_row z p c (root_count (put y k g)) x e (fork cs) at (fork_not_last cs) s i
  tree_behind s (held_put {x = x} {f = f} z m e hk hf) (rests_join {y = y} {k = k} {g = g} new at q r) (there i) =
      go (in_cases (slots_of (put y k g)) (slots_of f) i) (tree_behind s hk q) (tree_behind s hf r)
    where
      go : Either (In s (slots_of (put y k g))) (In s (slots_of f)) → (In s (slots_of (put y k g)) → Behind s) → (In s (slots_of f) → Behind s) → Behind s
      go (this j) v w = v j
      go (that j) v w = w j

-- Every live routine, and every sleeper, has an instruction behind its own.
module _ (t : List ℕ) {σ : Rows} {environment : List Variable} {state : State} (table : is_table t ≡ true)
    (H : Holds true (table_listing t) σ environment state) (I : IsState (table_listing t) state) where
  resting : Rests (table_listing t) false H.tree
  resting = tree_rests (table_listing t) (all_at_rest state.now) H.tree H.begun
      (subst (λ f. Settled (table_listing t) (all_at_rest state.now) 0 f) (sym H.tree_is) (state_settled (table_listing t) (all_at_rest state.now) I.tree))

  in_tree_goes_on : (s : ℕ) → In s (slots_of H.tree) → GoesOn t (σ s)
  in_tree_goes_on s i = goes_on t table (σ s) (tree_behind (table_listing t) σ s H.held resting i)

  pub used_goes_on : (s : ℕ) → (σ s).used ≡ true → GoesOn t (σ s)
  used_goes_on s u = in_tree_goes_on s (H.whole s u)

  pub asleep_goes_on : (s : ℕ) → (σ s).asleep ≡ true → GoesOn t (σ s)
  asleep_goes_on s u = in_tree_goes_on s (H.marked refl s u)
