-- The loop over an `F`'s child fields: what holds before each child. The letters are those of specs/Fork.
use mathlib.Core.Path.{◌≡◌, refl, sym, ap, subst, ◌∙◌, fun_ext}
use mathlib.Core.Bool.{Bool, true, false}
use mathlib.Core.List.{List, [], ◌++◌, append-nil}
use Prim.Native.Nat.{ℕ, suc, ◌+◌, ◌-◌, ◌≤◌, ◌<◌}
use native.Mathlib.Numerals.{add-one}
use native.Mathlib.Omega.{arith}
use native.Mathlib.Decide.{ℕ_discrete}
use lib.ListN.{length, take, set, length-set}
use lib.Seq.{take-suc-set}
use Rattle.std.specs.Prelude.{Some, None, IsSome, MatchOption}
use Rattle.std.specs.declared.option.Option as program
use Rattle.walk.specs.State.{Variable}
use Rattle.table.proofs.Reach.{head_after_next}
use Rattle.table.specs.Decode.{call_at, after_call, calls_at, head_after, table_listing}
use Rattle.table.specs.Entry.{ChildStands}
use Rattle.engine_rows.specs.Rows.{Owner, in_environment, in_slot, Row, Rows, with_row, owner_of}
use Rattle.engine_rows.specs.Engine.{free_slot, rows_with_child, rows_with_new, new_slots}
use Rattle.engine_rows.proofs.Children.{one, used_below, free_slot-free, used-with_row}
use Rattle.engine_blocks.specs.Blocks.{block, rows_of, environment_of}
use Rattle.engine_blocks.specs.Store.{Store, store_of, with_slot}
use Rattle.engine_blocks.specs.Changes.{SameOutside, SameTriggers}
use Rattle.engine_variables.specs.Bindings.{variables_beside}
use Rattle.engine_blocks.proofs.RowChanges.{with_row_same, with_row_other}
use Rattle.engine_blocks.proofs.Staying.{outside_start, outside_then, triggers_start, triggers_then}
use Rattle.engine_clean.specs.Clean.{Clean}
use Rattle.engine_evaluate.specs.Bound.{number_of, Bound, bindings_of}
use Rattle.engine_children.specs.declared.fork.NewSlots.{NewSlots}
use Rattle.engine_children.specs.NewChild.{MayMake, MakesChild}
use Rattle.engine_children.specs.Fork.{MayFork, MakesChildren}
use Rattle.engine_new_names.proofs.Lists.{moved_over}
use Rattle.engine_children.proofs.ChildSteps.{divides_same}
use Rattle.engine_children.proofs.FreeBlock.{free_blank, blank_owns_none}

-- ── one row more ──────────────────────────────────────────────────────────────────────────────────
-- The new row is the only change.
pub as_with_row : (rows rows' : Rows) (s : ℕ) → ((r : ℕ) → (r ≡ s → ⊥) → rows' r ≡ rows r) → rows' ≡ with_row rows s (rows' s)
as_with_row rows rows' s others = fun_ext λ r. go r (ℕ_discrete r s)
  where
    go : (r : ℕ) → Dec (r ≡ s) → rows' r ≡ with_row rows s (rows' s) r
    go r (yes e) = ap rows' e ∙ sym (ap (with_row rows s (rows' s)) e ∙ with_row_same rows s (rows' s))
    go r (no n) = others r n ∙ sym (with_row_other rows s (rows' s) r n)

-- A slot without variables may take others: no name led there.
module _ (rows rows' : Rows) (environment : List Variable) (s : ℕ) (empty : (rows s).own ≡ []) (others : (r : ℕ) → (r ≡ s → ⊥) → rows' r ≡ rows r) where
  still_there : (o : Owner) → number_of o < length (variables_beside (record { rows = rows; environment = environment }) o)
      → number_of o < length (variables_beside (record { rows = rows'; environment = environment }) o)
  unfolding variables_beside number_of
  still_there (in_environment a) h = h
  still_there (in_slot r i) h = go (ℕ_discrete r s)
    where
      go : Dec (r ≡ s) → i < length (rows' r).own
      go (yes e) = let z : i < length (rows s).own = rw e at h in absurd (let q : i < 0 = rw empty at z in omega arith)
      go (no n) = rw (others r n) h

  pub bound_grows : (bindings : List Owner) → Bound (record { rows = rows; environment = environment }) bindings → Bound (record { rows = rows'; environment = environment }) bindings
  bound_grows bindings B = record { there = λ name h. still_there (owner_of bindings name) (B.there name h) }

-- ── before each child ─────────────────────────────────────────────────────────────────────────────
-- i children are made, in the first i of `places`; the next child field stands at `head`
pub record Forking (t before : List ℕ) (me cells n : ℕ) (m places : List ℕ) (head i : ℕ) : Type 0 where
  pub place : head ≡ head_after t cells i
  pub size : length places ≡ 8
  pub within : i ≤ n
  pub row : rows_of m me ≡ rows_of before me
  pub room : used_below (rows_of m) 64 + (n - i) ≤ 64
  pub environment : (k : ℕ) → environment_of k m ≡ environment_of k before
  pub outside : SameOutside before m
  pub triggers : SameTriggers before m
  pub clean : (k : ℕ) → Clean k before → Clean k m
  pub bound : (k : ℕ) → Bound (store_of k before) (bindings_of before me) → Bound (store_of k m) (bindings_of m me)
  pub rows : (moment k : ℕ) → Bound (store_of k before) (bindings_of before me)
      → rows_with_new (table_listing t) moment (rows_of m) (environment_of k before) me n (calls_at t head (n - i)) i
      ≡ rows_with_new (table_listing t) moment (rows_of before) (environment_of k before) me n (calls_at t cells n) 0
  pub slots : (moment k : ℕ) → Bound (store_of k before) (bindings_of before me)
      → take i places ++ new_slots (table_listing t) moment (rows_of m) (environment_of k before) me n (calls_at t head (n - i)) i
      ≡ new_slots (table_listing t) moment (rows_of before) (environment_of k before) me n (calls_at t cells n) 0

module _ {t before : List ℕ} {me cells n : ℕ} (F : MayFork t before me cells n) where
  pub fork_start : (places : List ℕ) → length places ≡ 8 → Forking t before me cells n before places cells 0
  unfolding head_after
  fork_start places size =
      let z : n - 0 ≡ n = omega arith in
      record {
        place = refl;
        size = size;
        within = omega arith;
        row = refl;
        room = omega (arith, F.room);
        environment = λ k. refl;
        outside = outside_start before;
        triggers = triggers_start before;
        clean = λ k T. T;
        bound = λ k B. B;
        rows = λ moment k B. rw z;
        slots = λ moment k B. rw z;
      }

  module _ {m places : List ℕ} {head i : ℕ} (G : Forking t before me cells n m places head i) where
    module _ (more : i < n) where
      free : ((rows_of m (free_slot (rows_of m) 64)).used ≡ false) × (free_slot (rows_of m) 64 < 64)
      free = free_slot-free (rows_of m) (omega (arith, G.room))

      -- so the search finds one
      pub some_free : (r : program.Option ℕ) → MatchOption r ((s : ℕ) → s < 64 → (rows_of m s).used ≡ true) (λ s. s ≡ free_slot (rows_of m) 64) → IsSome r
      some_free (Some s) e = refl
      some_free None all =
          let z : ◌≡◌ {A = Bool} true false = sym (all _ free.1) ∙ free.0 in
          let q : ◌≡◌ {A = ℕ} 0 1 = cc in absurd (let v : ⊥ = omega arith in v)

      pub slot_found : (r : program.Option ℕ) (s : ℕ) → r ≡ Some s → MatchOption r ((s : ℕ) → s < 64 → (rows_of m s).used ≡ true) (λ s. s ≡ free_slot (rows_of m) 64)
          → s ≡ free_slot (rows_of m) 64
      slot_found r s e h = rw e at h

      blank : (k : ℕ) → k < 144 → block m (free_slot (rows_of m) 64) k ≡ 0
      blank = free_blank (G.clean F.variables F.clean) (free_slot (rows_of m) 64) free.1 free.0

      caller_apart : me ≡ free_slot (rows_of m) 64 → ⊥
      caller_apart e =
          let u : (rows_of m me).used ≡ true = rw G.row F.live in
          let v : (rows_of m me).used ≡ false = rw e free.0 in
          let z : ◌≡◌ {A = Bool} true false = sym u ∙ v in
          let q : ◌≡◌ {A = ℕ} 0 1 = cc in omega arith

      -- the next child field fits
      pub may_make : MayMake t m me head i (free_slot (rows_of m) 64) n
      may_make =
          record {
            size = omega (arith, F.size, G.outside.size);
            table = F.table;
            caller = F.caller;
            slot = free.1;
            apart = caller_apart;
            blank = blank;
            field =
                subst (λ (a : ℕ). ChildStands t (length (bindings_of m me)) a) (sym G.place)
                (subst (λ (r : Row). ChildStands t (length r.bindings) (head_after t cells i)) (sym G.row) (F.fields i more));
            divides = divides_same G.row F.divides;
            numbered = more;
          }

      module _ {after : List ℕ} (s : ℕ) (is : s ≡ free_slot (rows_of m) 64) (C : MakesChild t m me head i s n after) where
        free_here : ((rows_of m s).used ≡ false) × (s < 64)
        free_here = rw is free

        none_here : (rows_of m s).own ≡ []
        none_here = rw is (blank_owns_none m (free_slot (rows_of m) 64) free.1 blank)

        row_then : rows_of after me ≡ rows_of before me
        row_then = C.others me (λ e. caller_apart (e ∙ is)) ∙ G.row

        room_then : used_below (rows_of after) 64 + (n - suc i) ≤ 64
        unfolding one
        room_then =
            let w = used-with_row (rows_of m) s (rows_of after s) 64 free_here.1 in
            let e : used_below (rows_of after) 64 ≡ used_below (with_row (rows_of m) s (rows_of after s)) 64 =
            ap (λ (rows : Rows). used_below rows 64) (as_with_row (rows_of m) (rows_of after) s C.others) in
            let u : one (rows_of m s).used ≡ 0 = ap one free_here.0 in
            let v : one (rows_of after s).used ≡ 1 = ap one C.taken in
            omega (arith, w, e, u, v, G.room)

        module _ (moment k : ℕ) (B : Bound (store_of k before) (bindings_of before me)) where
          rows_then : rows_of after ≡ rows_with_child (table_listing t) moment (rows_of m) (environment_of k before) me n (call_at t head) i
          unfolding rows_with_child store_of with_slot
          rows_then =
              rw (← is, ← G.environment k)
              (ap (λ (z : Store). z.rows) (C.store moment k (G.bound k B)))

          bound_then : Bound (store_of k after) (bindings_of after me)
          unfolding store_of
          bound_then =
              rw (C.environment k, ap (λ (r : Row). r.bindings) (C.others me (λ e. caller_apart (e ∙ is))))
              (bound_grows (rows_of m) (rows_of after) (environment_of k m) s none_here C.others (bindings_of m me) (G.bound k B))

          abbrev left : ℕ
          left = n - suc i

          rest_of_rows : rows_with_new (table_listing t) moment (rows_of after) (environment_of k before) me n (calls_at t (after_call t head) left) (suc i)
              ≡ rows_with_new (table_listing t) moment (rows_of before) (environment_of k before) me n (calls_at t cells n) 0
          unfolding rows_with_new calls_at
          rest_of_rows =
              let e : n - i ≡ suc left = omega arith in
              rw rows_then (rw e at (G.rows moment k B))

          rest_of_slots : take (suc i) (set places i s) ++ new_slots (table_listing t) moment (rows_of after) (environment_of k before) me n (calls_at t (after_call t head) left) (suc i)
              ≡ new_slots (table_listing t) moment (rows_of before) (environment_of k before) me n (calls_at t cells n) 0
          unfolding new_slots calls_at
          rest_of_slots =
              let e : n - i ≡ suc left = omega arith in
              let l : i < length places = omega (arith, G.size, F.divides.most) in
              rw (take-suc-set places i s l, moved_over, rows_then, is) (rw e at (G.slots moment k B))

        pub fork_next : Forking t before me cells n after (set places i s) (after_call t head) (i + 1)
        fork_next =
            rw (add-one i)
            (record {
              place = ap (after_call t) G.place ∙ sym (head_after_next t cells i);
              size = length-set places i s ∙ G.size;
              within = more;
              row = row_then;
              room = room_then;
              environment = λ k. C.environment k ∙ G.environment k;
              outside = outside_then G.outside C.outside;
              triggers = triggers_then G.triggers C.triggers;
              clean = λ k T. C.clean k (G.clean k T);
              bound = bound_then 0;
              rows = rest_of_rows;
              slots = rest_of_slots;
            })

    pub fork_end : (r : NewSlots) → r.places ≡ places → r.count ≡ n → n ≤ i → MakesChildren t before me cells n m r
    unfolding rows_with_new new_slots calls_at
    fork_end r p c none =
        let e : i ≡ n = omega (arith, G.within, none) in
        let z : n - n ≡ 0 = omega arith in
        record {
          count = c;
          rows = λ moment k B. rw (e, z) at (G.rows moment k B);
          slots = λ moment k B. rw (p, c) (sym (append-nil (take n places)) ∙ (rw (e, z) at (G.slots moment k B)));
          environment = G.environment;
          outside = G.outside;
          triggers = G.triggers;
          clean = G.clean;
        }
