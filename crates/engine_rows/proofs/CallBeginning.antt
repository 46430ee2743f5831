-- The pass over the kept rows of a state's routines, in walking order and any distinct slots, leaves rows that hold the state.
-- Letters as in Place and Held.
use mathlib.Core.Path.{◌≡◌, refl, sym, ap, ap₂, subst, ◌∙◌}
use mathlib.Core.Bool.{Bool, true, false}
use mathlib.Core.List.{List, [], ◌∷◌, ◌++◌, append-nil}
use Prim.Native.Nat.{ℕ, ◌+◌, ◌*◌, ◌^◌, ◌≤◌, ◌<◌}
use native.Mathlib.Nat.{zero-add}
use native.Mathlib.Omega.{arith}
use native.Mathlib.Decide.{ℕ_discrete}
use lib.ListN.{length, get_or, drop}
use Rattle.listing.specs.Listing.{Listing}
use Rattle.walk.specs.State.{Variable, Forest}
use Rattle.walk.specs.Memory.{variable_at}
use Rattle.walk.specs.Walk.{child_count}
use Rattle.walk.specs.Instant.{environment_size, environment_names, main_call}
use Rattle.walk.specs.Question7.{LiveChildren, bound_names}
use Rattle.engine_rows.specs.Rows.{Rows, with_row}
use Rattle.engine_rows.specs.Beginning.{environment_caller}
use Rattle.engine_rows.specs.Records.{no_call_lem, kept_in, kept_of, seen, filled_row_lem, filled_at, filled_rows}
use Rattle.engine_rows.proofs.Place.{Record, Tree, nil, put, erase, Rests}
use Rattle.engine_rows.proofs.Priority.{Range}
use Rattle.engine_rows.proofs.Sorted.{In, here, there}
use Rattle.engine_rows.proofs.Held.{parent_slot, root_count, row_for, held_nil, held_put, with_row-same, with_row-other}
use Rattle.engine_rows.proofs.Kept.{slots_of}
use Rattle.engine_rows.proofs.Steady.{CallsFit, calls_nil, calls_put, TableFits, above_main, SteadyRecord, Steady, steady_put}
use Rattle.engine_rows.proofs.Begun.{AllBegun, begun_put, Settled, state_settled, tree_rests}
use Rattle.engine_rows.proofs.Folding.{Distinct, distinct_put}
use Rattle.engine_rows.proofs.Holds.{Holds, steady_single}
use Rattle.engine_rows.proofs.StartOnRows.{environment_owners, main_passed, environment_small, environment_near}
use Rattle.engine_rows.proofs.Filling.{KeptRow, KeptRows, kept_put, mark_of, filled_row, seen_same, Filled, mark_of_lem, rests_children, fill, distinct_left}
use Rattle.engine_rows.proofs.RowsFromRecords.{Parent, Built, build}

in_dec : (s : ℕ) (l : List ℕ) → Dec (In s l)
in_dec s [] = no (λ i. elim i [ ])
in_dec s (x ∷ l) = go (ℕ_discrete s x) (in_dec s l)
  where
    neither : (s ≡ x → ⊥) → (In s l → ⊥) → In s (x ∷ l) → ⊥
    neither e i (here p) = e p
    neither e i (there p) = i p

    go : Dec (s ≡ x) → Dec (In s l) → Dec (In s (x ∷ l))
    go (yes e) d = yes (here e)
    go (no e) (yes i) = yes (there i)
    go (no e) (no i) = no (neither e i)

two_roots : (x : Record) (k : Tree) (y : Record) (g h : Tree) → root_count (put x k (put y g h)) ≤ 1 → ⊥
unfolding root_count
two_roots x k y g h q = omega arith

module _ (listing : Listing) (T : TableFits listing) (environment : List Variable) (size : length environment ≡ environment_size listing) (σ₀ : Rows)
    (latest : ℕ → ℕ) where
  -- main's row
  main_filled : (x : Record) → KeptRow σ₀ 0 x → SteadyRecord listing (above_main listing) 0 (length environment) x →
      filled_at listing σ₀ environment latest (σ₀ x.slot).level x.slot ≡ with_row σ₀ x.slot
      (row_for (mark_of listing x) [] (length environment) 0 x)
  unfolding filled_at environment_caller parent_slot above_main child_count main_call environment_names row_for
  main_filled x k st =
      rw k.level
      (ap (with_row σ₀ x.slot)
      (ap (λ b. filled_row_lem listing (record {
        slot = 64;
        level = 0;
        base = length environment;
        low = 0;
        bits = 32;
        bindings = b;
        name = λ n. variable_at environment n;
      }) (main_call listing) (σ₀ x.slot) x.slot) (environment_owners (environment_size listing) 0) ∙
      filled_row listing [] (environment_names listing) (length environment) 0 32 (λ n. variable_at environment n) (main_call listing) x (σ₀ x.slot)
      (environment_near listing T environment size) (main_passed listing T)
      (st.called ∙ ap (λ c. c.callee) field) (st.bound ∙
      ap (bound_names listing (length environment) (environment_names listing)) field) (st.lowest ∙
      ap (λ b. 0 + x.child * 2 ^ b) st.divided) st.divided k.child k.place k.own))
    where
      first : x.child ≡ 0
      first = omega (arith, st.numbered)

      field : get_or (main_call listing ∷ []) x.child no_call_lem ≡ main_call listing
      field = ap (λ i. get_or (main_call listing ∷ []) i no_call_lem) first

  step_of : (s : ℕ) (ss : List ℕ) → filled_rows listing σ₀ environment latest (s ∷ ss) ≡ filled_rows listing
      (filled_at listing σ₀ environment latest (σ₀ s).level s) environment (seen latest (σ₀ s).level s) ss
  unfolding filled_rows
  step_of s ss = refl

  none_left : (σ : Rows) (m : ℕ → ℕ) → filled_rows listing σ environment m [] ≡ σ
  unfolding filled_rows
  none_left σ m = refl

  -- the rows of a tree with main alone at the top
  pub tree_filled : (t : Tree) (now : ℕ) → Steady listing (above_main listing) 0 (length environment) t → Range 0 4294967296 t →
      Rests listing false t → AllBegun t → KeptRows σ₀ 0 t → Distinct (slots_of t) →
      ((s : ℕ) → (σ₀ s).used ≡ true → In s (slots_of t)) → ((s : ℕ) → (σ₀ s).asleep ≡ true → In s (slots_of t)) →
      Holds true listing (filled_rows listing σ₀ environment latest (slots_of t)) environment (record {
        now = now;
        environment = environment;
        tree = erase t;
      })
  unfolding slots_of
  tree_filled nil now st r rs b kp d whole marked =
      subst (λ σ. Holds true listing σ environment (record { now = now; environment = environment; tree = erase nil })) (sym (none_left σ₀ latest))
      (record {
        environment_is = refl;
        tree = nil;
        tree_is = refl;
        held = held_nil;
        range = r;
        steady = st;
        begun = b;
        whole = whole;
        marked = λ m. marked;
      })
  tree_filled (put x k (put y g h)) now st r rs b kp d whole marked =
      let most : root_count (put x k (put y g h)) ≤ 1 = steady_single listing r st in absurd (two_roots x k y g h most)
  tree_filled (put x k nil) now (steady_put sx sk sn) r rs (begun_put bx bk bn) (kept_put kx kk kn) (distinct_put dx dr) whole marked =
      subst (λ σ. Holds true listing σ environment (record { now = now; environment = environment; tree = erase (put x k nil) })) (sym rows_are)
      (record {
        environment_is = refl;
        tree = put x k nil;
        tree_is = refl;
        held = held_put (mark_of listing x) (λ q. mark_of_lem listing environment rs) (F.parent ∙
            ap (λ n. row_for (mark_of listing x) [] (length environment) n x) (zero-add (root_count k))) F.held held_nil;
        range = r;
        steady = steady_put sx sk sn;
        begun = begun_put bx bk bn;
        whole = λ s u. inside s (in_dec s slots) (λ n. whole s (sym (ap (λ q. q.used) (old s n)) ∙ u));
        marked = λ m s u. inside s (in_dec s slots) (λ n. marked s (sym (ap (λ q. q.asleep) (old s n)) ∙ u));
      })
    where
      slots : List ℕ
      slots = x.slot ∷ (slots_of k ++ [])

      σ₁ : Rows
      σ₁ = with_row σ₀ x.slot (row_for (mark_of listing x) [] (length environment) 0 x)

      in_k : (s : ℕ) → In s (slots_of k) → In s (slots_of k ++ [])
      in_k s i = subst (λ l. In s l) (sym (append-nil (slots_of k))) i

      F : Filled listing environment σ₁ (seen latest 0 x.slot) true (mark_of listing x) [] (length environment) 0 x k
      F = fill listing environment T σ₀ k (mark_of listing x) [] (length environment) 0 x σ₁ (seen latest 0 x.slot) sk
          (rests_children listing environment rs) kk (distinct_left (slots_of k) [] dr) (λ i. dx (in_k x.slot i))
          (with_row-same σ₀ x.slot (row_for (mark_of listing x) [] (length environment) 0 x)) (seen_same latest 0 x.slot)
          (λ s i. with_row-other σ₀ x.slot (row_for (mark_of listing x) [] (length environment) 0 x) s
          (λ q. dx (in_k x.slot (subst (λ v. In v (slots_of k)) q i)))) sx.many sx.near

      rows_are : filled_rows listing σ₀ environment latest slots ≡ F.rows
      rows_are =
          step_of x.slot (slots_of k ++ []) ∙
          ap₂ (λ r m. filled_rows listing r environment m (slots_of k ++ [])) (main_filled x kx sx) (ap (λ q. seen latest q x.slot) kx.level) ∙
          F.run [] ∙ none_left F.rows F.last

      old : (s : ℕ) → (In s slots → ⊥) → F.rows s ≡ σ₀ s
      old s n = F.others s (λ i. n (there (in_k s i))) (λ q. n (here q)) ∙
          with_row-other σ₀ x.slot (row_for (mark_of listing x) [] (length environment) 0 x) s (λ q. n (here q))

      inside : (s : ℕ) → Dec (In s slots) → ((In s slots → ⊥) → In s slots) → In s slots
      inside s (yes i) h = i
      inside s (no n) h = h n

  main_parent : (rest : List Variable → Bool) → Parent listing T rest σ₀ (above_main listing) (environment_names listing) 0 (length environment)
  unfolding above_main
  main_parent rest = record {
    named = refl;
    deep = omega arith;
    near = environment_near listing T environment size;
    short = omega (arith, size, environment_small listing T);
    high = omega arith;
  }

  main_calls : drop 0 (above_main listing).calls ≡ main_call listing ∷ []
  unfolding above_main
  main_calls = refl

  main_fits : CallsFit listing (length (environment_names listing)) (main_call listing ∷ [])
  unfolding main_call
  main_fits = calls_put (main_passed listing T) calls_nil

  main_count : 0 + child_count (main_call listing ∷ []) ≡ child_count (above_main listing).calls
  unfolding above_main child_count
  main_count = refl

  main_range : {t : Tree} → Range ((above_main listing).low + 0 * 2 ^ (above_main listing).bits)
      ((above_main listing).low + child_count (above_main listing).calls * 2 ^ (above_main listing).bits) t → Range 0 4294967296 t
  unfolding above_main child_count
  main_range r = r

  -- The beginning of a call: what is kept of a state, one pass, rows that hold the state.
  pub filled_holds : {rest : List Variable → Bool} {f : Forest} (now : ℕ)
      (D : LiveChildren listing rest 0 (length environment) (environment_names listing) (main_call listing ∷ []) f) (slots : List ℕ) →
      Distinct slots → ((s : ℕ) → In s slots → s < 64) → kept_in σ₀ slots ≡ kept_of D 0 → ((s : ℕ) → (σ₀ s).used ≡ true → In s slots) →
      ((s : ℕ) → (σ₀ s).asleep ≡ true → In s slots) →
      Holds true listing (filled_rows listing σ₀ environment latest slots) environment (record { now = now; environment = environment; tree = f })
  filled_holds {rest} {f} now D slots d small kept whole marked =
      subst (λ g. Holds true listing (filled_rows listing σ₀ environment latest slots) environment (record {
        now = now;
        environment = environment;
        tree = g;
      })) B.is
      (subst (λ l. Holds true listing (filled_rows listing σ₀ environment latest l) environment (record {
        now = now;
        environment = environment;
        tree = erase B.tree;
      })) B.slots
      (tree_filled B.tree now B.steady (main_range B.range)
      (tree_rests listing rest B.tree B.all (subst (λ g. Settled listing rest 0 g) (sym B.is) (state_settled listing rest D))) B.all
      B.kept
      (subst Distinct (sym B.slots) d) (λ s u. subst (λ l. In s l) (sym B.slots) (whole s u))
      (λ s u. subst (λ l. In s l) (sym B.slots) (marked s u))))
    where
      P : Parent listing T rest σ₀ (above_main listing) (environment_names listing) 0 (length environment)
      P = main_parent rest

      B : Built listing T rest σ₀ (above_main listing) 0 (length environment) 0 f slots
      B = build listing T rest σ₀ D (above_main listing) 0 slots P main_calls main_count main_fits small kept
