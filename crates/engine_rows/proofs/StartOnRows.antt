-- The start on rows, main in a slot of its own and nobody else, has the same outcome as the walk's start.
-- Letters as in Place and Held.
use mathlib.Core.Path.{◌≡◌, refl, sym, ap, ◌∙◌}
use mathlib.Core.Bool.{true, false}
use mathlib.Core.List.{List, [], ◌∷◌}
use Prim.Native.Nat.{ℕ, zero, suc, ◌+◌, ◌^◌, ◌≤◌, ◌<◌}
use native.Mathlib.Nat.{add-zero, zero-add}
use native.Mathlib.Decide.{ℕ_discrete, dec_lt}
use native.Mathlib.Omega.{arith}
use lib.ListN.{length, get_or, replicate, length-replicate, get_or-eq_default}
use Rattle.listing.specs.Listing.{Listing, by_reference}
use Rattle.walk.specs.State.{Variable, ◌⊕◌, Turn, Result, stop, ok, ◌>>=◌, no_variable, new_variable}
use Rattle.walk.specs.Memory.{variable_at, nowhere, address_of, consecutive}
use Rattle.walk.specs.Walk.{routine_at, new_routine, enter, begin, child_count}
use Rattle.walk.specs.Instant.{environment_size, environment_names, main_call, start, start_turn}
use Rattle.walk_laws.proofs.Steps.{start_turn-within}
use Rattle.engine_rows.specs.Rows.{in_environment, Rows, free_row, no_rows, with_row}
use Rattle.engine_rows.specs.Engine.{child_row}
use Rattle.engine_rows.specs.Beginning.{environment_bindings, environment_caller, main_row, new_environment, start_on_rows}
use Rattle.engine_rows.proofs.Agenda.{rest}
use Rattle.engine_rows.proofs.Place.{Record, nil, put, erase, ◌⋈◌, plug, memory_of, tasks, up, dones, ready, ready_up, rests_nil, at_root}
use Rattle.engine_rows.proofs.Priority.{Range, range_nil, range_put, new_child}
use Rattle.engine_rows.proofs.Sorted.{here, slots_in}
use Rattle.engine_rows.proofs.Held.{owners_at, owner_at, path_of, parent_slot, root_count, row_for, held_nil, held_top, held_under, with_row-same, with_row-other}
use Rattle.engine_rows.proofs.Moves.{placed, focus, going_on_lem}
use Rattle.engine_rows.proofs.Kept.{slots_of}
use Rattle.engine_rows.proofs.EngineState.{Runs}
use Rattle.engine_rows.proofs.Children.{Passed, passed_nil, passed_put, caller_on, child_row_lem, used_below, used-with_row, one}
use Rattle.engine_rows.proofs.Steady.{TableFits, name_count, above_main, SteadyRecord, steady_nil, steady_put, steady_placed, steady_child, count_length, count_near}
use Rattle.engine_rows.proofs.Taking.{bool_not}
use Rattle.engine_rows.proofs.Outcomes.{Sound}
use Rattle.engine_rows.proofs.Running.{run_as_walk}
use Rattle.engine_rows.proofs.InstantOnRows.{SameOutcome, finish_alike}

-- ── main's names ────────────────────────────────────────────────────────────────────────────────
pub environment_owners : (k a : ℕ) → environment_bindings k a ≡ owners_at [] (consecutive k a)
unfolding environment_bindings owners_at owner_at consecutive
environment_owners zero a = refl
environment_owners (suc k) a = ap (λ z. in_environment a ∷ z) (environment_owners k (suc a))

pub address_consecutive : (k a n : ℕ) → n < k → address_of (consecutive k a) n ≡ a + n
unfolding address_of consecutive
address_consecutive zero a n h = absurd (omega arith)
address_consecutive (suc k) a zero h = sym (add-zero a)
address_consecutive (suc k) a (suc n) h = address_consecutive k (suc a) n (omega arith) ∙ omega arith

address_past : (k a n : ℕ) → k ≤ n → address_of (consecutive k a) n ≡ nowhere
unfolding address_of consecutive
address_past zero a n h = refl
address_past (suc k) a zero h = absurd (omega arith)
address_past (suc k) a (suc n) h = address_past k (suc a) n (omega arith)

same_name : (xs : List Variable) (n : ℕ) → length xs ≤ 65536 → variable_at xs n ≡ variable_at xs (address_of (consecutive (length xs) 0) n)
unfolding variable_at
same_name xs n small = go (dec_lt n (length xs))
  where
    go : Dec (n < length xs) → get_or xs n no_variable ≡ get_or xs (address_of (consecutive (length xs) 0) n) no_variable
    go (yes h) = ap (λ a. get_or xs a no_variable) (sym (address_consecutive (length xs) 0 n h ∙ zero-add n))
    go (no h) =
        let l : length xs ≤ n = omega arith in
        get_or-eq_default xs no_variable l ∙ sym (ap (λ a. get_or xs a no_variable) (address_past (length xs) 0 n l) ∙
        get_or-eq_default xs no_variable small)

passed_references : (k a n : ℕ) → a + k ≤ n → Passed n (replicate k by_reference) (consecutive k a)
unfolding consecutive
passed_references zero a n h = passed_nil
passed_references (suc k) a n h = let l : a < n = omega arith in passed_put l (passed_references k (suc a) n (omega arith))

module _ (listing : Listing) (T : TableFits listing) where
  -- main's arguments are the environment's variables
  pub main_passed : Passed (length (environment_names listing)) (routine_at listing 0).kinds (main_call listing).arguments
  unfolding environment_names main_call
  main_passed = rw (T.main, count_length listing (environment_size listing) 0)
      (passed_references (environment_size listing) 0 (environment_size listing) (omega arith))

  pub environment_small : environment_size listing ≤ 16
  unfolding name_count
  environment_small =
      let k : length (routine_at listing 0).kinds ≡ environment_size listing = ap length T.main ∙
      length-replicate (environment_size listing) by_reference in
      omega (arith, k, T.few 0)

  module _ (environment : List Variable) (size : length environment ≡ environment_size listing) where
    abbrev pub main_record : ℕ → Record
    main_record s = new_child listing 0 environment (environment_names listing) (main_call listing) 0 s 0 32

    pub environment_near : (n : ℕ) → n < length (environment_names listing) → address_of (environment_names listing) n < length environment
    unfolding environment_names
    environment_near n h = let d : address_of (consecutive (environment_size listing) 0) n < 0 + environment_size listing =
        count_near listing (environment_size listing) 0 n (omega (arith, count_length listing (environment_size listing) 0)) in omega (arith, d, size)

    pub main_row_lem : (s : ℕ) → main_row listing environment s ≡ row_for false [] (length environment) 0 (main_record s)
    unfolding main_row environment_caller caller_on parent_slot environment_names main_call
    main_row_lem s =
        ap (λ z. child_row listing 0 (record {
          slot = 64;
          level = 0;
          base = length environment;
          low = 0;
          bits = 32;
          bindings = z;
          name = λ n. variable_at environment n;
        }) (main_call listing) 0 s) (environment_owners (environment_size listing) 0) ∙
        child_row_lem listing 0 environment (environment_names listing) (main_call listing) 0 s 0 32 [] (λ n. variable_at environment n) names environment_near
        main_passed
      where
        names : (n : ℕ) → variable_at environment n ≡ variable_at environment (address_of (environment_names listing) n)
        names n = same_name environment n (omega (arith, size, environment_small)) ∙
            ap (λ k. variable_at environment (address_of (consecutive k 0) n)) size

    pub main_steady : (s : ℕ) → SteadyRecord listing (above_main listing) 0 (length environment) (main_record s)
    unfolding above_main child_count main_call
    main_steady s = steady_child listing T 0 (above_main listing) environment 0 (omega arith) environment_near (omega (arith, size, environment_small))
        (omega arith) (main_call listing) 0 s refl (omega arith) main_passed

-- all priorities are main's
pub alone_range : (x : Record) → x.low ≡ 0 → x.bits ≡ 32 → x.slot < 64 → Range 0 4294967296 (put x nil nil)
alone_range x low bits small =
    let all : 2 ^ x.bits ≡ 4294967296 = ap (λ z. 2 ^ z) bits in
    let least : 0 ≤ x.low = omega arith in
    let some : 1 ≤ 2 ^ x.bits = omega (arith, all) in
    let inside : x.low ≤ x.low + 2 ^ x.bits = omega arith in
    let last : x.low + 2 ^ x.bits ≤ 4294967296 = omega (arith, all, low) in
    range_put {x = x} least some small (range_nil inside) (range_nil last)

no_rows_lem : (n : ℕ) → used_below no_rows n ≡ 0
unfolding used_below no_rows free_row one
no_rows_lem zero = refl
no_rows_lem (suc n) = zero-add (used_below no_rows n) ∙ no_rows_lem n

bind_ok : (o : Result Turn) → (o >>= λ a. ok a) ≡ o
unfolding ◌>>=◌
bind_ok (stop k) = refl
bind_ok (ok a) = refl

module _ (listing : Listing) (T : TableFits listing) (s : ℕ) (small : s < 64) where
  abbrev environment : List Variable
  environment = new_environment listing

  abbrev rows : Rows
  rows = with_row no_rows s (main_row listing environment s)

  size : length environment ≡ environment_size listing
  unfolding new_environment
  size = length-replicate (environment_size listing) (new_variable 0 0)

  abbrev main : Record
  main = new_child listing 0 environment (environment_names listing) (main_call listing) 0 s 0 32

  row_used : (main_row listing environment s).used ≡ true
  unfolding main_row child_row
  row_used = refl

  row_awake : (n : ℕ) → (rows n).asleep ≡ true → ⊥
  unfolding main_row child_row no_rows free_row
  row_awake n a = go (ℕ_discrete n s)
    where
      go : Dec (n ≡ s) → ⊥
      go (yes e) = bool_not (sym a ∙ ap (λ r. r.asleep) (ap rows e ∙ with_row-same no_rows s (main_row listing environment s)))
      go (no e) = bool_not (sym a ∙ ap (λ r. r.asleep) (with_row-other no_rows s (main_row listing environment s) n e))

  row_of : (n : ℕ) → (rows n).used ≡ true → n ≡ s
  unfolding no_rows free_row
  row_of n u = go (ℕ_discrete n s)
    where
      go : Dec (n ≡ s) → n ≡ s
      go (yes e) = e
      go (no e) = bool_not (sym u ∙ ap (λ r. r.used) (with_row-other no_rows s (main_row listing environment s) n e))

  one_used : used_below rows 64 ≡ 1
  unfolding one no_rows free_row
  one_used =
      let u = used-with_row no_rows s (main_row listing environment s) 64 small in
      let v : one (main_row listing environment s).used ≡ 1 = ap one row_used in
      omega (arith, u, v, no_rows_lem 64)

  -- main runs
  pub main_runs : (allowance : ℕ) → Runs listing 0 (λ o. []) 4294967296 rows environment [] allowance 1 0 (focus (placed main 0) nil nil) []
      (start_turn listing allowance)
  unfolding focus placed new_child plug ◌⋈◌ ready_up ready slots_in going_on_lem rest tasks up dones memory_of path_of erase begin enter new_routine new_environment row_for ◌⊕◌ main_call
  main_runs allowance =
      record {
        held = held_under (with_row-same no_rows s (main_row listing environment s) ∙ main_row_lem listing T environment size s) held_nil held_nil held_top;
        range = alone_range (placed main 0) refl refl small;
        queue = refl;
        lists_right = record { sound = λ n o a i. elim i [ ]; full = λ n o a h. absurd (row_awake n a) };
        known = record { all = λ n a. absurd (row_awake n a) };
        rests = rests_nil;
        paused = at_root;
        begun = refl;
        same = sym (bind_ok (start_turn listing allowance));
      }

  pub main_sound : Sound listing 0 (λ o. []) 4294967296 T rows environment 1 (plug (focus (placed main 0) nil nil ∷ []) nil)
  unfolding focus placed plug ◌⋈◌ root_count slots_of new_child
  main_sound =
      record {
        steady = steady_put (steady_placed listing (above_main listing) 0 (length environment) 0 main (main_steady listing T environment size s))
            steady_nil steady_nil;
        used = one_used;
        lone = refl;
        whole = λ n u. here (row_of n u);
      }

  pub start_on_rows_lem : (allowance : ℕ) → SameOutcome listing 0 allowance (start listing allowance) (start_on_rows listing s allowance)
  unfolding start start_on_rows focus placed new_child new_environment
  start_on_rows_lem allowance =
      finish_alike listing 0 (λ o. []) T allowance (start_turn listing allowance) _ (start_turn-within listing allowance)
      (run_as_walk listing 0 (λ o. []) 4294967296 T allowance (start_turn listing allowance) rows environment [] 1 0 (focus (placed main 0) nil nil) []
      (main_runs allowance) main_sound)
