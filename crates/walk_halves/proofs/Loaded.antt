-- What loading with number 0 gives of main: question 4's "Is main as stated", and question 3's "16 names a routine".
use mathlib.Core.Path.{◌≡◌}
use mathlib.Core.Bool.{Bool, true, false, ◌&&◌}
use mathlib.Core.List.{List, [], ◌∷◌, ◌++◌, map}
use Prim.Native.Nat.{ℕ, ◌+◌, ◌≤◌}
use native.Mathlib.Omega.{arith}
use borrow.Author.Tests.{eqb-true, leb-true}
use lib.Dec.{eqb, leb}
use lib.ListN.{length}
use Rattle.listing.specs.Lists.{all, total, all_yes}
use Rattle.listing.specs.Bytes.{Bytes}
use Rattle.listing.specs.Listing.{Listing, Routine, name_count}
use Rattle.listing.specs.Limits.{routine_limit, instruction_limit, name_limit, piece_limit}
use Rattle.listing.specs.Questions.{is_there, is_by_reference, opens_as_stated, routines_there, there_answers}
use Rattle.listing.specs.WellFormed.{meets_counts, routine_instructions, routine_pieces}
use Rattle.listing.specs.Load.{Loads}
use Rattle.listing.proofs.Answers.{yes_head, yes_tail}
use Rattle.listing.proofs.Determine.{well_formed_parts, loads_exactly_if}
use Rattle.walk.specs.Walk.{routine_at}
use Rattle.walk.specs.Instant.{environment_size}
use Rattle.walk_laws.proofs.Booleans.{false_is_not_true, and_left, and_right}

pub record Sound (listing : Listing) : Type 0 where
  -- "Main has i + o arguments, all `r`"
  pub arguments : length (routine_at listing 0).kinds ≡ environment_size listing
  pub references : all is_by_reference (routine_at listing 0).kinds ≡ true
  pub few_names : environment_size listing + (routine_at listing 0).locals ≤ 16

all_head : {A : Type 0} (test : A → Bool) (x : A) (xs : List A) → all test (x ∷ xs) ≡ true → test x ≡ true
unfolding all
all_head test x xs h = and_left (test x) (all test xs) h

-- A listing with these routines, whose main is the first of them.
main_stated : (inputs outputs : ℕ) (routines : List Routine) → let listing : Listing = record {
  inputs = inputs;
  outputs = outputs;
  routines = routines;
} in
    all_yes (there_answers listing) ≡ true → meets_counts listing ≡ true → Sound listing
unfolding there_answers routines_there opens_as_stated meets_counts routine_at environment_size
main_stated inputs outputs [] there counts =
    false_is_not_true (yes_head false [] there)
main_stated inputs outputs (main ∷ rest) there counts =
    let routines = main ∷ rest in
    let listing : Listing = record { inputs = inputs; outputs = outputs; routines = routines } in
    let others = map (is_there routines (name_count main) (length main.code)) main.code ++ routines_there listing 1 rest in
    let size = eqb (length main.kinds) (inputs + outputs) in
    let stated : size && all is_by_reference main.kinds ≡ true =
    yes_head (opens_as_stated listing 0 main) others (yes_tail true (opens_as_stated listing 0 main ∷ others) there) in
    let long : length main.kinds ≡ inputs + outputs = eqb-true _ _ (and_left size (all is_by_reference main.kinds) stated) in
    let others-few = leb (length routines) routine_limit && leb (total (map routine_instructions routines)) instruction_limit &&
    leb (total (map routine_pieces routines)) piece_limit in
    let few = and_right others-few (all (λ routine. leb (name_count routine) name_limit) routines) counts in
    let names : length main.kinds + main.locals ≤ 16 = leb-true _ _ (all_head
    (λ (routine : Routine). leb (name_count routine) name_limit) main rest few) in
    record {
      arguments = long;
      references = and_right size (all is_by_reference main.kinds) stated;
      few_names = omega arith;
    }

pub loaded_is_sound : (text : Bytes) (listing : Listing) → Loads text listing → Sound listing
loaded_is_sound text listing h =
    let well = well_formed_parts listing ((loads_exactly_if text listing).0 h).1 in
    main_stated listing.inputs listing.outputs listing.routines well.there well.counts
