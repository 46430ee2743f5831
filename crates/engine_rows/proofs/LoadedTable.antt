-- What questions 2 to 5 demand of a listing gives what the run asks of its table.
-- Letters: r a routine's number, rs routines, c and cs child fields, ks kinds, n a number of names.
use mathlib.Core.Path.{◌≡◌, refl, sym, ap, subst, ◌∙◌}
use mathlib.Core.Bool.{Bool, true, ◌&&◌, not}
use mathlib.Core.List.{List, [], ◌∷◌, ◌++◌, map}
use Prim.Native.Nat.{ℕ, zero, suc, ◌+◌, ◌≤◌}
use native.Mathlib.Omega.{arith}
use lib.Dec.{eqb, ltb, leb}
use lib.ListN.{length, get_or, replicate}
use borrow.Author.Tests.{ltb-true, leb-true, eqb-true}
use Rattle.listing.specs.Lists.{all, all_yes, is_empty, total}
use Rattle.listing.specs.Listing.{Listing, Routine, Kind, by_reference, by_value, Call, end}
use Rattle.listing.specs.Form.{one_to}
use Rattle.listing.specs.Questions.{piece_is_there, argument_count, call_is_there, is_there, is_by_reference, opens_as_stated, routines_there, there_answers, ending_answers}
use Rattle.listing.specs.WellFormed.{instruction_has_form, has_form, routine_instructions, routine_pieces, meets_counts, well_formed_but_for_length}
use Rattle.listing.specs.Limits.{routine_limit, instruction_limit, piece_limit}
use Rattle.listing.specs.Listing as Listing
use Rattle.listing.proofs.Tests.{no_test, and_left, and_right, all_head, all_tail}
use Rattle.listing.proofs.Answers.{yes_head, yes_tail, yes_left, yes_right, yes_map}
use Rattle.walk.specs.Walk.{no_routine, routine_at, instruction_at, child_count}
use Rattle.walk.specs.Instant.{environment_size}
use Rattle.engine_rows.proofs.Children.{Passed, passed_nil, passed_put}
use Rattle.engine_rows.proofs.Steady.{name_count, CallsFit, calls_nil, calls_put, TableFits}

-- a test that all elements pass is passed by any of them
all_at : {A : Type 0} (test : A → Bool) (xs : List A) (i : ℕ) (default : A) → all test xs ≡ true → test default ≡ true →
    test (get_or xs i default) ≡ true
all_at test [] i default h d = d
all_at test (x ∷ xs) zero default h d = all_head test x xs h
all_at test (x ∷ xs) (suc i) default h d = all_at test xs i default (all_tail test x xs h) d

count_is_length : (cs : List Call) → child_count cs ≡ length cs
unfolding child_count
count_is_length [] = refl
count_is_length (c ∷ cs) = ap suc (count_is_length cs)

-- as many arguments as kinds, each a name of the caller
arguments_pass : (n : ℕ) (ks : List Kind) (xs : List ℕ) → length xs ≡ length ks → all (λ x. ltb x n) xs ≡ true → Passed n ks xs
arguments_pass n [] [] e h = passed_nil
arguments_pass n [] (x ∷ xs) e h = absurd (omega arith)
arguments_pass n (k ∷ ks) [] e h = absurd (omega arith)
arguments_pass n (k ∷ ks) (x ∷ xs) e h =
    passed_put (ltb-true x n (all_head (λ y. ltb y n) x xs h)) (arguments_pass n ks xs (omega arith) (all_tail (λ y. ltb y n) x xs h))

all_references : (ks : List Kind) → all is_by_reference ks ≡ true → ks ≡ replicate (length ks) by_reference
all_references [] h = refl
all_references (by_reference ∷ ks) h = ap (λ z. by_reference ∷ z) (all_references ks (all_tail is_by_reference by_reference ks h))
all_references (by_value ∷ ks) h = no_test (all_head is_by_reference by_value ks h)

module _ (listing : Listing) where
  -- every instruction of every routine points to something there
  abbrev instructions_there : Routine → List Bool
  instructions_there routine = map (is_there listing.routines (Listing.name_count routine) (length routine.code)) routine.code

  abbrev there : Routine → Bool
  there routine = all (is_there listing.routines (Listing.name_count routine) (length routine.code)) routine.code

  after_main : (number : ℕ) (r : Routine) (rs : List Routine) → all_yes (routines_there listing number (r ∷ rs)) ≡ true →
      all_yes (instructions_there r ++ routines_there listing (suc number) rs) ≡ true
  unfolding routines_there
  after_main number r rs h = yes_tail (opens_as_stated listing number r) (instructions_there r ++ routines_there listing (suc number) rs) h

  routine_there : (number : ℕ) (rs : List Routine) → all_yes (routines_there listing number rs) ≡ true → (k : ℕ) → there (get_or rs k no_routine) ≡ true
  unfolding no_routine all
  routine_there number [] h k = refl
  routine_there number (r ∷ rs) h zero =
      sym (yes_map (is_there listing.routines (Listing.name_count r) (length r.code)) r.code) ∙
      yes_left (instructions_there r) (routines_there listing (suc number) rs) (after_main number r rs h)
  routine_there number (r ∷ rs) h (suc k) = routine_there (suc number) rs
      (yes_right (instructions_there r) (routines_there listing (suc number) rs) (after_main number r rs h)) k

  main_stated : (rs : List Routine) → not (is_empty rs) ≡ true → all_yes (routines_there listing 0 rs) ≡ true →
      opens_as_stated listing 0 (get_or rs 0 no_routine) ≡ true
  unfolding routines_there
  main_stated [] n h = no_test n
  main_stated (r ∷ rs) n h = yes_head (opens_as_stated listing 0 r) (instructions_there r ++ routines_there listing 1 rs) h

  module _ (h : well_formed_but_for_length listing ≡ true) where
    abbrev F : Bool
    F = has_form listing

    abbrev M : Bool
    M = meets_counts listing

    abbrev Y : Bool
    Y = all_yes (there_answers listing)

    abbrev E : Bool
    E = all_yes (ending_answers listing)

    conjunction : (((F && M) && Y) && E) ≡ true
    unfolding well_formed_but_for_length
    conjunction = h

    answers : all_yes (there_answers listing) ≡ true
    answers = and_right (F && M) Y (and_left ((F && M) && Y) E conjunction)

    has_form_lem : has_form listing ≡ true
    has_form_lem = and_left F M (and_left (F && M) Y (and_left ((F && M) && Y) E conjunction))

    counts : meets_counts listing ≡ true
    counts = and_right F M (and_left (F && M) Y (and_left ((F && M) && Y) E conjunction))

    routines_there_lem : all_yes (routines_there listing 0 listing.routines) ≡ true
    unfolding there_answers
    routines_there_lem = yes_tail (not (is_empty listing.routines)) (routines_there listing 0 listing.routines) answers

    some_routine : not (is_empty listing.routines) ≡ true
    unfolding there_answers
    some_routine = yes_head (not (is_empty listing.routines)) (routines_there listing 0 listing.routines) answers

    instruction_there : (r place : ℕ) → is_there listing.routines (name_count listing r) (length (routine_at listing r).code)
        (instruction_at listing r place) ≡ true
    unfolding instruction_at routine_at name_count is_there
    instruction_there r place =
        all_at (is_there listing.routines (name_count listing r) (length (routine_at listing r).code)) (routine_at listing r).code place end
        (routine_there 0 listing.routines routines_there_lem r) refl

    instruction_form : (r place : ℕ) → instruction_has_form (instruction_at listing r place) ≡ true
    unfolding instruction_at routine_at has_form instruction_has_form no_routine all
    instruction_form r place =
        all_at instruction_has_form (routine_at listing r).code place end
        (all_at (λ routine. all instruction_has_form routine.code) listing.routines r no_routine has_form_lem refl) refl

    few_names_lem : (r : ℕ) → name_count listing r ≤ 16
    unfolding routine_at name_count meets_counts no_routine
    few_names_lem r =
        let limits : Bool = leb (length listing.routines) routine_limit && leb (total (map routine_instructions listing.routines))
        instruction_limit && leb (total (map routine_pieces listing.routines)) piece_limit in
        leb-true (name_count listing r) 16 (all_at (λ routine. leb (Listing.name_count routine) 16) listing.routines r no_routine
        (and_right limits (all (λ routine. leb (Listing.name_count routine) 16) listing.routines) counts) refl)

    one_call : (n : ℕ) (c : Call) → call_is_there listing.routines n c ≡ true → Passed n (routine_at listing c.callee).kinds c.arguments
    unfolding call_is_there argument_count routine_at no_routine
    one_call n c e =
        let A : Bool = ltb c.callee (length listing.routines) in
        let B : Bool = eqb (length c.arguments) (argument_count listing.routines c.callee) in
        let C : Bool = all (λ x. ltb x n) c.arguments in
        arguments_pass n (routine_at listing c.callee).kinds c.arguments
        (eqb-true (length c.arguments) (argument_count listing.routines c.callee) (and_right A B (and_left (A && B) C e)))
        (and_right (A && B) C e)

    calls_there : (n : ℕ) (cs : List Call) → all (call_is_there listing.routines n) cs ≡ true → CallsFit listing n cs
    calls_there n [] e = calls_nil
    calls_there n (c ∷ cs) e = calls_put (one_call n c (all_head (call_is_there listing.routines n) c cs e))
        (calls_there n cs (all_tail (call_is_there listing.routines n) c cs e))

    -- a table that passes question 6
    pub loaded_table_fits : TableFits listing
    unfolding is_there instruction_has_form one_to opens_as_stated environment_size there_answers routine_at
    loaded_table_fits =
        record {
          sets = λ r place n e i. ltb-true n (name_count listing r)
              (and_left (ltb n (name_count listing r)) _ (subst (λ z. is_there listing.routines (name_count listing r)
              (length (routine_at listing r).code) z ≡ true) i (instruction_there r place)));
          delays = λ r place n d e i. ltb-true n (name_count listing r)
              (and_left (ltb n (name_count listing r)) (all (piece_is_there (name_count listing r)) d)
              (and_left (ltb n (name_count listing r) && all (piece_is_there (name_count listing r)) d)
              (all (piece_is_there (name_count listing r)) e) (subst
              (λ z. is_there listing.routines (name_count listing r) (length (routine_at listing r).code) z ≡ true) i
              (instruction_there r place))));
          forks = λ r place cs i. calls_there (name_count listing r) cs
              (subst (λ z. is_there listing.routines (name_count listing r) (length (routine_at listing r).code) z ≡ true) i
              (instruction_there r place));
          some = λ r place cs i. number cs (subst (λ z. instruction_has_form z ≡ true) i (instruction_form r place));
          few = few_names_lem;
          main = main_kinds;
        }
      where
        number : (cs : List Call) → (leb 1 (length cs) && leb (length cs) 8) ≡ true → (1 ≤ child_count cs) × (child_count cs ≤ 8)
        number cs e = (
          subst (λ k. 1 ≤ k) (sym (count_is_length cs)) (leb-true 1 (length cs) (and_left (leb 1 (length cs)) _ e)),
          subst (λ k. k ≤ 8) (sym (count_is_length cs)) (leb-true (length cs) 8 (and_right (leb 1 (length cs)) _ e)),
        )

        stated : (eqb (length (routine_at listing 0).kinds) (listing.inputs + listing.outputs) && all is_by_reference
            (routine_at listing 0).kinds) ≡ true
        stated = main_stated listing.routines some_routine routines_there_lem

        main_kinds : (routine_at listing 0).kinds ≡ replicate (listing.inputs + listing.outputs) by_reference
        main_kinds = all_references (routine_at listing 0).kinds
            (and_right (eqb (length (routine_at listing 0).kinds) (listing.inputs + listing.outputs)) _ stated) ∙
            ap (λ k. replicate k by_reference) (eqb-true (length (routine_at listing 0).kinds) (listing.inputs + listing.outputs)
            (and_left (eqb (length (routine_at listing 0).kinds) (listing.inputs + listing.outputs))
            (all is_by_reference (routine_at listing 0).kinds) stated))
