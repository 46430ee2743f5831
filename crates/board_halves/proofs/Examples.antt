-- Demand 3 is not empty on boards: two sessions that are handed the arguments of specs Examples, on memories that are long enough, meet it.
-- Letters: run a board's run, r the run of the walk that it is, c a grower's child field.
use mathlib.Core.Path.{◌≡◌, refl, sym, ap, ap₂, ◌∙◌, subst}
use mathlib.Core.Bool.{Bool, true, ◌&&◌}
use mathlib.Core.List.{List, [], ◌∷◌, ◌++◌, map}
use Prim.Native.Nat.{ℕ, zero, suc, ◌≤◌, ◌<◌}
use lib.Dec.{ltb, leb}
use lib.ListN.{length, get_or, replicate}
use borrow.Author.Tests.{le-leb, ltb-true}
use native.Mathlib.Omega.{arith}
use Rattle.words.specs.Moments.{moment_range}
use Rattle.listing.specs.Lists.{all}
use Rattle.listing.specs.Text.{text_of}
use Rattle.listing.specs.Listing.{Listing, Call}
use Rattle.listing.specs.Load.{Loading, Loads}
use Rattle.listing.proofs.Determine.{one_listing_lem}
use Rattle.walk.specs.Instant.{Done}
use Rattle.walk.specs.Calls.{Words32, Layout, memory_words, Outcome, done, outcome_number, ask, inputs_of, start_long_enough, start_on}
use Rattle.walk.specs.Events.{Event}
use Rattle.walk.specs.Runs.{InstantCall, Run, Answered, answers_from, answers_from_found, answers, accepted_inputs, reported_writes, time_of}
use Rattle.walk.specs.Promises.{Result, result_of, TableAfter, untouched, holds}
use Rattle.walk.specs.Boards.{BoardRun, BoardCall, CallArguments, AllFit, none_fits, one_fits, arguments_of, as_instant_calls}
use Rattle.walk_halves.specs.Halves.{only_of}
use Rattle.walk_halves.specs.Examples.{first, second, one_listing, other_listing, one_run, other_run, opened, closed, one_numbers, other_numbers, one_second, other_second}
use Rattle.walk_halves.proofs.Evaluation.{done_of, start_of, numbers_of, Told, told}
use Rattle.walk_halves.proofs.Examples.{one_loads, other_loads, one_run_lem, other_run_lem, one_told, other_told, its_routines, second_differs}
use Rattle.walk_laws.proofs.Booleans.{and_left, and_right}
use Rattle.board_promises.specs.Exact.{Exact}
use Rattle.board_promises.specs.Sessions.{results_of, results_on, BoardSession, SessionOf}
use Rattle.board_promises.proofs.Board.{board_session}
use Rattle.board_halves.specs.Boards.{board_accepted, board_time, board_writes, BoardRunFor, BoardsAgree}
use Rattle.board_halves.specs.Examples.{sixteen, one_handed, other_handed, TwoBoards}
use Rattle.board_halves.proofs.Demand3.{as_run, OnTheWalk, on_the_walk}
use Rattle.board_halves.proofs.Seen.{seen_as, length_stays, calls_seen}

-- ── a session of given arguments is a run of the walk ─────────────────────────────────────────────
-- What is told of a board's run is told of the run r of the walk.
record IsRun (listing : Listing) {layout : Layout} (run : BoardRun layout) (r : Run) : Type 0 where
  started : run.result.number ≡ 0
  numbers : map (λ (x : Result). x.number) (results_on run.calls) ≡ numbers_of (answers r (start_of r))
  accepts : board_accepted run.calls ≡ accepted_inputs r (start_of r)
  time : board_time 0 run.calls ≡ time_of r (start_of r)
  writes : board_writes run ≡ reported_writes r (start_of r)

table_length_lem : {layout : Layout} {before after : List ℕ} {answer : Loading} → TableAfter layout before after answer → length after ≡ length before
table_length_lem (untouched e) = ap (λ (w : List ℕ). length w) e
table_length_lem (holds r a b) = a

done_of_lem : (o : Outcome) (d : Done) → o ≡ done d → d ≡ done_of o
unfolding done_of
done_of_lem o d e = rw e

number_of : (o : Outcome) → (result_of o).number ≡ outcome_number o
unfolding result_of
number_of o = refl

first_passes : (b : Bool) (o : Outcome) → b ≡ true → ask 1 b o ≡ o
unfolding ask
first_passes b o e = rw e

all_long_lem : (table machine numbers values : List ℕ) → memory_words ≤ length table → memory_words ≤ length machine → numbers ≡ sixteen → values ≡ sixteen →
    start_long_enough table machine numbers values ≡ true
unfolding start_long_enough
all_long_lem table machine numbers values h k e f = rw (le-leb memory_words (length table) h, le-leb memory_words (length machine) k, e, f)

numbers_told : (xs : List Answered) → map (λ (x : Result). x.number) (results_of xs) ≡ numbers_of xs
unfolding results_of result_of numbers_of
numbers_told [] = refl
numbers_told (a ∷ xs) = ap (λ (ns : List ℕ). outcome_number a.outcome ∷ ns) (numbers_told xs)

module _ (layout : Layout) (exact : Exact layout) (r : Run) (text table_before machine_before : List ℕ) (handed : List CallArguments) (loads : Loads text r.listing)
    (table_long : memory_words ≤ length table_before) (machine_long : memory_words ≤ length machine_before)
    (starts : start_on r.listing r.allowance ≡ done (start_of r)) (seen : map (λ (a : CallArguments). seen_as a) handed ≡ r.calls)
    (S : SessionOf layout text table_before machine_before sixteen sixteen r.allowance handed)
  where
    session : BoardSession layout S.run
    session = board_session layout exact S.run

    loads_here : Loads S.run.text r.listing
    loads_here = subst (λ (x : List ℕ). Loads x r.listing) (sym S.text_is) loads

    same_listing : session.listing ≡ r.listing
    same_listing = one_listing_lem S.run.text session.listing r.listing session.loads loads_here

    long_table : memory_words ≤ length S.run.table
    long_table = let l = table_length_lem S.run.loads.1 in let e = ap (λ (w : List ℕ). length w) S.table_is in omega (arith, l, e, table_long)

    long_before : memory_words ≤ length S.run.machine_before
    long_before = let e = ap (λ (w : List ℕ). length w) S.machine_is_lem in omega (arith, e, machine_long)

    long_machine : memory_words ≤ length S.run.machine
    long_machine = let l = length_stays long_before S.run.starts.machine_is in let h = long_before in omega (arith, l, h)

    went : session.outcome ≡ done (start_of r)
    went =
        session.starts ∙
        first_passes _ _ (all_long_lem S.run.table S.run.machine_before S.run.numbers_before S.run.values_before long_table long_before S.numbers_is S.values_is) ∙
        ap₂ start_on same_listing S.allowance_is_lem ∙ starts

    started : S.run.result.number ≡ 0
    unfolding outcome_number
    started = ap (λ (x : Result). x.number) session.start_result ∙ number_of session.outcome ∙ ap outcome_number went

    calls_are : as_instant_calls S.run.table S.run.machine S.run.calls ≡ r.calls
    calls_are =
        calls_seen S.run.table S.run.machine S.run.calls long_table long_machine S.run.answered ∙
        ap (λ (xs : List CallArguments). map (λ (a : CallArguments). seen_as a) xs) S.handed_is ∙ seen

    run_is : as_run r.listing S.run ≡ r
    run_is = ap₂ (λ (n : ℕ) (cs : List InstantCall). record { listing = r.listing; allowance = n; calls = cs }) S.allowance_is_lem calls_are

    walked : OnTheWalk r.listing S.run
    walked = on_the_walk exact S.run started r.listing loads_here

    start_is : walked.d ≡ start_of r
    unfolding start_of
    start_is = done_of_lem (start_on r.listing r.allowance) walked.d (ap (start_on r.listing) (sym S.allowance_is_lem) ∙ walked.starts)

    is_run : IsRun r.listing S.run r
    is_run =
        record {
          started = started;
          numbers = ap (λ (xs : List Result). map (λ (x : Result). x.number) xs) walked.results ∙ numbers_told _ ∙
              ap₂ (λ (x : Run) (d : Done). numbers_of (answers x d)) run_is start_is;
          accepts = sym walked.accepts ∙ ap₂ accepted_inputs run_is start_is;
          time = sym walked.time ∙ ap₂ time_of run_is start_is;
          writes = sym walked.writes ∙ ap₂ reported_writes run_is start_is;
        }

-- ── the two runs ──────────────────────────────────────────────────────────────────────────────────
-- Arguments fit if a test says so.
unfoldable words_fit : List ℕ → Bool
words_fit vs = all (λ v. ltb v 4294967296) vs

unfoldable all_fit : List CallArguments → Bool
all_fit handed = all (λ (a : CallArguments). ltb a.time moment_range && words_fit a.in_values) handed

words_fit_lem : (vs : List ℕ) → words_fit vs ≡ true → Words32 vs
unfolding words_fit all
words_fit_lem [] h k = omega arith
words_fit_lem (v ∷ vs) h zero = ltb-true v 4294967296 (and_left _ _ h)
words_fit_lem (v ∷ vs) h (suc k) = words_fit_lem vs (and_right (ltb v 4294967296) _ h) k

arguments_fit : (handed : List CallArguments) → all_fit handed ≡ true → AllFit handed
unfolding all_fit all
arguments_fit [] h = none_fits
arguments_fit (a ∷ rest) h =
    let here = and_left (ltb a.time moment_range && words_fit a.in_values) _ h in
    one_fits {a = a} (ltb-true a.time moment_range (and_left _ _ here)) (words_fit_lem a.in_values (and_right (ltb a.time moment_range) _ here))
    (arguments_fit rest (and_right (ltb a.time moment_range && words_fit a.in_values) _ h))

pub one_fit : AllFit one_handed
unfolding all_fit words_fit all
one_fit = arguments_fit one_handed refl

pub other_fit : AllFit other_handed
unfolding all_fit words_fit all
other_fit = arguments_fit other_handed refl

one_seen : map (λ (a : CallArguments). seen_as a) one_handed ≡ one_run.calls
unfolding seen_as inputs_of
one_seen = refl

other_seen : map (λ (a : CallArguments). seen_as a) other_handed ≡ other_run.calls
unfolding seen_as inputs_of
other_seen = refl

module _ (layout : Layout) (exact : Exact layout) (table_before machine_before : List ℕ) (table_long : memory_words ≤ length table_before)
    (machine_long : memory_words ≤ length machine_before) (small : Words32 machine_before)
    (one-session : SessionOf layout (text_of one_listing) table_before machine_before sixteen sixteen 100 one_handed)
    (other-session : SessionOf layout (text_of other_listing) table_before machine_before sixteen sixteen 1000 other_handed)
  where
    one_is_run : IsRun one_listing one-session.run one_run
    one_is_run = is_run layout exact one_run (text_of one_listing) table_before machine_before one_handed one_loads table_long machine_long one_run_lem.starts one_seen one-session

    other_is_run : IsRun other_listing other-session.run other_run
    other_is_run = is_run layout exact other_run (text_of other_listing) table_before machine_before other_handed other_loads table_long machine_long other_run_lem.starts other_seen other-session

    pub two_boards : TwoBoards one-session.run other-session.run
    unfolding told
    two_boards =
        record {
          one_is = record { let_to = one_run_lem.let_to; loads = subst (λ (x : List ℕ). Loads x one_listing) (sym one-session.text_is) one_loads; started = one_is_run.started };
          other_is_lem = record { let_to = other_run_lem.let_to; loads = subst (λ (x : List ℕ). Loads x other_listing) (sym other-session.text_is) other_loads; started = other_is_run.started };
          agree = record {
            listings = record { inputs = refl; outputs = refl; main = refl; routines = its_routines };
            accepted = ap (only_of first) one_is_run.accepts ∙ ap (λ (x : Told). x.accepted) one_told ∙ sym (ap (λ (x : Told). x.accepted) other_told) ∙
                sym (ap (only_of first) other_is_run.accepts);
            time = one_is_run.time ∙ ap (λ (x : Told). x.time) one_told ∙ sym (ap (λ (x : Told). x.time) other_told) ∙ sym other_is_run.time;
          };
          handed = one-session.handed_is;
          handed' = other-session.handed_is;
          numbers = one_is_run.numbers ∙ ap (λ (x : Told). x.numbers) one_told;
          numbers' = other_is_run.numbers ∙ ap (λ (x : Told). x.numbers) other_told;
          writes = ap (only_of first) one_is_run.writes ∙ ap (λ (x : Told). x.reports) one_told;
          writes' = ap (only_of first) other_is_run.writes ∙ ap (λ (x : Told). x.reports) other_told;
          second_writes = ap (only_of second) one_is_run.writes ∙ second_differs.0;
          second_writes' = ap (only_of second) other_is_run.writes ∙ second_differs.1;
        }
