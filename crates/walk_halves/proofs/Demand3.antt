-- Demand 3, said of the walk: two runs that agree in what is one grower's have the same list of that grower's reported writes; and at their end that
-- grower's inputs and outputs are equal, in value and waiting write.
-- Any number of growers, any of them; "Two halves" is the instance of two. The thought stands in the files before this one:
-- the start gives the grower the same part of the state in both runs (`Start`), a call with number 0 turns that part by moment and
-- own inputs alone (`Instants`, `Part`), and two whole lists of such turns merge into one (`Merge`).
use mathlib.Core.Path.{◌≡◌, refl, sym, ap, ap₂, ◌∙◌, subst}
use mathlib.Core.List.{List, [], ◌∷◌, ◌++◌, Memᴰ}
use Prim.Native.Nat.{suc, ◌+◌}
use native.Mathlib.Omega.{arith}
use lib.ListN.{take}
use Rattle.listing.specs.Listing.{Listing, Call, Routine, fork, end}
use Rattle.walk.specs.Walk.{routine_at, instruction_at}
use Rattle.walk.specs.Instant.{Done, environment_size}
use Rattle.walk.specs.State.{State}
use Rattle.walk.specs.Calls.{Machine, running, start_on}
use Rattle.walk.specs.Events.{events_at}
use Rattle.walk.specs.Runs.{Run, Answered, accepted, reported, time_from, Unstopped, answers, accepted_inputs, reported_writes, time_of}
use Rattle.walk_halves.specs.Halves.{LetTo, RunFor, RunOfHalves, only_of, Agree, SameReports, machine_from, machine_of, SameVariables, SameAtEnd}
use Rattle.walk_halves.proofs.Due.{NotBefore}
use Rattle.walk_halves.proofs.Lent.{only_both, shown_same}
use Rattle.walk_halves.proofs.Twin.{Has}
use Rattle.walk_halves.proofs.Part.{Grower, args, size, its, Part, next_of, Turned, determined, undisturbed, part_after}
use Rattle.walk_halves.proofs.Instants.{Setting}
use Rattle.walk_halves.proofs.Loaded.{loaded_is_sound}
use Rattle.walk_halves.proofs.Names.{all_references, Between, between, apart}
use Rattle.walk_halves.proofs.Start.{Begun, begun, begun_alike}
use Rattle.walk_halves.proofs.Calls.{passed_start, Traced, traced}
use Rattle.walk_halves.proofs.Standing.{Standing, part_shows}
use Rattle.walk_halves.proofs.Merge.{same_run}

main_forks : (growers : List Call) (listing : Listing) → LetTo growers listing → instruction_at listing 0 0 ≡ fork growers
unfolding instruction_at
main_forks growers listing l = rw l.main

main_ends : (growers : List Call) (listing : Listing) → LetTo growers listing → instruction_at listing 0 1 ≡ end
unfolding instruction_at
main_ends growers listing l = rw l.main

-- One run beside the grower's model listing: its start and its calls.
module _ (g : Grower) (growers : List Call) (at : Between g.field growers) (run : Run) (d : Done) (r : RunFor growers run d)
    (inputs : run.listing.inputs ≡ g.model.inputs) (has : Has (its g) run.listing) where
  setting : Setting g run.listing
  setting = record {
    growers = growers;
    at_fork = main_forks growers run.listing r.let_to;
    then_ends = main_ends growers run.listing r.let_to;
    inputs = inputs;
    has = has;
  }

  run_begun : environment_size run.listing ≡ size g → (routine_at run.listing 0).locals ≡ (routine_at g.model 0).locals →
      Begun g run.listing d
  unfolding start_on
  run_begun sized owns =
      let sound = loaded_is_sound r.text run.listing r.loads in
      let names_apart = apart g.field at.before at.after (rw at.all at r.let_to.apart) in
      let forks = rw at.all at (main_forks growers run.listing r.let_to) in
      let kinds = all_references _ (routine_at run.listing 0).kinds sound.arguments sound.references in
      begun g run.listing has at.before at.after names_apart run.allowance d inputs forks
      (main_ends growers run.listing r.let_to) kinds sized owns
      (passed_start _ _ d r.starts)

  run_traced : (b : Begun g run.listing d) → Traced g run.listing (running d.state) 0 (part_after g b.b) (answers run d)
  unfolding answers
  run_traced b =
      subst (λ n. Traced g run.listing (running d.state) n (part_after g b.b) (answers run d)) b.now
      (traced g run.listing setting run.calls d.state (part_after g b.b) b.standing)

  run_later : (b : Begun g run.listing d) → NotBefore 1 (next_of (part_after g b.b))
  run_later b = subst (λ n. NotBefore (suc n) (next_of (part_after g b.b))) b.now b.standing.later

-- Two runs' calls from the same part on: the grower's reports, and its variables in the states that they leave.
variables_alike : (g : Grower) (listing listing' : Listing) (p q : Part) (s s' : State) → Standing g listing s p → Standing g listing' s' q → p ≡ q →
    SameVariables g.field s s'
variables_alike g listing listing' p q s s' st st' e =
    shown_same (args g) s.environment s'.environment
    (sym (part_shows g listing s p st) ∙ ap (λ (x : Part). take (size g) x.variables) e ∙ part_shows g listing' s' q st')

calls_alike : (g : Grower) (listing listing' : Listing) (k k' : Machine) (p : Part) (xs ys : List Answered) → NotBefore 1 (next_of p) →
    Traced g listing k 0 p xs → Traced g listing' k' 0 p ys →
    only_of g.field (accepted xs) ≡ only_of g.field (accepted ys) → time_from 0 xs ≡ time_from 0 ys →
    (only_of g.field (reported xs) ≡ only_of g.field (reported ys))
    × ((s s' : State) → machine_from k xs ≡ running s → machine_from k' ys ≡ running s' → SameVariables g.field s s')
calls_alike g listing listing' k k' p xs ys later t t' inputs time =
    let merged = same_run Part next_of (Turned g) (determined g) (undisturbed g) t.steps t'.steps 0 0 p later later t.follow t'.follow
    (t.inputs ∙ inputs ∙ sym t'.inputs) (t.end ∙ time ∙ sym t'.end) in (
      sym t.reports ∙ merged.reports ∙ t'.reports,
      λ s s' e e'. variables_alike g listing listing' _ _ s s' (t.stands s e) (t'.stands s' e') merged.part,
    )

runs_alike : (growers : List Call) (c : Call) (run run' : Run) (d d' : Done) → Memᴰ c growers →
    RunFor growers run d → RunFor growers run' d' → Agree c run run' d d' → SameReports c run run' d d' × SameAtEnd c run run' d d'
unfolding environment_size accepted_inputs reported_writes time_of machine_of
runs_alike growers c run run' d d' m r r' agree =
    let g : Grower = record { field = c; model = run.listing; small = omega (arith, (loaded_is_sound r.text run.listing r.loads).few_names) } in
    let at = between c growers m in
    let sized' : environment_size run'.listing ≡ size g = ap₂ ◌+◌ (sym agree.listings.inputs) (sym agree.listings.outputs) in
    let owns' = ap (λ (x : Routine). x.locals) (sym agree.listings.main) in
    let inputs' = sym agree.listings.inputs in
    let b = run_begun g growers at run d r refl (λ n i. refl) refl refl in
    let b' = run_begun g growers at run' d' r' inputs' agree.listings.routines sized' owns' in
    let same = begun_alike g run.listing run'.listing d d' (λ n i. refl) agree.listings.routines b b' in
    let t = run_traced g growers at run d r refl (λ n i. refl) b in
    let t' = run_traced g growers at run' d' r' inputs' agree.listings.routines b' in
    let from-same : Traced g run'.listing (running d'.state) 0 (part_after g b.b) (answers run' d') =
    subst (λ p. Traced g run'.listing (running d'.state) 0 p (answers run' d')) (sym same.0) t' in
    let first : only_of c (events_at 0 d.listed) ≡ only_of c (events_at 0 d'.listed) = b.reports ∙ same.1 ∙ sym b'.reports in
    let later = run_later g growers at run d r refl (λ n i. refl) b in
    let rest = calls_alike g run.listing run'.listing (running d.state) (running d'.state) (part_after g b.b) (answers run d) (answers run' d') later t from-same
    agree.accepted agree.time in (
      only_both c (events_at 0 d.listed) (reported (answers run d)) ∙ ap₂ ◌++◌ first rest.0 ∙
          sym (only_both c (events_at 0 d'.listed) (reported (answers run' d'))),
      rest.1,
    )

-- For any number of growers and any of them. It holds of stopped runs too: a stopped machine refuses every later call, so that a
-- stop ends what a run takes in, its reports and its time at once.
pub demand_3 : (growers : List Call) (c : Call) (run run' : Run) (d d' : Done) → Memᴰ c growers →
    RunFor growers run d → RunFor growers run' d' → Agree c run run' d d' → SameReports c run run' d d'
demand_3 growers c run run' d d' m r r' agree = (runs_alike growers c run run' d d' m r r' agree).0

-- Document 02, Change 4: "The halves stay independent." The waiting writes, and the values, of a grower's inputs and outputs depend on its own inputs alone.
pub waiting_writes_are_its_own : (growers : List Call) (c : Call) (run run' : Run) (d d' : Done) → Memᴰ c growers →
    RunFor growers run d → RunFor growers run' d' → Agree c run run' d d' → SameAtEnd c run run' d d'
waiting_writes_are_its_own growers c run run' d d' m r r' agree = (runs_alike growers c run run' d d' m r r' agree).1

-- "Demand 3 takes two runs, neither stopped, that agree in the first line, in main, in the first's routines with their numbers, in the
-- list of accepted inputs that are the first's, and in the time. .. Then the two lists of the first's reported writes are equal."
pub two_halves : (first second : Call) (run run' : Run) (d d' : Done) → RunOfHalves first second run d → RunOfHalves first second run' d' →
    Unstopped (answers run d) → Unstopped (answers run' d') → Agree first run run' d d' → SameReports first run run' d d'
two_halves first second run run' d d' r r' unstopped unstopped' agree =
    demand_3 (first ∷ second ∷ []) first run run' d d' (Memᴰ.head refl) r r' agree
