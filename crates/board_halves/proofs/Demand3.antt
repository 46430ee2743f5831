-- Demand 3, "said of the lists that the calls leave": two boards whose runs agree in what is one grower's leave the same list of that
-- grower's writes, and machines in which that grower's inputs and outputs are equal. The boards may have different layouts of table and
-- machine, as long as each is exact (questions 6 and 7): then their calls answer as the walk, and of the walk the claims are proved.
use mathlib.Core.Path.{◌≡◌, refl, sym, ap, ap₂, ◌∙◌, subst}
use mathlib.Core.List.{List, [], ◌∷◌, ◌++◌, Memᴰ}
use mathlib.Core.Option.{Option, some}
use Rattle.listing.specs.Listing.{Listing, Call}
use Rattle.listing.specs.Load.{Loads}
use Rattle.listing.proofs.Determine.{one_listing_lem}
use Rattle.walk.specs.Instant.{Done}
use Rattle.walk.specs.Calls.{Layout, Machine, running, first_words, Outcome, done, outcome_number, outcome_listed, start_on, no_figures, outcome_figures}
use Rattle.walk.specs.Events.{events_at}
use Rattle.walk.specs.Runs.{Run, answers_from, answers_from_found, found_after_lem, reported, answers, accepted_inputs, reported_writes, time_of}
use Rattle.walk.specs.Promises.{result_of}
use Rattle.walk.specs.Promises as Promises
use Rattle.walk.specs.Boards.{BoardRun, as_instant_calls}
use Rattle.walk_halves.specs.Halves.{RunFor, only_of, Agree, machine_of}
use Rattle.walk_halves.proofs.Demand3 as Walk
use Rattle.board_promises.specs.Exact.{Exact}
use Rattle.board_promises.specs.Sessions.{results_of, results_on, StopsAreNumbered, LeavesTheWalks, BoardSession}
use Rattle.board_promises.proofs.Board.{board_session, start_went_through, answers_of_known}
use Rattle.board_halves.specs.Boards.{board_accepted, board_time, board_writes, words_left, BoardRunFor, BoardsAgree, SameOnBoards}
use Rattle.board_halves.proofs.Told.{calls_told, left_told}

-- ── a board's run as a run of the walk ────────────────────────────────────────────────────────────
abbrev pub as_run : Listing → {layout : Layout} → BoardRun layout → Run
as_run listing run = record { listing = listing; allowance = run.allowance; calls = as_instant_calls run.table run.machine run.calls }

number_told : (o : Outcome) → (result_of o).number ≡ outcome_number o
unfolding result_of
number_told o = refl

pub record OnTheWalk (listing : Listing) {layout : Layout} (run : BoardRun layout) : Type 0 where
  pub d : Done
  pub starts : start_on listing run.allowance ≡ done d
  pub results : results_on run.calls ≡ results_of (answers (as_run listing run) d)
  pub accepts : accepted_inputs (as_run listing run) d ≡ board_accepted run.calls
  pub time : time_of (as_run listing run) d ≡ board_time 0 run.calls
  pub writes : reported_writes (as_run listing run) d ≡ board_writes run
  pub left : layout.read_machine listing (first_words (words_left run.machine run.calls)) ≡ some (machine_of (as_run listing run) d)

module _ {layout : Layout} (exact : Exact layout) (run : BoardRun layout) (started : run.result.number ≡ 0) where
  -- the start went through, so that the machine before the calls is the walk's after its start
  of_session : (b : BoardSession layout run) → OnTheWalk b.listing run
  unfolding accepted_inputs time_of reported_writes machine_of answers board_writes no_figures outcome_figures found_after_lem
  of_session b =
      let w = start_went_through b.listing run.allowance _ b.outcome b.starts (sym (number_told b.outcome) ∙ sym (ap (λ (r : Promises.Result). r.number) b.start_result) ∙ started) in
      let found : layout.read_machine b.listing (first_words run.machine) ≡ some (running w.d.state) = b.start_machine ∙ ap (found_after_lem _) w.is in
      let calls = as_instant_calls run.table run.machine run.calls in
      let same : answers_from_found b.listing (layout.read_machine b.listing (first_words run.machine)) calls ≡ answers_from b.listing (running w.d.state) calls =
      ap (λ (m : Option Machine). answers_from_found b.listing m calls) found ∙ answers_of_known b.listing (running w.d.state) calls in
      let told = calls_told b.listing run.table run.machine (running w.d.state) run.calls
      (b.calls.results ∙ ap results_of same) (subst StopsAreNumbered same b.calls.stops) in
      record {
        d = w.d;
        starts = w.starts;
        results = b.calls.results ∙ ap results_of same;
        accepts = told.accepts;
        time = told.times 0;
        writes = ap₂ ◌++◌ (ap (λ (o : Outcome). events_at 0 (outcome_listed o)) (sym w.is) ∙ sym b.start_writes) (ap reported (sym same) ∙ sym b.calls.writes);
        left = left_told layout b.listing run.machine (running w.d.state)
            (subst (LeavesTheWalks layout b.listing _ run.calls) same b.calls.states) found found;
      }

  pub on_the_walk : (listing : Listing) → Loads run.text listing → OnTheWalk listing run
  on_the_walk listing loads =
      let b = board_session layout exact run in
      subst (λ l. OnTheWalk l run) (one_listing_lem run.text b.listing listing b.loads loads) (of_session b)

-- ── the claim ─────────────────────────────────────────────────────────────────────────────────────
found_same : {a b : Machine} → some a ≡ some b → a ≡ b
found_same e = cc

module _ (layout layout' : Layout) (exact : Exact layout) (exact' : Exact layout') (run : BoardRun layout) (run' : BoardRun layout') (listing listing' : Listing)
    (growers : List Call) (c : Call) (m : Memᴰ c growers) (r : BoardRunFor growers listing run) (r' : BoardRunFor growers listing' run')
    (agree : BoardsAgree c listing listing' run run') where
  w : OnTheWalk listing run
  w = on_the_walk exact run r.started listing r.loads

  w' : OnTheWalk listing' run'
  w' = on_the_walk exact' run' r'.started listing' r'.loads

  agrees : Agree c (as_run listing run) (as_run listing' run') w.d w'.d
  agrees = record {
    listings = agree.listings;
    accepted = ap (only_of c) w.accepts ∙ agree.accepted ∙ ap (only_of c) (sym w'.accepts);
    time = w.time ∙ agree.time ∙ sym w'.time;
  }

  first : RunFor growers (as_run listing run) w.d
  first = record { let_to = r.let_to; text = run.text; loads = r.loads; starts = w.starts }

  second : RunFor growers (as_run listing' run') w'.d
  second = record { let_to = r'.let_to; text = run'.text; loads = r'.loads; starts = w'.starts }

  -- For any number of growers and any of them.
  pub demand_3 : only_of c (board_writes run) ≡ only_of c (board_writes run')
  demand_3 =
      ap (only_of c) (sym w.writes) ∙ Walk.demand_3 growers c (as_run listing run) (as_run listing' run') w.d w'.d m first second agrees ∙
      ap (only_of c) w'.writes

  -- And its waiting writes, as the words that the runs left have them.
  pub waiting_writes_are_its_own : SameOnBoards c listing listing' run run'
  waiting_writes_are_its_own s s' e e' =
      Walk.waiting_writes_are_its_own growers c (as_run listing run) (as_run listing' run') w.d w'.d m first second agrees s s'
      (found_same (sym w.left ∙ e)) (found_same (sym w'.left ∙ e'))

-- "Then the two lists of the first's reported writes are equal."
pub two_halves : (layout layout' : Layout) → Exact layout → Exact layout' →
    (run : BoardRun layout) (run' : BoardRun layout') (listing listing' : Listing)
    (first second : Call) → BoardRunFor (first ∷ second ∷ []) listing run → BoardRunFor (first ∷ second ∷ []) listing' run' →
    BoardsAgree first listing listing' run run' → only_of first (board_writes run) ≡ only_of first (board_writes run')
two_halves layout layout' exact exact' run run' listing listing' first second r r' agree =
    demand_3 layout layout' exact exact' run run' listing listing' (first ∷ second ∷ []) first (Memᴰ.head refl) r r' agree
