-- The demands of document 01 (01-scope.md) about the exported functions: the file to open first. README lists the files that the statements here
-- depend on; none of these stands under proofs/.
-- Demand 1: every call ends and takes whatever it is handed; what it cannot use it turns away under a number, which has one cause.
-- Demand 2: an instant worked through queues leaves and reports just what the walk gives on the loaded listing's own lines, over any session.
-- Demand 3: nobody who holds one half of a board can alter the other's water; one claim about two whole lists of calls.
use mathlib.Core.Path.{◌≡◌, sym, ◌∙◌}
use mathlib.Core.Bool.{Bool, true}
use mathlib.Core.List.{List, Memᴰ}
use mathlib.Core.Logic.{◌↔◌}
use mathlib.Core.Option.{none, some}
use Prim.Native.Nat.{ℕ, suc, ◌+◌, ◌≤◌}
use lib.Dec.{leb}
use lib.ListN.{length, get_or}
use Rattle.listing.specs.Bytes.{Bytes}
use Rattle.listing.specs.Listing.{Listing, Call, fork}
use Rattle.listing.specs.Load.{refused, loaded, loading, Loads}
use Rattle.listing.specs.Causes.{Cause1, Cause2, Cause3, Cause4, Cause5, AllPass}
use Rattle.listing.proofs.Causes as Loader
use Rattle.listing.proofs.Determine.{loads_exactly_if}
use Rattle.listing.proofs.ShortText.{length_needs_no_test}
use Rattle.walk.specs.State.{Node, live_in_forest, State, Running, Turn, ok}
use Rattle.walk.specs.Question7.{IsState, LiveChildren}
use Rattle.walk.specs.State.{Variable, Forest, Frame}
use Rattle.walk.specs.Walk.{child_count, forks, asking, Runner, carry_out, execute, visit, visit_forest}
use Rattle.walk.specs.Instant.{Write, Done, start, instant, start_turn, instant_turn}
use Rattle.walk.specs.Calls.{Words32, Machine, memory_words, first_words, Outcome, start_call, instant_call}
use Rattle.walk.specs.Comparison.{Compared, alike_call}
use Rattle.walk.specs.Runs.{call_on_found}
use Rattle.walk.specs.Boards.{BoardCall, BoardCalls, CallArguments, AllFit, as_instant_call}
use Rattle.walk.specs.Session.{session}
use Rattle.walk.specs.Paper.{outcomes, starred, expected}
use Rattle.walk.proofs.Paper as Paper
use Rattle.walk_laws.specs.Causes.{StartCause, InstantCause, ComparedCause}
use Rattle.walk_laws.specs.LiveCount.{TrueCount}
use Rattle.walk_laws.specs.Wakings.{waiting_in_node, waiting_in_forest}
use Rattle.walk_laws.proofs.Causes.{start_exactly_if}
use Rattle.walk_laws.proofs.ComparedCauses.{comparison_exactly_if}
use Rattle.walk_laws.proofs.LiveCount as LiveCount
use Rattle.walk_laws.proofs.Wakings as Wakings
use Rattle.table.specs.Areas.{table_words}
use Rattle.table.specs.Question6.{LeftByLoading}
use Rattle.table.specs.Unused.{Unused}
use Rattle.table.proofs.Question6.{table_read_exactly_if, not_read_exactly_if}
use Rattle.table.proofs.Table.{meets}
use Rattle.table.proofs.Unused as Cleared
use Rattle.machine.specs.Question7.{IsMachine}
use Rattle.machine.proofs.Question7.{question_7_exactly_if, no_machine_exactly_if}
use Rattle.walk_halves.specs.Halves.{only_of}
use Rattle.board_halves.specs.Boards.{BoardRunFor, BoardsAgree, board_writes}
use Rattle.board_halves.specs.Examples.{sixteen, one_handed, other_handed}
use Rattle.board_halves.proofs.Demand3 as Halves
use Rattle.board_halves.proofs.Examples.{one_fit, other_fit, two_boards}
use Rattle.walk_halves.specs.Examples.{one_listing, other_listing}
use Rattle.walk_halves.proofs.Examples.{one_loads, other_loads}
use Rattle.listing.specs.Text.{text_of}
use Rattle.board_promises.specs.Exact.{LoadedFrom}
use Rattle.board_promises.specs.Sessions.{CallsAreTheWalks, BoardSession}
use Rattle.board_promises.proofs.Causes.{instant_has_one_cause}
use Rattle.board_promises.proofs.Session.{call_answers_as_the_walk, calls_are_the_walks}
use Rattle.board_promises.proofs.Board.{board_session}
use Rattle.board_promises.proofs.Exists.{every_session_exists}
use Rattle.layout.specs.Layout.{layout}
use Rattle.fabrwent.specs.Runs.{ExportedRun, as_board_run}
use Rattle.fabrwent.proofs.loading.fabrwent_load.Statement as Load
use Rattle.fabrwent.proofs.loading.fabrwent_load.Met as load_met
use Rattle.fabrwent.proofs.calls.fabrwent_start.Statement as Start
use Rattle.fabrwent.proofs.calls.fabrwent_start.Met as start_met
use Rattle.fabrwent.proofs.calls.fabrwent_instant.Statement as Instant
use Rattle.fabrwent.proofs.calls.fabrwent_instant.Met as instant_met
use Rattle.fabrwent.proofs.calls.fabrwent_alike.Statement as Alike
use Rattle.fabrwent.proofs.calls.fabrwent_alike.Met as alike_met
use Rattle.session_replay.specs.Phases.{Memories}
use Rattle.session_replay.specs.Ending.{steps_at_most, are_long, StepsMade, Called, KeepsContract, after_calls, AllPrinted}
use Rattle.session_replay.specs.declared.phase.Phase.{Phase}
use Rattle.session_replay.specs.declared.phase.Phase.TheVariants.{Over}
use Rattle.session_replay.proofs.Ending as Ending
use Rattle.session_replay.proofs.advancing.advance.Statement as Advance
use Rattle.session_replay.proofs.advancing.advance.Met as advance_met
use Rattle.demands.specs.Exists.{ExportedSessionOf, TwoExported}
use Rattle.demands.proofs.LayoutIsExact.{layout_is_exact, loaded_within_limits}
use Rattle.demands.proofs.Exported.{exported_session, board_session_of}

-- ── demand 1 ──────────────────────────────────────────────────────────────────────────────────────
-- Every call, of any memories and under no condition, ends and answers with the defined outcome. The statements are the exported functions' own
-- contracts (crates/fabrwent/src): `LoadFigures`, `StartFigures`, `InstantFigures`, `AlikeFigures`.
pub every_load_answers_as_defined : {M : Type 1} → Load.statement M
every_load_answers_as_defined = load_met.met

pub every_start_answers_as_defined : {M : Type 1} → Start.statement M
every_start_answers_as_defined = start_met.met

pub every_instant_answers_as_defined : {M : Type 1} → Instant.statement M
every_instant_answers_as_defined = instant_met.met

pub every_comparison_answers_as_defined : {M : Type 1} → Alike.statement M
every_comparison_answers_as_defined = alike_met.met

-- "each number has its one cause": the loader's 1 to 5, "the place [being] the first line, from 1, where the answer is no" (`FirstNo`), and 0
pub loads_refused_by_cause : (long_enough : Bool) (text : Bytes) (place : ℕ) →
    ((loading long_enough text ≡ refused 1 place) ↔ Cause1 long_enough text place)
    × ((loading long_enough text ≡ refused 2 place) ↔ Cause2 long_enough text place)
    × ((loading long_enough text ≡ refused 3 place) ↔ Cause3 long_enough text place)
    × ((loading long_enough text ≡ refused 4 place) ↔ Cause4 long_enough text place)
    × ((loading long_enough text ≡ refused 5 place) ↔ Cause5 long_enough text place)
loads_refused_by_cause long_enough text place = (
  Loader.refused_1_exactly_if long_enough text place,
  Loader.refused_2_exactly_if long_enough text place,
  Loader.refused_3_exactly_if long_enough text place,
  Loader.refused_4_exactly_if long_enough text place,
  Loader.refused_5_exactly_if long_enough text place,
)

pub loads_by_cause : (long_enough : Bool) (text : Bytes) (listing : Listing) → (loading long_enough text ≡ loaded listing) ↔ AllPass long_enough text listing
loads_by_cause = Loader.loads_by_cause

-- "The loader clears the table's unused words among the 12,288."
pub unused_words_are_cleared : (text : Bytes) (listing : Listing) → Loads text listing → (k : ℕ) → Unused listing k → get_or (table_words listing) k 0 ≡ 0
unused_words_are_cleared text listing loads k unused =
    Cleared.unused_words_are_0 listing (meets listing (sym (length_needs_no_test listing) ∙ ((loads_exactly_if text listing).0 loads).1)) k unused

-- the start's 0, 1, 6, 12 and 13 to 18
pub starts_by_cause : (table machine outNumbers outValues : List ℕ) (allowance : ℕ) (o : Outcome) →
    (start_call layout table machine outNumbers outValues allowance ≡ o) ↔ StartCause layout table machine outNumbers outValues allowance o
starts_by_cause table machine outNumbers outValues allowance o = start_exactly_if layout table machine outNumbers outValues allowance o

-- the instant call's 0, 1 and 6 to 18; a lent word is a u32
pub answers_by_cause : (table machine : List ℕ) → Words32 machine → (t : ℕ) (in_numbers in_values outNumbers outValues : List ℕ) (allowance : ℕ) (o : Outcome) →
    (instant_call layout table machine t in_numbers in_values outNumbers outValues allowance ≡ o) ↔
    InstantCause layout table machine t in_numbers in_values outNumbers outValues allowance o
answers_by_cause table machine small t in_numbers in_values outNumbers outValues allowance o =
    instant_has_one_cause layout layout_is_exact table machine small t in_numbers in_values outNumbers outValues allowance o

-- the comparison's 0, 1, 6, 7 and 8
pub compares_by_cause : (table a b : List ℕ) (c : Compared) → (alike_call layout table a b ≡ c) ↔ ComparedCause layout table a b c
compares_by_cause table a b c = comparison_exactly_if layout table a b c

-- 6 "Is the table one that loading some listing leaves?": both ways
pub question_6 : (words : List ℕ) (listing : Listing) → (layout.read_table words ≡ some listing) ↔ ((text : Bytes) × Loads text listing × (table_words listing ≡ words))
question_6 = table_read_exactly_if

pub question_6_fails : (words : List ℕ) → (layout.read_table words ≡ none) ↔ ¬ LeftByLoading words
question_6_fails = not_read_exactly_if

-- 7 "Is the machine memory the stopped form or, in the layout of docs/, one state of the walk on this table": both ways
module _ (listing : Listing) (from : LoadedFrom listing) (words : List ℕ) (long : length words ≡ memory_words) (small : Words32 words) where
  pub question_7 : ((m : Machine) × (layout.read_machine listing words ≡ some m)) ↔ IsMachine listing words
  question_7 = question_7_exactly_if listing (loaded_within_limits listing from) words long small

  pub question_7_fails : (layout.read_machine listing words ≡ none) ↔ ¬ IsMachine listing words
  question_7_fails = no_machine_exactly_if listing (loaded_within_limits listing from) words long small

-- ── demand 2 ──────────────────────────────────────────────────────────────────────────────────────
-- "a call on memory that passes answers as the walk from that state": on a table that stands for a listing, whatever the machine stands for.
pub any_call_is_the_walks : (listing : Listing) (table : List ℕ) → layout.read_table (first_words table) ≡ some listing → (machine : List ℕ) (c : BoardCall) →
    instant_call layout table machine c.time c.in_numbers c.in_values c.numbers c.values c.allowance ≡
    call_on_found listing (layout.read_machine listing (first_words machine)) (as_instant_call table machine c)
any_call_is_the_walks = call_answers_as_the_walk layout

-- Any list of calls that keep their promises, from any machine memory, stopped and refused ones too: results (with steps and stop numbers), lists
-- and machines are the walk's.
pub any_calls_are_the_walks : (listing : Listing) (table : List ℕ) → memory_words ≤ length table → layout.read_table (first_words table) ≡ some listing →
    (machine : List ℕ) (cs : List BoardCall) → Words32 machine → BoardCalls layout table machine cs → CallsAreTheWalks layout listing table machine cs
any_calls_are_the_walks listing table long reads machine cs small calls =
    let p = (table_read_exactly_if (first_words table) listing).0 reads in
    calls_are_the_walks layout listing (layout_is_exact.machine listing (record { text = p.0; loads = p.1 })) table reads machine cs small calls

-- The session clause, of the exported functions: over any session from the start, also one whose start was refused or stopped.
pub any_session_is_the_walks : (run : ExportedRun) → BoardSession layout (as_board_run run)
any_session_is_the_walks run = board_session layout layout_is_exact (as_board_run run)

-- The sessions on paper marked with a star, proved jointly.
pub starred_sessions : outcomes starred ≡ expected
starred_sessions = Paper.starred_sessions

-- The session: each step of it answers as defined, whatever it is lent; what the steps printed once all is printed is the defined session; and all is
-- printed after at most `steps_at_most` steps, with any memories that are long enough.
pub every_session_step_answers_as_defined : {M : Type 1} → Advance.statement M
every_session_step_answers_as_defined = advance_met.met

pub the_pieces_printed_are_the_session : (listing trace : Bytes) (m m' : Memories) (n : ℕ) (bytes : Bytes) → StepsMade listing trace m n m' Over bytes →
    bytes ≡ session listing trace
the_pieces_printed_are_the_session listing trace m m' n bytes made = Ending.steps_print made

pub every_session_ends : (listing trace : Bytes) (call : Memories → Phase → Called) → KeepsContract listing trace call → (m : Memories) → are_long m ≡ true →
    (n : ℕ) → steps_at_most ≤ n → AllPrinted listing trace (after_calls call m n)
every_session_ends = Ending.a_session_ends

-- "14 At `F`: live routines plus new children at most 64?": where the counter is the true number, 14 asks about this routine, the others and the
-- new children; it is the true number at the beginning, and if it is so before a part's visit, so it is after it, whatever ended or forked meanwhile.
pub question_14_asks_the_true_number : (listing : Listing) (now : ℕ) (go : Runner) (me : Frame) (cs : List Call) (s : Running)
    (others : ℕ) → s.live ≡ suc others → execute listing now go (fork cs) me s ≡
    carry_out listing now go (asking 14 (leb (suc others + child_count cs) 64) (asking 15 (leb me.level 9) (forks cs))) me s
question_14_asks_the_true_number = LiveCount.fork_asks_true_count

pub live_count_stays_true : (listing : Listing) (now : ℕ) {rest : List Variable → Bool} {level base : ℕ} {names : List ℕ} {cs : List Call} {f : Forest} →
    LiveChildren listing rest level base names cs f → (s : Running) (others : ℕ) → s.live ≡ others + live_in_forest f →
    (turn : Turn) → visit_forest listing now f level s ≡ ok turn → turn.running.live ≡ others + live_in_forest turn.tree
live_count_stays_true listing now k s others e turn went = LiveCount.count_true_after_visit listing now k s others e turn went

pub live_count_after_start : (listing : Listing) (allowance : ℕ) (d : Done) → start listing allowance ≡ ok d → TrueCount (start_turn listing allowance) d
live_count_after_start = LiveCount.count_true_after_start

pub live_count_after_instant : (listing : Listing) (s : State) (t : ℕ) (inputs : List Write) (allowance : ℕ) (d : Done) → IsState listing s →
    instant listing s t inputs allowance ≡ ok d → TrueCount (instant_turn listing s t inputs allowance) d
live_count_after_instant = LiveCount.count_true_after_instant

-- "A waiting routine is woken at most once in an instant": a visit passes at most one wait for each routine that waits in the part visited; of
-- one routine at a `W`, at most one.
pub woken_at_most_once : (listing : Listing) (now : ℕ) (m : Node) (level : ℕ) (s : Running) (turn : Turn) → visit listing now m level s ≡ ok turn →
    turn.running.woken ≤ waiting_in_node listing m + s.woken
woken_at_most_once = Wakings.visit_wakes_at_most_once

pub wakings_of_an_instant : (listing : Listing) (s : State) (t : ℕ) (inputs : List Write) (allowance : ℕ) (d : Done) →
    instant listing s t inputs allowance ≡ ok d → d.woken ≤ waiting_in_forest listing s.tree
wakings_of_an_instant = Wakings.instant_wakes_at_most_once

-- ── demand 3 ──────────────────────────────────────────────────────────────────────────────────────
-- Two runs of exported calls on boards let to growers, that agree in what is one grower's, report the same writes of that grower.
pub growers_are_independent : (run run' : ExportedRun) (listing listing' : Listing) (growers : List Call) (c : Call) → Memᴰ c growers →
    BoardRunFor growers listing (as_board_run run) → BoardRunFor growers listing' (as_board_run run') → BoardsAgree c listing listing' (as_board_run run) (as_board_run run') →
    only_of c (board_writes (as_board_run run)) ≡ only_of c (board_writes (as_board_run run'))
growers_are_independent run run' listing listing' growers c m r r' agree =
    Halves.demand_3 layout layout layout_is_exact layout_is_exact (as_board_run run) (as_board_run run') listing listing' growers c m r r' agree

-- ── none of it is empty ───────────────────────────────────────────────────────────────────────────
-- Every text that loads, with any memories, of which the table's is long enough, any allowance and any list of call arguments, has a session.
pub sessions_exist : (text : List ℕ) (listing : Listing) → Loads text listing → (table_before : List ℕ) → memory_words ≤ length table_before →
    (machine_before numbers_before values_before : List ℕ) → Words32 machine_before → (allowance : ℕ) (handed : List CallArguments) → AllFit handed →
    ExportedSessionOf text table_before machine_before numbers_before values_before allowance handed
sessions_exist text listing loads table_before long machine_before numbers_before values_before small allowance handed fit =
    exported_session (every_session_exists layout layout_is_exact text listing loads table_before long machine_before numbers_before values_before small allowance handed fit)

-- A concrete pair for demand 3, on any memories that are long enough: different second halves, refused and idle calls, and writes of the first.
pub growers_exist : (table_before machine_before : List ℕ) → memory_words ≤ length table_before → memory_words ≤ length machine_before → Words32 machine_before → TwoExported
unfolding board_session_of
growers_exist table_before machine_before table_long machine_long small =
    let one = sessions_exist (text_of one_listing) one_listing one_loads table_before table_long machine_before sixteen sixteen small 100 one_handed one_fit in
    let other = sessions_exist (text_of other_listing) other_listing other_loads table_before table_long machine_before sixteen sixteen small 1000 other_handed other_fit in
    record {
      run = one.run;
      run' = other.run;
      are = two_boards layout layout_is_exact table_before machine_before table_long machine_long small (board_session_of one) (board_session_of other);
    }
