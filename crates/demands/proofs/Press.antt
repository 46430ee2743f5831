-- A press cancels the waiting write (document 02, Change 4): what the inputs of a call do to each variable and what `S` does not, that the write which
-- waited on a pressed variable never acts, that a refused call drops nothing, and that the halves stay independent.
use mathlib.Core.Path.{◌≡◌}
use mathlib.Core.Bool.{true, false}
use mathlib.Core.List.{List, ◌∷◌, Memᴰ}
use Prim.Native.Nat.{ℕ, ◌<◌}
use native.Mathlib.Omega.{arith}
use Rattle.listing.specs.Listing.{Listing, Call}
use Rattle.walk.specs.State.{idle, Variable, State}
use Rattle.walk.specs.Memory.{variable_at, write_at}
use Rattle.walk.specs.Question7.{IsState}
use Rattle.walk.specs.Instant.{Write, due_writes, environment_size, at_instant, Done, next_due}
use Rattle.walk.specs.Calls.{MachineAfter, running, Outcome, refused, done, due_before, inputs_rise, instant_from}
use Rattle.walk.specs.Runs.{InstantCall, call_on, answers_from}
use Rattle.walk.proofs.Kept.{refused_leaves}
use Rattle.walk_laws.specs.Presses.{is_pressed, with_waiting}
use Rattle.walk_laws.proofs.Shape.{length-due_writes}
use Rattle.walk_laws.proofs.Presses as Presses
use Rattle.board_halves.specs.Boards.{BoardRunFor, BoardsAgree, SameOnBoards}
use Rattle.board_halves.proofs.Demand3 as Halves
use Rattle.layout.specs.Layout.{layout}
use Rattle.fabrwent.specs.Runs.{ExportedRun, as_board_run}
use Rattle.demands.proofs.LayoutIsExact.{layout_is_exact}

-- ── what inputs do, and `S` does not ──────────────────────────────────────────────────────────────
-- "An input now drops any waiting write on its variable": when the visit of an instant begins, each input's variable has the input's value, the mark
-- and no waiting write (11 was asked: the inputs rise and are there); every other variable of the environment is as the due writes left it.
pub each_input_does : (listing : Listing) (s : State) → IsState listing s → (t : ℕ) (inputs : List Write) (allowance : ℕ) →
    inputs_rise listing.inputs 0 inputs ≡ true → (w : Write) → Memᴰ w inputs →
    variable_at (at_instant s t inputs allowance).memory w.number ≡ record { value = w.value; written = true; waiting = idle }
unfolding environment_size
each_input_does listing s is t inputs allowance rise w among =
    Presses.each_input_does t listing.inputs 0 inputs (due_writes t s.environment) rise (omega (arith, length-due_writes t s.environment, is.size)) w among

pub all_others_stay : (s : State) (t : ℕ) (inputs : List Write) (allowance k : ℕ) → is_pressed k inputs ≡ false →
    variable_at (at_instant s t inputs allowance).memory k ≡ variable_at (due_writes t s.environment) k
all_others_stay s t inputs allowance k none = Presses.others_stay t k inputs (due_writes t s.environment) none

-- "`S` still doesn't": a write by `S` leaves the waiting writes of all variables as they were.
pub assignments_drop_none : (now a v k : ℕ) (memory : List Variable) → (variable_at (write_at now memory a v) k).waiting ≡ (variable_at memory k).waiting
assignments_drop_none = Presses.assignments_drop_none

-- ── the old timer never acts ──────────────────────────────────────────────────────────────────────
-- "Pickers press "off" and the old timer later acts on the same name": no more. If a call with an input on k goes through, then it and all calls after
-- it, refused and stopped ones too, are answered as on a board on which nothing waited on k: numbers, steps, lists, due moments and states.
pub off_stays_off : (listing : Listing) (s : State) (k : ℕ) (c : InstantCall) (d : Done) (cs : List InstantCall) → is_pressed k c.inputs ≡ true →
    call_on listing (running s) c ≡ done d →
    answers_from listing (running s) (c ∷ cs) ≡ answers_from listing (running (with_waiting s k idle)) (c ∷ cs)
off_stays_off listing s k c d cs pressed went = Presses.off_stays_off listing c d s k cs pressed went

-- ── a refused call drops nothing ──────────────────────────────────────────────────────────────────
-- 10 is asked of the waiting writes as they were: where one is due before t, a call at t that has passed the questions before is refused with 10,
-- whatever is pressed.
pub a_press_saves_no_late_call : (listing : Listing) (s : State) (t : ℕ) (inputs : List Write) (allowance : ℕ) → s.now < t → due_before (next_due s) t ≡ true →
    instant_from listing s t inputs allowance ≡ refused 10
a_press_saves_no_late_call = Presses.late_press_refused

-- And a refusal leaves all words of the machine, waiting writes among them.
pub refused_calls_drop_nothing : (table before after : List ℕ) (k : ℕ) {o : Outcome} → MachineAfter layout table before after o → o ≡ refused k → after ≡ before
refused_calls_drop_nothing table before after k = refused_leaves layout table before after k

-- ── "The halves stay independent." ────────────────────────────────────────────────────────────────
-- Demand 3 stands in Demands `growers_are_independent`. Besides, in the words that two such runs leave, that grower's inputs and outputs are equal, in
-- value and in waiting write: they depend on its own inputs alone.
pub waiting_writes_are_its_own : (run run' : ExportedRun) (listing listing' : Listing) (growers : List Call) (c : Call) → Memᴰ c growers →
    BoardRunFor growers listing (as_board_run run) → BoardRunFor growers listing' (as_board_run run') → BoardsAgree c listing listing' (as_board_run run) (as_board_run run') →
    SameOnBoards c listing listing' (as_board_run run) (as_board_run run')
waiting_writes_are_its_own run run' listing listing' growers c m r r' agree =
    Halves.waiting_writes_are_its_own layout layout layout_is_exact layout_is_exact (as_board_run run) (as_board_run run') listing listing' growers c m r r' agree
