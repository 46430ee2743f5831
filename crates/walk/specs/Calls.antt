-- The calls on the engine: the questions in their order, the outcome of each call as one value by cases,
-- and what each lent memory holds afterwards.
use Rattle.std.specs.Prelude.{◌≡◌, Bool, true, false, ◌&&◌, not, List, [], ◌∷◌, ◌++◌, map, ℕ, zero, suc, ◌-◌, ◌<◌, eqb, ltb, leb, length, get_or, take, drop, replicate}
use Rattle.std.proofs.Math.Option.{Option, none, some}
use Rattle.listing.specs.Listing.{Listing}
use Rattle.walk.specs.State.{Variable, State, Result, stop, ok}
use Rattle.walk.specs.Instant.{Write, NextDue, never, moment, next_due, Done, start, instant}

-- ── memory ────────────────────────────────────────────────────────────────────────────────────────
-- A memory is a list of 32-bit words. "Table 12,288 words of 32 bits, machine 12,288, output lists 16 each"
abbrev pub memory_words : ℕ
memory_words = 12288

abbrev pub output_places : ℕ
output_places = 16

-- Every word has 32 bits.
abbrev pub Words32 : List ℕ → Type 0
Words32 words = (k : ℕ) → get_or words k 0 < 4294967296

-- The numbers that stop a machine: 13 to 17, and 18 of document 02.
unfoldable pub is_stop : ℕ → Bool
is_stop k = leb 13 k && leb k 18

-- What a machine memory that passes question 7 stands for: the stopped form with its number, or a state of the walk.
pub data Machine : Type 0 where
  halted : ℕ → Machine
  running : State → Machine

-- A layout of the two memories, the one thing that may differ from one correct program to another:
-- the listing that a table's 12,288 words stand for, if they pass question 6;
-- on that listing, what a machine's 12,288 words stand for, if they pass question 7.
pub record Layout : Type 0 where
  pub read_table : List ℕ → Option Listing
  pub read_machine : Listing → List ℕ → Option Machine

-- "Words past 12,288 are never touched", nor are they read.
abbrev pub first_words : List ℕ → List ℕ
first_words memory = take memory_words memory

abbrev pub later_words : List ℕ → List ℕ
later_words memory = drop memory_words memory

-- "The machine's first word holds the number (0 while running), its other 12,287 words are 0"
unfoldable pub halted_words : ℕ → List ℕ
halted_words k = k ∷ replicate 12287 0

-- ── outcomes ──────────────────────────────────────────────────────────────────────────────────────
-- The outcome of the start or of an instant call: refused or stopped under a number, or done.
pub data Outcome : Type 0 where
  refused : ℕ → Outcome
  stopped : ℕ → Outcome
  done : Done → Outcome

-- The result figures. "A call that goes through has number 0 and place 0."
unfoldable pub outcome_number : Outcome → ℕ
outcome_number (refused k) = k
outcome_number (stopped k) = k
outcome_number (done d) = 0

-- "place 0 from here on"
unfoldable pub outcome_place : Outcome → ℕ
outcome_place o = 0

-- The figures beside number and place: the steps used, the outputs listed, the waits passed, the next moment due.
pub record Figures : Type 0 where
  pub steps : ℕ
  pub listed : List Write
  pub woken : ℕ
  pub due : NextDue

-- "a refusal[’s] other result figures are 0 and due is none"; "the result [of a stop] is as for a refusal"
unfoldable pub no_figures : Figures
no_figures = record { steps = 0; listed = []; woken = 0; due = never }

unfoldable pub outcome_figures : Outcome → Figures
outcome_figures (refused k) = no_figures
outcome_figures (stopped k) = no_figures
outcome_figures (done d) = record { steps = d.steps; listed = d.listed; woken = d.woken; due = next_due d.state }

abbrev pub outcome_listed : Outcome → List Write
outcome_listed o = (outcome_figures o).listed

-- What the lent machine memory holds after a call on a table that stands for the listing (if it stands for one).
pub data MachineAfter (layout : Layout) (table before after : List ℕ) : Outcome → Type 0 where
  -- "Up to 12 a refusal leaves all lent memory untouched"
  untouched : {k : ℕ} → after ≡ before → MachineAfter layout table before after (refused k)
  halts : {k : ℕ} → after ≡ halted_words k ++ later_words before → MachineAfter layout table before after (stopped k)
  -- a running machine's words: any that stand for the walk's state, the first of them 0:
  -- "The machine's first word holds the number (0 while running)"
  runs : {d : Done} {listing : Listing} → layout.read_table (first_words table) ≡ some listing →
      layout.read_machine listing (first_words after) ≡ some (running d.state) → get_or after 0 0 ≡ 0 → length after ≡ length before →
      later_words after ≡ later_words before → MachineAfter layout table before after (done d)

-- What a lent output list holds after a call: the listed numbers, or values, and "places after them stay".
unfoldable pub numbers_after : Outcome → List ℕ → List ℕ
numbers_after o before = map (λ (w : Write). w.number) (outcome_listed o) ++ drop (length (outcome_listed o)) before

unfoldable pub values_after : Outcome → List ℕ → List ℕ
values_after o before = map (λ (w : Write). w.value) (outcome_listed o) ++ drop (length (outcome_listed o)) before

-- ── the questions ─────────────────────────────────────────────────────────────────────────────────
-- Go on if the answer is yes; otherwise the call is refused under the question's number.
unfoldable pub ask : ℕ → Bool → Outcome → Outcome
ask k true next = next
ask k false next = refused k

-- Go on with what was found.
unfoldable pub found : {A : Type 0} → ℕ → Option A → (A → Outcome) → Outcome
found k none next = refused k
found k (some a) next = next a

-- 8 "Is the machine unstopped?"
unfoldable pub unstopped : Machine → (State → Outcome) → Outcome
unstopped (halted k) next = refused 8
unstopped (running s) next = next s

-- 10 "Is nothing due before t?"
unfoldable pub due_before : NextDue → ℕ → Bool
due_before never t = false
due_before (moment m) t = ltb m t

-- 11 "Are the input numbers below i and strictly rising?" Those from `least` on are.
unfoldable pub inputs_rise : ℕ → ℕ → List Write → Bool
inputs_rise inputs least [] = true
inputs_rise inputs least (w ∷ ws) = leb least w.number && (ltb w.number inputs && inputs_rise inputs (suc w.number) ws)

-- 12 "Is the allowance 1 to 1,000,000?"
unfoldable pub allowed : ℕ → Bool
allowed allowance = leb 1 allowance && leb allowance 1000000

-- A walk's answer as an outcome.
unfoldable pub answered : Result Done → Outcome
answered (stop k) = stopped k
answered (ok d) = done d

-- 1 "Are the lent memories long enough?": those that the start has, and those that the instant call has.
unfoldable pub start_long_enough : List ℕ → List ℕ → List ℕ → List ℕ → Bool
start_long_enough table machine outNumbers outValues =
    leb memory_words (length table) && (leb memory_words (length machine) &&
    (leb output_places (length outNumbers) && leb output_places (length outValues)))

unfoldable pub instant_long_enough : List ℕ → List ℕ → List ℕ → List ℕ → List ℕ → List ℕ → Bool
instant_long_enough table machine in_numbers in_values outNumbers outValues =
    start_long_enough table machine outNumbers outValues && eqb (length in_numbers) (length in_values)

-- The call's inputs: the two lists side by side.
unfoldable pub inputs_of : List ℕ → List ℕ → List Write
inputs_of [] vs = []
inputs_of (n ∷ ns) [] = []
inputs_of (n ∷ ns) (v ∷ vs) = record { number = n; value = v } ∷ inputs_of ns vs

-- ── the calls ─────────────────────────────────────────────────────────────────────────────────────
-- The start on a listing, and an instant from a state: "The start puts 1, 6, 12", the last of them here.
unfoldable pub start_on : Listing → ℕ → Outcome
start_on listing allowance = ask 12 (allowed allowance) (answered (start listing allowance))

-- 9 "Is t after the present moment?", 10, 11, 12
unfoldable pub instant_from : Listing → State → ℕ → List Write → ℕ → Outcome
instant_from listing s t inputs allowance =
    ask 9 (ltb s.now t)
    (ask 10 (not (due_before (next_due s) t))
    (ask 11 (inputs_rise listing.inputs 0 inputs)
    (ask 12 (allowed allowance) (answered (instant listing s t inputs allowance)))))

module _ (layout : Layout) where
  unfoldable pub start_call : List ℕ → List ℕ → List ℕ → List ℕ → ℕ → Outcome
  start_call table machine outNumbers outValues allowance =
      ask 1 (start_long_enough table machine outNumbers outValues)
      (found 6 (layout.read_table (first_words table)) λ (listing : Listing). start_on listing allowance)

  unfoldable pub instant_call : List ℕ → List ℕ → ℕ → List ℕ → List ℕ → List ℕ → List ℕ → ℕ → Outcome
  instant_call table machine t in_numbers in_values outNumbers outValues allowance =
      ask 1 (instant_long_enough table machine in_numbers in_values outNumbers outValues)
      (found 6 (layout.read_table (first_words table)) λ (listing : Listing).
      found 7 (layout.read_machine listing (first_words machine)) λ (m : Machine).
      unstopped m λ (s : State). instant_from listing s t (inputs_of in_numbers in_values) allowance)
