-- More cases of whole calls: question 1, the order of the questions, a call from a state that no session reaches, a stopped machine's words.
use mathlib.Core.Path.{◌≡◌, refl}
use mathlib.Core.Bool.{false}
use mathlib.Core.List.{List, [], ◌∷◌}
use mathlib.Core.Option.{Option, none, some}
use Prim.Native.Nat.{ℕ}
use lib.ListN.{length, replicate, take}
use Rattle.words.specs.Words.{bit}
use Rattle.listing.specs.Listing.{Listing}
use Rattle.walk.specs.State.{due, empty, State}
use Rattle.walk.specs.Calls.{Layout, start_call, instant_call, Machine, halted, running, Outcome, done, outcome_number, halted_words, start_long_enough, instant_long_enough}
use Rattle.walk.specs.Evaluation.{calls_quoted}
use Rattle.walk.proofs.CallCases.{Claim, ◌gives◌, given_in, expected_in, waits_for_ever, holding}

-- ── question 1: "Table 12,288 words of 32 bits, machine 12,288, output lists 16 each; the two input lists equally long" ──
abbrev pub words : ℕ → List ℕ
words n = replicate n 0

abbrev pub lengths : List (Claim ℕ)
lengths =
    bit (start_long_enough (words 12287) (words 12288) (words 16) (words 16)) gives 0 ∷
    bit (start_long_enough (words 12288) (words 12287) (words 16) (words 16)) gives 0 ∷
    bit (start_long_enough (words 12288) (words 12288) (words 15) (words 16)) gives 0 ∷
    bit (start_long_enough (words 12288) (words 12288) (words 16) (words 15)) gives 0 ∷
    bit (instant_long_enough (words 12288) (words 12288) (words 3) (words 4) (words 16) (words 16)) gives 0 ∷
    bit (instant_long_enough (words 12288) (words 12288) (words 20) (words 20) (words 16) (words 17)) gives 1 ∷ []

pub lengths_are_as_stated : given_in lengths ≡ expected_in lengths
unfolding calls_quoted given_in expected_in
lengths_are_as_stated = refl

-- ── whole calls on memories that stand for what is given ──────────────────────────────────────────
-- Any table stands for this, any machine for that.
abbrev pub standing_for : Option Listing → Option Machine → Layout
standing_for table machine = record { read_table = λ w. table; read_machine = λ l w. machine }

abbrev pub started : Option Listing → Option Machine → ℕ → ℕ → ℕ
started table machine size allowance = outcome_number (start_call (standing_for table machine) (words size) (words 12288) (words 16) (words 16) allowance)

abbrev pub called_at : Option Listing → Option Machine → ℕ → ℕ → Outcome
called_at table machine size t =
    instant_call (standing_for table machine) (words size) (words 12288) t [] [] (words 16) (words 16) 10000

-- Main has ended, which no session of this listing reaches; a write is due at the last moment.
abbrev pub never_reached : State
never_reached = record { now = 7; environment = record { value = 9; written = false; waiting = due 18446744073709551615 1 } ∷ []; tree = empty }

-- 1, then 6, then 12 at the start, whatever the machine; 1, 6, 7, 8, 9, 10 at an instant, which goes on from any state.
abbrev pub orders : List (Claim ℕ)
orders =
    started none none 12287 0 gives 1 ∷ started none none 12288 0 gives 6 ∷ started (some waits_for_ever) none 12288 0 gives 12 ∷
    started (some waits_for_ever) none 12288 1 gives 0 ∷ started (some waits_for_ever) (some (halted 13)) 12288 1 gives 0 ∷
    outcome_number (called_at none none 12287 0) gives 1 ∷ outcome_number (called_at none none 12288 0) gives 6 ∷
    outcome_number (called_at (some waits_for_ever) none 12288 0) gives 7 ∷
    outcome_number (called_at (some waits_for_ever) (some (halted 13)) 12288 0) gives 8 ∷
    outcome_number (called_at (some waits_for_ever) (some (running never_reached)) 12288 7) gives 9 ∷
    outcome_number (called_at (some waits_for_ever) (some (running never_reached)) 12288 18446744073709551615) gives 0 ∷ []

pub questions_come_in_order : given_in orders ≡ expected_in orders
unfolding calls_quoted given_in expected_in
questions_come_in_order = refl

pub a_call_goes_on_from_any_state : called_at (some waits_for_ever) (some (running never_reached)) 12288 18446744073709551615
    ≡ done (record { state = record { now = 18446744073709551615; environment = holding 1 ∷ []; tree = empty }; steps = 0; listed = []; woken = 0 })
unfolding calls_quoted
a_call_goes_on_from_any_state = refl

-- ── "The machine's first word holds the number .., its other 12,287 words are 0" ──────────────────
abbrev pub stopped_words : List (Claim (List ℕ))
stopped_words =
    take 3 (halted_words 14) gives (14 ∷ 0 ∷ 0 ∷ []) ∷
    (length (halted_words 14) ∷ []) gives (12288 ∷ []) ∷ []

pub stopped_words_are_as_stated : given_in stopped_words ≡ expected_in stopped_words
unfolding calls_quoted given_in expected_in
stopped_words_are_as_stated = refl
