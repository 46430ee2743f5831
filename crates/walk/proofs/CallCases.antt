-- Cases of whole calls: the figures of each outcome, what the lent memories hold afterwards, and the comparison. (More in walk_cases CallCases.)
use mathlib.Core.Path.{◌≡◌, refl}
use mathlib.Core.Bool.{true, false}
use mathlib.Core.List.{List, [], ◌∷◌}
use mathlib.Core.Option.{Option, none, some}
use Prim.Native.Nat.{ℕ}
use Rattle.words.specs.Words.{bit}
use Rattle.listing.specs.Listing.{Listing, by_reference, wait, jump}
use Rattle.walk.specs.State.{idle, due, Variable, node, Forest, empty, more, State}
use Rattle.walk.specs.Calls.{Machine, halted, running, Outcome, refused, stopped, done, is_stop, outcome_number, outcome_place, outcome_figures, numbers_after, values_after}
use Rattle.walk.specs.Comparison as Comparison
use Rattle.walk.specs.Comparison.{Compared, not_compared, compared, compared_number, compared_place, compared_alike, both_states}
use Rattle.walk.specs.Evaluation.{calls_quoted}
use Rattle.walk.proofs.Cases.{◌≔◌}

-- ── a case: what the definitions give, and what is expected ───────────────────────────────────────
pub record Claim (A : Type 0) : Type 0 where
  pub given : A
  pub expected : A

infix 85 ◌gives◌
abbrev pub ◌gives◌ : {A : Type 0} → A → A → Claim A
a gives b = record { given = a; expected = b }

unfoldable pub given_in : {A : Type 0} → List (Claim A) → List A
given_in [] = []
given_in (c ∷ cs) = c.given ∷ given_in cs

unfoldable pub expected_in : {A : Type 0} → List (Claim A) → List A
expected_in [] = []
expected_in (c ∷ cs) = c.expected ∷ expected_in cs

-- ── a listing and a state of it ───────────────────────────────────────────────────────────────────
-- `P|1|0`, `R|r|0`, `W|0`, `G|0`
abbrev pub waits_for_ever : Listing
waits_for_ever =
    record { inputs = 1; outputs = 0; routines = record { kinds = by_reference ∷ []; locals = 0; code = wait (0 ∷ []) ∷ jump 0 ∷ [] } ∷ [] }

-- Main asleep at its wait.
abbrev pub asleep : Forest
asleep = more (node 0 0 (0 ∷ []) [] empty) empty

abbrev pub holding : ℕ → Variable
holding v = record { value = v; written = false; waiting = idle }

-- At moment 5 the input holds 3.
abbrev pub at_five : State
at_five = record { now = 5; environment = holding 3 ∷ []; tree = asleep }

-- ── the figures of each case ──────────────────────────────────────────────────────────────────────
abbrev pub lists_two : Outcome
lists_two = done (record { state = at_five; steps = 4; listed = 1 ≔ 7 ∷ 3 ≔ 9 ∷ []; woken = 0 })

-- "A call that goes through has number 0 and place 0"; "place 0 from here on"; a refusal's and a stop's "other result figures are 0".
abbrev pub figures : List (Claim ℕ)
figures =
    outcome_number lists_two gives 0 ∷ outcome_place lists_two gives 0 ∷ (outcome_figures lists_two).steps gives 4 ∷
    outcome_number (refused 9) gives 9 ∷ outcome_place (refused 9) gives 0 ∷ (outcome_figures (refused 9)).steps gives 0 ∷
    outcome_number (stopped 13) gives 13 ∷ outcome_place (stopped 13) gives 0 ∷ (outcome_figures (stopped 13)).steps gives 0 ∷
    compared_number (compared true) gives 0 ∷ compared_number (compared false) gives 0 ∷ compared_number (not_compared 7) gives 7 ∷
    compared_place (compared true) gives 0 ∷ compared_place (not_compared 7) gives 0 ∷
    bit (compared_alike (compared true)) gives 1 ∷ bit (compared_alike (compared false)) gives 0 ∷ bit (compared_alike (not_compared 7)) gives 0 ∷
    bit (is_stop 12) gives 0 ∷ bit (is_stop 13) gives 1 ∷ bit (is_stop 18) gives 1 ∷ bit (is_stop 19) gives 0 ∷ []

pub figures_are_as_stated : given_in figures ≡ expected_in figures
unfolding calls_quoted given_in expected_in Comparison.compared_number Comparison.compared_place Comparison.compared_alike
figures_are_as_stated = refl

-- ── the lent memories afterwards ──────────────────────────────────────────────────────────────────
-- "places after them stay"; a refusal and a stop leave all.
abbrev pub held : List (Claim (List ℕ))
held =
    numbers_after lists_two (5 ∷ 6 ∷ 7 ∷ 8 ∷ []) gives (1 ∷ 3 ∷ 7 ∷ 8 ∷ []) ∷
    values_after lists_two (5 ∷ 6 ∷ 7 ∷ 8 ∷ []) gives (7 ∷ 9 ∷ 7 ∷ 8 ∷ []) ∷
    numbers_after (refused 9) (5 ∷ 6 ∷ []) gives (5 ∷ 6 ∷ []) ∷
    values_after (stopped 13) (5 ∷ 6 ∷ []) gives (5 ∷ 6 ∷ []) ∷ []

pub memories_hold_as_stated : given_in held ≡ expected_in held
unfolding calls_quoted given_in expected_in
memories_hold_as_stated = refl

-- ── the comparison ────────────────────────────────────────────────────────────────────────────────
abbrev pub state_at : ℕ → List Variable → Forest → Option Machine
state_at now environment tree = some (running (record { now = now; environment = environment; tree = tree }))

-- "alike when their present moments and the values of all environment variables are equal":
-- neither the tree nor a waiting write counts. 7 is put for both before 8 for either.
abbrev pub comparisons : List (Claim Compared)
comparisons =
    both_states (state_at 5 (holding 3 ∷ holding 4 ∷ []) asleep)
    (state_at 5 (holding 3 ∷ record { value = 4; written = false; waiting = due 9 1 } ∷ []) empty) gives compared true ∷
    both_states (state_at 5 (holding 3 ∷ holding 4 ∷ []) asleep) (state_at 6 (holding 3 ∷ holding 4 ∷ []) asleep) gives compared false ∷
    both_states (state_at 5 (holding 3 ∷ holding 4 ∷ []) asleep) (state_at 5 (holding 2 ∷ holding 4 ∷ []) asleep) gives compared false ∷
    both_states (state_at 5 (holding 3 ∷ holding 4 ∷ []) asleep) (state_at 5 (holding 3 ∷ holding 5 ∷ []) asleep) gives compared false ∷
    both_states none (some (halted 13)) gives not_compared 7 ∷
    both_states (some (halted 13)) none gives not_compared 7 ∷
    both_states (some (halted 13)) (some (running at_five)) gives not_compared 8 ∷
    both_states (some (running at_five)) (some (halted 13)) gives not_compared 8 ∷ []

pub comparisons_go_as_stated : given_in comparisons ≡ expected_in comparisons
unfolding given_in expected_in Comparison.same_values Comparison.alike Comparison.both_running Comparison.both_states
comparisons_go_as_stated = refl
