-- What the start and an instant leave is a state of the walk (question 7): "What the engine left with this table always passes".
-- Assumed: the literals of the listing are words, and so are the inputs' values; nothing was due before the instant.
-- Letters: t the instant's moment, s the state before it, d what the call gives, x what main's turn gives.
use mathlib.Core.Path.{◌≡◌, refl, ◌∙◌}
use mathlib.Core.Bool.{Bool, true, false, ◌&&◌}
use mathlib.Core.List.{List, [], ◌∷◌}
use Prim.Native.Nat.{ℕ, suc, ◌<◌, ◌≤◌}
use lib.Dec.{ltb}
use lib.ListN.{length, length-set, length-replicate}
use borrow.Author.Tests.{ltb-true}
use native.Mathlib.Omega.{arith}
use Rattle.listing.specs.Listing.{Listing}
use Rattle.walk.specs.State.{Variable, Forest, live_in_forest, State, Turn, Result, ok, ◌>>=◌, new_variable}
use Rattle.walk.specs.Memory.{write_at, input_at}
use Rattle.walk.specs.Walk.{run}
use Rattle.walk.specs.Instant.{Write, Done, due_writes, due_in_forest, apply_inputs, due_of_variables, due_of_forest, next_due, unmarked, unmarked_forest, finish, environment_size, environment_names, main_call, start, instant, start_turn, instant_turn}
use Rattle.walk.specs.Question7.{all_at_rest, LiveChildren, no_more, ended, lives, IsState}
use Rattle.walk_laws.proofs.Booleans.{and_left, and_right}
use Rattle.walk_laws.proofs.Results.{IfOk, stopped, answered, holds_of_answer, weaken_if_ok}
use Rattle.walk_laws.proofs.AtRest.{all_steady, replicate_steady, unmarked_at_rest, length_unmarked, LiteralsAreWords, input_steady}
use Rattle.walk_laws.proofs.Shape.{length-due_writes, due_writes_keep_live, due_writes_keep_children, unmarking_keeps_live, unmarking_keeps_children}
use Rattle.walk.specs.Calls.{due_before}
use Rattle.walk_laws.proofs.Due.{neither_due_before, due_writes_steady, next_due_after_now}
use Rattle.walk_laws.specs.LiveCount.{Counted}
use Rattle.walk_laws.proofs.LiveCount.{turn_at_start_counts, turn_at_instant_counts}
use Rattle.walk_laws.proofs.Kept.{Leaves, AsleepOrGone, gone, asleep, begin_keeps, run_keeps, visit_forest_keeps}

-- ── the call's inputs ─────────────────────────────────────────────────────────────────────────────
unfoldable pub values_are_words : List Write → Bool
values_are_words [] = true
values_are_words (w ∷ ws) = ltb w.value 4294967296 && values_are_words ws

length-apply_inputs : (t : ℕ) (ws : List Write) (xs : List Variable) → length (apply_inputs t ws xs) ≡ length xs
unfolding apply_inputs write_at input_at
length-apply_inputs t [] xs = refl
length-apply_inputs t (w ∷ ws) xs = length-apply_inputs t ws _ ∙ length-set xs _ _

inputs_steady : (t : ℕ) (ws : List Write) (xs : List Variable) → values_are_words ws ≡ true → all_steady t xs ≡ true → all_steady t (apply_inputs t ws xs) ≡ true
unfolding apply_inputs values_are_words
inputs_steady t [] xs l h = h
inputs_steady t (w ∷ ws) xs l h =
    let word = ltb w.value 4294967296 in
    inputs_steady t ws _ (and_right word _ l) (input_steady t xs w.number w.value h (ltb-true _ _ (and_left word _ l)))

-- ── the end of the instant ────────────────────────────────────────────────────────────────────────
-- What a call leaves.
pub record LeavesState (listing : Listing) (t : ℕ) (d : Done) : Type 0 where
  pub is_state : IsState listing d.state
  pub moved : d.state.now ≡ t
  pub due_later : due_before (next_due d.state) (suc t) ≡ false

finish_leaves_state : {size : ℕ} {x : Result Turn} (listing : Listing) (t allowance : ℕ) → t < 18446744073709551616 → size ≡ environment_size listing →
    IfOk (Leaves t size (LiveChildren listing (all_steady t) 0 size (environment_names listing) (main_call listing ∷ []))) x → IfOk (Counted 0) x →
    IfOk (LeavesState listing t) (x >>= finish listing t allowance)
unfolding ◌>>=◌ finish
finish_leaves_state listing t allowance fits e stopped k = stopped
finish_leaves_state listing t allowance fits e (answered {a = turn} h) (answered k) =
    let memory = turn.running.memory in
    let order = h.order in
    let after : State = record { now = t; environment = unmarked memory; tree = unmarked_forest turn.tree } in
    let state : IsState listing after = record {
      moment = fits;
      size = length_unmarked memory ∙ order.long ∙ e;
      resting = unmarked_at_rest t memory order.steadied;
      tree = rw (length_unmarked memory, order.long)
          (unmarking_keeps_children listing (all_steady t) (all_at_rest t) (λ own. unmarked_at_rest t own) h.left);
      few = rw (unmarking_keeps_live turn.tree) (omega (arith, k.counted, order.few));
    } in
    answered (record { is_state = state; moved = refl; due_later = next_due_after_now listing after state })

-- ── main's turn ───────────────────────────────────────────────────────────────────────────────────
-- The tree is main with all below it, or nothing.
abbrev OnlyMain : Listing → ℕ → ℕ → Forest → Type 0
OnlyMain listing t size = LiveChildren listing (all_steady t) 0 size (environment_names listing) (main_call listing ∷ [])

main_alone : {listing : Listing} {t size : ℕ} (f : Forest) → AsleepOrGone listing t 0 size (environment_names listing) (main_call listing) f → OnlyMain listing t size f
main_alone _ gone = ended no_more
main_alone _ (asleep a) = lives a no_more

turn_at_start_keeps : (listing : Listing) (allowance : ℕ) → LiteralsAreWords listing →
    IfOk (Leaves 0 (environment_size listing) (OnlyMain listing 0 (environment_size listing))) (start_turn listing allowance)
turn_at_start_keeps listing allowance words =
    let size = environment_size listing in
    let long = length-replicate size (new_variable 0 0) in
    let rest = replicate_steady 0 size in
    let one : 1 ≤ 64 = omega arith in
    let keeps = begin_keeps listing 0 (run listing 0 allowance) (run_keeps listing 0 words allowance) 0 size (environment_names listing) (main_call listing) in
    weaken_if_ok (keeps _ _ long rest (record { long = long; steadied = rest; few = one })) λ turn h.
    record { order = h.order; left = main_alone turn.tree h.left }

turn_at_instant_keeps : (listing : Listing) (s : State) (t : ℕ) (inputs : List Write) (allowance : ℕ) → LiteralsAreWords listing → IsState listing s →
    due_before (next_due s) t ≡ false → values_are_words inputs ≡ true →
    IfOk (Leaves t (length s.environment) (OnlyMain listing t (length s.environment))) (instant_turn listing s t inputs allowance)
unfolding next_due
turn_at_instant_keeps listing s t inputs allowance words h late inputWords =
    let (p, q) = neither_due_before t (due_of_variables s.environment) (due_of_forest s.tree) late in
    let made = due_writes t s.environment in
    let long = length-apply_inputs t inputs made ∙ length-due_writes t s.environment in
    let rest = inputs_steady t inputs made inputWords (due_writes_steady s.now t s.environment h.resting p) in
    let room : live_in_forest (due_in_forest s.tree t) ≤ 64 = rw (due_writes_keep_live s.tree t) h.few in
    let steadied =
    due_writes_keep_children listing t (all_at_rest s.now) (all_steady t) (λ x. due_before x t ≡ false) (neither_due_before t)
    (due_writes_steady s.now t) in
    visit_forest_keeps listing t words (steadied h.tree q) _ (record { long = long; steadied = rest; few = room })

-- ── the theorems ──────────────────────────────────────────────────────────────────────────────────
-- The start leaves a state of the walk, at moment 0.
pub start_leaves_state : (listing : Listing) (allowance : ℕ) → LiteralsAreWords listing → (d : Done) → start listing allowance ≡ ok d → LeavesState listing 0 d
unfolding start
start_leaves_state listing allowance words d e =
    let kept = turn_at_start_keeps listing allowance words in
    let counted = turn_at_start_counts listing allowance in
    holds_of_answer d (finish_leaves_state listing 0 allowance (omega arith) refl kept counted) e

-- An instant leaves a state of the walk, at the instant's moment.
pub instant_leaves_state : (listing : Listing) (s : State) (t : ℕ) (inputs : List Write) (allowance : ℕ) → LiteralsAreWords listing → IsState listing s →
    t < 18446744073709551616 → due_before (next_due s) t ≡ false → values_are_words inputs ≡ true →
    (d : Done) → instant listing s t inputs allowance ≡ ok d → LeavesState listing t d
unfolding instant
instant_leaves_state listing s t inputs allowance words h fits late inputWords d e =
    let kept = turn_at_instant_keeps listing s t inputs allowance words h late inputWords in
    let counted = turn_at_instant_counts listing s t inputs allowance h in
    holds_of_answer d (finish_leaves_state listing t allowance fits h.size kept counted) e
