-- The end of an instant: what it leaves is read as the state, and the figures are the state's.
-- Letters: t the table's words, i and o its inputs and outputs, s the state.
use mathlib.Core.Path.{◌≡◌, refl, sym, ap, subst, ◌∙◌}
use mathlib.Core.Bool.{Bool, true, false}
use mathlib.Core.List.{List, [], ◌∷◌}
use mathlib.Core.Option.{some}
use Prim.Native.Nat.{ℕ, zero, suc, ◌+◌, ◌≤◌, min}
use native.Mathlib.Omega.{arith}
use lib.ListN.{length, get_or, take, drop, length-drop}
use Rattle.listing.specs.Listing.{Listing}
use Rattle.walk.specs.State.{Variable}
use Rattle.walk.specs.Instant.{Write, environment_size, written_from, listed_if, written_outputs, next_due}
use Rattle.walk.specs.Calls.{Words32, running, answered, outcome_number, outcome_place, numbers_after, values_after, no_figures, outcome_figures}
use Rattle.walk.specs.Promises as promises
use Rattle.table.specs.Decode.{table_listing}
use Rattle.machine.specs.ReadMachine.{read_machine}
use Rattle.machine.specs.Due.{due_at}
use Rattle.machine_check.proofs.FromQuestion6.{table_within_limits}
use Rattle.engine_rows.specs.Order.{walking_order}
use Rattle.engine_rows.specs.Beginning.{next_due_of_rows}
use Rattle.engine_blocks.specs.Tabulate.{tabulate_from}
use Rattle.engine_blocks.specs.Blocks.{block, variable_in, variables_in, rows_of, environment_of}
use Rattle.engine_outputs.specs.Outputs.{Listed}
use Rattle.engine_finish.specs.Ended.{Ended}
use Rattle.engine_finish.proofs.EndedIsRead.{ended_is_read}
use Rattle.call_conclude.specs.declared.answers.Due.{Due}
use Rattle.call_conclude.specs.declared.answers.Due.TheVariants.{Never, At}
use Rattle.std.specs.Prelude.{Ok}
use Rattle.call_conclude.specs.Answers.{due_of, result_of}
use Rattle.call_conclude.specs.Conclusions.{MayFinish, FinishedAs}

-- ── a moment due, or none ─────────────────────────────────────────────────────────────────────────
pub due_never : (t : ℕ) → t ≡ 0 → due_of Never ≡ due_at t
unfolding due_of due_at
due_never t e = rw e

pub due_moment : (t : ℕ) → (t ≡ 0 → ⊥) → due_of (At t) ≡ due_at t
unfolding due_of due_at
due_moment zero h = absurd (h refl)
due_moment (suc t) h = refl

-- ── at most 16 outputs are listed ─────────────────────────────────────────────────────────────────
listed_few : (b : Bool) (n v : ℕ) (ws : List Write) → length (listed_if b n v ws) ≤ suc (length ws)
unfolding listed_if
listed_few true n v ws = omega arith
listed_few false n v ws = omega arith

written_few : (n : ℕ) (xs : List Variable) → length (written_from n xs) ≤ length xs
unfolding written_from
written_few n [] = omega arith
written_few n (x ∷ xs) = omega (arith, listed_few x.written n x.value (written_from (suc n) xs), written_few (suc n) xs)

tabulate_length : {A : Type 0} (a n : ℕ) (f : ℕ → A) → length (tabulate_from a n f) ≡ n
unfolding tabulate_from
tabulate_length a zero f = refl
tabulate_length a (suc n) f = ap suc (tabulate_length _ n f)

pub listed_below : (n i : ℕ) (m : List ℕ) → length (written_from i (drop i (environment_of n m))) ≤ 16
unfolding environment_of variables_in
listed_below n i m =
    let l = tabulate_length 0 (min n 16) (variable_in (block m 64)) in
    omega (arith, written_few i (drop i (environment_of n m)), length-drop i (environment_of n m), l)

-- ── the end ───────────────────────────────────────────────────────────────────────────────────────
module _ (t before after : List ℕ) (moment : ℕ) (may : MayFinish t before moment) (small : Words32 before)
    (E : Ended moment (walking_order (rows_of before)) before after) where
  abbrev listing : Listing
  listing = table_listing t

  pub finished_reads : read_machine listing (take 12288 after) ≡ some (running may.state)
  finished_reads =
      ended_is_read listing (table_within_limits t may.table) (environment_size listing) before after small may.clean may.state may.holds may.is_state
      (subst (λ (m : ℕ). Ended m (walking_order (rows_of before)) before after) (sym may.present) E)

  module _ (i o : ℕ) (inputs : i ≡ get_or t 0 0) (outputs : o ≡ get_or t 1 0)
      (numbers values numbers' values' : List ℕ) (steps count found : ℕ) (due : Due)
      (L : Listed (written_from i (drop i (environment_of (i + o) before))) numbers values numbers' values' count)
      (D : due_at found ≡ next_due_of_rows (rows_of before) (environment_of (i + o) before)) (U : due_of due ≡ due_at found) where
    all_listed : written_from i (drop i (environment_of (i + o) before)) ≡ written_outputs listing (environment_of (environment_size listing) before)
    unfolding written_outputs environment_size table_listing
    all_listed = rw (inputs, outputs)

    size_is : i + o ≡ environment_size listing
    unfolding environment_size table_listing
    size_is = rw (inputs, outputs)

    due_is_lem : due_of due ≡ next_due may.state
    due_is_lem = U ∙ (D ∙ (ap (λ (n : ℕ). next_due_of_rows (rows_of before) (environment_of n before)) size_is ∙ may.due))

    pub finished_as : FinishedAs t before numbers values after numbers' values' steps may.state
        (Ok (record { steps = steps; listed = count; due = due }))
    unfolding result_of promises.result_of answered outcome_number outcome_place no_figures outcome_figures numbers_after values_after
    finished_as =
        record {
          reads = finished_reads;
          size = E.size;
          past = E.past;
          result = λ d e f g. rw (e, f, g, ← all_listed, due_is_lem, L.count);
          numbers_are = λ d g. rw (g, ← all_listed) L.numbers;
          values_are = λ d g. rw (g, ← all_listed) L.values;
        }
