-- The whole step: each phase's own step, and a session from its opening to its end.
use mathlib.Core.Path.{◌≡◌, refl, sym, ap, subst, ◌∙◌}
use mathlib.Core.Bool.{true}
use mathlib.Core.List.{List, [], ◌++◌}
use Prim.Native.Nat.{ℕ, ◌≤◌}
use native.Mathlib.Omega.{arith}
use lib.Dec.{leb}
use lib.ListN.{length, take}
use borrow.Author.Tests.{leb-true}
use Rattle.listing.specs.Bytes.{Bytes}
use Rattle.walk.specs.Calls.{later_words}
use Rattle.walk.specs.Session.{session}
use Rattle.walk_laws.proofs.Booleans.{and_left, and_right}
use Rattle.session_replay.specs.Standing.{Stands, opening, over, Left}
use Rattle.session_replay.specs.After.{silent}
use Rattle.session_replay.specs.Phases.{Memories, memories, Does, from_opening, from_starting, from_reading, when_over}
use Rattle.session_replay.specs.Advancing.{lengths_suffice, long_enough, Steps, Moves, Advances, went}
use Rattle.session_replay.specs.declared.phase.Phase.{Phase}
use Rattle.session_replay.specs.declared.phase.Phase.TheVariants.{Opening, Starting, Reading, Over}
use Rattle.session_replay.specs.declared.phase.Step.{Step}
use Rattle.session_replay.specs.declared.phase.Advanced.TheVariants.{Went}
use Rattle.session_replay.proofs.FirstSteps.{opening_steps, opening_past}
use Rattle.session_replay.proofs.Calling.{starting_past, reading_past, starting_does, reading_does}

-- ── lengths ───────────────────────────────────────────────────────────────────────────────────────
pub record Enough (table machine out : ℕ) : Type 0 where
  pub table_long : 12288 ≤ table
  pub machine_long : 12288 ≤ machine
  pub out_long : 1100 ≤ out

pub enough : (table machine out : ℕ) → lengths_suffice table machine out ≡ true → Enough table machine out
unfolding lengths_suffice
enough table machine out e =
    let rest = and_right (leb 12288 table) _ e in
    record {
      table_long = leb-true _ _ (and_left (leb 12288 table) _ e);
      machine_long = leb-true _ _ (and_left (leb 12288 machine) _ rest);
      out_long = leb-true _ _ (and_right (leb 12288 machine) _ rest);
    }

-- ── a step ────────────────────────────────────────────────────────────────────────────────────────
over_steps : (listing trace table machine out : List ℕ) → Steps listing trace table machine Over table machine out (silent Over)
over_steps listing trace table machine out = record { room = omega arith; prints = go }
  where
    go : (bytes : Bytes) → Stands listing trace table machine Over bytes → Left listing trace table machine Over bytes (take 0 out)
    go _ over = record { rest = []; parts = refl; stands = over }

-- What it leaves past the 12,288 words of the table and of the machine, and what it is in the session.
pub record Moved (listing trace : Bytes) (m m' : Memories) (step : Step) (phase : Phase) : Type 0 where
  pub steps : Steps listing trace m.table m.machine phase m'.table m'.machine m'.out step
  pub table_past : later_words m'.table ≡ later_words m.table
  pub machine_past : later_words m'.machine ≡ later_words m.machine

-- From the phase that it is.
pub does_from : (listing trace : Bytes) (m m' : Memories) (step : Step) (phase phase' : Phase) → phase ≡ phase' → Does listing trace m m' step phase' → Does listing trace m m' step phase
does_from listing trace m m' step phase phase' e d = subst (λ (p : Phase). Does listing trace m m' step p) (sym e) d

later : (x y : List ℕ) → x ≡ y → later_words x ≡ later_words y
later x y e = ap (λ (z : List ℕ). later_words z) e

module _ (listing trace : Bytes) (m m' : Memories) (step : Step) (long : Enough (length m.table) (length m.machine) (length m.out)) where
  -- A step that is not lent the table to write in leaves it.
  called_moved : (phase : Phase) → Steps listing trace m.table m.machine phase m.table m'.machine m'.out step →
      later_words m'.machine ≡ later_words m.machine → m'.table ≡ m.table → Moved listing trace m m' step phase
  called_moved phase s past table =
      record {
        steps = subst (λ (x : List ℕ). Steps listing trace m.table m.machine phase x m'.machine m'.out step) (sym table) s;
        table_past = later m'.table m.table table;
        machine_past = past;
      }

  over_moved : m' ≡ m → step ≡ silent Over → Moved listing trace m m' step Over
  over_moved same s =
      subst (λ (x : Memories). Moved listing trace m x step Over) (sym same)
      (subst (λ (x : Step). Moved listing trace m m x Over) (sym s)
      (record { steps = over_steps listing trace m.table m.machine m.out; table_past = refl; machine_past = refl }))

  pub does_move : (phase : Phase) → Does listing trace m m' step phase → Moved listing trace m m' step phase
  does_move _ (from_opening d machine) =
      record {
        steps = subst (λ (x : List ℕ). Steps listing trace m.table m.machine Opening m'.table x m'.out step) (sym machine)
            (opening_steps listing trace m.table m.machine m.out m'.table m'.out step long.table_long d);
        table_past = opening_past listing trace m.table m.out m'.table m'.out step d;
        machine_past = later m'.machine m.machine machine;
      }
  does_move _ (from_starting d table) = called_moved Starting
      (starting_does listing trace m.table m.machine m.out m'.machine m'.out step d)
      (starting_past listing trace m.table m.machine m.out m'.machine m'.out step d) table
  does_move _ (from_reading {clock} {at} d table) = called_moved (Reading clock at)
      (reading_does listing trace m.table m.machine m.out m'.machine m'.out step clock at d)
      (reading_past listing trace m.table m.machine m.out m'.machine m'.out step clock at d) table
  does_move _ (when_over same s) = over_moved same s

pub went_on : (listing trace table machine out : List ℕ) (phase : Phase) (table' machine' out' : List ℕ) (step : Step) → long_enough table machine out ≡ true →
    Does listing trace (memories table machine out) (memories table' machine' out') step phase → Moves listing trace table machine out phase table' machine' out' step
went_on listing trace table machine out phase table' machine' out' step suffices d =
    let long = enough (length table) (length machine) (length out) suffices in
    let moved = does_move listing trace (memories table machine out) (memories table' machine' out') step long phase d in
    record { does = d; steps = moved.steps; table_past = moved.table_past; machine_past = moved.machine_past }

-- ── a whole session ───────────────────────────────────────────────────────────────────────────────
-- A run of `advance` from a phase with these memories, each call getting what the one before left, until all is printed; and all that it printed.
pub data Runs (listing trace : Bytes) : (table machine : List ℕ) → Phase → Bytes → Type 0 where
  finished : {table machine : List ℕ} → Runs listing trace table machine Over []
  then : {table machine out table' machine' out' : List ℕ} {phase next : Phase} {n : ℕ} {bytes : Bytes} →
      Advances listing trace table machine out phase table' machine' out' (Went next n) → Runs listing trace table' machine' next bytes →
      Runs listing trace table machine phase (take n out' ++ bytes)

pub over_nothing : (listing trace table machine : List ℕ) (bytes : Bytes) → Stands listing trace table machine Over bytes → [] ≡ bytes
over_nothing listing trace table machine _ over = refl

run_prints : (listing trace : Bytes) {table machine : List ℕ} {phase : Phase} {bytes : Bytes} → Runs listing trace table machine phase bytes →
    (all : Bytes) → Stands listing trace table machine phase all → bytes ≡ all
run_prints listing trace (finished {table} {machine}) all h = over_nothing listing trace table machine all h
run_prints listing trace (then {out' = out'} {n = n} (went long moves) more) all h =
    let left = moves.steps.prints all h in
    ap (λ (rest : Bytes). take n out' ++ rest) (run_prints listing trace more left.rest left.stands) ∙ sym left.parts

-- What the calls of `advance` print one after another, from the opening with any memories to the end, is the session.
pub prints_the_session : (listing trace : Bytes) (table machine : List ℕ) (bytes : Bytes) → Runs listing trace table machine Opening bytes → bytes ≡ session listing trace
prints_the_session listing trace table machine bytes run = run_prints listing trace run (session listing trace) (opening refl)
