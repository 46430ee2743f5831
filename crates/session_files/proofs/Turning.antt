-- The turns of a run: from what `advance` promises to the steps made from the opening.
use mathlib.Core.Path.{◌≡◌, sym, subst}
use mathlib.Core.Bool.{Bool, true, false}
use mathlib.Core.List.{List, []}
use Prim.Native.Nat.{ℕ, suc, ◌<◌}
use native.Mathlib.Omega.{arith}
use lib.ListN.{take}
use Rattle.std.specs.declared.option.Option.{Option}
use Rattle.std.specs.Io.KnownBytes.{Appends}
use Rattle.std.proofs.KnownBytes.{Appends-nil, Appends-trans}
use Rattle.listing.specs.Bytes.{Bytes}
use Rattle.session_replay.specs.Phases.{Memories, memories}
use Rattle.session_replay.specs.Advancing.{lengths_suffice, long_enough, Advances, too_short}
use Rattle.session_replay.specs.Ending.{is_over, steps_left, AsLong, StepsMade, none, one_more}
use Rattle.session_replay.specs.declared.phase.Phase.{Phase}
use Rattle.session_replay.specs.declared.phase.Phase.TheVariants.{Opening, Over}
use Rattle.session_replay.specs.declared.phase.Advanced.{Advanced}
use Rattle.session_replay.specs.declared.phase.Advanced.TheVariants.{Went, TooShort}
use Rattle.session_replay.proofs.Ending.{is_over_lem, step_falls, steps_print}
use Rattle.session_files.specs.Turning.{Turned, PieceWritten, Ran, ended, not_written, SessionWritten}
use Rattle.session_files.specs.declared.Stepped.{Stepped}
use Rattle.session_files.specs.declared.Ending.TheVariants.{Ended, NotWritten}

module _ {listing trace table machine out table' machine' out' : List ℕ} {phase : Phase} {r : Advanced}
    (a : Advances listing trace table machine out phase table' machine' out' r) where
  pub turned : {next : Phase} {n : ℕ} (b : Bool) → r ≡ Went next n →
      AsLong (memories table machine out) (memories table' machine' out') →
      Turned listing trace (memories table machine out) phase (memories table' machine' out')
      (record { next = next; is_written = b })
  turned {n = n} b e long =
      record {
        printed = n;
        calls = record {
          advances = subst (λ (x : Advanced). Advances listing trace table machine out phase table' machine' out' x) e a;
          as_long = long;
        };
      }

  pub piece_written : {next : Phase} {n : ℕ} {held held' : Option Bytes} (b : Bool) → r ≡ Went next n →
      AsLong (memories table machine out) (memories table' machine' out') → (b ≡ true → Appends held held' (take n out')) →
      PieceWritten listing trace (memories table machine out) phase (memories table' machine' out')
      (record { next = next; is_written = b }) held held'
  unfolding turned
  piece_written {n = n} b e long w = record { printed = n; calls = (turned b e long).calls; written = w }

-- Memories that are long enough are not too short.
pub not_short : {listing trace table machine out table' machine' out' : List ℕ} {phase : Phase} {A : Type 0} →
    Advances listing trace table machine out phase table' machine' out' TooShort →
    long_enough table machine out ≡ true → A
not_short (too_short short same) e = absurd (let z : ◌≡◌ {A = ℕ} 0 1 = cc in let y : ⊥ = omega arith in y)

-- Memories of these lengths are long enough.
pub lent_long : {table machine out : ℕ} → 12288 ≡ table → 12288 ≡ machine →
    1100 ≡ out → lengths_suffice table machine out ≡ true
unfolding lengths_suffice
lent_long a b c = rw (sym a, sym b, sym c)

-- Between two turns: so many steps have been made, and what they printed is written out.
pub record Going (listing trace : Bytes) (m m' : Memories) (phase : Phase) (held held' : Option Bytes) : Type 0 where
  pub count : ℕ
  pub bytes : Bytes
  pub made : StepsMade listing trace m count m' phase bytes
  pub written : Appends held held' bytes

pub begun : {listing trace : Bytes} {m : Memories} {held : Option Bytes} → Going listing trace m m Opening held held
begun {held = held} = record { count = 0; bytes = []; made = none; written = Appends-nil held }

module _ {listing trace : Bytes} {m m' : Memories} {phase : Phase} {held held' : Option Bytes} (g : Going listing trace m m' phase held held') where
  pub run_ended : is_over phase ≡ true → Ran listing trace m m' Ended
  run_ended e =
      let made : StepsMade listing trace m g.count m' Over g.bytes = subst (λ (x : Phase). StepsMade listing trace m g.count m' x g.bytes) (is_over_lem phase e) g.made in
      ended (subst (λ (x : Bytes). StepsMade listing trace m g.count m' Over x) (steps_print made) made)

  pub session_written : is_over phase ≡ true → SessionWritten listing trace Ended held held'
  session_written e same =
      let made : StepsMade listing trace m g.count m' Over g.bytes = subst (λ (x : Phase). StepsMade listing trace m g.count m' x g.bytes) (is_over_lem phase e) g.made in
      subst (λ (x : Bytes). Appends held held' x) (steps_print made) g.written

  module _ {m'' : Memories} {r : Stepped} (on : is_over phase ≡ false) where
    pub run_stops : Turned listing trace m' phase m'' r → Ran listing trace m m'' NotWritten
    run_stops turn = not_written (one_more g.made on turn.calls)

    pub fewer : Turned listing trace m' phase m'' r → steps_left r.next < steps_left phase
    fewer turn = step_falls g.made on turn.calls

    pub goes_on : {held'' : Option Bytes} → PieceWritten listing trace m' phase m'' r held' held'' → r.is_written ≡ true →
        Going listing trace m m'' r.next held held''
    goes_on piece w =
        record { count = suc g.count; bytes = _; made = one_more g.made on piece.calls; written = Appends-trans _ _ _ _ _ g.written (piece.written w) }

-- A run that did not end says nothing of what it wrote out.
pub unwritten : (listing trace : Bytes) (held held' : Option Bytes) → SessionWritten listing trace NotWritten held held'
unwritten _ _ _ _ e = let z : ◌≡◌ {A = ℕ} 0 1 = cc in absurd (let y : ⊥ = omega arith in y)
