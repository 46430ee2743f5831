-- The steps of a session up to its last.
use mathlib.Core.Path.{◌≡◌, refl, sym, subst}
use mathlib.Core.Bool.{true, false}
use Prim.Native.Nat.{ℕ, suc, ◌<◌}
use Rattle.listing.specs.Bytes.{Bytes}
use Rattle.session_replay.specs.Phases.{Memories}
use Rattle.session_replay.specs.Advancing.{lengths_suffice}
use Rattle.session_replay.specs.Ending.{is_over, steps_left, are_long, Calls, StepsMade, none, one_more}
use Rattle.session_replay.specs.declared.phase.Phase.{Phase}
use Rattle.session_replay.specs.declared.phase.Phase.TheVariants.{Opening}
use Rattle.session_replay.specs.declared.phase.Advanced.{Advanced}
use Rattle.session_replay.specs.declared.phase.Advanced.TheVariants.{Went, TooShort}
use Rattle.session_replay.proofs.Ending.{is_over_lem, step_falls, steps_go_on}
use Rattle.explain_played.specs.Endings.{LastStep}

-- Between two steps: so many have been made, and not all is printed.
pub record Going (listing trace : Bytes) (m m' : Memories) (phase : Phase) : Type 0 where
  pub count : ℕ
  pub bytes : Bytes
  pub made : StepsMade listing trace m count m' phase bytes
  pub going : is_over phase ≡ false

pub begun : {listing trace : Bytes} {m : Memories} → Going listing trace m m Opening
begun = record { count = 0; bytes = _; made = none; going = refl }

module _ {listing trace : Bytes} {m m' m'' : Memories} {phase : Phase} (g : Going listing trace m m' phase) {answer : Advanced} (call : Calls listing trace m' phase m'' answer) where
  pub never_short : {A : Type 0} → are_long m ≡ true → answer ≡ TooShort → A
  never_short long e = absurd (steps_go_on long g.made (subst (λ (x : Advanced). Calls listing trace m' phase m'' x) e call))

  module _ {next : Phase} {n : ℕ} (e : answer ≡ Went next n) where
    went : Calls listing trace m' phase m'' (Went next n)
    went = subst (λ (x : Advanced). Calls listing trace m' phase m'' x) e call

    pub steps_last : is_over next ≡ true → LastStep listing trace m m'' (record { phase = phase; printed = n })
    steps_last o =
        record {
          count = g.count;
          held = m';
          bytes = g.bytes;
          made = g.made;
          going = g.going;
          calls = subst (λ (x : Phase). Calls listing trace m' phase m'' (Went x n)) (is_over_lem next o) went;
        }

    pub goes_on : is_over next ≡ false → Going listing trace m m'' next
    goes_on o = record { count = suc g.count; bytes = _; made = one_more g.made g.going went; going = o }

    pub fewer : steps_left next < steps_left phase
    fewer = step_falls g.made g.going went

-- Memories of these lengths are long enough.
pub lent_long : {table machine out : ℕ} → 12288 ≡ table → 12288 ≡ machine → 1100 ≡ out → lengths_suffice table machine out ≡ true
unfolding lengths_suffice
lent_long a b c = rw (sym a, sym b, sym c)
