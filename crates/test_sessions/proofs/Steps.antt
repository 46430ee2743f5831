-- A session played step by step: so far the print is what the steps printed.
use mathlib.Core.Path.{◌≡◌, sym, ap, subst, ◌∙◌}
use mathlib.Core.Bool.{true, false}
use Rattle.std.proofs.Common.{Option, None, Some}
use mathlib.Core.List.{List, ◌++◌, append_assoc}
use Prim.Native.Nat.{ℕ, suc, ◌+◌, ◌-◌, ◌≤◌, ◌<◌}
use native.Mathlib.Omega.{arith}
use lib.Dec.{eqb}
use lib.ListN.{length, take, drop, length-append}
use lib.Seq.{take-add, take_all, take_at, drop_at, length-take-le}
use borrow.Author.Tests.{eqb-true, eq-eqb}
use Rattle.listing.specs.Bytes.{Bytes}
use Rattle.walk.specs.Session.{session}
use Rattle.session_replay.specs.Phases.{Memories, memories}
use Rattle.session_replay.specs.Advancing.{lengths_suffice, long_enough, Advances, too_short, went}
use Rattle.session_replay.specs.Ending.{is_over, steps_left, AsLong, Calls, StepsMade, none, one_more}
use Rattle.session_replay.specs.declared.phase.Phase.{Phase}
use Rattle.session_replay.specs.declared.phase.Phase.TheVariants.{Opening, Over}
use Rattle.session_replay.specs.declared.phase.Advanced.{Advanced}
use Rattle.session_replay.specs.declared.phase.Advanced.TheVariants.{Went, TooShort}
use Rattle.session_replay.proofs.Ending.{is_over_lem, made_left, step_falls, steps_print}
use Rattle.test_cases.specs.Words.{Tells}
use Rattle.test_cases.proofs.Telling.{tells_no}
use Rattle.test_sessions.specs.Playing.{StandsAt, Follows, follows, differs, Takes, on, failed}
use Rattle.test_sessions.specs.declared.playing.Step.{Step}

-- ── one step ──────────────────────────────────────────────────────────────────────────────────────
-- the call that `advance` promises
pub call_of_lem : {listing trace table machine out : List ℕ} {phase : Phase} {table' machine' out' : List ℕ} {a : Advanced} {next : Phase}
    {n : ℕ} → Advances listing trace table machine out phase table' machine' out' a → a ≡ Went next n
    → AsLong (memories table machine out) (memories table' machine' out')
    → Calls listing trace (memories table machine out) phase (memories table' machine' out') (Went next n)
call_of_lem {listing} {trace} {table} {machine} {out} {phase} {table'} {machine'} {out'} k e long =
    record {
      advances = subst (λ (x : Advanced). Advances listing trace table machine out phase table' machine' out' x) e k;
      as_long = long;
    }

-- memories that are long enough are not too short
pub not_short : {listing trace table machine out : List ℕ} {phase : Phase} {table' machine' out' : List ℕ} {A : Type 0}
    → Advances listing trace table machine out phase table' machine' out' TooShort
    → long_enough table machine out ≡ true → A
not_short (too_short short same) e = absurd (let z : ◌≡◌ {A = ℕ} 0 1 = cc in let y : ⊥ = omega arith in y)

-- memories of these lengths are long enough
pub lent_long : {table machine out : ℕ} → 12288 ≡ table → 12288 ≡ machine → 1100 ≡ out
    → lengths_suffice table machine out ≡ true
unfolding lengths_suffice
lent_long a b c = rw (sym a, sym b, sym c)

-- the part of the print that was compared
pub part_is : (print : List ℕ) (at n : ℕ) → take (at + n - at) (drop at print) ≡ take n (drop at print)
part_is print at n = ap (λ (k : ℕ). take k (drop at print)) (let z : at + n - at ≡ n = omega arith in z)

pub followed : {print : List ℕ} {at : ℕ} {out : List ℕ} {n : ℕ} {f : Option ℕ} {to : ℕ} → Follows print at out n f → f ≡ Some to → (to ≡ at + n) × StandsAt print at out n
followed {print} {at} {out} {n} k e = go (subst (λ (x : Option ℕ). Follows print at out n x) e k)
  where
    go : {to : ℕ} → Follows print at out n (Some to) → (to ≡ at + n) × StandsAt print at out n
    go (follows h s) = (h, s)

pub not_followed : {print : List ℕ} {at : ℕ} {out : List ℕ} {n : ℕ} {f : Option ℕ} → Follows print at out n f → f ≡ None → StandsAt print at out n → ⊥
not_followed {print} {at} {out} {n} k e = go (subst (λ (x : Option ℕ). Follows print at out n x) e k)
  where
    go : Follows print at out n None → StandsAt print at out n → ⊥
    go (differs h) = h

-- ── the steps so far ──────────────────────────────────────────────────────────────────────────────
pub record Playing (listing trace print : List ℕ) (m m' : Memories) (phase : Phase) (at : ℕ) : Type 0 where
  pub count : ℕ
  pub made : StepsMade listing trace m count m' phase (take at print)
  pub within : at ≤ length print

pub begun : {listing trace print : List ℕ} {m : Memories} → Playing listing trace print m m Opening 0
begun = record { count = 0; made = none; within = omega arith }

module _ {listing trace print : List ℕ} {m m' : Memories} {phase : Phase} {at : ℕ} (p : Playing listing trace print m m' phase at) where
  -- all is printed: the print is the session exactly if all of it was compared
  pub played : is_over phase ≡ true → Tells (eqb at (length print)) (print ≡ session listing trace)
  played e =
      let made : StepsMade listing trace m p.count m' Over (take at print) = subst (λ (x : Phase). StepsMade listing trace m p.count m' x (take at print)) (is_over_lem phase e) p.made in
      let is = steps_print made in
      let within = p.within in
      record {
        means = λ t. sym (take_all at print (let h = eqb-true at (length print) t in omega arith)) ∙ is;
        whenever = λ s. eq-eqb at (length print) (sym (length-take-le at print within) ∙ ap (λ (x : List ℕ). length x) (is ∙ sym s));
      }

  module _ (going : is_over phase ≡ false) {m'' : Memories} where
    -- what the step printed stands in a print that is the session
    stands_there : {next : Phase} {n : ℕ} → Calls listing trace m' phase m'' (Went next n) → n ≤ length m''.out → print ≡ session listing trace → StandsAt print at m''.out n
    stands_there {n = n} call room s =
        let left = made_left (one_more p.made going call) in
        let piece = take n m''.out in
        let before = take at print in
        let whole : print ≡ before ++ (piece ++ left.rest) = s ∙ (left.parts ∙ append_assoc before piece left.rest) in
        let here : length before ≡ at = length-take-le at print p.within in
        let long : length piece ≡ n = length-take-le n m''.out room in
        let sizes : length print ≡ length before + (length piece + length left.rest) =
        ap (λ (x : List ℕ). length x) whole ∙ (length-append before (piece ++ left.rest) ∙ ap (λ (k : ℕ). length before + k) (length-append piece left.rest)) in
        record {
          printed = room;
          stored = omega arith;
          same = ap (λ (x : List ℕ). take n x) (ap (λ (x : List ℕ). drop at x) whole ∙ drop_at before (piece ++ left.rest) at here) ∙ take_at piece left.rest n long;
        }

    went_on : {next : Phase} {n to : ℕ} → Calls listing trace m' phase m'' (Went next n) → to ≡ at + n → StandsAt print at m''.out n → Playing listing trace print m m'' next to
    went_on {next} {n} {to} call e a =
        let more : take at print ++ take n m''.out ≡ take to print =
        sym (ap (λ (k : ℕ). take k print) e ∙ (take-add at n print ∙ ap (λ (x : Bytes). take at print ++ x) a.same)) in
        record {
          count = suc p.count;
          made = subst (λ (x : Bytes). StepsMade listing trace m (suc p.count) m'' next x) more (one_more p.made going call);
          within = let h = a.stored in omega arith;
        }

    room_of : {next : Phase} {n : ℕ} → Calls listing trace m' phase m'' (Went next n) → n ≤ length m''.out
    room_of call = by call.advances
      where
        by : {table machine out table' machine' out' : List ℕ} {next : Phase} {n : ℕ} →
            Advances listing trace table machine out phase table' machine' out' (Went next n) → n ≤ length out'
        by (went long moves) = moves.steps.room

    module _ {t : Option Step} (k : Takes listing trace print m' phase at m'' t) where
      pub taken_on : {next : Step} → t ≡ Some next → Playing listing trace print m m'' next.phase next.at
      taken_on e = go (subst (λ (x : Option Step). Takes listing trace print m' phase at m'' x) e k)
        where
          go : {next : Step} → Takes listing trace print m' phase at m'' (Some next) → Playing listing trace print m m'' next.phase next.at
          go (on call h a) = went_on call h a

      pub taken_less : {next : Step} → t ≡ Some next → steps_left next.phase < steps_left phase
      taken_less e = go (subst (λ (x : Option Step). Takes listing trace print m' phase at m'' x) e k)
        where
          go : {next : Step} → Takes listing trace print m' phase at m'' (Some next) → steps_left next.phase < steps_left phase
          go (on call h a) = step_falls p.made going call

      pub taken_wrong : t ≡ None → Tells false (print ≡ session listing trace)
      taken_wrong e = go (subst (λ (x : Option Step). Takes listing trace print m' phase at m'' x) e k)
        where
          go : Takes listing trace print m' phase at m'' None → Tells false (print ≡ session listing trace)
          go (failed call apart) = tells_no (λ s. apart (stands_there call (room_of call) s))
