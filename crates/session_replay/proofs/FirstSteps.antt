-- The step that makes no engine call: loading. Letters: l the listing, e an equation.
use mathlib.Core.Path.{◌≡◌, refl, sym, ap, subst, ◌∙◌}
use mathlib.Core.Bool.{true}
use mathlib.Core.List.{List, [], ◌∷◌, ◌++◌}
use Prim.Native.Nat.{ℕ, ◌≤◌, ◌<◌}
use native.Mathlib.Omega.{arith}
use lib.ListN.{length, take}
use borrow.Author.Tests.{lt-ltb, le-ltb, le-leb}
use Rattle.listing.specs.Bytes.{Bytes}
use Rattle.listing.specs.Limits.{byte_limit}
use Rattle.listing.specs.Listing.{Listing}
use Rattle.listing.specs.Questions.{listing_in}
use Rattle.listing.specs.Load.{Loading, loading}
use Rattle.listing.specs.Load as Load
use Rattle.walk.specs.Calls.{later_words}
use Rattle.walk.specs.Promises.{LoadPromise, TableAfter, untouched, holds}
use Rattle.walk.specs.Session.{printed, write_lines, end_of, end_line, session, session_of, before_loading, on_loading}
use Rattle.layout.specs.Layout.{layout}
use Rattle.text_questions.specs.Outcome.{outcome_of}
use Rattle.text_questions.specs.declared.answer.Loaded.{Loaded}
use Rattle.text_questions.specs.declared.answer.Loaded.TheVariants as Loaded
use Rattle.session_replay.specs.Standing.{Stands, opening, starting, Left}
use Rattle.session_replay.specs.After.{EndsWith, silent}
use Rattle.session_replay.specs.Phases.{Loads, FromOpening}
use Rattle.session_replay.specs.Phases as phases
use Rattle.session_replay.specs.Advancing.{Steps}
use Rattle.session_replay.specs.declared.phase.Phase.{Phase}
use Rattle.session_replay.specs.declared.phase.Phase.TheVariants.{Opening, Starting}
use Rattle.session_replay.specs.declared.phase.Step.{Step}
use Rattle.session_replay.proofs.Stepping.{ends_steps}

take_none : (out : List ℕ) → take 0 out ≡ []
take_none [] = refl
take_none (x ∷ xs) = refl

-- Nothing was printed: all is still to be printed.
still_left : (listing trace table machine : List ℕ) (phase : Phase) (bytes : Bytes) (out : List ℕ) → Stands listing trace table machine phase bytes →
    Left listing trace table machine phase bytes (take 0 out)
still_left listing trace table machine phase bytes out h = record { rest = bytes; parts = ap (λ (piece : Bytes). piece ++ bytes) (sym (take_none out)); stands = h }

-- ── loading ───────────────────────────────────────────────────────────────────────────────────────
module _ (listing trace table machine : List ℕ) where
  long_listing_is : byte_limit < length listing → (bytes : Bytes) → Stands listing trace table machine Opening bytes → bytes ≡ end_line 3 0
  unfolding session session_of before_loading printed write_lines end_of
  long_listing_is h bytes (opening e) = e ∙ rw (lt-ltb byte_limit (length listing) h)

  long_trace_is : length listing ≤ byte_limit → byte_limit < length trace → (bytes : Bytes) → Stands listing trace table machine Opening bytes → bytes ≡ end_line 2 0
  unfolding session session_of before_loading printed write_lines end_of
  long_trace_is short h bytes (opening e) = e ∙ rw (le-ltb byte_limit (length listing) short, lt-ltb byte_limit (length trace) h)

module _ (listing trace table table' machine out out' : List ℕ) (step : Step) (listing-short : length listing ≤ byte_limit) (trace-short : length trace ≤ byte_limit)
    (long : 12288 ≤ length table) where
  loads_true : (answer : Loading) → LoadPromise layout listing table table' answer → answer ≡ loading true listing
  loads_true answer promise = promise.0 ∙ ap (λ b. loading b listing) (le-leb 12288 (length table) long)

  refused_is : (number place : ℕ) → LoadPromise layout listing table table' (Load.refused number place) → (bytes : Bytes) →
      Stands listing trace table machine Opening bytes → bytes ≡ end_line number 0
  unfolding session session_of before_loading on_loading printed write_lines end_of
  refused_is number place promise bytes (opening e) =
      e ∙ rw (le-ltb byte_limit (length listing) listing-short, le-ltb byte_limit (length trace) trace-short, sym (loads_true (Load.refused number place) promise))

  loaded_left : (l : Listing) → LoadPromise layout listing table table' (Load.loaded l) → (bytes : Bytes) → Stands listing trace table machine Opening bytes →
      Left listing trace table' machine Starting bytes (take 0 out')
  unfolding session session_of before_loading on_loading
  loaded_left l promise bytes (opening f) = go promise.1
    where
      go : TableAfter layout table table' (Load.loaded l) → Left listing trace table' machine Starting bytes (take 0 out')
      go (holds reads size later) =
          still_left listing trace table' machine Starting bytes out'
          (starting (record { short_listing = listing-short; short_trace = trace-short }) reads
          (f ∙ rw (le-ltb byte_limit (length listing) listing-short, le-ltb byte_limit (length trace) trace-short, sym (loads_true (Load.loaded l) promise))))

  load_steps : (answer : Loading) → LoadPromise layout listing table table' answer → Loads out out' step answer →
      Steps listing trace table machine Opening table' machine out' step
  load_steps _ promise (phases.Loads.refused {number} {place} e) =
      ends_steps listing trace table machine Opening table' machine out out' number 0 step e (refused_is number place promise)
  load_steps _ promise (phases.Loads.loaded {l} o s) = rw s (record { room = omega arith; prints = loaded_left l promise })

-- What the loader answered.
module _ (listing trace table out table' : List ℕ) (answer : Loaded) (listing-short : length listing ≤ byte_limit) (trace-short : length trace ≤ byte_limit)
    (promise : LoadPromise layout listing table table' (outcome_of listing answer)) where
  told : (x : Loaded) → answer ≡ x → LoadPromise layout listing table table' (outcome_of listing x)
  told x e = subst (λ (y : Loaded). LoadPromise layout listing table table' (outcome_of listing y)) e promise

  pub refused_opens : (out' : List ℕ) (step : Step) (number place : ℕ) → answer ≡ Loaded.Refused number place → EndsWith out number 0 out' step →
      FromOpening listing trace table out table' out' step
  refused_opens out' step number place e ends =
      phases.FromOpening.loads {answer = Load.refused number place} listing-short trace-short (told (Loaded.Refused number place) e) (phases.Loads.refused ends)

  pub done_opens : answer ≡ Loaded.Done → FromOpening listing trace table out table' out (silent Starting)
  done_opens e = phases.FromOpening.loads {answer = Load.loaded (listing_in listing)} listing-short trace-short (told Loaded.Done e) (phases.Loads.loaded refl refl)

-- The whole step.
pub opening_steps : (listing trace table machine out table' out' : List ℕ) (step : Step) → 12288 ≤ length table →
    FromOpening listing trace table out table' out' step → Steps listing trace table machine Opening table' machine out' step
opening_steps listing trace table machine out table' out' step long (phases.FromOpening.long_listing h t e) =
    ends_steps listing trace table machine Opening table' machine out out' 3 0 step e (long_listing_is listing trace table machine h)
opening_steps listing trace table machine out table' out' step long (phases.FromOpening.long_trace short h t e) =
    ends_steps listing trace table machine Opening table' machine out out' 2 0 step e (long_trace_is listing trace table machine short h)
opening_steps listing trace table machine out table' out' step long (phases.FromOpening.loads {answer} a b promise after) =
    load_steps listing trace table table' machine out out' step a b long answer promise after

-- "Words past 12,288 are never touched."
table_past : (listing table table' : List ℕ) (answer : Loading) → LoadPromise layout listing table table' answer → later_words table' ≡ later_words table
table_past listing table table' answer promise = past answer promise.1
  where
    past : (x : Loading) → TableAfter layout table table' x → later_words table' ≡ later_words table
    past _ (untouched e) = ap (λ (x : List ℕ). later_words x) e
    past _ (holds reads size later) = later

pub opening_past : (listing trace table out table' out' : List ℕ) (step : Step) → FromOpening listing trace table out table' out' step → later_words table' ≡ later_words table
opening_past listing trace table out table' out' step (phases.FromOpening.long_listing h t e) = ap (λ (x : List ℕ). later_words x) t
opening_past listing trace table out table' out' step (phases.FromOpening.long_trace short h t e) = ap (λ (x : List ℕ). later_words x) t
opening_past listing trace table out table' out' step (phases.FromOpening.loads {answer} a b promise after) = table_past listing table table' answer promise
