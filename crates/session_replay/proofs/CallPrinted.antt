-- From what came of a call, and from what is printed of it: what comes of it in the session is printed. Letters: l the listing, o the outcome.
use mathlib.Core.Path.{◌≡◌, sym, ap, ◌∙◌}
use mathlib.Core.List.{List, ◌++◌}
use Prim.Native.Nat.{ℕ, ◌≤◌}
use lib.ListN.{length, take}
use Rattle.listing.specs.Listing.{Listing}
use Rattle.walk.specs.State.{State}
use Rattle.walk.specs.Calls.{Outcome}
use Rattle.walk.specs.Events.{events_at}
use Rattle.walk.specs.Session.{Played, played, and_then, printed}
use Rattle.session_calls.specs.Clock.{Runs}
use Rattle.session_calls.specs.Calls.{Goes, refuses, stops, goes}
use Rattle.session_calls.specs.declared.clock.Clock.{Clock}
use Rattle.session_calls.specs.declared.calls.Called.{Called}
use Rattle.session_printed.specs.Made.{CalledPrinted}
use Rattle.session_printed.specs.Made as specs
use Rattle.session_printed.specs.declared.calls.Made.{Made}
use Rattle.session_printed.specs.declared.calls.Made.TheVariants.{Ended, Went}
use Rattle.session_printed.proofs.PiecePrinted.{begins_take, begins_room}
use Rattle.session_replay.proofs.Printed.{printed_on, printed_end}

-- A call of which p comes is made and printed: with its `X` line the session ends, or it goes on from a state for which the machine stands.
pub data CallPrinted (table machine out : List ℕ) (l : Listing) (p : Played) : Made → Type 0 where
  ended : {n : ℕ} → ((next : State → Played) → printed (and_then p next) ≡ take n out) → CallPrinted table machine out l p (Ended n)
  went : {n : ℕ} {clock : Clock} (u : State) → Runs table machine clock l u →
      ((next : State → Played) → printed (and_then p next) ≡ take n out ++ printed (next u)) → CallPrinted table machine out l p (Went clock n)

abbrev pub bytes_of : Made → ℕ
bytes_of (Ended n) = n
bytes_of (Went clock n) = n

pub printed_room : {called : Called} {now t : ℕ} {numbers values before out : List ℕ} {made : Made} → CalledPrinted called now t numbers values before out made → bytes_of made ≤ length out
printed_room (specs.CalledPrinted.ended b) = begins_room b
printed_room (specs.CalledPrinted.went b) = begins_room b

pub call_printed : {table machine before out numbers values : List ℕ} {l : Listing} {now t : ℕ} {o : Outcome} {called : Called} {made : Made} →
    Goes table machine numbers values l t o called → CalledPrinted called now t numbers values before out made → CallPrinted table machine out l (played now t o) made
unfolding played
call_printed {now = now} (refuses {k} least) (specs.CalledPrinted.ended b) = ended (λ next. printed_end k now next ∙ sym (begins_take b))
call_printed {now = now} (stops {k} least) (specs.CalledPrinted.ended b) = ended (λ next. printed_end k now next ∙ sym (begins_take b))
call_printed {t = t} (goes {d} {clock} moved at runs listed) (specs.CalledPrinted.went {n = n} b) =
    went {n = n} {clock = clock} d.state runs (λ next. printed_on (events_at t d.listed) d.state next ∙ rw (begins_take b, listed))
