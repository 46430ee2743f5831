-- A session always has an end: after the writes one `X` line is printed.
use mathlib.Core.Bool.{Bool, true, false}
use mathlib.Core.List.{[]}
use Prim.Native.Nat.{ℕ, suc}
use Rattle.listing.specs.Listing.{Listing}
use lib.Dec.{ltb}
use lib.ListN.{length}
use Rattle.listing.specs.Bytes.{Bytes}
use Rattle.listing.specs.Limits.{byte_limit}
use Rattle.listing.specs.Load as Load
use Rattle.listing.specs.Load.{Loading, loading}
use Rattle.walk.specs.State.{State}
use Rattle.walk.specs.Calls.{start_on}
use Rattle.walk.specs.Trace.{Script, call_at, last_at, broken, script}
use Rattle.walk.specs.Session as Session
use Rattle.walk.specs.Session.{Then, goes_on_lem, ends, Played, played, after_then, and_then, call_from, all_due_before, play, play_all, on_loading, before_loading, session_of, session_allowance}

-- What comes next is an end.
pub data Ended : Then → Type 0 where
  at : {k now : ℕ} → Ended (ends k now)

-- Where what follows has an end, so has the whole.
pub after_ends : (t : Then) (next : State → Played) → ((s : State) → Ended (next s).next) → Ended (after_then t next).next
unfolding after_then
after_ends (goes_on_lem s) next all = all s
after_ends (ends k now) next all = at

pub and_then_ends : (p : Played) (next : State → Played) → ((s : State) → Ended (next s).next) → Ended (and_then p next).next
unfolding and_then
and_then_ends p next all = after_ends p.next next all

pub play_ends : (listing : Listing) (sc : Script) (s : State) → Ended (play listing sc s).next
unfolding play
play_ends listing (call_at t inputs rest) s =
    and_then_ends (all_due_before listing t s) (λ (u : State). and_then (call_from listing t inputs u) (play listing rest))
    (λ u. and_then_ends (call_from listing t inputs u) (play listing rest) (play_ends listing rest))
play_ends listing (last_at t nothingAfter) s =
    and_then_ends (all_due_before listing (suc t) s) (λ (u : State). record { writes = []; next = ends (Session.end_code listing nothingAfter) u.now }) (λ u. at)
play_ends listing broken s = at

pub loading_ends : (l : Loading) (trace : Bytes) → Ended (on_loading l trace).next
unfolding on_loading play_all
loading_ends (Load.refused number place) trace = at
loading_ends (Load.loaded listing) trace =
    and_then_ends (played 0 0 (start_on listing session_allowance)) (play listing (script trace)) (play_ends listing (script trace))

pub before_loading_ends : (a b : Bool) (listing trace : Bytes) → Ended (before_loading a b listing trace).next
unfolding before_loading
before_loading_ends true b listing trace = at
before_loading_ends false true listing trace = at
before_loading_ends false false listing trace = loading_ends (loading true listing) trace

pub session_ends : (listing trace : Bytes) → Ended (session_of listing trace).next
unfolding session_of
session_ends listing trace = before_loading_ends (ltb byte_limit (length listing)) (ltb byte_limit (length trace)) listing trace
