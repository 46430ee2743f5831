-- The session (document 01, "The session"): what the program prints for a listing and a trace.
use Rattle.std.specs.Prelude.{Bool, true, false, cond, List, [], ◌∷◌, ◌++◌, ℕ, zero, suc, ◌-◌, ltb, length}
use Prim.Native.Char.{code}
use Rattle.listing.specs.Bytes.{Bytes, tab, line_feed, figure}
use Rattle.listing.specs.Text.{signed_figure}
use Rattle.listing.specs.Limits.{byte_limit}
use Rattle.listing.specs.Listing.{Listing}
use Rattle.listing.specs.Load.{Loading, loading}
use Rattle.listing.specs.Load as Load
use Rattle.walk.specs.State.{State}
use Rattle.walk.specs.Instant.{Write, NextDue, never, moment, next_due, Done}
use Rattle.walk.specs.Calls.{Outcome, refused, stopped, done, start_on, instant_from}
use Rattle.walk.specs.Events.{Event, events_at}
use Rattle.walk.specs.Trace.{Script, call_at, last_at, broken, script}

-- "allowance 10,000"
abbrev pub session_allowance : ℕ
session_allowance = 10000

-- ── what comes of some calls: writes, and then a state or the end with its code and moment ────────
pub data Then : Type 0 where
  goes_on_lem : State → Then
  ends : ℕ → ℕ → Then

pub record Played : Type 0 where
  pub writes : List Event
  pub next : Then

-- A call at t from a state of moment `now`: "the first refusal or stop ends it".
unfoldable pub played : ℕ → ℕ → Outcome → Played
played now t (refused k) = record { writes = []; next = ends k now }
played now t (stopped k) = record { writes = []; next = ends k now }
played now t (done d) = record { writes = events_at t d.listed; next = goes_on_lem d.state }

unfoldable pub after_then : Then → (State → Played) → Played
after_then (goes_on_lem s) next = next s
after_then (ends k now) next = record { writes = []; next = ends k now }

unfoldable pub and_then : Played → (State → Played) → Played
and_then p next = let q = after_then p.next next in record { writes = p.writes ++ q.writes; next = q.next }

-- ── "every due instant between" ───────────────────────────────────────────────────────────────────
module _ (listing : Listing) where
  unfoldable pub call_from : ℕ → List Write → State → Played
  call_from t inputs s = played s.now t (instant_from listing s t inputs session_allowance)

  -- the one due at m is made if m is before t
  unfoldable pub due_next : Bool → ℕ → (State → Played) → State → Played
  due_next true m rest s = and_then (call_from m [] s) rest
  due_next false m rest s = record { writes = []; next = goes_on_lem s }

  unfoldable pub due_or : NextDue → ℕ → (State → Played) → State → Played
  due_or never t rest s = record { writes = []; next = goes_on_lem s }
  due_or (moment m) t rest s = due_next (ltb m t) m rest s

  -- Every due instant before t. Moments rise, so there are at most as many as moments between: the first argument bounds them.
  unfoldable pub due_instants_before : ℕ → ℕ → State → Played
  due_instants_before zero t s = record { writes = []; next = goes_on_lem s }
  due_instants_before (suc bound) t s = due_or (next_due s) t (due_instants_before bound t) s

  unfoldable pub all_due_before : ℕ → State → Played
  all_due_before t s = due_instants_before (t - s.now) t s

  -- ── the script ──────────────────────────────────────────────────────────────────────────────────
  unfoldable pub end_code : Bool → ℕ
  end_code true = 0
  end_code false = 2

  -- "joining one with inputs of its time": the call at a group's time makes what is due then too.
  -- "and those due up to Q's time"
  unfoldable pub play : Script → State → Played
  play (call_at t inputs rest) s = and_then (all_due_before t s) (λ (u : State). and_then (call_from t inputs u) (play rest))
  play (last_at t nothingAfter) s =
      and_then (all_due_before (suc t) s) (λ (u : State). record { writes = []; next = ends (end_code nothingAfter) u.now })
  play broken s = record { writes = []; next = ends 2 s.now }

  unfoldable pub play_all : Script → Played
  play_all sc = and_then (played 0 0 (start_on listing session_allowance)) (play sc)

-- ── "It prints `O|time|output|value` for each write, then `X|code|present moment`" ────────────────
unfoldable pub write_line : Event → Bytes
write_line e = code "O" ∷ (tab ∷ (figure e.moment ++ (tab ∷ (figure e.number ++ (tab ∷ (signed_figure e.value ++ (line_feed ∷ [])))))))

unfoldable pub write_lines : List Event → Bytes
write_lines [] = []
write_lines (e ∷ es) = write_line e ++ write_lines es

unfoldable pub end_line : ℕ → ℕ → Bytes
end_line k now = code "X" ∷ (tab ∷ (figure k ++ (tab ∷ (figure now ++ (line_feed ∷ [])))))

-- A session that has been played to its end has an end.
unfoldable pub end_of : Then → Bytes
end_of (goes_on_lem s) = []
end_of (ends k now) = end_line k now

unfoldable pub printed : Played → Bytes
printed p = write_lines p.writes ++ end_of p.next

unfoldable pub on_loading : Loading → Bytes → Played
on_loading (Load.refused number place) trace = record { writes = []; next = ends number 0 }
on_loading (Load.loaded listing) trace = play_all listing (script trace)

-- "Before loading, a listing over 49,152 bytes has code 3, else a trace over 49,152 code 2."
unfoldable pub before_loading : Bool → Bool → Bytes → Bytes → Played
before_loading true traceLong listing trace = record { writes = []; next = ends 3 0 }
before_loading false true listing trace = record { writes = []; next = ends 2 0 }
before_loading false false listing trace = on_loading (loading true listing) trace

unfoldable pub session_of : Bytes → Bytes → Played
session_of listing trace = before_loading (ltb byte_limit (length listing)) (ltb byte_limit (length trace)) listing trace

unfoldable pub session : Bytes → Bytes → Bytes
session listing trace = printed (session_of listing trace)
