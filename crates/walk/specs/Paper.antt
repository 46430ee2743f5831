-- The starred sessions on paper, a to i: one table of cases, from the listing's own text to printed lines or answers (proofs Paper has the one proof).
use Rattle.std.specs.Prelude.{true, List, [], ◌∷◌, ℕ}
use Prim.Native.String.{String}
use Rattle.listing.specs.Bytes.{Bytes, bytes_of}
use Rattle.walk.specs.Instant.{Write, NextDue, never, moment}
use Rattle.walk.specs.Runs.{InstantCall}
use Rattle.walk.specs.Evaluation.{Seen, calls_quoted, session_quoted}

-- a case: a session of a listing and a trace, or a start with allowance 10,000 and calls
pub data Case : Type 0 where
  session : String → String → Case
  calls : String → List InstantCall → Case

-- what it gives: what is printed, or what is seen of each call
pub data Gives : Type 0 where
  prints : Bytes → Gives
  sees : List Seen → Gives

unfoldable pub outcome_of : Case → Gives
unfolding session_quoted calls_quoted
outcome_of (session listing trace) = prints (session_quoted listing trace)
outcome_of (calls listing cs) = sees (calls_quoted listing 10000 cs)

unfoldable pub outcomes : List Case → List Gives
unfolding outcome_of
outcomes [] = []
outcomes (c ∷ cs) = outcome_of c ∷ outcomes cs

unfoldable pub prints_quoted : String → Gives
unfolding bytes_of
prints_quoted text = prints (bytes_of text)

-- ── short ways to write calls and answers ─────────────────────────────────────────────────────────
abbrev pub writes : ℕ → ℕ → List Write
writes n v = record { number = n; value = v } ∷ []

-- a press of input 0; an instant without inputs
abbrev pub press : ℕ → ℕ → ℕ → InstantCall
press t v allowance = record { long_enough = true; time = t; inputs = writes 0 v; allowance = allowance }

abbrev pub tick : ℕ → InstantCall
tick t = record { long_enough = true; time = t; inputs = []; allowance = 10000 }

abbrev pub did : ℕ → List Write → NextDue → Seen
did steps listed due = record { number = 0; steps = steps; listed = listed; due = due }

abbrev pub turned_away : ℕ → Seen
turned_away k = record { number = k; steps = 0; listed = []; due = never }

-- ── the listings ──────────────────────────────────────────────────────────────────────────────────
abbrev pub listing_a : String
listing_a = "P\t1\t1\nR\trr\t0\nW\t0\nS\t1\t#1\nA\t1\t#60000\t#0\nW\t1\nG\t0\n"

abbrev pub listing_b : String
listing_b = "P\t1\t1\nR\trr\t1\nF\t1 0 2\t2 2 1\nE\nR\trr\t0\nW\t0\nS\t1\t0\nE\nR\trr\t0\nW\t0\nS\t1\t#7\nE\n"

-- "Children the other way round"
abbrev pub listing_c : String
listing_c = "P\t1\t1\nR\trr\t1\nF\t2 2 1\t1 0 2\nE\nR\trr\t0\nW\t0\nS\t1\t0\nE\nR\trr\t0\nW\t0\nS\t1\t#7\nE\n"

abbrev pub starred : List Case
starred =
    session listing_a "I\t5000\t0\t1\nQ\t70000\n" ∷
    calls listing_a (press 5000 1 10000 ∷ tick 65000 ∷ []) ∷
    calls listing_a (press 5000 1 3 ∷ []) ∷
    calls listing_a (press 5000 1 2 ∷ []) ∷
    calls listing_a (press 5000 1 10000 ∷ tick 65001 ∷ tick 65000 ∷ []) ∷
    calls listing_a (press 5000 1 10000 ∷ press 5000 1 10000 ∷ []) ∷
    calls listing_b (press 10 3 10000 ∷ []) ∷
    calls listing_c (press 10 3 10000 ∷ []) ∷
    calls "P\t0\t1\nR\tr\t0\nA\t0\t#1\t#5\nE\n" [] ∷
    calls "P\t0\t1\nR\tr\t0\nA\t0\t#0\t#5\nE\n" [] ∷
    session "P\t0\t1\nR\tr\t0\nS\t0\t#2147483647 #1 +\nE\n" "Q\t0\n" ∷ []

abbrev pub expected : List Gives
expected =
    prints_quoted "O\t5000\t1\t1\nO\t65000\t1\t0\nX\t0\t65000\n" ∷
    sees (did 1 [] never ∷ did 3 (writes 1 1) (moment 65000) ∷ did 2 (writes 1 0) never ∷ []) ∷
    sees (did 1 [] never ∷ did 3 (writes 1 1) (moment 65000) ∷ []) ∷
    sees (did 1 [] never ∷ turned_away 13 ∷ []) ∷
    sees (did 1 [] never ∷ did 3 (writes 1 1) (moment 65000) ∷ turned_away 10 ∷ did 2 (writes 1 0) never ∷ []) ∷
    sees (did 1 [] never ∷ did 3 (writes 1 1) (moment 65000) ∷ turned_away 9 ∷ []) ∷
    sees (did 3 [] never ∷ did 5 (writes 1 7) never ∷ []) ∷
    sees (did 3 [] never ∷ did 2 [] never ∷ []) ∷
    sees (did 2 [] (moment 1) ∷ []) ∷
    sees (turned_away 16 ∷ []) ∷
    prints_quoted "O\t0\t0\t-2147483648\nX\t0\t0\n" ∷ []
