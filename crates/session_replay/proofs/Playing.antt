-- A script played one call at a time. Letters: l the listing, s the state, m the next moment due, t the time of a call or of the last line.
use mathlib.Core.Path.{◌≡◌, refl, sym, ap, ◌∙◌}
use mathlib.Core.Bool.{Bool, false}
use mathlib.Core.List.{List, [], ◌∷◌, ◌++◌}
use Prim.Native.Nat.{ℕ, suc, ◌≤◌, ◌<◌}
use lib.ListN.{take}
use native.Mathlib.Omega.{arith}
use Rattle.listing.specs.Listing.{Listing}
use Rattle.walk.specs.State.{State}
use Rattle.walk.specs.Instant.{Write, moment, next_due}
use Rattle.walk.specs.Question7.{IsState}
use Rattle.walk.specs.Calls.{due_before}
use Rattle.walk.specs.Trace.{Script, call_at, last_at}
use Rattle.walk.specs.Session.{ends, Played, after_then, and_then, call_from, all_due_before, end_code, play, session_allowance}
use Rattle.session_calls.proofs.Lawful.{Lawful}
use Rattle.session_calls.proofs.AllDue.{all_due_first, all_due_none}
use Rattle.session_replay.proofs.Printed.{and_then_assoc}
use Rattle.session_replay.proofs.FewInputs.{seventeen_are_enough}

module _ (l : Listing) (s : State) (lawful : Lawful l) (h : IsState l s) where
  -- ── a call's inputs at t ────────────────────────────────────────────────────────────────────────
  module _ (t : ℕ) (ws : List Write) (rest : Script) (fits : t < 18446744073709551616) where
    pub due_toward : (m : ℕ) → next_due s ≡ moment m → m < t → play l (call_at t ws rest) s ≡ and_then (call_from l m [] s) (play l (call_at t ws rest))
    unfolding play
    due_toward m e b =
        ap (λ (p : Played). and_then p (λ (u : State). and_then (call_from l t ws u) (play l rest))) (all_due_first l s lawful h t m (omega arith) e b) ∙
        and_then_assoc (call_from l m [] s) (all_due_before l t) (λ (u : State). and_then (call_from l t ws u) (play l rest))

    pub call_toward : (given : List Write) → take 17 ws ≡ given → due_before (next_due s) t ≡ false → play l (call_at t ws rest) s ≡ and_then (call_from l t given s) (play l rest)
    unfolding play and_then after_then call_from
    call_toward given same e =
        ap (λ (p : Played). and_then p (λ (u : State). and_then (call_from l t ws u) (play l rest))) (all_due_none l s lawful h t (omega arith) e) ∙
        rw (seventeen_are_enough l s t ws session_allowance lawful.few, same)

  -- ── the end at t ────────────────────────────────────────────────────────────────────────────────
  module _ (t : ℕ) (nothingAfter : Bool) (fits : t < 18446744073709551616) where
    abbrev the_end : State → Played
    the_end u = record { writes = []; next = ends (end_code l nothingAfter) u.now }

    pub due_until : (m : ℕ) → next_due s ≡ moment m → m < suc t → play l (last_at t nothingAfter) s ≡ and_then (call_from l m [] s) (play l (last_at t nothingAfter))
    unfolding play
    due_until m e b =
        ap (λ (p : Played). and_then p the_end) (all_due_first l s lawful h (suc t) m (omega arith) e b) ∙ and_then_assoc (call_from l m [] s) (all_due_before l (suc t)) the_end

    pub end_until : due_before (next_due s) (suc t) ≡ false → play l (last_at t nothingAfter) s ≡ the_end s
    unfolding play and_then after_then
    end_until e = ap (λ (p : Played). and_then p the_end) (all_due_none l s lawful h (suc t) (omega arith) e)
