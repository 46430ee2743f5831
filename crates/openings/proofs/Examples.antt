-- Openings by computation: small lists of writes, with the openings that document 02 gives them.
use mathlib.Core.Path.{◌≡◌, refl}
use mathlib.Core.Bool.{true, false}
use mathlib.Core.List.{List, [], ◌∷◌, map}
use mathlib.Core.Option.{Option, none, some}
use Prim.Native.Nat.{ℕ}
use Rattle.openings.specs.Writes.{Write}
use Rattle.openings.specs.Openings.{latest_of, closed_after, opens, closing, Opening, with_opening, openings_after}
use Rattle.openings.specs.Order.{placed, insert, sort, opening_precedes, sorted_openings}
use Rattle.openings.specs.Questions.{none_falls, rise_from, listed_once, listed_among, once_after}

infix 70 ◌of◌set◌
◌of◌set◌ : ℕ → ℕ → ℕ → Write
◌of◌set◌ moment output value = record { moment = moment; output = output; value = value }

infix 70 ◌from◌to◌
◌from◌to◌ : ℕ → ℕ → Option ℕ → Opening
◌from◌to◌ output opened closed = record { output = output; opened = opened; closed = closed }

lists : List (List Write)
lists =
    -- no writes, and a write with 0 on a valve that was never opened
    []
    ∷ (3 of 0 set 0 ∷ [])
    -- opened and closed; still open at the end; closed twice
    ∷ (3 of 0 set 1 ∷ 10 of 0 set 0 ∷ [])
    ∷ (0 of 2 set 4294967295 ∷ [])
    ∷ (3 of 0 set 1 ∷ 10 of 0 set 0 ∷ 12 of 0 set 0 ∷ [])
    -- a change from 3 to 4 opens nothing and ends nothing
    ∷ (3 of 0 set 3 ∷ 5 of 0 set 4 ∷ 10 of 0 set 0 ∷ [])
    -- two openings of one valve
    ∷ (3 of 0 set 3 ∷ 5 of 0 set 0 ∷ 7 of 0 set 4 ∷ [])
    -- another valve's writes end nothing; in one moment the lower output comes first
    ∷ (3 of 7 set 1 ∷ 3 of 2 set 1 ∷ 4 of 7 set 0 ∷ [])
    ∷ []

their_openings : List (List Opening)
their_openings =
    []
    ∷ []
    ∷ (0 from 3 to some 10 ∷ [])
    ∷ (2 from 0 to none ∷ [])
    ∷ (0 from 3 to some 10 ∷ [])
    ∷ (0 from 3 to some 10 ∷ [])
    ∷ (0 from 3 to some 5 ∷ 0 from 7 to none ∷ [])
    ∷ (2 from 3 to none ∷ 7 from 3 to some 4 ∷ [])
    ∷ []

the_openings_agree : map sorted_openings lists ≡ their_openings
unfolding lists their_openings ◌of◌set◌ ◌from◌to◌ latest_of closed_after opens closing with_opening openings_after placed insert sort opening_precedes
the_openings_agree = refl

-- ── the questions ─────────────────────────────────────────────────────────────────────────────────
-- 9: equal moments pass
moments_agree : map none_falls ([] ∷ (5 ∷ 5 ∷ 6 ∷ []) ∷ (5 ∷ 5 ∷ 4 ∷ []) ∷ (0 ∷ 18446744073709551615 ∷ 0 ∷ []) ∷ []) ≡ true ∷ true ∷ false ∷ false ∷ []
unfolding rise_from
moments_agree = refl

-- 11: 15 passes and 16 does not; twice in a moment, also with another write between; again in a later moment
outputs_agree : map listed_once
    ((1 of 15 set 1 ∷ []) ∷ (1 of 16 set 1 ∷ []) ∷ (1 of 2 set 1 ∷ 1 of 2 set 0 ∷ []) ∷ (1 of 2 set 1 ∷ 1 of 3 set 1 ∷ 1 of 2 set 0 ∷ [])
    ∷ (1 of 2 set 1 ∷ 2 of 2 set 0 ∷ []) ∷ []) ≡ true ∷ false ∷ false ∷ false ∷ true ∷ []
unfolding ◌of◌set◌ listed_among once_after
outputs_agree = refl
