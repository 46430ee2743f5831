-- The openings after one write more: a write with 0 ends what is open at its output; a write that opens comes last. Letters: e earlier writes, the
-- latest first, ws writes, w one more, x an opening, o an output.
use mathlib.Core.Path.{◌≡◌, refl}
use mathlib.Core.Bool.{Bool, true, false, cond, ◌&&◌}
use mathlib.Core.List.{List, [], ◌∷◌, ◌++◌, map}
use mathlib.Core.Option.{Option, none, some}
use Prim.Native.Nat.{ℕ}
use lib.Dec.{eqb}
use Rattle.openings.specs.Writes.{Write}
use Rattle.openings.specs.Openings.{is_zero, opens, closing, Opening, opening_of, with_opening, openings_after}

-- the earlier writes with these behind them
unfoldable pub passed : List Write → List Write → List Write
passed e [] = e
passed e (w ∷ ws) = passed (w ∷ e) ws

pub passed_last : (e ws : List Write) (w : Write) → passed e (ws ++ (w ∷ [])) ≡ w ∷ passed e ws
unfolding passed
passed_last e [] w = refl
passed_last e (x ∷ ws) w = passed_last (x ∷ e) ws w

-- what is open is closed at a moment
unfoldable pub closed_at : ℕ → Option ℕ → Option ℕ
closed_at moment none = some moment
closed_at moment (some closed) = some closed

-- an opening after one write more
abbrev pub ends : Write → ℕ → Bool
ends w o = eqb w.output o && is_zero w

unfoldable pub after : Write → Opening → Opening
after w x = record { output = x.output; opened = x.opened; closed = cond (ends w x.output) (closed_at w.moment x.closed) x.closed }

closing_last : (o : ℕ) (ws : List Write) (w : Write) → closing o (ws ++ (w ∷ [])) ≡ cond (ends w o) (closed_at w.moment (closing o ws)) (closing o ws)
unfolding closing closed_at
closing_last o [] w = refl
closing_last o (u ∷ ws) w = go (eqb u.output o && is_zero u) (ends w o) (closing_last o ws w)
  where
    go : (a b : Bool) → closing o (ws ++ (w ∷ [])) ≡ cond b (closed_at w.moment (closing o ws)) (closing o ws) →
        cond a (some u.moment) (closing o (ws ++ (w ∷ []))) ≡
        cond b (closed_at w.moment (cond a (some u.moment) (closing o ws))) (cond a (some u.moment) (closing o ws))
    go true true deep = refl
    go true false deep = refl
    go false b deep = deep

-- the opening of a write that opens, with nothing after it
abbrev pub new_opening : List Write → Write → List Opening
new_opening e w = with_opening (opens e w) (opening_of w []) []

pub openings_last : (e ws : List Write) (w : Write) →
    openings_after e (ws ++ (w ∷ [])) ≡ map (after w) (openings_after e ws) ++ new_opening (passed e ws) w
unfolding openings_after passed after with_opening
openings_last e [] w = refl
openings_last e (x ∷ ws) w = go (opens e x) (openings_last (x ∷ e) ws w)
  where
    same : opening_of x (ws ++ (w ∷ [])) ≡ after w (opening_of x ws)
    same = rw (closing_last x.output ws w)

    go : (b : Bool) → openings_after (x ∷ e) (ws ++ (w ∷ [])) ≡ map (after w) (openings_after (x ∷ e) ws) ++ new_opening (passed (x ∷ e) ws) w →
        with_opening b (opening_of x (ws ++ (w ∷ []))) (openings_after (x ∷ e) (ws ++ (w ∷ []))) ≡
        map (after w) (with_opening b (opening_of x ws) (openings_after (x ∷ e) ws)) ++ new_opening (passed (x ∷ e) ws) w
    go true deep = rw (same, deep)
    go false deep = deep
