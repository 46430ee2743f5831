-- The values held after an effect, and that 9 stays 9.
use mathlib.Core.Path.{◌≡◌, refl}
use Prim.Native.Nat.{ℕ}
use Rattle.listing.specs.Expressions as L
use Rattle.listing.specs.Expressions.{may_come, held_with}
use Rattle.listing_effect.specs.Held.{held_by, held_after, as_effect}

pub after_effect : (held : ℕ) (e : L.Effect) → held_after held (as_effect e) ≡ held_by held e
after_effect held L.Effect.adds = refl
after_effect held L.Effect.joins = refl

pub nine_stays : (e : L.Effect) → held_by 9 e ≡ 9
unfolding may_come held_with
nine_stays L.Effect.adds = refl
nine_stays L.Effect.joins = refl
