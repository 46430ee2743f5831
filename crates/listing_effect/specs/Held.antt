-- The values held after a piece, by its effect: 9 once the expression is out of form, which stays so.
use Rattle.std.specs.Prelude.{cond, ◌&&◌, ℕ, leb}
use Rattle.listing.specs.Expressions as L
use Rattle.listing.specs.Expressions.{most_values_held, may_come, held_with}
use Rattle.listing_effect.specs.declared.Effect.{Effect}
use Rattle.listing_effect.specs.declared.Effect.TheVariants as EV

abbrev pub held_by : ℕ → L.Effect → ℕ
held_by held e = cond (may_come held e && leb held most_values_held) (held_with held e) 9

abbrev pub held_after : ℕ → Effect → ℕ
held_after held EV.Adds = held_by held L.adds
held_after held EV.Joins = held_by held L.joins
held_after held EV.Unknown = 9

-- the code's name of an effect
abbrev pub as_effect : L.Effect → Effect
as_effect L.Effect.adds = EV.Adds
as_effect L.Effect.joins = EV.Joins
