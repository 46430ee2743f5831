-- Division in expressions (document 02, Change 2): the law of `/` and `%`, when evaluating fails, what stays as before, and the one cause of 18.
use mathlib.Core.Path.{◌≡◌}
use mathlib.Core.Bool.{true, not}
use mathlib.Core.List.{List, []}
use mathlib.Core.Logic.{◌↔◌}
use mathlib.Core.Option.{none, some}
use Prim.Native.Nat.{ℕ, ◌<◌}
use lib.IntN.{ℤ}
use Rattle.words.specs.Words.{signed}
use Rattle.words_division.specs.Division.{signed_quotient, signed_remainder, Divided}
use Rattle.words_division.proofs.Law as Law
use Rattle.words_division.proofs.Determined as Determined
use Rattle.listing.specs.Lists.{all}
use Rattle.listing.specs.Listing.{Listing, Expression}
use Rattle.walk.specs.State.{Variable, State, stop}
use Rattle.walk.specs.Memory.{evaluate_by}
use Rattle.walk.specs.Question7.{IsState}
use Rattle.walk.specs.Instant.{Write, start, instant}
use Rattle.walk_laws.specs.Division.{is_division, MeetsZero, base_value}
use Rattle.walk_laws.specs.Stops.{StartStops, InstantStops}
use Rattle.walk_laws.proofs.Failing as Failing
use Rattle.walk_laws.proofs.StopCauses as StopCauses

-- "rounding toward zero, the remainder with the dividend's sign": of words x and y, y other than 0, but for the pair that wraps
pub quotients_meet_the_law : (x y : ℕ) → x < 4294967296 → 0 < y → y < 4294967296 → (x ≡ 2147483648 → y ≡ 4294967295 → ⊥) →
    Divided (signed x) (signed y) (signed (signed_quotient x y)) (signed (signed_remainder x y))
quotients_meet_the_law = Law.words_divided

-- no other integers meet it
pub the_law_determines_them : {x y q r p o : ℤ} → Divided x y q r → Divided x y p o → (q ≡ p) × (r ≡ o)
the_law_determines_them = Determined.one_quotient_and_remainder

-- "-2147483648 divided by -1 wraps to itself and its remainder is 0"
pub the_pair_that_wraps : (signed_quotient 2147483648 4294967295 ≡ 2147483648) × (signed_remainder 2147483648 4294967295 ≡ 0)
the_pair_that_wraps = Law.least_by_minus_one

module _ (now : ℕ) (name : ℕ → Variable) (e : Expression) where
  -- "Evaluating can now fail": exactly if some divisor met is 0
  pub evaluating_fails_exactly_if : (evaluate_by now name e ≡ none) ↔ MeetsZero now name [] e
  evaluating_fails_exactly_if = Failing.fails_exactly_if now name e

  -- without `/` and `%` it never fails, and the value is document 01's
  pub without_division_as_before : all (λ p. not (is_division p)) e ≡ true → evaluate_by now name e ≡ some (base_value name e)
  without_division_as_before = Failing.without_division_as_before now name e

-- "18: is every divisor other than 0?": a start and an instant stop with it exactly if the walk reaches an instruction at which it is the first no
pub start_stops_with_18_exactly_if : (listing : Listing) (allowance : ℕ) → (start listing allowance ≡ stop 18) ↔ StartStops listing allowance 18
start_stops_with_18_exactly_if listing allowance = StopCauses.start_stops_exactly_if listing allowance 18

pub instant_stops_with_18_exactly_if : (listing : Listing) (s : State) → IsState listing s → (t : ℕ) (inputs : List Write) (allowance : ℕ) →
    (instant listing s t inputs allowance ≡ stop 18) ↔ InstantStops listing s t inputs allowance 18
instant_stops_with_18_exactly_if listing s is t inputs allowance = StopCauses.instant_stops_exactly_if listing s is t inputs allowance 18
