-- Questions 9 and 11 together, and whether the lists stand in the order of their rows as they are.
-- Document 02, Change 1: "9 a moment that falls, 11 an output of 16 or more or listed twice in a moment."
use Rattle.std.specs.Prelude.{Bool, true, false, ◌&&◌, List, ℕ, Option, Some, None}
use Rattle.openings.specs.Writes.{writes_of}
use Rattle.openings.specs.Questions.{none_falls, listed_once}
use Rattle.openings.specs.InOrder.{in_order_lem}
use Rattle.openings.specs.declared.Order.{Order}
use Rattle.openings.specs.declared.Order.TheVariants.{InOrder, AnyOrder}

-- of lists that are in order or not, and pass both questions or not; those in order pass, others are refused
unfoldable pub verdict_by : Bool → Bool → Option Order
verdict_by true passes = Some InOrder
verdict_by false true = Some AnyOrder
verdict_by false false = None

abbrev pub verdict : List ℕ → List ℕ → List ℕ → Option Order
verdict moments outputs values = verdict_by (in_order_lem moments outputs) (none_falls moments && listed_once (writes_of moments outputs values))
