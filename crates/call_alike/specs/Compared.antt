-- The comparison's answer: which refusal comes first, and document 01's number or whether the machines are alike.
use Rattle.std.specs.Prelude.{Bool, true, false, cond, Result, Ok, Err, ⊤}
use Rattle.walk.specs.Comparison.{Compared, not_compared, compared}
use Rattle.call_arguments.specs.Refusals.{number_of}
use Rattle.call_arguments.specs.declared.questions.Refusal.{Refusal}
use Rattle.call_arguments.specs.declared.questions.Refusal.TheVariants.{NoState}

-- refused by 7
unfoldable pub is_no_state : Result ⊤ Refusal → Bool
is_no_state (Err NoState) = true
is_no_state r = false

-- the second machine's, once the first passes
unfoldable pub first_or_second : Result ⊤ Refusal → Result ⊤ Refusal → Result ⊤ Refusal
first_or_second (Ok passed) second = second
first_or_second (Err refusal) second = Err refusal

-- "then 7 for both machines, then 8 for both"
unfoldable pub pair_refusal : Result ⊤ Refusal → Result ⊤ Refusal → Result ⊤ Refusal
pair_refusal x y = cond (is_no_state x) x (cond (is_no_state y) y (first_or_second x y))

unfoldable pub compared_of : Result Bool Refusal → Compared
compared_of (Err refusal) = not_compared (number_of refusal)
compared_of (Ok b) = compared b
