-- Why a call did not go through.
use Rattle.std.specs.Prelude.{◌≡◌, ℕ}
use Rattle.call_arguments.specs.Refusals as question
use Rattle.call_arguments.specs.declared.questions.Refusal.{Refusal}
use Rattle.call_conclude.specs.declared.answers.Failure.{Failure}
use Rattle.call_conclude.specs.declared.answers.Failure.TheVariants.{Refused, Stopped}

-- its number
abbrev pub number_of : Failure → ℕ
number_of (Refused refusal) = question.number_of refusal
number_of (Stopped number) = number

-- a question's refusal is the call's
abbrev pub refuses : Refusal → Failure → Type 0
refuses refusal failure = failure ≡ Refused refusal
