-- The number of the question that refuses a call.
use Rattle.std.specs.Prelude.{ℕ}
use Rattle.call_arguments.specs.declared.questions.Refusal.{Refusal}
use Rattle.call_arguments.specs.declared.questions.Refusal.TheVariants.{Short, NoTable, NoState, Halted, NotLater, Overdue, Inputs, Allowance}

abbrev pub number_of : Refusal → ℕ
number_of Short = 1
number_of NoTable = 6
number_of NoState = 7
number_of Halted = 8
number_of NotLater = 9
number_of Overdue = 10
number_of Inputs = 11
number_of Allowance = 12
