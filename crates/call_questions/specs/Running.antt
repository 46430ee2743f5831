-- 7 and 8, by question 7's answer.
use Rattle.std.specs.Prelude.{ℕ, Result, Ok, Err}
use Rattle.machine_check.specs.declared.MachineCheck.{MachineCheck}
use Rattle.machine_check.specs.declared.MachineCheck.TheVariants.{NotAState, Stopped, Running}
use Rattle.call_arguments.specs.declared.questions.Refusal.{Refusal}
use Rattle.call_arguments.specs.declared.questions.Refusal.TheVariants.{NoState, Halted}

-- a machine that runs has a next moment due, 0 for none
abbrev pub running_or_refused : MachineCheck → Result ℕ Refusal
running_or_refused NotAState = Err NoState
running_or_refused (Stopped k) = Err Halted
running_or_refused (Running due) = Ok due
