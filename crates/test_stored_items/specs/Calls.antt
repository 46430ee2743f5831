-- A call of a case, and what it shows.
use Rattle.std.specs.Prelude.{◌≡◌, Bool, List, ℕ, get_or, take}
use Rattle.walk.specs.Calls.{Outcome}
use Rattle.walk.specs.Promises.{result_of}
use Rattle.test_cases.specs.Words.{Tells}
use Rattle.test_lending.specs.Memories.{MachineRight}
use Rattle.test_lending.specs.Places.{spoilt_first, spoilt_table, spoilt_machine}
use Rattle.test_stored_calls.specs.Calls.{CallAt, answer_place, stored_outcome, numbers_left, values_left, MachineLeft}
use Rattle.test_stored_calls.specs.Reports.{report_of}
use Rattle.test_stored_calls.specs.declared.calls.Call.{Call}
use Rattle.test_stored_answers.specs.Answers.{unlisted, AnswerRight}

-- the defined outcome of a call whose output lists hold nothing but the pattern
abbrev pub outcome_of : List ℕ → Call → List ℕ → List ℕ → Outcome
outcome_of s c table machine = stored_outcome s c table machine unlisted unlisted

-- The report and the two lists that are stored are those of the defined outcome, and the machine that is left is right (12,300 words of it, as it
-- was, are kept).
pub record CallAgrees (s : List ℕ) (c : Call) (table machine machine' : List ℕ) : Type 0 where
  pub stored :
      let o = outcome_of s c table machine in
      AnswerRight s (answer_place s c) (report_of (result_of o)) (numbers_left c o unlisted) (values_left c o unlisted)
  pub machine_is : MachineRight machine' (take 12300 machine) (result_of (outcome_of s c table machine)).number

-- A call was made: the machine is as its defined outcome leaves it, and r says whether the call agrees.
pub record RanCall (s : List ℕ) (c : Call) (table machine machine' : List ℕ) (r : Bool) : Type 0 where
  pub left : MachineLeft c table machine machine' (outcome_of s c table machine)
  pub tells : Tells r (CallAgrees s c table machine machine')

-- The call at a place was made with what it says is spoilt, and a first word of the machine that was spoilt is put back.
pub record RanSpoilt (s : List ℕ) (at : ℕ) (table machine machine' : List ℕ) (r : Bool) : Type 0 where
  pub call : Call
  pub is : CallAt s at call
  pub after : List ℕ
  pub ran : RanCall s call (spoilt_table call.spoil table) (spoilt_machine call.spoil machine) after r
  pub machine_is : machine' ≡ spoilt_first call.spoil 7 (get_or machine 0 0) after
