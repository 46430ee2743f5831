-- A call as the file has it, the answer stored for it, and what making it leaves.
use Rattle.std.specs.Prelude.{◌≡◌, cond, List, ◌++◌, ℕ, ◌*◌, ◌-◌, min, eqb, length, take, drop}
use Rattle.walk.specs.Calls.{Outcome, MachineAfter, numbers_after, values_after, start_call, instant_call}
use Rattle.walk.specs.Promises.{result_of}
use Rattle.layout.specs.Layout.{layout}
use Rattle.test_cases.specs.Frame.{word_at, onward, moment_at}
use Rattle.test_lending.specs.Places.{lent_places, lent_part}
use Rattle.test_stored_answers.specs.Pairs.{numbers_at, values_at}
use Rattle.test_stored_calls.specs.Reports.{report_of}
use Rattle.test_stored_calls.specs.declared.calls.Call.{Call}
use Rattle.test_stored_answers.specs.declared.Report.{Report}

pub record CallAt (s : List ℕ) (at : ℕ) (r : Call) : Type 0 where
  pub kind_is : r.kind ≡ word_at s at
  pub spoil_is : r.spoil ≡ word_at s (onward s at 4)
  pub time_is : r.t ≡ moment_at s (onward s at 8)
  pub allowance_is : r.allowance ≡ word_at s (onward s at 16)
  pub inputs_are_lem : r.inputs ≡ word_at s (onward s at 20)
  pub inputs_at : r.at ≡ onward s at 24

-- the answer stands after the pairs of the inputs
abbrev pub answer_place : List ℕ → Call → ℕ
answer_place s c = onward s c.at (c.inputs * 8)

-- the defined outcome of a call on these memories: kind 0 the start, any other an instant call
unfoldable pub call_outcome : Call → List ℕ → List ℕ → List ℕ → List ℕ → List ℕ → List ℕ → Outcome
call_outcome c table machine ins news numbers values =
    cond (eqb c.kind 0) (start_call layout table machine numbers values c.allowance) (instant_call layout table machine c.t ins news numbers values c.allowance)

-- Document 01, question 1: "Table 12,288 words of 32 bits, machine 12,288, output lists 16 each; the two input lists equally long".
-- The same on what is lent of these memories.
abbrev pub lent_outcome : Call → List ℕ → List ℕ → List ℕ → List ℕ → List ℕ → List ℕ → Outcome
lent_outcome c table machine ins news numbers values =
    call_outcome c (lent_part c.spoil 1 12287 table) (lent_part c.spoil 2 12287 machine) ins (lent_part c.spoil 5 (length news - 1) news)
    (lent_part c.spoil 3 15 numbers) (lent_part c.spoil 4 15 values)

-- with the inputs of the file, of which 16 are kept
abbrev pub stored_outcome : List ℕ → Call → List ℕ → List ℕ → List ℕ → List ℕ → Outcome
stored_outcome s c table machine numbers values =
    lent_outcome c table machine (numbers_at s c.at (min c.inputs 16)) (values_at s c.at (min c.inputs 16)) numbers values

-- What a call with this outcome leaves of an output list: what was lent is as the call leaves it, and the rest as it was.
abbrev pub numbers_left : Call → Outcome → List ℕ → List ℕ
numbers_left c o numbers = numbers_after o (lent_part c.spoil 3 15 numbers) ++ drop (lent_places c.spoil 3 15 numbers) numbers

abbrev pub values_left : Call → Outcome → List ℕ → List ℕ
values_left c o values = values_after o (lent_part c.spoil 4 15 values) ++ drop (lent_places c.spoil 4 15 values) values

-- The same of the machine.
pub record MachineLeft (c : Call) (table machine machine' : List ℕ) (o : Outcome) : Type 0 where
  pub lent_is : MachineAfter layout (lent_part c.spoil 1 12287 table) (lent_part c.spoil 2 12287 machine) (take (lent_places c.spoil 2 12287 machine) machine') o
  pub rest_is : drop (lent_places c.spoil 2 12287 machine) machine' ≡ drop (lent_places c.spoil 2 12287 machine) machine

-- the call was made with this outcome
pub record Made (c : Call) (table machine numbers values machine' numbers' values' : List ℕ) (o : Outcome) (r : Report) : Type 0 where
  pub report : r ≡ report_of (result_of o)
  pub machine_is : MachineLeft c table machine machine' o
  pub numbers_are : numbers' ≡ numbers_left c o numbers
  pub values_are : values' ≡ values_left c o values
