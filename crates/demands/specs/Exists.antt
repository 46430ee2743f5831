-- That there are sessions: what a session was handed, and that it met it.
use Rattle.std.specs.Prelude.{◌≡◌, List, map, ℕ}
use Rattle.walk.specs.Boards.{CallArguments}
use Rattle.board_halves.specs.Examples.{TwoBoards}
use Rattle.fabrwent.specs.Runs.{ExportedCall, ExportedRun, as_board_run}

-- A session of exported calls of this text, on these memories, with this allowance at the start and with calls that are handed these arguments.
pub record ExportedSessionOf (text table_before machine_before numbers_before values_before : List ℕ) (allowance : ℕ) (handed : List CallArguments) : Type 0 where
  pub run : ExportedRun
  pub text_is : run.text ≡ text
  pub table_is : run.table_before ≡ table_before
  pub machine_is_lem : run.machine_before ≡ machine_before
  pub numbers_is : run.numbers_before ≡ numbers_before
  pub values_is : run.values_before ≡ values_before
  pub allowance_is_lem : run.allowance ≡ allowance
  pub handed_is : map (λ (c : ExportedCall). c.handed) run.calls ≡ handed

-- Two sessions of exported calls that meet demand 3's hypotheses, with different second halves, and with writes of the first.
pub record TwoExported : Type 0 where
  pub run : ExportedRun
  pub run' : ExportedRun
  pub are : TwoBoards (as_board_run run) (as_board_run run')
