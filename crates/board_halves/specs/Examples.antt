-- One concrete pair of board runs that meets demand 3's hypotheses: halves specs Examples, as the calls on a board are handed it.
use Rattle.std.specs.Prelude.{◌≡◌, List, [], ◌∷◌, map, ℕ, replicate}
use Rattle.walk.specs.Calls.{Layout}
use Rattle.walk.specs.Promises.{Result}
use Rattle.walk.specs.Boards.{BoardRun, CallArguments, arguments_of}
use Rattle.walk_halves.specs.Halves.{only_of}
use Rattle.walk_halves.specs.Examples.{first, second, one_listing, other_listing, opened, closed, one_numbers, other_numbers, one_second, other_second}
use Rattle.board_promises.specs.Sessions.{results_on}
use Rattle.board_halves.specs.Boards.{board_writes, BoardRunFor, BoardsAgree}

-- Output lists of 16 places.
abbrev pub sixteen : List ℕ
sixteen = replicate 16 0

-- A call at t with these input numbers and values; and one whose output lists are too short.
abbrev pub handed_at : ℕ → List ℕ → List ℕ → ℕ → CallArguments
handed_at t ns vs allowance = record { time = t; in_numbers = ns; in_values = vs; numbers = sixteen; values = sixteen; allowance = allowance }

abbrev pub handed_short : ℕ → ℕ → CallArguments
handed_short t allowance = record { time = t; in_numbers = []; in_values = []; numbers = []; values = []; allowance = allowance }

abbrev pub one_handed : List CallArguments
one_handed =
    handed_at 3 (1 ∷ []) (8 ∷ []) 100
    ∷ handed_at 5 (0 ∷ []) (3 ∷ []) 50
    ∷ handed_at 4 [] [] 50
    ∷ handed_at 12 (0 ∷ []) (1 ∷ []) 50
    ∷ handed_at 7 [] [] 1
    ∷ handed_at 10 [] [] 50
    ∷ handed_at 20 (1 ∷ []) (2 ∷ []) 60
    ∷ handed_at 200 [] [] 50
    ∷ handed_at 110 [] [] 50
    ∷ handed_at 200 [] [] 50 ∷ []

abbrev pub other_handed : List CallArguments
other_handed =
    handed_at 5 (0 ∷ 1 ∷ []) (3 ∷ 6 ∷ []) 1000
    ∷ handed_at 8 [] [] 10
    ∷ handed_short 9 10
    ∷ handed_at 10 (2 ∷ []) (1 ∷ []) 5
    ∷ handed_at 10 [] [] 0
    ∷ handed_at 10 [] [] 20
    ∷ handed_at 20 [] [] 20
    ∷ handed_at 200 [] [] 9 ∷ []

-- Two runs of boards that agree in the first's: their second halves, moments, allowances and refused and idle calls differ, and so do the
-- second's writes; the first's are the same, and not none.
pub record TwoBoards {layout : Layout} (run run' : BoardRun layout) : Type 0 where
  pub one_is : BoardRunFor (first ∷ second ∷ []) one_listing run
  pub other_is_lem : BoardRunFor (first ∷ second ∷ []) other_listing run'
  pub agree : BoardsAgree first one_listing other_listing run run'
  pub handed : map arguments_of run.calls ≡ one_handed
  pub handed' : map arguments_of run'.calls ≡ other_handed
  pub numbers : map (λ (r : Result). r.number) (results_on run.calls) ≡ one_numbers
  pub numbers' : map (λ (r : Result). r.number) (results_on run'.calls) ≡ other_numbers
  pub writes : only_of first (board_writes run) ≡ opened ∷ closed ∷ []
  pub writes' : only_of first (board_writes run') ≡ opened ∷ closed ∷ []
  pub second_writes : only_of second (board_writes run) ≡ one_second
  pub second_writes' : only_of second (board_writes run') ≡ other_second
