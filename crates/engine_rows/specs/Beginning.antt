-- The whole instant and the start on rows: due writes, inputs, trigger and ready lists, the run; afterwards marks and the next moment due.
use Rattle.std.specs.Prelude.{Bool, true, false, List, [], ◌∷◌, ℕ, zero, suc, length, replicate}
use Rattle.listing.specs.Listing.{Listing}
use Rattle.walk.specs.State.{Variable, new_variable}
use Rattle.walk.specs.Memory.{variable_at}
use Rattle.walk.specs.Instant.{due_writes, unmarked, Write, apply_inputs, NextDue, never, earlier, due_of_variables, environment_size, main_call}
use Rattle.engine_rows.specs.Rows.{Owner, in_environment, Row, Rows, no_rows, with_row, with_own}
use Rattle.engine_rows.specs.Triggers.{triggers_of, ready_of}
use Rattle.engine_rows.specs.Engine.{RowsResult, halts, ends, Caller, child_row, next_ready, run_rows}

-- ── rule 1 on rows ────────────────────────────────────────────────────────────────────────────────
unfoldable pub own_if : Bool → List Variable → List Variable → List Variable
own_if true xs ys = xs
own_if false xs ys = ys

-- Due writes made in each slot that is taken.
unfoldable pub due_in_rows : ℕ → Rows → Rows
due_in_rows t rows s = with_own (rows s) (own_if (rows s).used (due_writes t (rows s).own) (rows s).own)

-- The written marks gone in each slot that is taken.
unfoldable pub unmarked_rows : Rows → Rows
unmarked_rows rows s = with_own (rows s) (own_if (rows s).used (unmarked (rows s).own) (rows s).own)

-- The next moment due, of the environment's variables and of those in the first n slots.
unfoldable pub due_if : Bool → NextDue → NextDue
due_if true d = d
due_if false d = never

unfoldable pub due_below : Rows → ℕ → NextDue → NextDue
due_below rows zero d = d
due_below rows (suc n) d = earlier (due_if (rows n).used (due_of_variables (rows n).own)) (due_below rows n d)

unfoldable pub next_due_of_rows : Rows → List Variable → NextDue
next_due_of_rows rows environment = due_below rows 64 (due_of_variables environment)

-- k environment variables from number a on, as bindings.
unfoldable pub environment_bindings : ℕ → ℕ → List Owner
environment_bindings zero a = []
environment_bindings (suc k) a = in_environment a ∷ environment_bindings k (suc a)

module _ (listing : Listing) where
  -- The run of an instant at t on rows whose due writes and inputs are made: the first that is ready, and on from there.
  unfoldable pub instant_on_rows : ℕ → Rows → List Variable → ℕ → ℕ → RowsResult
  instant_on_rows t rows environment live allowance =
      next_ready (run_rows listing t (triggers_of listing rows) allowance) allowance rows environment (ready_of listing rows environment) live 0

  -- Main's caller is the environment; all priorities are main's, 2 ^ 32 of them.
  unfoldable pub environment_caller : List Variable → Caller
  environment_caller environment =
      record {
        slot = 64;
        level = 0;
        base = length environment;
        low = 0;
        bits = 32;
        bindings = environment_bindings (environment_size listing) 0;
        name = λ n. variable_at environment n;
      }

  -- Main's row in slot s.
  unfoldable pub main_row : List Variable → ℕ → Row
  main_row environment s = child_row listing 0 (environment_caller environment) (main_call listing) 0 s

  unfoldable pub new_environment : List Variable
  new_environment = replicate (environment_size listing) (new_variable 0 0)

  -- "The start is the instant 0, with main newly called and no inputs": no rows but main's, in slot s, which runs at once.
  unfoldable pub start_on_rows : ℕ → ℕ → RowsResult
  start_on_rows s allowance = run_rows listing 0 (λ o. []) allowance (with_row no_rows s (main_row new_environment s)) new_environment [] 1 0 s
