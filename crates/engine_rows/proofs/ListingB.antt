-- Listing B of document 01 on rows: the start, and the press of session f, which finds the rows as the start left them.
use mathlib.Core.Path.{◌≡◌, refl}
use mathlib.Core.Bool.{true}
use mathlib.Core.List.{List, [], ◌∷◌}
use Prim.Native.Nat.{ℕ, ◌-◌}
use Rattle.listing.specs.Paper.{listing_b}
use Rattle.walk.specs.State.{idle, Variable, no_variable, new_variable, written_to, due_write, made_if_due, input_to, made_due, unmarked_of}
use Rattle.walk.specs.Memory.{variable_at, input_at, operate, top, consecutive, evaluate_piece, evaluate_pieces, evaluate_by, own_variables}
use Rattle.walk.specs.Walk.{no_routine, routine_at, instruction_at, child_count}
use Rattle.walk.specs.Instant.{due_writes, apply_inputs, unmarked, environment_size, main_call}
use Rattle.engine_rows.specs.Rows.{free_row, no_rows, choose_row, with_row, with_own, at_place, with_children, variable_of, rows_with, environment_with, owner_of, named}
use Rattle.engine_rows.specs.Ready.{insert_at, insert, insert_all_lem, insert_if}
use Rattle.engine_rows.specs.Triggers.{same_owner, awaited, awaited_by, cons_if, triggered, list_names, list_if, triggers_below, triggers_of, any_named_written, wakes_now, ready_below, ready_of}
use Rattle.engine_rows.specs.Engine.{RowsResult, halts, ends, first_place, count_if, next_ready, or_halt, value_or_halt, join_rows, end_rows, free_else, free_slot, own_bindings, child_bindings, caller_at, child_row, rows_with_child, rows_with_new, new_slots, fork_rows, execute_rows, run_rows}
use Rattle.engine_rows.specs.Beginning.{own_if, due_in_rows, unmarked_rows, environment_bindings, instant_on_rows, environment_caller, main_row, new_environment, start_on_rows}
use Rattle.engine_rows.specs.Records.{is_wait, calls_of, no_call_lem, choose_slot, seen, calls_at, filled_row_lem, filled_at, filled_rows}
use Rattle.engine_rows.specs.Order.{order_key, before_else, insert_in_order, order_if, order_below_lem, walking_order}
use Rattle.engine_fork_bits.specs.ForkBits.{fork_bits}

-- What is seen of an outcome: the environment's variables, steps used of 100, live routines, waits passed.
data Seen : Type 0 where
  stopped : ℕ → Seen
  ended : List Variable → ℕ → ℕ → ℕ → Seen

unfoldable seen_of : RowsResult → Seen
seen_of (halts k) = stopped k
seen_of (ends rows environment left live woken) = ended environment (100 - left) live woken

-- A press of 3 at 10 after an outcome; the rows are filled in anew, as a call does.
unfoldable pressed_after : RowsResult → RowsResult
pressed_after (halts k) = halts k
pressed_after (ends rows environment left live woken) =
    instant_on_rows listing_b 10 (due_in_rows 10 (filled_rows listing_b (unmarked_rows rows) (unmarked environment) (λ n. 64) (walking_order rows)))
    (apply_inputs 10 (record { number = 0; value = 3 } ∷ []) (due_writes 10 (unmarked environment))) live 100

started : seen_of (start_on_rows listing_b 7 100) ≡ ended (new_variable 0 0 ∷ new_variable 0 0 ∷ []) 3 3 0
unfolding seen_of start_on_rows new_environment main_row environment_caller environment_bindings run_rows execute_rows fork_rows rows_with_new new_slots
    rows_with_child caller_at child_row child_bindings own_variables own_bindings free_slot free_else fork_bits next_ready or_halt first_place
    count_if with_row choose_row with_children at_place with_own no_rows free_row named owner_of variable_of variable_at instruction_at routine_at
    no_routine child_count environment_size main_call listing_b no_variable new_variable
started = refl

-- "Press 3 at 10: output 1 is 7, 5 steps." Both children wake, and main ends with them.
pressed : seen_of (pressed_after (start_on_rows listing_b 7 100)) ≡
    ended (record { value = 3; written = true; waiting = idle } ∷ record { value = 7; written = true; waiting = idle } ∷ []) 5 0 2
unfolding seen_of pressed_after start_on_rows new_environment main_row environment_caller environment_bindings run_rows execute_rows fork_rows
    rows_with_new new_slots rows_with_child caller_at child_row child_bindings own_variables own_bindings free_slot free_else fork_bits next_ready
    or_halt value_or_halt first_place count_if with_row choose_row with_children at_place with_own no_rows free_row named owner_of variable_of variable_at
    instruction_at routine_at no_routine child_count environment_size main_call listing_b no_variable new_variable instant_on_rows due_in_rows
    unmarked_rows own_if filled_rows filled_at filled_row_lem seen choose_slot calls_at calls_of no_call_lem is_wait walking_order order_below_lem order_if
    insert_in_order before_else order_key apply_inputs input_at input_to due_writes made_due due_write made_if_due unmarked_of unmarked triggers_of
    triggers_below list_if list_names cons_if same_owner awaited awaited_by ready_of ready_below insert_if insert insert_at insert_all_lem wakes_now
    any_named_written triggered consecutive rows_with environment_with written_to evaluate_by evaluate_pieces evaluate_piece operate top
    end_rows join_rows
pressed = refl
