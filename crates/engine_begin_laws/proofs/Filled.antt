-- The pass at the beginning of a call may be made on words that question 7 lets pass, and leaves rows that hold their state.
-- Letters: t the table's words, words the machine's, s the state that they are read as.
use mathlib.Core.Path.{◌≡◌, refl, sym, ◌∙◌}
use mathlib.Core.Bool.{true}
use mathlib.Core.List.{List}
use mathlib.Core.Option.{some}
use Prim.Native.Nat.{ℕ, ◌≤◌}
use lib.ListN.{length, take}
use Rattle.listing.specs.Listing.{Listing}
use Rattle.listing.proofs.ShortText.{length_needs_no_test}
use Rattle.walk.specs.State.{State}
use Rattle.walk.specs.Question7.{IsState}
use Rattle.walk.specs.Calls.{Words32, running}
use Rattle.table.specs.Decode.{table_listing}
use Rattle.table.specs.Question6.{is_table}
use Rattle.table.proofs.Table.{table_well_formed}
use Rattle.machine.specs.Limits.{WithinLimits}
use Rattle.machine.specs.ReadMachine.{read_machine}
use Rattle.machine_check.proofs.FromQuestion6.{table_within_limits}
use Rattle.engine_rows.specs.Rows.{Rows}
use Rattle.engine_rows.specs.Records.{filled_rows}
use Rattle.engine_rows.proofs.Steady.{TableFits}
use Rattle.engine_rows.proofs.LoadedTable.{loaded_table_fits}
use Rattle.engine_rows.proofs.RowBounds.{holds_bounds}
use Rattle.engine_rows.proofs.Holds.{Holds}
use Rattle.engine_rows.proofs.CallOnRows.{Keeps, pass_holds}
use Rattle.engine_blocks.specs.Blocks.{rows_of}
use Rattle.engine_fill_row.specs.Filling.{order_of, ports_of, Fillable, MayFillAll}
use Rattle.engine_begin_laws.proofs.Sitting.{holds_sits}
use Rattle.engine_begin_laws.proofs.AtInstructions.{used_goes_on}
use Rattle.engine_begin_laws.proofs.Passing.{fillable_all}
use Rattle.engine_begin_laws.proofs.NotDue.{own_kept}
use Rattle.engine_begin_laws.proofs.Found.{found_state, found_few, found_environment, found_keeps, found_used}

pub table_fits : (t : List ℕ) → is_table t ≡ true → TableFits (table_listing t)
table_fits t h = loaded_table_fits (table_listing t) (sym (length_needs_no_test (table_listing t)) ∙ table_well_formed t h)

module _ (t words : List ℕ) (table : is_table t ≡ true) (small : Words32 words) (s : State)
    (e : read_machine (table_listing t) (take 12288 words) ≡ some (running s)) where
  abbrev listing : Listing
  listing = table_listing t

  limits : WithinLimits listing
  limits = table_within_limits t table

  pub state_found : IsState listing s
  state_found = found_state listing limits words small s e

  -- the rows after the pass
  unfoldable pub filled_from : Rows
  filled_from = filled_rows listing (rows_of words) s.environment (λ level. 64) (order_of words)

  keeps : Keeps listing (rows_of words) (order_of words) s state_found
  unfolding state_found
  keeps = found_keeps listing limits words small s e

  pub filled_from_holds : Holds true listing filled_from s.environment s
  unfolding filled_from
  filled_from_holds = pass_holds listing (table_fits t table) s state_found (rows_of words) (order_of words) (λ level. 64) keeps

  pub filled_own : (q : ℕ) → (filled_from q).own ≡ (rows_of words q).own
  unfolding filled_from
  filled_own q = own_kept listing s.environment (order_of words) (rows_of words) (λ level. 64) q

  ports : ports_of t words ≡ s.environment
  ports = found_environment listing limits words small s e

  fillable : Fillable t s.environment (rows_of words) (λ level. 64) (order_of words)
  unfolding filled_from
  fillable =
      let H = filled_from_holds in
      fillable_all t s.environment filled_from (table_fits t table) (holds_sits H state_found) (holds_bounds H) (used_goes_on t table H state_found)
      (order_of words) (rows_of words) keeps.distinct keeps.small (found_used listing limits words small s e) refl

  pub may_fill_all : 12288 ≤ length words → MayFillAll t words
  may_fill_all size = record {
    size = size;
    table = table;
    few = found_few listing limits words small s e;
    order = rw ports fillable;
  }

  -- what the pass leaves, with the state's environment
  pub filled_rows_lem : filled_rows listing (rows_of words) (ports_of t words) (λ level. 64) (order_of words) ≡ filled_from
  unfolding filled_from
  filled_rows_lem = rw ports
