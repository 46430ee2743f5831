-- Whole lists of exported calls: each call is handed anything and keeps the promise of the function that it calls.
use Rattle.std.specs.Prelude.{◌≡◌, refl, List, [], ◌∷◌, map, ℕ}
use Rattle.std.proofs.Common.{sym, ◌∙◌}
use Rattle.listing.specs.Load.{loading, is_long_enough}
use Rattle.walk.specs.Calls.{Words32}
use Rattle.walk.specs.Boards.{BoardCall, BoardCalls, no_more, and_then, BoardRun, CallArguments}
use Rattle.layout.specs.Layout.{layout}
use Rattle.call_figures.specs.Figures.{result_in}
use Rattle.fabrwent.specs.Figures.{StartFigures, InstantFigures}
use Rattle.fabrwent.specs.Loading.{LoadFigures}
use Rattle.call_figures.specs.declared.FabrwentCall.{FabrwentCall}
use Rattle.call_figures.specs.declared.loading.FabrwentLoad.{FabrwentLoad}

-- One call of `fabrwent_instant`: what it was handed, table and machine apart, what it left, and its figures.
pub record ExportedCall : Type 0 where
  pub handed : CallArguments
  pub machine_after : List ℕ
  pub numbers_after : List ℕ
  pub values_after : List ℕ
  pub figures : FabrwentCall

-- "Each gets that same table, and the machine as the call before left it, and nobody else writes table or machine meanwhile."
-- (A lent word is a u32.)
pub data ExportedCalls (table : List ℕ) : List ℕ → List ExportedCall → Type 0 where
  no_call : {machine : List ℕ} → ExportedCalls table machine []
  one_call : {machine : List ℕ} {c : ExportedCall} {cs : List ExportedCall} →
      InstantFigures table machine c.handed.time c.handed.in_numbers c.handed.in_values c.handed.numbers c.handed.values c.handed.allowance
      c.machine_after c.numbers_after c.values_after c.figures → Words32 c.machine_after →
      ExportedCalls table c.machine_after cs → ExportedCalls table machine (c ∷ cs)

-- A session from the start: `fabrwent_load` with number 0, one call of `fabrwent_start` on that table, whatever its number, and then any list of
-- calls of `fabrwent_instant`, refused ones too.
pub record ExportedRun : Type 0 where
  pub text : List ℕ
  pub table_before : List ℕ
  pub table : List ℕ
  pub load : FabrwentLoad
  pub loads : LoadFigures text table_before table load
  pub loaded : load.number ≡ 0
  pub machine_before : List ℕ
  pub numbers_before : List ℕ
  pub values_before : List ℕ
  pub allowance : ℕ
  pub machine : List ℕ
  pub numbers : List ℕ
  pub values : List ℕ
  pub start : FabrwentCall
  pub starts : StartFigures table machine_before numbers_before values_before allowance machine numbers values start
  pub words32 : Words32 machine
  pub calls : List ExportedCall
  pub answered : ExportedCalls table machine calls

-- ── the same as a board's session (walk Boards): the results are what the figures say ─────────────
abbrev pub as_board_call : ExportedCall → BoardCall
as_board_call c =
    record {
      time = c.handed.time;
      in_numbers = c.handed.in_numbers;
      in_values = c.handed.in_values;
      numbers = c.handed.numbers;
      values = c.handed.values;
      allowance = c.handed.allowance;
      machine_after = c.machine_after;
      numbers_after = c.numbers_after;
      values_after = c.values_after;
      result = result_in c.figures;
    }

unfoldable pub as_board_calls : {table machine : List ℕ} {cs : List ExportedCall} → ExportedCalls table machine cs → BoardCalls layout table machine (map as_board_call cs)
as_board_calls no_call = no_more
as_board_calls (one_call p small rest) = and_then p.0 small (as_board_calls rest)

abbrev pub as_board_run : ExportedRun → BoardRun layout
as_board_run run =
    record {
      text = run.text;
      table_before = run.table_before;
      table = run.table;
      answer = loading (is_long_enough run.table_before) run.text;
      loads = (refl, run.loads.table);
      loaded = sym run.loads.number ∙ run.loaded;
      machine_before = run.machine_before;
      numbers_before = run.numbers_before;
      values_before = run.values_before;
      allowance = run.allowance;
      machine = run.machine;
      numbers = run.numbers;
      values = run.values;
      result = result_in run.start;
      starts = run.starts.0;
      words32 = run.words32;
      calls = map as_board_call run.calls;
      answered = as_board_calls run.answered;
    }
