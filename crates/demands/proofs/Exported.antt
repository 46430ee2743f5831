-- A board's session as one of exported calls: figures that tell its results.
use mathlib.Core.Path.{◌≡◌, refl, sym, ap, ◌∙◌, subst}
use mathlib.Core.List.{List, [], ◌∷◌, map}
use Prim.Native.Nat.{ℕ}
use native.Mathlib.Omega.{arith}
use Rattle.listing.specs.Load.{loading, loading_number, loading_place, is_long_enough}
use Rattle.walk.specs.Instant.{NextDue, never, moment}
use Rattle.walk.specs.Promises.{Result, TableAfter, Keeps}
use Rattle.walk.specs.Calls.{Outcome}
use Rattle.walk.specs.Boards.{BoardCall, BoardCalls, no_more, and_then, BoardRun, CallArguments, arguments_of}
use Rattle.board_promises.specs.Sessions.{SessionOf}
use Rattle.layout.specs.Layout.{layout}
use Rattle.call_figures.specs.Figures.{due_in_lem, result_in, DueTold}
use Rattle.fabrwent.specs.Runs.{ExportedCall, ExportedCalls, no_call, one_call, ExportedRun, as_board_call, as_board_run}
use Rattle.call_figures.specs.declared.FabrwentCall.{FabrwentCall}
use Rattle.fabrwent.proofs.Told.{left_words}
use Rattle.demands.specs.Exists.{ExportedSessionOf}

-- ── figures for a result ──────────────────────────────────────────────────────────────────────────
abbrev figures_with : Result → NextDue → FabrwentCall
figures_with r never = record { number = r.number; place = r.place; steps = r.steps; listed = r.listed; due_known = 0; due = 0 }
figures_with r (moment t) = record { number = r.number; place = r.place; steps = r.steps; listed = r.listed; due_known = 1; due = t }

abbrev figures_of : Result → FabrwentCall
figures_of r = figures_with r r.due

with_due : (r : Result) (due : NextDue) →
    result_in (figures_with r due) ≡ record { number = r.number; place = r.place; steps = r.steps; listed = r.listed; due = due }
unfolding result_in due_in_lem
with_due r never = refl
with_due r (moment t) = refl

result_back : (r : Result) → result_in (figures_of r) ≡ r
result_back r = with_due r r.due

told_with : (r : Result) (due : NextDue) → DueTold (figures_with r due)
told_with r never = record { known = omega arith; none = λ e. refl }
told_with r (moment t) = record { known = omega arith; none = λ e. absurd (omega arith) }

kept_with : {table machine on ov machine' on' ov' : List ℕ} {o : Outcome} (r : Result) → Keeps layout table machine on ov machine' on' ov' o r →
    Keeps layout table machine on ov machine' on' ov' o (result_in (figures_of r)) × DueTold (figures_of r)
kept_with {table} {machine} {on} {ov} {machine'} {on'} {ov'} {o} r kept =
    (subst (Keeps layout table machine on ov machine' on' ov' o) (sym (result_back r)) kept, told_with r r.due)

-- ── calls, and the whole session ──────────────────────────────────────────────────────────────────
abbrev exported_call : BoardCall → ExportedCall
exported_call c =
    record {
      handed = record { time = c.time; in_numbers = c.in_numbers; in_values = c.in_values; numbers = c.numbers; values = c.values; allowance = c.allowance };
      machine_after = c.machine_after;
      numbers_after = c.numbers_after;
      values_after = c.values_after;
      figures = figures_of c.result;
    }

exported_calls : {table machine : List ℕ} {cs : List BoardCall} → BoardCalls layout table machine cs → ExportedCalls table machine (map exported_call cs)
exported_calls no_more = no_call
exported_calls (and_then {c = c} p small rest) = one_call (kept_with c.result p) small (exported_calls rest)

pub exported_run : BoardRun layout → ExportedRun
exported_run run =
    let answer = loading (is_long_enough run.table_before) run.text in
    let after : TableAfter layout run.table_before run.table answer = subst (TableAfter layout run.table_before run.table) run.loads.0 run.loads.1 in
    record {
      text = run.text;
      table_before = run.table_before;
      table = run.table;
      load = record { number = loading_number answer; place = loading_place answer };
      loads = record { number = refl; place = refl; words = left_words after; table = after };
      loaded = ap loading_number (sym run.loads.0) ∙ run.loaded;
      machine_before = run.machine_before;
      numbers_before = run.numbers_before;
      values_before = run.values_before;
      allowance = run.allowance;
      machine = run.machine;
      numbers = run.numbers;
      values = run.values;
      start = figures_of run.result;
      starts = kept_with run.result run.starts;
      words32 = run.words32;
      calls = map exported_call run.calls;
      answered = exported_calls run.answered;
    }

-- ── what they were handed ─────────────────────────────────────────────────────────────────────────
same_handed : (cs : List BoardCall) → map (λ (c : ExportedCall). c.handed) (map exported_call cs) ≡ map arguments_of cs
unfolding arguments_of
same_handed [] = refl
same_handed (c ∷ cs) = ap (λ (xs : List CallArguments). arguments_of c ∷ xs) (same_handed cs)

pub board_handed : (cs : List ExportedCall) → map arguments_of (map as_board_call cs) ≡ map (λ (c : ExportedCall). c.handed) cs
unfolding arguments_of
board_handed [] = refl
board_handed (c ∷ cs) = ap (λ (xs : List CallArguments). c.handed ∷ xs) (board_handed cs)

module _ {text table_before machine_before numbers_before values_before : List ℕ} {allowance : ℕ} {handed : List CallArguments} where
  pub exported_session : SessionOf layout text table_before machine_before numbers_before values_before allowance handed →
      ExportedSessionOf text table_before machine_before numbers_before values_before allowance handed
  unfolding exported_run
  exported_session s =
      record {
        run = exported_run s.run;
        text_is = s.text_is;
        table_is = s.table_is;
        machine_is_lem = s.machine_is_lem;
        numbers_is = s.numbers_is;
        values_is = s.values_is;
        allowance_is_lem = s.allowance_is_lem;
        handed_is = same_handed s.run.calls ∙ s.handed_is;
      }

  unfoldable pub board_session_of : (e : ExportedSessionOf text table_before machine_before numbers_before values_before allowance handed) →
      SessionOf layout text table_before machine_before numbers_before values_before allowance handed
  board_session_of e =
      record {
        run = as_board_run e.run;
        text_is = e.text_is;
        table_is = e.table_is;
        machine_is_lem = e.machine_is_lem;
        numbers_is = e.numbers_is;
        values_is = e.values_is;
        allowance_is_lem = e.allowance_is_lem;
        handed_is = board_handed e.run.calls ∙ e.handed_is;
      }
