use mathlib.Core.Path.{refl, sym}
use native.Mathlib.Omega.{arith}
use lib.Seq.{length-take-le, length_front}
use Rattle.test_cases.proofs.Telling.{never}
use Rattle.test_load.proofs.Right.{both_fronts}
use Rattle.test_load.proofs.short_tables.Goals as goal

pub returns-then-table-lt-SHORT_WORDS : goal.returns-then-table-lt-SHORT_WORDS
returns-then-table-lt-SHORT_WORDS c = record { agrees = λ e. absurd (never e); as_long = refl; other_as_long = refl }

pub returns-then-other-lt-SHORT_WORDS : goal.returns-then-other-lt-SHORT_WORDS
returns-then-other-lt-SHORT_WORDS c = record { agrees = λ e. absurd (never e); as_long = refl; other_as_long = refl }

pub slice_bounds-run_case-end-3 : goal.slice_bounds-run_case-end-3
slice_bounds-run_case-end-3 c = sym (length-take-le 12287 c.args.table.now (omega arith))

pub slice_bounds-run_case-end-5 : goal.slice_bounds-run_case-end-5
slice_bounds-run_case-end-5 c = sym (length-take-le 12287 c.args.other.now (omega arith))

pub returns : goal.returns
returns c =
    let a = c.args in
    let r = c.run_case in
    record {
      agrees = λ e. both_fronts 12287 r.new.table a.table.now r.new.other a.other.now r.auto.table (omega arith) r.auto.other (omega arith)
          (r.ensures.tells.means e).tables;
      as_long = length_front a.table.now r.new.table 12287 r.auto.table;
      other_as_long = length_front a.other.now r.new.other 12287 r.auto.other;
    }
