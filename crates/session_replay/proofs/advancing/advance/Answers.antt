-- `session_replay::advancing::advance` meets its contract.
use mathlib.Core.Path.{refl, sym, ◌∙◌}
use borrow.Author.Tests.{not-true, not-false}
use Rattle.session_replay.specs.Advancing.{too_short, went}
use Rattle.session_replay.proofs.Moving.{enough, went_on}
use borrow.Author.Rules.{rules}
use Rattle.session_replay.proofs.advancing.advance.Goals as goal

pub returns-then-not-long_enough : goal.returns-then-not-long_enough
returns-then-not-long_enough c = too_short (sym c.long_enough.ensures ∙ c.if-not-long_enough.true) (refl, refl, refl)

pub step_on-step-requires : goal.step_on-step-requires
step_on-step-requires c =
    let e = enough _ _ _ (sym c.long_enough.ensures ∙ c.if-not-long_enough.false) in
    (e.table_long, e.machine_long, e.out_long)

pub shape_of-table : goal.shape_of-table
shape_of-table c = c.table-1.given

pub shape_of-machine : goal.shape_of-machine
shape_of-machine c = c.machine-1.given

pub shape_of-out : goal.shape_of-out
shape_of-out c = c.out-1.given

pub returns : goal.returns
returns c =
    let a = c.args in
    let s = c.step_on-step in
    let long = sym c.long_enough.ensures ∙ c.if-not-long_enough.false in
    went long (went_on a.listing.now a.trace.now a.table.now a.machine.now a.out.now a.phase s.new.table s.new.machine s.new.out s.result long s.ensures)
