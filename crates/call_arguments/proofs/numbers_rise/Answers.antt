-- `call_arguments::numbers_rise` meets its contract.
use mathlib.Core.Path.{refl, sym, ◌∙◌}
use native.Mathlib.Omega.{arith}
use Rattle.call_arguments.proofs.Asking.{rise_more, not_rising_lem, not_below_lem, rise_ends}
use Rattle.call_arguments.proofs.numbers_rise.Goals as goal

pub loop-input-init : goal.loop-input-init
loop-input-init c = (omega arith, omega arith, refl)

pub returns-then-n-least : goal.returns-then-n-least
returns-then-n-least c =
    let v = c.loop-input in
    let a = c.args in
    sym (not_rising_lem a.inputs v.least a.numbers.now v.input-index _ (omega arith) c.number-n.ensures.0 (omega arith)) ∙ v.invariant.2

pub returns-then-n-inputs : goal.returns-then-n-inputs
returns-then-n-inputs c =
    let v = c.loop-input in
    let a = c.args in
    sym (not_below_lem a.inputs v.least a.numbers.now v.input-index _ (omega arith) c.number-n.ensures.0 (omega arith) (omega arith)) ∙ v.invariant.2

pub loop-input-preserved : goal.loop-input-preserved
loop-input-preserved c =
    let v = c.loop-input in
    let a = c.args in
    (omega arith, omega arith, sym (rise_more a.inputs v.least a.numbers.now v.input-index _ (omega arith) c.number-n.ensures.0 (omega arith) (omega arith)) ∙ v.invariant.2)

pub returns : goal.returns
returns c =
    let v = c.loop-input in
    let a = c.args in
    sym (rise_ends a.inputs v.least a.numbers.now v.input-index (omega arith)) ∙ v.invariant.2
