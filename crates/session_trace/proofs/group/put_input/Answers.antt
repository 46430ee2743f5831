-- `session_trace::put_input` meets its contract.
use Rattle.session_trace.proofs.Groups as groups
use Rattle.session_trace.proofs.group.put_input.Goals as goal

pub returns-then-count-lt17 : goal.returns-then-count-lt17
returns-then-count-lt17 c =
    let a = c.args in
    groups.put_below a.count a.number a.value a.numbers.now a.values.now c.if-count-lt17.true

pub returns : goal.returns
returns c =
    let a = c.args in
    groups.put_full a.count a.number a.value a.numbers.now a.values.now c.if-count-lt17.false
