use Rattle.test_stored_items.proofs.items.after_call.Goals as goal

pub returns : goal.returns
returns c =
    let call = c.call_at-call.ensures in
    let a = call.inputs_at in
    let n = call.inputs_are_lem in
    cc
