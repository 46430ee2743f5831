-- `test_pages::main` meets its contract.
use Rattle.test_pages.proofs.main.Goals as goal

pub run_case-n-requires : goal.run_case-n-requires
run_case-n-requires c =
    let e = c.read_case-case.ensures in
    let few_moments = e.few_moments in
    let moments_long = e.moments_long in
    let few_outputs = e.few_outputs in
    let outputs_long = e.outputs_long in
    let few_values = e.few_values in
    let values_long = e.values_long in
    let few_bytes = e.few_bytes in
    let memory_long = c.loop.invariant.3 in
    (rw moments_long few_moments, rw outputs_long few_outputs, rw values_long few_values, rw memory_long few_bytes)
