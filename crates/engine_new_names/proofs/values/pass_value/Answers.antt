-- `engine_new_names::values::pass_value` meets its contract.
use Rattle.engine_new_names.proofs.Passing.{reference_passed, value_passed}
use Rattle.engine_new_names.proofs.values.pass_value.Goals as goal

pub returns-then-bit-eq1 : goal.returns-then-bit-eq1
returns-then-bit-eq1 c = reference_passed c.args.m.now c.if-bit-eq1.true

pub returns : goal.returns
returns c = value_passed c.if-bit-eq1.false c.value_of-v.ensures c.put_word.ensures
