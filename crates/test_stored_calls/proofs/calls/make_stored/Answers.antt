use Rattle.test_stored_calls.proofs.Making.{by_stored}
use Rattle.test_stored_calls.proofs.calls.make_stored.Goals as goal

pub shape_of-machine : goal.shape_of-machine
shape_of-machine c = c.make_lent.auto.machine

pub shape_of-numbers : goal.shape_of-numbers
shape_of-numbers c = c.make_lent.auto.numbers

pub shape_of-values : goal.shape_of-values
shape_of-values c = c.make_lent.auto.values

pub returns : goal.returns
returns c =
    let pairs = c.read_pairs in
    by_stored c.min-kept.result c.min-kept.result pairs.ensures c.min-kept.ensures c.min-kept.ensures c.make_lent.ensures
