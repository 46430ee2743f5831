-- `value_of` meets its contract: the value is read through the binding of the name.
use borrow.Author.Rules.{rules}
use Rattle.walk.specs.State.{Variable}
use Rattle.engine_evaluate.proofs.Names.{names_few, read_by_name}
use Rattle.engine_evaluate.proofs.expression.value_of.Goals as goal

pub owner-block-requires : goal.owner-block-requires
owner-block-requires c = let few = names_few c.args.m.now c.args.me (search rules) in search rules

pub returns : goal.returns
returns c =
    let a = c.args in
    read_by_name a.m.now a.me a.name c.owner-block.result (λ (x : Variable). x.value) c.value.result c.owner-block.ensures c.value.ensures (search rules)
