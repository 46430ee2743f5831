-- `mark_of` meets its contract: the mark is read through the binding of the name.
use mathlib.Core.Bool.{Bool, true, false}
use mathlib.Core.Path.{◌≡◌, refl, ap, ◌∙◌}
use mir.Val.{bool_byte}
use borrow.Author.Rules.{rules}
use Rattle.words.specs.Words.{bit}
use Rattle.walk.specs.State.{Variable}
use Rattle.engine_evaluate.proofs.Names.{names_few, read_by_name}
use Rattle.engine_evaluate.proofs.expression.mark_of.Goals as goal

-- `u32::from` of a yes or no is its bit.
byte_is_bit : (b : Bool) → bool_byte b ≡ bit b
byte_is_bit true = refl
byte_is_bit false = refl

pub owner-block-requires : goal.owner-block-requires
owner-block-requires c = let few = names_few c.args.m.now c.args.me (search rules) in search rules

pub returns : goal.returns
returns c =
    let a = c.args in
    let read = read_by_name a.m.now a.me a.name c.owner-block.result (λ (x : Variable). x.written) c.written.result c.owner-block.ensures c.written.ensures (search rules) in
    record { equal = λ n bound. c.from.ensures ∙ (byte_is_bit c.written.result ∙ ap bit (read.equal n bound)) }
