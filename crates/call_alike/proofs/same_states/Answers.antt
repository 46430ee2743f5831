-- `call_alike::same_states` meets its contract.
use mathlib.Core.Path.{sym, ◌∙◌, ap}
use native.Mathlib.Omega.{arith}
use Rattle.call_arguments.proofs.TableSize.{size_of_table, table_few}
use Rattle.call_alike.proofs.Comparing.{SameFrom, not_alike, alike_by_values}
use Rattle.call_alike.proofs.same_states.Goals as goal

pub returns-then-first-second : goal.returns-then-first-second
returns-then-first-second c =
    let a = c.args in
    sym (not_alike _ a.a.now a.b.now (λ e. c.if-first-second.true (c.present_moment-first.ensures ∙ (e ∙ sym c.present_moment-second.ensures))))

pub same_values-requires : goal.same_values-requires
same_values-requires c =
    let t = c.args.table.now in
    let e = size_of_table t c.requires.3 in
    (c.requires.1, c.requires.2, omega (arith, e, table_few t c.requires.3, c.environment_size-size.ensures))

pub returns : goal.returns
returns c =
    let a = c.args in
    c.same_values.ensures ∙ (ap (λ k. SameFrom a.a.now a.b.now 12112 k) (c.environment_size-size.ensures ∙ size_of_table a.table.now c.requires.3)
    ∙ sym (alike_by_values _ a.a.now a.b.now (sym c.present_moment-first.ensures ∙ (c.if-first-second.false ∙ c.present_moment-second.ensures))))
