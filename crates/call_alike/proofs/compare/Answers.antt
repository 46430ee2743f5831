-- `call_alike::compare` meets its contract.
use mathlib.Core.Path.{◌≡◌}
use borrow.Author.Rules.{rules}
use Rattle.std.specs.Prelude.{Err}
use Rattle.call_alike.specs.Compared.{compared_of}
use Rattle.call_alike.proofs.Comparing.{refused_by, compared_by}
use Rattle.call_alike.proofs.compare.Goals as goal

pub returns-in_err-pair_refusal : goal.returns-in_err-pair_refusal
unfolding compared_of
returns-in_err-pair_refusal c =
    let same : c.from_residual.result ≡ Err c.in_err-pair_refusal.field-0.0 = search rules in
    rw same (refused_by _ _ _ _ _ _ c.machine_refusal-first.ensures c.machine_refusal-second.ensures c.pair_refusal.ensures c.in_err-pair_refusal.was)

pub returns : goal.returns
unfolding compared_of
returns c = compared_by _ _ _ _ _ _ _ c.machine_refusal-first.ensures c.machine_refusal-second.ensures c.pair_refusal.ensures c.in_ok-pair_refusal.was c.same_states.ensures
