-- `table_check_ends::may_end` meets its contract.
use native.Mathlib.Omega.{arith}
use Rattle.table_check_ends.proofs.Ends as ends
use Rattle.table_check_ends.proofs.may_end.Goals as goal

pub returns : goal.returns
returns c =
    let a = c.args in
    ends.ends_by_kind a.t.now a.e _ (λ h. grind arith) (λ h. grind arith) (λ h. grind arith) (λ h. grind arith) (λ h. grind arith)
    (λ f g h i j. grind arith)
