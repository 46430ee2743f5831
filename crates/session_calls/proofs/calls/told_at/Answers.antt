-- `session_calls::calls::told_at` meets its contract.
use mathlib.Core.Path.{refl}
use native.Mathlib.Omega.{arith}
use Rattle.session_calls.proofs.Results.{tells_end, tells_went}
use borrow.Author.Rules.{rules}
use Rattle.session_calls.proofs.calls.told_at.Goals as goal

pub returns-then-number-ne0 : goal.returns-then-number-ne0
returns-then-number-ne0 c =
    let r = c.tell-result.ensures in
    tells_end _ _ _ r.0 (λ z. omega arith)

pub returns : goal.returns
returns c =
    let r = c.tell-result.ensures in
    tells_went _ _ _ _ _ r.0 (omega arith) r.1 r.2 refl
