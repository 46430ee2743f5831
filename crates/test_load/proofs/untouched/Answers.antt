use Rattle.test_cases.proofs.Telling.{tells_same, tells_else, all_words}
use Rattle.test_load.proofs.untouched.Goals as goal

pub returns-then-not-all_are : goal.returns-then-not-all_are
returns-then-not-all_are c = tells_else (all_words _ _ c.all_are.ensures) c.if-not-all_are.true (λ u. u.first)

pub returns : goal.returns
returns c =
    tells_same
    (λ e. record { first = (all_words _ _ c.all_are.ensures).means c.if-not-all_are.false; second = e })
    (λ u. u.second)
    (all_words _ _ c.all_are-2.ensures)
