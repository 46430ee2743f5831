use Prim.Native.Nat.{ℕ}
use Rattle.test_load.proofs.Passing.{first_differs, second_differs, by_tables}
use Rattle.test_load.proofs.run_case.Goals as goal

pub returns-then-not-agree : goal.returns-then-not-agree
returns-then-not-agree c =
    first_differs (c.fill.ensures.after (λ (y : ℕ) e. e)) (c.fill-2.ensures.after (λ (y : ℕ) e. e)) c.load_figures-found.ensures c.load_figures-again.ensures
    c.agree.ensures c.if-not-agree.true

pub returns-then-not-agree-2 : goal.returns-then-not-agree-2
returns-then-not-agree-2 c =
    second_differs (c.fill.ensures.after (λ (y : ℕ) e. e)) (c.fill-2.ensures.after (λ (y : ℕ) e. e)) c.load_figures-found.ensures c.load_figures-again.ensures
    c.agree-2.ensures c.if-not-agree-2.true

pub returns : goal.returns
returns c =
    by_tables (c.fill.ensures.after (λ (y : ℕ) e. e)) (c.fill-2.ensures.after (λ (y : ℕ) e. e)) c.load_figures-found.ensures c.load_figures-again.ensures
    c.agree.ensures c.if-not-agree.false c.agree-2.ensures c.if-not-agree-2.false c.tables_right.ensures
