-- `machine_check::machine_answer` meets its contract.
use mathlib.Core.Path.{refl, sym, ◌∙◌}
use native.Mathlib.Omega.{arith}
use Rattle.machine_words.proofs.TestLaws.{has_failed, has_passed}
use Rattle.machine_check.proofs.AnswerLaws.{answer_stopped, answer_running, answer_none, stopped_not_running, none_not_running, stopped_leaves, tests_leave}
use borrow.Author.Rules.{rules}
use Rattle.machine_check.proofs.machine_answer.Goals as goal

pub returns-then-stopped_words : goal.returns-then-stopped_words
returns-then-stopped_words c =
    record {
      answer = answer_stopped _ _ _ refl (sym c.stopped_words.ensures ∙ c.if-stopped_words.true);
      each = λ d e. stopped_not_running e;
      places = search rules;
      kept = stopped_leaves _ _ _ (sym c.stopped_words.ensures ∙ c.if-stopped_words.true);
    }

pub returns-in-None : goal.returns-in-None
returns-in-None c =
    record {
      answer = answer_none _ _ (sym c.stopped_words.ensures ∙ c.if-stopped_words.false) (has_failed _ _ _ c.running_words.ensures.0 c.in-None.is);
      each = λ d e. none_not_running e;
      places = search rules;
      kept = c.running_words.ensures.2 ∙ tests_leave _ _ _ (sym c.stopped_words.ensures ∙ c.if-stopped_words.false);
    }

pub returns-in-Some : goal.returns-in-Some
returns-in-Some c =
    let p = has_passed _ _ _ _ c.running_words.ensures.0 c.in-Some.is in
    record {
      answer = answer_running _ _ _ (λ i. omega (arith, c.type_inv.m i)) (sym c.stopped_words.ensures ∙ c.if-stopped_words.false) p.0 p.1;
      each = λ d e. c.running_words.ensures.1 p.0;
      places = search rules;
      kept = c.running_words.ensures.2 ∙ tests_leave _ _ _ (sym c.stopped_words.ensures ∙ c.if-stopped_words.false);
    }
