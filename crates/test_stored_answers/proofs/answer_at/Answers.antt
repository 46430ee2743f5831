use Rattle.test_stored_answers.proofs.answer_at.Goals as goal

pub returns : goal.returns
returns c = record { number_is_lem = c.word_at-number.ensures; steps_are = cc; listed_is = cc; due_is = cc }
