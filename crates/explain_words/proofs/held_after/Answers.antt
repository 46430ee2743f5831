-- `explain_words::held_after` meets its contract.
use mathlib.Core.Path.{◌∙◌, ap}
use Rattle.explain_words.specs.Words.{after_flag}
use Rattle.explain_words.proofs.held_after.Goals as goal

pub returns-in-Word : goal.returns-in-Word
returns-in-Word c = rw c.in-Word.is (c.after_flag.ensures ∙ ap (after_flag _ _) c.flag_of.ensures)

pub returns-in-Trace : goal.returns-in-Trace
returns-in-Trace c = rw c.in-Trace.is

pub returns-in-Schedule : goal.returns-in-Schedule
returns-in-Schedule c = rw c.in-Schedule.is
