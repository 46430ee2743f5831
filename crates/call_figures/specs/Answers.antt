-- The figures of the calls' answers.
use Rattle.std.specs.Prelude.{ℕ, Bool, Result, Ok, Err}
use Rattle.text_questions.specs.declared.answer.Loaded.{Loaded}
use Rattle.text_questions.specs.declared.answer.Loaded.TheVariants as LV
use Rattle.call_conclude.specs.declared.answers.Due.{Due}
use Rattle.call_conclude.specs.declared.answers.Due.TheVariants.{Never, At}
use Rattle.call_arguments.specs.Refusals as question
use Rattle.call_arguments.specs.declared.questions.Refusal.{Refusal}
use Rattle.call_conclude.specs.Answers.{Answer}
use Rattle.call_conclude.specs.Failures.{number_of}
use Rattle.call_figures.specs.Figures.{bit}
use Rattle.call_figures.specs.declared.loading.FabrwentLoad.{FabrwentLoad}
use Rattle.call_figures.specs.declared.FabrwentCall.{FabrwentCall}
use Rattle.call_figures.specs.declared.FabrwentAlike.{FabrwentAlike}

-- The figures of the engine's answer.
abbrev pub turned_away : ℕ → FabrwentCall
turned_away k = record { number = k; place = 0; steps = 0; listed = 0; due_known = 0; due = 0 }

abbrev pub gone_through : ℕ → ℕ → Due → FabrwentCall
gone_through steps listed Never = record { number = 0; place = 0; steps = steps; listed = listed; due_known = 0; due = 0 }
gone_through steps listed (At t) = record { number = 0; place = 0; steps = steps; listed = listed; due_known = 1; due = t }

abbrev pub of_answer : Answer → FabrwentCall
of_answer (Err failure) = turned_away (number_of failure)
of_answer (Ok f) = gone_through f.steps f.listed f.due

-- "A call that goes through has number 0 and place 0"; a refusal has the question's number and its place.
abbrev pub of_loaded : Loaded → FabrwentLoad
of_loaded LV.Done = record { number = 0; place = 0 }
of_loaded (LV.Refused number place) = record { number = number; place = place }

abbrev pub of_comparison : Result Bool Refusal → FabrwentAlike
of_comparison (Err refusal) = record { number = question.number_of refusal; place = 0; alike = 0 }
of_comparison (Ok b) = record { number = 0; place = 0; alike = bit b }
