-- What the figures of an answer say.
use mathlib.Core.Path.{◌≡◌, refl}
use mathlib.Core.Bool.{Bool, true, false}
use Prim.Native.Nat.{ℕ}
use native.Mathlib.Omega.{arith}
use mir.Val.{bool_byte}
use Rattle.listing.specs.Bytes.{Bytes}
use Rattle.listing.specs.Load.{loading_number, loading_place}
use Rattle.walk.specs.Comparison.{compared_number, compared_place, compared_alike}
use Rattle.text_questions.specs.Outcome.{outcome_of}
use Rattle.text_questions.specs.declared.answer.Loaded.{Loaded}
use Rattle.text_questions.specs.declared.answer.Loaded.TheVariants as LV
use Rattle.call_alike.specs.Compared.{compared_of}
use Rattle.std.specs.Prelude.{Result, Ok, Err}
use Rattle.call_arguments.specs.declared.questions.Refusal.{Refusal}
use Rattle.call_conclude.specs.Answers.{Answer, result_of, due_of}
use Rattle.call_conclude.specs.declared.answers.Due.{Due}
use Rattle.call_conclude.specs.declared.answers.Due.TheVariants.{Never, At}
use Rattle.call_figures.specs.Figures.{due_in_lem, result_in, DueTold, bit}
use Rattle.call_figures.specs.Answers.{gone_through, of_answer, of_loaded, of_comparison}

-- ── start and instant ─────────────────────────────────────────────────────────────────────────────
done_says : (steps listed : ℕ) (due : Due) →
    result_in (gone_through steps listed due) ≡ record { number = 0; place = 0; steps = steps; listed = listed; due = due_of due }
unfolding result_in due_in_lem due_of
done_says steps listed Never = refl
done_says steps listed (At t) = refl

pub answer_says : (a : Answer) → result_in (of_answer a) ≡ result_of a
unfolding result_in due_in_lem result_of
answer_says (Err failure) = refl
answer_says (Ok f) = done_says f.steps f.listed f.due

done_told : (steps listed : ℕ) (due : Due) → DueTold (gone_through steps listed due)
done_told steps listed Never = record { known = omega arith; none = λ e. refl }
done_told steps listed (At t) = record { known = omega arith; none = λ e. absurd (omega arith) }

pub due_told : (a : Answer) → DueTold (of_answer a)
due_told (Err failure) = record { known = omega arith; none = λ e. refl }
due_told (Ok f) = done_told f.steps f.listed f.due

-- ── loading ───────────────────────────────────────────────────────────────────────────────────────
pub loaded_says : (text : Bytes) (a : Loaded) → ((of_loaded a).number ≡ loading_number (outcome_of text a)) × ((of_loaded a).place ≡ loading_place (outcome_of text a))
unfolding loading_number loading_place
loaded_says text LV.Done = (refl, refl)
loaded_says text (LV.Refused number place) = (refl, refl)

-- ── the comparison ────────────────────────────────────────────────────────────────────────────────
pub comparison_says : (a : Result Bool Refusal) → ((of_comparison a).number ≡ compared_number (compared_of a)) × ((of_comparison a).place ≡ compared_place (compared_of a))
    × ((of_comparison a).alike ≡ bit (compared_alike (compared_of a)))
unfolding compared_of compared_number compared_place compared_alike bit
comparison_says (Err refusal) = (refl, refl, refl)
comparison_says (Ok b) = (refl, refl, refl)

pub bit_of_lem : (b : Bool) → bool_byte b ≡ bit b
unfolding bit
bit_of_lem true = refl
bit_of_lem false = refl
