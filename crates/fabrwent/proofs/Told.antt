-- The figures of an answer that keeps its call's promise.
use mathlib.Core.Path.{◌≡◌, sym, ap, ap₂, subst, ◌∙◌}
use mathlib.Core.List.{List, ◌++◌}
use Prim.Native.Nat.{ℕ}
use lib.ListN.{take-append-drop}
use Rattle.listing.specs.Load.{Loading, loading_number, loading_place}
use Rattle.walk.specs.Calls.{first_words, Outcome}
use Rattle.walk.specs.Promises.{LoadPromise, TableAfter, Keeps}
use Rattle.walk.specs.Promises as Promises
use Rattle.walk.specs.Comparison.{Compared, compared_number, compared_place, compared_alike, alike_call}
use Rattle.layout.specs.Layout.{layout}
use Rattle.text_questions.specs.Outcome.{outcome_of}
use Rattle.text_questions.specs.declared.answer.Loaded.{Loaded}
use Rattle.call_conclude.specs.Answers.{result_of}
use Rattle.call_conclude.specs.Answers.{Answer}
use Rattle.call_alike.specs.Compared.{compared_of}
use Rattle.std.specs.Prelude.{Bool, Result}
use Rattle.call_arguments.specs.declared.questions.Refusal.{Refusal}
use Rattle.call_figures.specs.Figures.{result_in, DueTold, bit}
use Rattle.call_figures.specs.Answers.{of_answer, of_loaded, of_comparison}
use Rattle.call_figures.specs.declared.loading.FabrwentLoad.{FabrwentLoad}
use Rattle.call_figures.specs.declared.FabrwentCall.{FabrwentCall}
use Rattle.call_figures.specs.declared.FabrwentAlike.{FabrwentAlike}
use Rattle.call_figures.proofs.Says.{answer_says, due_told, loaded_says, comparison_says}
use Rattle.table.proofs.Question6.{table_read_exactly_if}
use Rattle.fabrwent.specs.Loading.{table_left, LoadFigures}
use Rattle.fabrwent.specs.Figures.{AlikeFigures}

-- the words that loading leaves
pub left_words : {before after : List ℕ} {o : Loading} → TableAfter layout before after o → after ≡ table_left before o
unfolding table_left
left_words (Promises.untouched e) = e
left_words {after = after} (Promises.holds {listing = listing} r a b) =
    sym (take-append-drop 12288 after) ∙ ap₂ ◌++◌ (sym ((table_read_exactly_if (first_words after) listing).0 r).2) b

pub load_told : (text before after : List ℕ) (a : Loaded) → LoadPromise layout text before after (outcome_of text a) → (r : FabrwentLoad) → r ≡ of_loaded a → LoadFigures text before after r
load_told text before after a kept r e =
    let table = subst (TableAfter layout before after) kept.0 kept.1 in
    let says = loaded_says text a in
    record {
      number = ap (λ (x : FabrwentLoad). x.number) e ∙ (says.0 ∙ ap loading_number kept.0);
      place = ap (λ (x : FabrwentLoad). x.place) e ∙ (says.1 ∙ ap loading_place kept.0);
      words = left_words table;
      table = table;
    }

pub call_told : (table machine on ov machine' on' ov' : List ℕ) (o : Outcome) (a : Answer) →
    Keeps layout table machine on ov machine' on' ov' o (result_of a) → (r : FabrwentCall) → r ≡ of_answer a →
    Keeps layout table machine on ov machine' on' ov' o (result_in r) × DueTold r
call_told table machine on ov machine' on' ov' o a kept r e = (
  subst (Keeps layout table machine on ov machine' on' ov' o) (sym (ap result_in e ∙ answer_says a)) kept,
  subst DueTold (sym e) (due_told a),
)

pub alike_told : (table a b : List ℕ) (c : Result Bool Refusal) → compared_of c ≡ alike_call layout table a b → (r : FabrwentAlike) → r ≡ of_comparison c → AlikeFigures table a b r
alike_told table a b c e r f =
    let says = comparison_says c in
    record {
      number = ap (λ (x : FabrwentAlike). x.number) f ∙ (says.0 ∙ ap compared_number e);
      place = ap (λ (x : FabrwentAlike). x.place) f ∙ (says.1 ∙ ap compared_place e);
      alike = ap (λ (x : FabrwentAlike). x.alike) f ∙ (says.2 ∙ ap (λ (x : Compared). bit (compared_alike x)) e);
    }
