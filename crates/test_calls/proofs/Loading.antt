-- Whether a listing loads.
use mathlib.Core.Path.{◌≡◌, sym, ap, subst, ◌∙◌}
use mathlib.Core.Bool.{true, false}
use mathlib.Core.List.{List}
use Prim.Native.Nat.{ℕ}
use native.Mathlib.Omega.{arith}
use Rattle.listing.specs.Load.{Loading, refused, loaded, loading, is_long_enough}
use Rattle.listing.specs.Questions.{listing_in}
use Rattle.walk.specs.Promises.{LoadPromise, TableAfter}
use Rattle.layout.specs.Layout.{layout}
use Rattle.text_questions.specs.Outcome.{outcome_of}
use Rattle.text_questions.specs.declared.answer.Loaded.{Loaded}
use Rattle.text_questions.specs.declared.answer.Loaded.TheVariants as LV
use Rattle.test_calls.specs.Cases.{LoadsInto, loads, refuses}

module _ (text table table' : List ℕ) (a : Loaded) (l : LoadPromise layout text table table' (outcome_of text a)) where
  table_is : TableAfter layout table table' (loading (is_long_enough table) text)
  table_is = subst (λ (x : Loading). TableAfter layout table table' x) l.0 l.1

  pub it_loads : a ≡ LV.Done → LoadsInto text table table' true
  it_loads e = loads (sym l.0 ∙ ap (outcome_of text) e) table_is

  pub it_fails : (number place : ℕ) → a ≡ LV.Refused number place → LoadsInto text table table' false
  it_fails number place e =
      refuses
      (λ h.
      let r : refused number place ≡ loaded (listing_in text) = ap (outcome_of text) (sym e) ∙ (l.0 ∙ h) in
      let z : ◌≡◌ {A = ℕ} 0 1 = cc in
      omega arith)
      table_is
