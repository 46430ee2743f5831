-- What loading says of a text that is short enough.
use mathlib.Core.Path.{◌≡◌, sym, ap, subst, ◌∙◌}
use mathlib.Core.List.{List}
use Prim.Native.Nat.{ℕ, ◌≤◌}
use lib.Dec.{leb}
use lib.ListN.{length}
use Rattle.listing.specs.Limits.{byte_limit}
use Rattle.listing.specs.Load.{loading, is_long_enough}
use Rattle.text_questions.specs.Outcome.{outcome_of}
use Rattle.text_questions.specs.declared.answer.Loaded.{Loaded}
use Rattle.text_questions.specs.declared.answer.Loaded.TheVariants as LV
use Rattle.explain_listing.specs.Verdicts.{VerdictOn, loads, fails}
use Rattle.std.specs.Prelude.{Result, Ok, Err}
use Rattle.explain_listing.specs.declared.verdict.Refusal.{Refusal}
use Rattle.explain_listing.specs.declared.verdict.Refusal.TheVariants as RV

pub it_loads : (text table : List ℕ) (r : Loaded) → length text ≤ byte_limit → 12288 ≡ length table → outcome_of text r ≡ loading (is_long_enough table) text → r ≡ LV.Done
    → VerdictOn text (Ok tt)
it_loads text table r h l e d =
    loads h (sym (ap (outcome_of text) (sym d) ∙ (e ∙ ap (λ (n : ℕ). loading (leb 12288 n) text) (sym l))))

pub it_fails : (text table : List ℕ) (r : Loaded) (number place : ℕ) → length text ≤ byte_limit → 12288 ≡ length table
    → outcome_of text r ≡ loading (is_long_enough table) text
    → r ≡ LV.Refused number place → VerdictOn text (Err (RV.Fails number place))
it_fails text table r number place h l e d =
    fails h (sym (ap (outcome_of text) (sym d) ∙ (e ∙ ap (λ (n : ℕ). loading (leb 12288 n) text) (sym l))))

-- the refusal in an arm that tells which
pub refused_as : {v : Result (Unit {0}) Refusal} {x y : Refusal} → v ≡ Err x → x ≡ y → v ≡ Err y
refused_as {v} e f = subst (λ (z : Refusal). v ≡ Err z) f e
