-- What a comparison tells.
use mathlib.Core.Path.{◌≡◌, sym, subst, ◌∙◌}
use mathlib.Core.Bool.{Bool}
use mathlib.Core.List.{List}
use Prim.Native.Nat.{ℕ}
use lib.Dec.{eqb}
use lib.ListN.{take}
use borrow.Author.Tests.{eqb-true, eq-eqb}
use Rattle.walk.specs.Comparison.{Compared, compared_number, compared_place, compared_alike, alike_call}
use Rattle.layout.specs.Layout.{layout}
use Rattle.call_figures.specs.Figures.{bit}
use Rattle.test_cases.specs.Frame.{word_at, onward}
use Rattle.test_cases.specs.Words.{Tells}
use Rattle.test_lending.specs.Places.{lent_places, spoilt_table, spoilt_machine}
use Rattle.test_stored_comparisons.specs.Comparisons.{ComparedRight, ComparisonAgrees}

pub by_alike : {s : List ℕ} {at : ℕ} {o : Compared} (number alike : ℕ) → number ≡ compared_number o → alike ≡ bit (compared_alike o) → word_at s at ≡ number
    → (w : ℕ) → w ≡ word_at s (onward s at 4) → Tells (eqb w alike) (ComparedRight s at o)
by_alike number alike n a e w h = record {
  means = λ y. record { number_is_lem = e ∙ n; alike_is = sym h ∙ (eqb-true w alike y ∙ a) };
  whenever = λ c. eq-eqb w alike (h ∙ (c.alike_is ∙ sym a));
}

-- "place 0 from here on"
pub no_place : (o : Compared) (place : ℕ) → place ≡ compared_place o → place ≡ 0
unfolding compared_place
no_place o place e = e

-- what was told of the memories that were lent, told of those that the kind says
pub compared_so : {s table₁ machine₁ : List ℕ} {place count : ℕ} {r : Bool} (at kind : ℕ) (table machine kept : List ℕ) → kind ≡ word_at s at → place ≡ onward s at 4
    → table₁ ≡ spoilt_table kind table → machine₁ ≡ spoilt_machine kind machine → count ≡ lent_places kind 4 12287 kept
    → Tells r (ComparedRight s place (alike_call layout table₁ machine₁ (take count kept))) → Tells r (ComparisonAgrees s at table machine kept)
compared_so {s} {table₁} {machine₁} {place} {count} {r} at kind table machine kept k p t m n c =
    subst (λ (x : ℕ). Tells r (ComparedRight s (onward s at 4) (alike_call layout (spoilt_table x table) (spoilt_machine x machine) (take (lent_places x 4 12287 kept) kept)))) k
    (rw (← p, ← t, ← m, ← n) c)
