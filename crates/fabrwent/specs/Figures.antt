-- What the exported calls promise: the walk's outcome, and that the figures tell it.
use Rattle.std.specs.Prelude.{◌≡◌, List, ℕ}
use Rattle.walk.specs.Promises.{StartPromise, InstantPromise}
use Rattle.walk.specs.Comparison.{compared_number, compared_place, compared_alike, alike_call}
use Rattle.layout.specs.Layout.{layout}
use Rattle.call_figures.specs.Figures.{result_in, DueTold, bit}
use Rattle.call_figures.specs.declared.FabrwentCall.{FabrwentCall}
use Rattle.call_figures.specs.declared.FabrwentAlike.{FabrwentAlike}

-- What the exported start and the exported instant call promise, of any memories: the walk's outcome, and that its figures tell it.
abbrev pub StartFigures : List ℕ → List ℕ → List ℕ → List ℕ → ℕ → List ℕ → List ℕ → List ℕ → FabrwentCall → Type 0
StartFigures table machine numbers values allowance machine' numbers' values' r =
    StartPromise layout table machine numbers values allowance machine' numbers' values' (result_in r) × DueTold r

abbrev pub InstantFigures : List ℕ → List ℕ → ℕ → List ℕ → List ℕ → List ℕ → List ℕ → ℕ → List ℕ → List ℕ → List ℕ → FabrwentCall → Type 0
InstantFigures table machine t in_numbers in_values numbers values allowance machine' numbers' values' r =
    InstantPromise layout table machine t in_numbers in_values numbers values allowance machine' numbers' values' (result_in r) × DueTold r

-- The figures of the comparison.
pub record AlikeFigures (table a b : List ℕ) (r : FabrwentAlike) : Type 0 where
  pub number : r.number ≡ compared_number (alike_call layout table a b)
  pub place : r.place ≡ compared_place (alike_call layout table a b)
  pub alike : r.alike ≡ bit (compared_alike (alike_call layout table a b))
