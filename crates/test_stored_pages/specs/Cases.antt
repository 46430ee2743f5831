-- A stored case, and what the memories hold once it is read.
use Rattle.std.specs.Prelude.{List, ◌≡◌, ℕ, ◌≤◌, length}
use Rattle.test_stored_pages.specs.declared.cases.Case.{Case}

-- no stored list is longer than 400, and no stored memory than 2,800
pub record ReadCase (moments outputs values : List ℕ) (r : Case) : Type 0 where
  pub moments_long : length moments ≡ 400
  pub outputs_long : length outputs ≡ 400
  pub values_long : length values ≡ 400
  pub few_moments : r.moments ≤ 400
  pub few_outputs : r.outputs ≤ 400
  pub few_values : r.values ≤ 400
  pub few_bytes : r.size ≤ 2800
