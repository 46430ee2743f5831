-- Edges written into three lists side by side.
use Rattle.std.specs.Prelude.{◌≡◌, List, map, ℕ, ◌+◌, ◌≤◌, length}
use Rattle.std.proofs.lemmas.List.Edits.{sets}
use Rattle.schedule.specs.Edges.{Edge}

-- each list has a place for every edge, from a place on
pub record Fits (edges : List Edge) (place : ℕ) (moments inputs values : List ℕ) : Type 0 where
  pub moments_long : place + length edges ≤ length moments
  pub inputs_long : place + length edges ≤ length inputs
  pub values_long : place + length edges ≤ length values

-- edges written from a place on; what stands before them and after them stays
pub record Written (edges : List Edge) (place : ℕ) (moments inputs values moments' inputs' values' : List ℕ) (next : ℕ) : Type 0 where
  pub moments_are_lem : moments' ≡ sets moments place (map (λ e. e.moment) edges)
  pub inputs_are : inputs' ≡ sets inputs place (map (λ e. e.input) edges)
  pub values_are_lem : values' ≡ sets values place (map (λ e. e.value) edges)
  pub next_is_lem : next ≡ place + length edges
