-- The trigger lists that words stand for. Trigger suc n is slot n / 4 with name n % 4 of its wait; its word at 160 + n % 4 is the next trigger in the
-- list of that variable, whose word at 144 + i is the first. Numbers fall along a list; 0 is none.
use Rattle.std.specs.Prelude.{Bool, true, false, List, [], ◌∷◌, ◌≡◌, ℕ, zero, suc, ◌+◌, ◌/◌, ◌%◌, ◌≤◌, ◌<◌, eqb}
use Rattle.engine_rows.specs.Rows.{Owner}
use Rattle.engine_blocks.specs.Blocks.{block, owner_at}
use Rattle.engine_blocks.specs.Changes.{SameOutside, SameRows}

-- The first trigger of variable `index` of block s.
abbrev pub first_trigger : List ℕ → ℕ → ℕ → ℕ
first_trigger words s index = block words s (144 + index)

-- The trigger after trigger suc n.
abbrev pub next_trigger : List ℕ → ℕ → ℕ
next_trigger words n = block words (n / 4) (160 + n % 4)

unfoldable pub chain_if : Bool → ℕ → List ℕ → List ℕ → List ℕ
chain_if true s after other = s ∷ after
chain_if false s after other = other

-- The slots of the triggers from t on, of those numbered up to n.
unfoldable pub chained : List ℕ → ℕ → ℕ → List ℕ
chained words zero t = []
chained words (suc n) t = chain_if (eqb t (suc n)) (n / 4) (chained words n (next_trigger words n)) (chained words n t)

-- The list of variable `index` of block s: 64 slots have 4 triggers each.
unfoldable pub triggers_at : List ℕ → ℕ → ℕ → List ℕ
triggers_at words s index = chained words 256 (first_trigger words s index)

-- No list has a trigger yet.
pub record NoTriggers (words : List ℕ) : Type 0 where
  pub none : (s index : ℕ) → s ≤ 64 → index < 16 → first_trigger words s index ≡ 0

-- The lists hold triggers up to n only, and stand for these.
pub record Chains (words : List ℕ) (n : ℕ) (lists : Owner → List ℕ) : Type 0 where
  pub most : (s index : ℕ) → s ≤ 64 → index < 16 → first_trigger words s index ≤ n
  pub each : (s index : ℕ) → s ≤ 64 → index < 16 → chained words n (first_trigger words s index) ≡ lists (owner_at s index)

-- Only trigger words differ.
pub record OnlyTriggers (before after : List ℕ) : Type 0 where
  pub rows : SameRows before after
  pub outside : SameOutside before after
