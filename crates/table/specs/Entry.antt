-- What question 6 gives of instruction `place` of routine r, by the five words of its entry.
-- The letters: w a table's words; kind, operand, cells, first, second the entry's words; names the number of the routine's names.
use Rattle.std.specs.Prelude.{◌≡◌, true, List, ℕ, suc, ◌+◌, ◌*◌, ◌≤◌, ◌<◌, ltb}
use Rattle.listing.specs.Lists.{all}
use Rattle.listing.specs.Listing.{assign, schedule, branch, jump, wait, fork, end}
use Rattle.listing.specs.Expressions.{leaves_one}
use Rattle.listing.specs.Questions.{piece_is_there}
use Rattle.walk.specs.Walk.{instruction_at}
use Rattle.table.specs.Areas.{cell_end}
use Rattle.table.specs.Decode.{word, pieces_at, names_at, calls_at, head_after, routine_entry, names_of, size_of, table_listing}

-- n pieces from `cells` on: they stand in their area, are an expression in its form, and their names are there
pub record ExpressionStands (w : List ℕ) (names cells n : ℕ) : Type 0 where
  pub inside : cells + 2 * n ≤ cell_end
  pub form : leaves_one (pieces_at w cells n) ≡ true
  pub there : all (piece_is_there names) (pieces_at w cells n) ≡ true

-- n names from `cells` on
pub record NamesStand (w : List ℕ) (names cells n : ℕ) : Type 0 where
  pub inside : cells + 2 * n ≤ cell_end
  pub there : all (λ name. ltb name names) (names_at w cells n) ≡ true

-- a child field whose head stands at `head`: its routine is there, takes so many arguments, and they are names of the caller
pub record ChildStands (w : List ℕ) (names head : ℕ) : Type 0 where
  pub callee : word w (head + 1) < word w 2
  pub count : word w (head + 0) ≡ word w (routine_entry (word w (head + 1)) + 0)
  pub arguments : NamesStand w names (head + 2) (word w (head + 0))

module _ (w : List ℕ) (r place operand cells first second : ℕ) where
  -- instruction `place` has another behind it
  abbrev pub GoesOn : Type 0
  GoesOn = suc place < size_of w r

  pub record Assigns : Type 0 where
    pub is : instruction_at (table_listing w) r place ≡ assign operand (pieces_at w cells first)
    pub name : operand < names_of w r
    pub value : ExpressionStands w (names_of w r) cells first
    pub next : GoesOn

  pub record Schedules : Type 0 where
    pub is : instruction_at (table_listing w) r place ≡ schedule operand (pieces_at w cells first) (pieces_at w (cells + 2 * first) second)
    pub name : operand < names_of w r
    pub delay : ExpressionStands w (names_of w r) cells first
    pub value : ExpressionStands w (names_of w r) (cells + 2 * first) second
    pub next : GoesOn

  pub record Branches : Type 0 where
    pub is : instruction_at (table_listing w) r place ≡ branch (pieces_at w cells first) operand
    pub target : operand < size_of w r
    pub value : ExpressionStands w (names_of w r) cells first
    pub next : GoesOn

  pub record Jumps : Type 0 where
    pub is : instruction_at (table_listing w) r place ≡ jump operand
    pub target : operand < size_of w r

  pub record Waits : Type 0 where
    pub is : instruction_at (table_listing w) r place ≡ wait (names_at w cells first)
    pub some : 1 ≤ first
    pub most : first ≤ 4
    pub names : NamesStand w (names_of w r) cells first
    pub next : GoesOn

  pub record Forks : Type 0 where
    pub is : instruction_at (table_listing w) r place ≡ fork (calls_at w cells first)
    pub some : 1 ≤ first
    pub most : first ≤ 8
    pub children : (j : ℕ) → j < first → ChildStands w (names_of w r) (head_after w cells j)
    pub next : GoesOn

  pub record Ends : Type 0 where
    pub is : instruction_at (table_listing w) r place ≡ end

-- the words of the entry of instruction `place` of routine r, with what they tell by the kind
pub record Fetched (w : List ℕ) (r place kind operand cells first second : ℕ) : Type 0 where
  pub least : 1 ≤ kind
  pub most : kind ≤ 7
  pub assigns : kind ≡ 1 → Assigns w r place operand cells first second
  pub schedules : kind ≡ 2 → Schedules w r place operand cells first second
  pub branches : kind ≡ 3 → Branches w r place operand cells first second
  pub jumps : kind ≡ 4 → Jumps w r place operand cells first second
  pub waits : kind ≡ 5 → Waits w r place operand cells first second
  pub forks : kind ≡ 6 → Forks w r place operand cells first second
  pub ends : kind ≡ 7 → Ends w r place operand cells first second
