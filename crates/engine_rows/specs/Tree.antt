-- The live routines as a tree with slots and priorities, between the walk's tree and the rows; a place in it as a path of frames.
-- Letters: x a record, t a tree, k the children and f the later siblings of a record, fs frames (the innermost first).
use Rattle.std.specs.Prelude.{◌≡◌, Bool, false, List, [], ◌∷◌, ◌++◌, ℕ, suc, ◌+◌, ◌^◌, ◌≤◌, ◌<◌}
use Rattle.walk.specs.State.{Forest, Variable, empty, more, node}

pub record Record : Type 0 where
  pub slot : ℕ
  pub child : ℕ  -- the number of the child field that made it
  pub low : ℕ  -- the lowest of its priorities
  pub bits : ℕ  -- it has 2 ^ bits
  pub is_new : Bool  -- not yet begun
  pub routine : ℕ
  pub place : ℕ
  pub names : List ℕ
  pub own : List Variable

abbrev pub width : Record → ℕ
width x = 2 ^ x.bits

-- a routine, its live children, its later siblings
pub data Tree : Type 0 where
  nil : Tree
  put : Record → Tree → Tree → Tree

unfoldable pub erase : Tree → Forest
erase nil = empty
erase (put x k f) = more (node x.routine x.place x.names x.own (erase k)) (erase f)

infixr 30 ◌⋈◌
unfoldable pub ◌⋈◌ : Tree → Tree → Tree
nil ⋈ g = g
put x k f ⋈ g = put x k (f ⋈ g)

-- one above: itself, its siblings on both sides
pub record Frame : Type 0 where
  pub self : Record
  pub done : Tree
  pub todo : Tree

-- the whole tree around a place, innermost frame first
unfoldable pub plug : List Frame → Tree → Tree
plug [] t = t
plug (f ∷ fs) t = plug fs (f.done ⋈ put f.self t f.todo)

unfoldable pub memory_of : List Variable → List Frame → List Variable
memory_of environment [] = environment
memory_of environment (f ∷ fs) = memory_of environment fs ++ f.self.own

unfoldable pub slots_of : Tree → List ℕ
slots_of nil = []
slots_of (put x k f) = x.slot ∷ (slots_of k ++ slots_of f)

unfoldable pub root_count : Tree → ℕ
root_count nil = 0
root_count (put x k f) = suc (root_count f)

pub data In (k : ℕ) : List ℕ → Type 0 where
  here : {x : ℕ} {l : List ℕ} → k ≡ x → In k (x ∷ l)
  there : {x : ℕ} {l : List ℕ} → In k l → In k (x ∷ l)

-- a forest within [lo, hi): each routine's range after the one before, its children's inside its own
pub data Range : ℕ → ℕ → Tree → Type 0 where
  range_nil : {lo hi : ℕ} → lo ≤ hi → Range lo hi nil
  range_put : {lo hi : ℕ} {x : Record} {k f : Tree} → lo ≤ x.low → 1 ≤ width x → x.slot < 64 → Range x.low (x.low + width x) k →
      Range (x.low + width x) hi f → Range lo hi (put x k f)

pub data AllBegun : Tree → Type 0 where
  begun_nil : AllBegun nil
  begun_put : {x : Record} {k f : Tree} → x.is_new ≡ false → AllBegun k → AllBegun f → AllBegun (put x k f)
