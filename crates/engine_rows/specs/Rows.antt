-- The rows: what the queue engine keeps of each live routine, in one of 64 slots; reading and writing variables by their owner.
use Rattle.std.specs.Prelude.{Bool, true, false, List, [], ◌∷◌, ℕ, eqb, get_or, set}
use Rattle.walk.specs.State.{Variable}
use Rattle.walk.specs.Memory.{variable_at, nowhere}

-- Where a variable sits: the environment's, by its number; or a routine's own, by the routine's slot and the variable's number there.
pub data Owner : Type 0 where
  in_environment : ℕ → Owner
  in_slot : ℕ → ℕ → Owner

-- A slot's row.
pub record Row : Type 0 where
  pub used : Bool  -- a live routine sits here
  pub asleep : Bool  -- at a wait since before this instant, and not woken yet
  pub level : ℕ
  pub parent : ℕ  -- the parent's slot (main's: 64)
  pub child : ℕ  -- the number of the child field that made it, in its parent's `F` (main's: 0)
  pub base : ℕ  -- the address of its first own variable on the path from the environment
  pub children : ℕ  -- how many live
  pub low : ℕ  -- the lowest of its priorities
  pub bits : ℕ  -- it has 2 ^ bits priorities
  pub routine : ℕ
  pub place : ℕ  -- the instruction it is at
  pub bindings : List Owner  -- of each name
  pub own : List Variable

abbrev pub Rows : Type 0
Rows = ℕ → Row

unfoldable pub free_row : Row
free_row = record {
  used = false;
  asleep = false;
  level = 0;
  parent = 0;
  child = 0;
  base = 0;
  children = 0;
  low = 0;
  bits = 0;
  routine = 0;
  place = 0;
  bindings = [];
  own = [];
}

-- No slot is taken.
unfoldable pub no_rows : Rows
no_rows s = free_row

-- ── a row changed ─────────────────────────────────────────────────────────────────────────────────
unfoldable pub choose_row : Bool → Row → Row → Row
choose_row true r other = r
choose_row false r other = other

-- The rows with another row in slot s.
unfoldable pub with_row : Rows → ℕ → Row → Rows
with_row rows s r n = choose_row (eqb n s) r (rows n)

unfoldable pub with_own : Row → List Variable → Row
with_own r own =
    record {
      used = r.used;
      asleep = r.asleep;
      level = r.level;
      parent = r.parent;
      child = r.child;
      base = r.base;
      children = r.children;
      low = r.low;
      bits = r.bits;
      routine = r.routine;
      place = r.place;
      bindings = r.bindings;
      own = own;
    }

-- A routine that runs, at this instruction: it is not asleep.
unfoldable pub at_place : Row → ℕ → Row
at_place r place =
    record {
      used = r.used;
      asleep = false;
      level = r.level;
      parent = r.parent;
      child = r.child;
      base = r.base;
      children = r.children;
      low = r.low;
      bits = r.bits;
      routine = r.routine;
      place = place;
      bindings = r.bindings;
      own = r.own;
    }

unfoldable pub with_children : Row → ℕ → Row
with_children r n =
    record {
      used = r.used;
      asleep = r.asleep;
      level = r.level;
      parent = r.parent;
      child = r.child;
      base = r.base;
      children = n;
      low = r.low;
      bits = r.bits;
      routine = r.routine;
      place = r.place;
      bindings = r.bindings;
      own = r.own;
    }

-- ── variables by owner ────────────────────────────────────────────────────────────────────────────
unfoldable pub variable_of : Rows → List Variable → Owner → Variable
variable_of rows environment (in_environment a) = variable_at environment a
variable_of rows environment (in_slot s i) = variable_at (rows s).own i

-- The rows, and the environment, with the owner's variable set to x.
unfoldable pub rows_with : Rows → Owner → Variable → Rows
rows_with rows (in_environment a) x = rows
rows_with rows (in_slot s i) x = with_row rows s (with_own (rows s) (set (rows s).own i x))

unfoldable pub environment_with : Owner → List Variable → Variable → List Variable
environment_with (in_environment a) environment x = set environment a x
environment_with (in_slot s i) environment x = environment

-- The owner of name n; there is none past the last name.
unfoldable pub owner_of : List Owner → ℕ → Owner
owner_of bindings n = get_or bindings n (in_environment nowhere)

-- The variable of name n.
unfoldable pub named : Rows → List Variable → List Owner → ℕ → Variable
named rows environment bindings n = variable_of rows environment (owner_of bindings n)
