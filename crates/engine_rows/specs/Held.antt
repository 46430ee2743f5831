-- The tree in slots: each routine's row says where it hangs, its range, its bindings and its own variables.
-- Letters: σ rows, p a path, b a first own address, n a number of children, z a mark; the others as in Tree.
use Rattle.std.specs.Prelude.{◌≡◌, Bool, true, false, ◌&&◌, not, List, [], ◌∷◌, ℕ, suc, ◌+◌, ◌-◌, ltb, length}
use Rattle.walk.specs.State.{Variable}
use Rattle.engine_rows.specs.Rows.{Owner, Row, Rows, in_environment, in_slot}
use Rattle.engine_rows.specs.Tree.{Record, Tree, nil, put, Frame, memory_of, root_count}

pub record Entry : Type 0 where
  pub slot : ℕ
  pub base : ℕ

unfoldable pub pick_owner : Bool → Owner → Owner → Owner
pick_owner true o q = o
pick_owner false o q = q

unfoldable pub owner_at : List Entry → ℕ → Owner
owner_at [] a = in_environment a
owner_at (e ∷ p) a = pick_owner (ltb a e.base) (owner_at p a) (in_slot e.slot (a - e.base))

unfoldable pub owners_at : List Entry → List ℕ → List Owner
owners_at p [] = []
owners_at p (a ∷ l) = owner_at p a ∷ owners_at p l

unfoldable pub parent_slot : List Entry → ℕ
parent_slot [] = 64
parent_slot (e ∷ p) = e.slot

unfoldable pub path_of : List Variable → List Frame → List Entry
path_of environment [] = []
path_of environment (f ∷ fs) = record { slot = f.self.slot; base = length (memory_of environment fs) } ∷ path_of environment fs

unfoldable pub row_for : Bool → List Entry → ℕ → ℕ → Record → Row
row_for z p b n x =
    record {
      used = true;
      asleep = z;
      level = length p;
      parent = parent_slot p;
      base = b;
      children = n;
      low = x.low;
      child = x.child;
      bits = x.bits;
      routine = x.routine;
      place = x.place;
      bindings = owners_at (record { slot = x.slot; base = b } ∷ p) x.names;
      own = x.own;
    }

unfoldable pub is_leaf : Tree → Bool
is_leaf nil = true
is_leaf (put x k f) = false

-- a forest below a path: pending ones (d true) are marked asleep just where they sleep
pub data Held (σ : Rows) (d : Bool) : List Entry → ℕ → Tree → Type 0 where
  held_nil : {p : List Entry} {b : ℕ} → Held σ d p b nil
  held_put : {p : List Entry} {b : ℕ} {x : Record} {k f : Tree} (z : Bool) → (d ≡ true → z ≡ is_leaf k && not x.is_new) →
      σ x.slot ≡ row_for z p b (root_count k) x →
      Held σ d (record { slot = x.slot; base = b } ∷ p) (b + length x.own) k → Held σ d p b f → Held σ d p b (put x k f)

-- the frames; n: the live children of the innermost
pub data HeldUp (σ : Rows) (environment : List Variable) : ℕ → List Frame → Type 0 where
  held_top : {n : ℕ} → HeldUp σ environment n []
  held_under : {n : ℕ} {f : Frame} {fs : List Frame} →
      σ f.self.slot ≡ row_for false (path_of environment fs) (length (memory_of environment fs)) n f.self →
      Held σ false (path_of environment fs) (length (memory_of environment fs)) f.done →
      Held σ true (path_of environment fs) (length (memory_of environment fs)) f.todo →
      HeldUp σ environment (root_count f.done + suc (root_count f.todo)) fs → HeldUp σ environment n (f ∷ fs)
