-- What is left of an instant, as a list of tasks, from a place in the tree.
-- Letters: ts tasks, d the siblings done so far, ds those of the routines above; the others as in Tree.
use Rattle.std.specs.Prelude.{Bool, true, false, List, [], ◌∷◌, ◌++◌, ℕ, length}
use Rattle.listing.specs.Listing.{Listing}
use Rattle.walk.specs.State as State
use Rattle.walk.specs.State.{frame, Forest, Node, Result, Running, Turn, Variable, ◌>>=◌, ◌⊕◌, empty, node, ok}
use Rattle.walk.specs.Walk.{begin, instruction_of, resume, run, visit}
use Rattle.engine_rows.specs.Tree.{Record, Tree, nil, put, erase, Frame, memory_of}

pub data Task : Type 0 where
  see new : Node → ℕ → Task  -- a sleeper, a new child; its level
  goes back : State.Frame → Task  -- one that runs, one whose children have had their turn

unfoldable pub outer : List Forest → Forest
outer [] = empty
outer (d ∷ ds) = d

unfoldable pub beyond : List Forest → List Forest
beyond [] = []
beyond (d ∷ ds) = ds

unfoldable pub first : Bool → Node → ℕ → Task
first true n level = new n level
first false n level = see n level

unfoldable pub tasks : ℕ → Tree → List Task → List Task
tasks level nil ts = ts
tasks level (put x k f) ts = first x.is_new (node x.routine x.place x.names x.own (erase k)) level ∷ tasks level f ts

-- the walk's figures while it runs
abbrev pub running_with : List Variable → ℕ → ℕ → ℕ → Running
running_with memory left live woken = record { memory = memory; left = left; live = live; woken = woken }

-- the walk's frame of a routine whose ancestors are fs
abbrev pub frame_on : List Variable → Record → List Frame → State.Frame
frame_on environment x fs = frame (length fs) x.routine x.place x.names (length (memory_of environment fs))

unfoldable pub up : List Variable → List Frame → List Task
up environment [] = []
up environment (f ∷ fs) = back (frame_on environment f.self fs) ∷ tasks
    (length fs) f.todo (up environment fs)

unfoldable pub dones : List Frame → List Forest
dones [] = []
dones (f ∷ fs) = erase f.done ∷ dones fs

module _ (listing : Listing) (now : ℕ) where
  -- d: the siblings done so far; ds: those of the routines above
  unfoldable pub rest : List Task → Forest → List Forest → Running → Result Turn
  rest [] d ds s = ok (record { running = s; tree = d })
  rest (see n level ∷ ts) d ds s = visit listing now n level s >>= λ a. rest ts (d ⊕ a.tree) ds a.running
  rest (new n level ∷ ts) d ds s = begin (run listing now s.left) level n s >>= λ a. rest ts (d ⊕ a.tree) ds a.running
  rest (goes me ∷ ts) d ds s = run listing now s.left me s >>= λ a. rest ts (d ⊕ a.tree) ds a.running
  rest (back me ∷ ts) d ds s = resume listing now (instruction_of listing me) me d s >>= λ a. rest ts
      (outer ds ⊕ a.tree) (beyond ds) a.running

module _ (listing : Listing) (now : ℕ) where
  -- the innermost frame runs
  unfoldable pub going_on_lem : List Variable → ℕ → ℕ → ℕ → Frame → List Frame → Result Turn
  going_on_lem environment j l woken f fs =
      rest listing now (goes (frame_on environment f.self fs) ∷ tasks
      (length fs) f.todo (up environment fs)) (erase f.done) (dones fs)
      (running_with (memory_of environment fs ++ f.self.own) j l woken)
