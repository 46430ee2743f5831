-- The state of the walk: variables with their waiting writes, and the tree of live routines.
-- A state is said by structure alone: nothing in it tells where a record sits.
use Rattle.std.specs.Prelude.{Bool, true, false, List, ℕ, suc, ◌+◌, eqb}

-- "Each variable has at most one waiting write": none, or one with its due moment and its value.
pub data Waiting : Type 0 where
  idle : Waiting
  due : ℕ → ℕ → Waiting

-- A variable: its value (a 32-bit word), whether it was written in this instant, its waiting write.
pub record Variable : Type 0 where
  pub value : ℕ
  pub written : Bool
  pub waiting : Waiting

-- What is read where there is no variable.
unfoldable pub no_variable : Variable
no_variable = record { value = 0; written = false; waiting = idle }

-- ── all changes of a variable, `now` being the moment of the instant ─────────────────────────────────────────────────────────────────────
-- "New variables hold 0, or the passed value for `v`, and are not written."
unfoldable pub new_variable : ℕ → ℕ → Variable
new_variable now v = record { value = v; written = false; waiting = idle }

-- A write by `S`: the new value, the mark; "`S` .. leave[s the waiting write] there".
unfoldable pub written_to : ℕ → Variable → ℕ → Variable
written_to now x v = record { value = v; written = true; waiting = x.waiting }

-- Document 02, Change 4: "An input now drops any waiting write on its variable; `S` still doesn't."
unfoldable pub input_to : ℕ → Variable → ℕ → Variable
input_to now x v = record { value = v; written = true; waiting = idle }

-- A waiting write of v due at t: "a new `A` on it replaces the old one, earlier or later".
unfoldable pub scheduled_on : Variable → ℕ → ℕ → Variable
scheduled_on x t v = record { value = x.value; written = x.written; waiting = due t v }

-- After an instant its mark goes.
unfoldable pub unmarked_of : Variable → Variable
unmarked_of x = record { value = x.value; written = false; waiting = x.waiting }

-- Rule 1: "Every waiting write due at t is made, and is gone." A variable without one is not written yet.
unfoldable pub made_if_due : Bool → Variable → ℕ → Variable
made_if_due true x v = record { value = v; written = true; waiting = idle }
made_if_due false x v = unmarked_of x

unfoldable pub due_write : ℕ → Variable → Waiting → Variable
due_write t x idle = unmarked_of x
due_write t x (due m v) = made_if_due (eqb m t) x v

unfoldable pub made_due : ℕ → Variable → Variable
made_due t x = due_write t x x.waiting

-- A live routine, `node number place names own children`: its number in the listing, the instruction it is at,
-- the address of each of its names, the variables it owns, its live children in the order of their `F`.
-- An address counts the variables owned along the path from the environment down to the routine:
-- first the environment's, then main's own, then those of main's child on the path, and so on.
mutual
  pub data Node : Type 0 where
    node : ℕ → ℕ → List ℕ → List Variable → Forest → Node

  pub data Forest : Type 0 where
    empty : Forest
    more : Node → Forest → Forest

infixr 30 ◌⊕◌
-- One forest after the other.
unfoldable pub ◌⊕◌ : Forest → Forest → Forest
empty ⊕ g = g
more n f ⊕ g = more n (f ⊕ g)

-- The number of live routines.
unfoldable mutual
  pub live_in_node : Node → ℕ
  live_in_node (node number place names own children) = suc (live_in_forest children)

  pub live_in_forest : Forest → ℕ
  live_in_forest empty = 0
  live_in_forest (more n f) = live_in_node n + live_in_forest f

-- Between two instants: the present moment, the environment's variables (inputs first, then outputs),
-- and the tree: main with all below it, or nothing after main's end.
-- "Environment variables live as long as the machine, also after main has ended."
pub record State : Type 0 where
  pub now : ℕ
  pub environment : List Variable
  pub tree : Forest

-- While an instant runs: the variables in reach, the steps left, the number of live routines,
-- and the number of waits passed so far.
pub record Running : Type 0 where
  pub memory : List Variable
  pub left : ℕ
  pub live : ℕ
  pub woken : ℕ

-- At the beginning of an instant.
abbrev pub new_running : List Variable → ℕ → ℕ → Running
new_running memory allowance live = record { memory = memory; left = allowance; live = live; woken = 0 }

-- One of these changed.
abbrev pub with_memory : Running → List Variable → Running
with_memory s memory = record { memory = memory; left = s.left; live = s.live; woken = s.woken }

abbrev pub with_left : Running → ℕ → Running
with_left s left = record { memory = s.memory; left = left; live = s.live; woken = s.woken }

abbrev pub with_live : Running → ℕ → Running
with_live s live = record { memory = s.memory; left = s.left; live = live; woken = s.woken }

abbrev pub with_woken : Running → ℕ → Running
with_woken s woken = record { memory = s.memory; left = s.left; live = s.live; woken = woken }

-- The frame of a routine that has its turn: its level, its number in the listing, the instruction it is at,
-- the address of each of its names, the first address of its own variables.
pub record Frame : Type 0 where
  pub level : ℕ
  pub routine : ℕ
  pub place : ℕ
  pub names : List ℕ
  pub base : ℕ

abbrev pub frame : ℕ → ℕ → ℕ → List ℕ → ℕ → Frame
frame level r place names base = record { level = level; routine = r; place = place; names = names; base = base }

-- The same routine at instruction k, and at the next one.
abbrev pub go_to : Frame → ℕ → Frame
go_to me k = record { level = me.level; routine = me.routine; place = k; names = me.names; base = me.base }

abbrev pub next : Frame → Frame
next me = go_to me (suc me.place)

-- What a routine's turn leaves: what is running then, and the routine with its children, unless it ended.
pub record Turn : Type 0 where
  pub running : Running
  pub tree : Forest

-- An answer, or the number of the question that stopped the machine.
pub data Result (A : Type 0) : Type 0 where
  stop : ℕ → Result A
  ok : A → Result A

infixl 20 ◌>>=◌
-- Go on with the answer, unless stopped.
unfoldable pub ◌>>=◌ : {A B : Type 0} → Result A → (A → Result B) → Result B
stop k >>= f = stop k
ok a >>= f = f a
