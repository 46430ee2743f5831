-- The machine's words while it runs: what they stand for, and the test that question 7 puts to them.
-- The layout is that of docs/LAYOUT.md; `w` stands for the 12,288 words.
use Rattle.std.specs.Prelude.{Bool, true, false, cond, ◌&&◌, List, [], ◌∷◌, ◌≡◌, ℕ, zero, suc, ◌+◌, ◌*◌, ◌-◌, ◌≤◌, ◌<◌, ltb, leb, eqb, length, get_or}
use Rattle.listing.specs.Listing.{Listing}
use Rattle.walk.specs.State.{Waiting, idle, due, Variable, State}
use Rattle.walk.specs.Instant.{environment_size}
use Rattle.machine.specs.Records.{Record, records_pass, state_from}

-- "machine 12,288": a memory with room for a machine, and one of just its words
abbrev pub machine_size : ℕ
machine_size = 12288

abbrev pub HasMachine : List ℕ → Type 0
HasMachine m = machine_size ≤ length m

abbrev pub MachineLong : List ℕ → Type 0
MachineLong m = length m ≡ machine_size

-- a slot of a machine
abbrev pub AtSlot : List ℕ → ℕ → Type 0
AtSlot m s = HasMachine m × (s < 64)

-- The address of a slot's block; the environment is block 64.
abbrev pub block_at : ℕ → ℕ
block_at s = 328 + s * 184

abbrev pub environment_block : ℕ
environment_block = 12104

-- ── what the words stand for ──────────────────────────────────────────────────────────────────────
-- A moment takes two words, the low half first.
abbrev pub moment_at : List ℕ → ℕ → ℕ
moment_at w a = get_or w a 0 + get_or w (a + 1) 0 * 4294967296

-- A due moment is at least 1, so 0 means none.
unfoldable pub waiting_of : ℕ → ℕ → Waiting
waiting_of zero v = idle
waiting_of (suc t) v = due (suc t) v

-- A variable's six words: value, waiting value, due moment, two kept.
unfoldable pub variable_in : List ℕ → ℕ → Variable
variable_in w a = record { value = get_or w a 0; written = false; waiting = waiting_of (moment_at w (a + 2)) (get_or w (a + 1) 0) }

unfoldable pub variables_in : List ℕ → ℕ → ℕ → List Variable
variables_in w a zero = []
variables_in w a (suc k) = variable_in w a ∷ variables_in w (a + 6) k

-- The record in the block at a.
unfoldable pub record_in : List ℕ → ℕ → Record
record_in w a = record {
  level = get_or w (a + 1) 0;
  child = get_or w (a + 2) 0;
  place = get_or w (a + 3) 0;
  own = variables_in w (a + 8) (get_or w (a + 4) 0);
}

-- The slot of the k-th live routine in walking order.
abbrev pub slot_of : List ℕ → ℕ → ℕ
slot_of w k = get_or w (64 + k) 0

-- The records of m live routines from the k-th on.
unfoldable pub records_in : List ℕ → ℕ → ℕ → List Record
records_in w k zero = []
records_in w k (suc m) = record_in w (block_at (slot_of w k)) ∷ records_in w (suc k) m

-- The state that the words stand for.
unfoldable pub state_of : Listing → List ℕ → State
state_of listing w =
    state_from listing (moment_at w 1) (variables_in w (environment_block + 8) (environment_size listing)) (records_in w 0 (get_or w 3 0))

-- ── the test ──────────────────────────────────────────────────────────────────────────────────────
-- k words from a on are 0.
unfoldable pub zero_from : List ℕ → ℕ → ℕ → Bool
zero_from w a zero = true
zero_from w a (suc k) = eqb (get_or w a 0) 0 && zero_from w (a + 1) k

-- "waiting writes due after the present moment"; without one the waiting value is 0.
unfoldable pub variable_rests : ℕ → List ℕ → ℕ → Bool
variable_rests now w a =
    cond (eqb (moment_at w (a + 2)) 0) (eqb (get_or w (a + 1) 0) 0) (ltb now (moment_at w (a + 2))) && zero_from w (a + 4) 2

unfoldable pub variables_rest : ℕ → List ℕ → ℕ → ℕ → Bool
variables_rest now w a zero = true
variables_rest now w a (suc k) = variable_rests now w a && variables_rest now w (a + 6) k

-- The block at a has k variables, and zeros after them.
unfoldable pub block_rests : ℕ → List ℕ → ℕ → ℕ → Bool
block_rests now w a k = leb k 16 && (variables_rest now w (a + 8) k && zero_from w (a + 8 + k * 6) (176 - k * 6))

-- A slot, with n live routines: free and all zero, or the order list leads back to it.
unfoldable pub slot_holds : ℕ → ℕ → List ℕ → ℕ → Bool
slot_holds n now w s =
    let p = get_or w (block_at s) 0 in
    cond (eqb p 0) (zero_from w (block_at s) 184)
    (leb p n && (eqb (get_or w (63 + p) 0) s && (zero_from w (block_at s + 5) 3 && block_rests now w (block_at s) (get_or w (block_at s + 4) 0))))

-- The first m slots.
unfoldable pub slots_hold : ℕ → ℕ → List ℕ → ℕ → Bool
slots_hold n now w zero = true
slots_hold n now w (suc m) = slot_holds n now w m && slots_hold n now w m

-- The slot of the k-th in order is one, and knows its place.
unfoldable pub knows_place : List ℕ → ℕ → Bool
knows_place w k = ltb (slot_of w k) 64 && eqb (get_or w (block_at (slot_of w k)) 0) (k + 1)

-- The first m in order.
unfoldable pub know_places : List ℕ → ℕ → Bool
know_places w zero = true
know_places w (suc m) = knows_place w m && know_places w m

-- The header and the order list.
unfoldable pub header_in_place : List ℕ → Bool
header_in_place w =
    let n = get_or w 3 0 in
    eqb (get_or w 0 0) 0 && (leb n 64 && (zero_from w 4 60 && (know_places w n && zero_from w (64 + n) (264 - n))))

-- The environment of so many variables, and the slots.
unfoldable pub blocks_in_place : ℕ → List ℕ → Bool
blocks_in_place size w =
    zero_from w environment_block 8 && (block_rests (moment_at w 1) w environment_block size && slots_hold (get_or w 3 0) (moment_at w 1) w 64)

-- All that needs no table but the number of environment variables: every word is used as the layout says, or 0.
unfoldable pub words_in_place : ℕ → List ℕ → Bool
words_in_place size w = header_in_place w && blocks_in_place size w

-- Question 7 for a running machine.
unfoldable pub running_words : Listing → List ℕ → Bool
running_words listing w = words_in_place (environment_size listing) w && records_pass listing (moment_at w 1) (records_in w 0 (get_or w 3 0))
