-- What the functions of one instruction ask of the words and of the running state, so that no read or sum leaves its range.
use Rattle.std.specs.Prelude.{true, List, [], ◌∷◌, ◌≡◌, ℕ, suc, ◌≤◌, ◌<◌, length}
use Rattle.engine_blocks.specs.Blocks.{rows_of}
use Rattle.engine_ready.specs.Ordered.{Ordered}
use Rattle.engine_ready.specs.Slots.{slots_of}
use Rattle.engine_evaluate.specs.Bound.{bindings_of}
use Rattle.engine_steps.specs.declared.running.Running.{Running}

-- All slots of the list are below 64.
pub data Slots : List ℕ → Type 0 where
  slots_none : Slots []
  slots_one : {s : ℕ} {ss : List ℕ} → s < 64 → Slots ss → Slots (s ∷ ss)

-- For the first that is ready to go on.
pub record MayPop (words : List ℕ) (u : Running) : Type 0 where
  pub size : 12288 ≤ length words
  pub few : u.ready.count ≤ 64
  pub slots : Slots (slots_of u.ready)
  pub woken : u.woken < 4294967295
  -- a sleeper has an instruction behind its wait
  pub sleepers : (s : ℕ) → (rows_of words s).asleep ≡ true → suc (rows_of words s).place < 4294967296

-- For the routine in slot `me`, which is at this place, to go on at the next instruction.
pub record MayGoOn (words : List ℕ) (me place : ℕ) : Type 0 where
  pub size : 12288 ≤ length words
  pub slot : me < 64
  pub here : place ≡ (rows_of words me).place
  pub next : suc place < 4294967296

-- For it to change the variable of a name.
pub record MayChange (words : List ℕ) (me place name : ℕ) : Type 0 where
  pub runs : MayGoOn words me place
  pub there : name < length (bindings_of words me)

-- For a running routine to write a name that others await.
pub record MayWrite (words : List ℕ) (u : Running) (name : ℕ) : Type 0 where
  pub changes : MayChange words u.me (rows_of words u.me).place name
  pub ready : Ordered (rows_of words) (slots_of u.ready)

-- For it to end: its parent, unless it is main, is in a slot and has an instruction behind its fork.
pub record MayEnd (words : List ℕ) (u : Running) : Type 0 where
  pub pops : MayPop words u
  pub slot : u.me < 64
  pub parent : (k : ℕ) → (rows_of words u.me).level ≡ suc k →
      ((rows_of words u.me).parent < 64) × (suc (rows_of words (rows_of words u.me).parent).place < 4294967296)
