-- Questions 6 and 7 exactly: what a layout of the two memories must meet.
use Rattle.std.specs.Prelude.{◌≡◌, true, List, ℕ, length, get_or}
use Rattle.std.proofs.Math.Option.{some}
use Rattle.listing.specs.Listing.{Listing}
use Rattle.listing.specs.Load.{Loads}
use Rattle.walk.specs.State.{State}
use Rattle.walk.specs.Question7.{IsState}
use Rattle.walk.specs.Calls.{Words32, Layout, Machine, halted, running, is_stop, halted_words, memory_words}

-- A text that loads to the listing.
pub record LoadedFrom (listing : Listing) : Type 0 where
  pub text : List ℕ
  pub loads : Loads text listing

-- Words of a table, or of a machine, that stand for something.
pub record TableWords (layout : Layout) (listing : Listing) : Type 0 where
  pub words : List ℕ
  pub long : length words ≡ memory_words
  pub reads : layout.read_table words ≡ some listing

pub record MachineWords (layout : Layout) (listing : Listing) (m : Machine) : Type 0 where
  pub words : List ℕ
  pub long : length words ≡ memory_words
  pub words32 : Words32 words
  pub reads : layout.read_machine listing words ≡ some m

-- 6 "Is the table one that loading some listing leaves?", and one table a listing
pub record ExactTable (layout : Layout) : Type 0 where
  pub only : (words : List ℕ) (listing : Listing) → length words ≡ memory_words → layout.read_table words ≡ some listing → LoadedFrom listing
  pub every : (text : List ℕ) (listing : Listing) → Loads text listing → TableWords layout listing
  pub one : (words words' : List ℕ) (listing : Listing) → length words ≡ memory_words → length words' ≡ memory_words →
      layout.read_table words ≡ some listing → layout.read_table words' ≡ some listing → words ≡ words'

-- 7 "Is the machine memory the stopped form or .. one state of the walk on this table", for the listing of a table
pub record ExactMachine (layout : Layout) (listing : Listing) : Type 0 where
  pub halted_every : (k : ℕ) → is_stop k ≡ true → layout.read_machine listing (halted_words k) ≡ some (halted k)
  pub halted_only : (words : List ℕ) (k : ℕ) → length words ≡ memory_words → layout.read_machine listing words ≡ some (halted k) →
      (is_stop k ≡ true) × (words ≡ halted_words k)
  pub state_only : (words : List ℕ) (s : State) → Words32 words → layout.read_machine listing words ≡ some (running s) →
      IsState listing s
  -- "The machine's first word holds the number (0 while running)"
  pub running_first : (words : List ℕ) (s : State) → layout.read_machine listing words ≡ some (running s) → get_or words 0 0 ≡ 0
  pub state_every : (s : State) → IsState listing s → MachineWords layout listing (running s)

-- Both, for every listing that loads.
pub record Exact (layout : Layout) : Type 0 where
  pub table : ExactTable layout
  pub machine : (listing : Listing) → LoadedFrom listing → ExactMachine layout listing
