-- What one instruction of the running routine leaves: to the rest of the run, at the instant's end, or at a stop. Contracts say it for every rest of the run.
-- Letters: n the number of environment variables, go the rest of the run, left the steps left.
use Rattle.std.specs.Prelude.{true, List, ◌≡◌, ℕ, suc, ◌≤◌, ◌<◌, eqb}
use Rattle.listing.specs.Listing.{Listing, Instruction, assign, schedule, branch, jump, wait, fork, end}
use Rattle.walk.specs.State.{Variable}
use Rattle.engine_rows.specs.Rows.{Owner, owner_of, at_place}
use Rattle.engine_rows.specs.Engine.{RowsResult, halts, ends, RowsRunner, next_ready, join_rows, execute_rows}
use Rattle.engine_blocks.specs.Blocks.{owner_at, rows_of, environment_of}
use Rattle.engine_blocks.specs.Store.{store_of, with_slot, with_variable}
use Rattle.engine_blocks.specs.Changes.{SameOutside, SameTriggers}
use Rattle.engine_clean.specs.Clean.{Clean}
use Rattle.engine_ready.specs.Slots.{slots_of}
use Rattle.engine_triggers.specs.Chains.{triggers_at}
use Rattle.engine_evaluate.specs.Bound.{bindings_of, Bound}
use Rattle.engine_steps.specs.declared.running.Running.{Running}
use Rattle.engine_steps.specs.declared.running.Answer.{Answer}
use Rattle.engine_steps.specs.declared.running.Answer.TheVariants.{Goes, Ends, Stops}
use Rattle.engine_steps.specs.declared.running.Stepped.{Stepped}
use Rattle.engine_steps.specs.declared.running.Onward.{Onward}
use Rattle.engine_steps.specs.declared.running.Onward.TheVariants.{To, StopsWith, Unmade}

-- Document 01's number for each case of the answer, and what the rows leave: somebody runs, the instant ends, or the machine stops under a number.
-- At a stop the blocks' words are any, since the stopped form takes their place.
unfoldable pub left_by : ℕ → List ℕ → RowsRunner → ℕ → Answer → Running → RowsResult
left_by n words go left Goes u =
    go (rows_of words) (environment_of n words) (slots_of u.ready) u.live u.woken u.me
left_by n words go left Ends u = ends (rows_of words) (environment_of n words) left u.live u.woken
left_by n words go left (Stops k) u = halts k

-- If somebody runs, it is a live routine.
unfoldable pub RunsLive : List ℕ → Answer → Running → Type 0
RunsLive words Goes u = (rows_of words u.me).used ≡ true
RunsLive words Ends u = 0 ≤ 0
RunsLive words (Stops k) u = 0 ≤ 0

-- The words are read with n environment variables and these trigger lists: the running routine's names are bound, and its parent is another live routine.
pub record Reading (words : List ℕ) (me n : ℕ) (triggers : Owner → List ℕ) : Type 0 where
  pub bound : Bound (store_of n words) (bindings_of words me)
  pub lists : (s index : ℕ) → s ≤ 64 → index < 16 → triggers_at words s index ≡ triggers (owner_at s index)
  pub parent : (k : ℕ) → (rows_of words me).level ≡ suc k →
      ((rows_of words (rows_of words me).parent).used ≡ true) × ((rows_of words me).parent ≡ me → ⊥)

-- What stays.
pub record Stays (before after : List ℕ) : Type 0 where
  pub outside : SameOutside before after
  pub triggers : SameTriggers before after

-- The first that is ready goes on.
pub record Pops (before after : List ℕ) (u : Running) (r : Stepped) : Type 0 where
  pub outcome : (n : ℕ) (go : RowsRunner) (left : ℕ) →
      next_ready go left (rows_of before) (environment_of n before) (slots_of u.ready) u.live u.woken ≡ left_by n after go left r.answer r.running
  pub stays : Stays before after
  pub clean : (n : ℕ) → RunsLive after r.answer r.running → Clean n before → Clean n after

-- The instruction is executed.
pub record Executes (listing : Listing) (moment : ℕ) (instruction : Instruction) (before after : List ℕ) (u : Running) (r : Stepped) : Type 0 where
  pub outcome : (n : ℕ) (triggers : Owner → List ℕ) → Reading before u.me n triggers → (go : RowsRunner) (left : ℕ) →
      execute_rows listing moment triggers go left instruction (rows_of before) (environment_of n before) (slots_of u.ready) u.live u.woken u.me ≡
      left_by n after go left r.answer r.running
  pub stays : Stays before after
  pub clean : (n : ℕ) (triggers : Owner → List ℕ) → Reading before u.me n triggers → RunsLive after r.answer r.running → Clean n before → Clean n after

-- Such a step of the routine in slot `me` leaves the ready list alone, whoever is ready: it goes on, or the machine stops.
unfoldable pub GoesOn : Listing → ℕ → Instruction → List ℕ → List ℕ → ℕ → Answer → Type 0
GoesOn listing moment instruction before after me a =
    (u : Running) → u.me ≡ me → Executes listing moment instruction before after u (record { answer = a; running = u })

-- The instructions that may change the ready list.
unfoldable pub NeedsReady : Instruction → Type 0
NeedsReady (assign n e) = 0 ≤ 0
NeedsReady (schedule n d e) = ⊥
NeedsReady (branch e k) = ⊥
NeedsReady (jump k) = ⊥
NeedsReady (wait ns) = 0 ≤ 0
NeedsReady (fork cs) = 0 ≤ 0
NeedsReady end = 0 ≤ 0

-- What a step without the ready list leaves: the same routine at this place; a stop; or all as it was, if the instruction needs the list.
unfoldable pub Onwards : Listing → ℕ → Instruction → List ℕ → List ℕ → ℕ → Onward → Type 0
Onwards listing moment instruction before after me (To place) =
    ((rows_of after me).place ≡ place) × ((rows_of after me).routine ≡ (rows_of before me).routine) × GoesOn listing moment instruction before after me Goes
Onwards listing moment instruction before after me (StopsWith k) = GoesOn listing moment instruction before after me (Stops k)
Onwards listing moment instruction before after me Unmade = (after ≡ before) × NeedsReady instruction

-- The variable of a name is changed, and the routine in slot `me` goes on at the next instruction.
pub record ChangesName (before after : List ℕ) (me name : ℕ) (change : Variable → Variable) : Type 0 where
  pub store : (n : ℕ) → store_of n after ≡
      with_slot me (λ row. at_place row (suc (rows_of before me).place)) (with_variable (owner_of (bindings_of before me) name) change (store_of n before))
  pub stays : Stays before after
  pub clean : (n : ℕ) → Bound (store_of n before) (bindings_of before me) → (rows_of after me).used ≡ true → Clean n before → Clean n after

-- A child of the routine in slot p has ended, and its row is free already.
pub record Joins (before after : List ℕ) (u : Running) (p : ℕ) (r : Stepped) : Type 0 where
  pub outcome : (n : ℕ) (go : RowsRunner) (left : ℕ) →
      join_rows (eqb (rows_of before p).children 1) go left (rows_of before) (environment_of n before) (slots_of u.ready) u.live u.woken p ≡
      left_by n after go left r.answer r.running
  pub stays : Stays before after
  pub clean : (n : ℕ) → (rows_of before p).used ≡ true → RunsLive after r.answer r.running → Clean n before → Clean n after
