-- The walk of one instant, rules 2 to 4 of document 01: the visit from main, and a routine's run.
use Rattle.std.specs.Prelude.{Bool, true, false, List, [], ◌∷◌, ◌++◌, ℕ, zero, suc, ◌+◌, ◌-◌, eqb, ltb, leb, length, get_or, take, drop}
use Rattle.std.proofs.Math.Option.{Option, none, some}
use Rattle.words.specs.Words.{is_positive}
use Rattle.words.specs.Moments.{moment_range}
use Rattle.listing.specs.Listing.{Listing, Routine, Call, Instruction, assign, schedule, branch, jump, wait, fork, end}
use Rattle.walk.specs.State.{Variable, Node, node, Forest, empty, more, ◌⊕◌, Frame, frame, go_to, next, Running, with_memory, with_left, with_live, with_woken, Turn, Result, stop, ok, ◌>>=◌}
use Rattle.walk.specs.Memory.{write_at, schedule_at, address_of, addresses_of, any_written, named_in, evaluate, bind_names, own_variables}

-- ── the listing's routines and instructions, by number ────────────────────────────────────────────
unfoldable pub no_routine : Routine
no_routine = record { kinds = []; locals = 0; code = [] }

unfoldable pub routine_at : Listing → ℕ → Routine
routine_at listing r = get_or listing.routines r no_routine

unfoldable pub instruction_at : Listing → ℕ → ℕ → Instruction
instruction_at listing r place = get_or (routine_at listing r).code place end

-- The instruction that a routine is at.
abbrev pub instruction_of : Listing → Frame → Instruction
instruction_of listing me = instruction_at listing me.routine me.place

-- ── new routines ──────────────────────────────────────────────────────────────────────────────────
-- What a child field of a caller with these names makes at `now`: a routine at its first instruction.
unfoldable pub new_routine : Listing → ℕ → List Variable → List ℕ → Call → Node
new_routine listing now memory names c =
    let called = routine_at listing c.callee in
    node c.callee 0 (bind_names called.kinds (addresses_of names c.arguments) called.locals (length memory))
    (own_variables now called.kinds c.arguments called.locals (named_in memory names)) empty

unfoldable pub new_routines : Listing → ℕ → List Variable → List ℕ → List Call → Forest
new_routines listing now memory names [] = empty
new_routines listing now memory names (c ∷ cs) = more (new_routine listing now memory names c) (new_routines listing now memory names cs)

unfoldable pub child_count : List Call → ℕ
child_count [] = 0
child_count (c ∷ cs) = suc (child_count cs)

-- ── entering and leaving a routine's own variables ────────────────────────────────────────────────
-- A routine's own variables come into reach.
unfoldable pub enter : List Variable → Running → Running
enter own s = with_memory s (s.memory ++ own)

-- The routine sleeps where it is, with these children; its own variables go with it.
unfoldable pub sleep : Frame → Forest → Running → Result Turn
sleep me children s =
    ok (record {
      running = with_memory s (take me.base s.memory);
      tree = more (node me.routine me.place me.names (drop me.base s.memory) children) empty;
    })

-- "At `E` the routine's own variables vanish with their waiting writes." Its room is free at once.
unfoldable pub leave : Frame → Running → Result Turn
leave me s = ok (record { running = with_live (with_memory s (take me.base s.memory)) (s.live - 1); tree = empty })

-- ── what an instruction makes of a routine that reaches it ────────────────────────────────────────
-- It goes on at an instruction, the variables in reach being these then; it sleeps; it forks; it ends; or a question stops the machine.
pub data Move : Type 0 where
  goes_to : ℕ → List Variable → Move
  sleeps : Move
  forks : List Call → Move
  ends : Move
  stops : ℕ → Move

-- "before each instruction, the first no stops the machine": the question's number, its answer, and the move if that is yes.
unfoldable pub asking : ℕ → Bool → Move → Move
asking k true m = m
asking k false m = stops k

-- Document 02: "Evaluating can now fail, and every instruction with an expression says so." "18: is every divisor other than 0?":
-- the move with the expression's value, if it has one.
unfoldable pub with_value : Option ℕ → (ℕ → Move) → Move
with_value none m = stops 18
with_value (some v) m = m v

-- "`U|e|k` goes to instruction k if e is 0."
unfoldable pub branch_place : Bool → ℕ → ℕ → ℕ
branch_place true k after = k
branch_place false k after = after

-- `now` is the instant's moment, `live` the number of live routines, `memory` the variables in reach.
module _ (now : ℕ) where
  unfoldable pub move : Instruction → Frame → ℕ → List Variable → Move
  -- 18 is "asked at `S` and `U` after 13, and at `A` before 16, delay first."
  move (assign n e) me live memory =
      with_value (evaluate now memory me.names e) (λ v. goes_to (suc me.place) (write_at now memory (address_of me.names n) v))
  -- "16 At `A`: is the delay at least 1? 17 At `A`: is the due moment below 2 to the 64?"
  move (schedule n d e) me live memory =
      with_value (evaluate now memory me.names d) (λ delay. with_value (evaluate now memory me.names e) (λ v.
      asking 16 (is_positive delay) (asking 17 (ltb (now + delay) moment_range)
      (goes_to (suc me.place) (schedule_at memory (address_of me.names n) (now + delay) v)))))
  move (branch e k) me live memory =
      with_value (evaluate now memory me.names e) (λ v. goes_to (branch_place (eqb v 0) k (suc me.place)) memory)
  move (jump k) me live memory = goes_to k memory
  -- "A wait reached now sleeps, even if its name was written earlier in this instant."
  move (wait ns) me live memory = sleeps
  -- "14 At `F`: live routines plus new children at most 64? 15 At `F`: is this routine's level at most 9?"
  move (fork cs) me live memory = asking 14 (leb (live + child_count cs) 64) (asking 15 (leb me.level 9) (forks cs))
  move end me live memory = ends

-- ── a routine's run ───────────────────────────────────────────────────────────────────────────────
abbrev pub Runner : Type 0
Runner = Frame → Running → Result Turn

-- Each routine of a forest in turn.
unfoldable pub in_turn : (Node → Running → Result Turn) → Forest → Running → Result Turn
in_turn f empty s = ok (record { running = s; tree = empty })
in_turn f (more n ns) s =
    f n s >>= λ (a : Turn). in_turn f ns a.running >>= λ (b : Turn). ok (record { running = b.running; tree = a.tree ⊕ b.tree })

-- A new routine runs.
unfoldable pub begin : Runner → ℕ → Node → Running → Result Turn
begin go level (node r place names own children) s = go (frame level r place names (length s.memory)) (enter own s)

-- "once none is left the parent goes on in the same instant"
unfoldable pub join : Runner → Frame → Forest → Running → Result Turn
join go me empty s = go (next me) s
join go me (more n ns) s = sleep me (more n ns) s

-- "13 Is a step left?" "each instruction reached counts one"
unfoldable pub step : (Running → Result Turn) → ℕ → Running → Result Turn
step f zero s = stop 13
step f (suc k) s = f (with_left s k)

-- "waking counts none": the wait is passed, without a step.
unfoldable pub passed_wait : Running → Running
passed_wait s = with_woken s (suc s.woken)

module _ (listing : Listing) (now : ℕ) where
  -- A move carried out; `go` is the rest of the run.
  -- "At `F` all children exist and all `v` values are copied before the first child runs."
  unfoldable pub carry_out : Runner → Move → Runner
  carry_out go (goes_to k memory) me s = go (go_to me k) (with_memory s memory)
  carry_out go sleeps me s = sleep me empty s
  carry_out go (forks cs) me s =
      in_turn (begin go (suc me.level)) (new_routines listing now s.memory me.names cs) (with_live s (s.live + child_count cs))
      >>= λ (a : Turn). join go me a.tree a.running
  carry_out go ends me s = leave me s
  carry_out go (stops k) me s = stop k

  -- One instruction.
  unfoldable pub execute : Runner → Instruction → Runner
  execute go i me s = carry_out go (move now i me s.live s.memory) me s

  -- "A running routine goes until `W`, `F` or `E`." The first argument bounds the recursion; the steps left serve,
  -- since each instruction takes one.
  unfoldable pub run : ℕ → Runner
  run zero me s = stop 13
  run (suc bound) me s = step (λ (u : Running). execute (run bound) (instruction_of listing me) me u) s.left s

  -- "A routine at `W` goes on if a name of that wait has been written in this instant before its turn; otherwise it stays."
  unfoldable pub wake : Bool → Runner
  wake true me s = run s.left (next me) (passed_wait s)
  wake false me s = sleep me empty s

  -- A routine's own turn, its live children visited already.
  -- No state of the walk has a routine at any other instruction (question 7).
  unfoldable pub resume : Instruction → Frame → Forest → Running → Result Turn
  resume (wait ns) me children s = wake (any_written s.memory me.names ns) me s
  resume (fork cs) me children s = join (run s.left) me children s
  resume (assign n e) me children s = stop 0
  resume (schedule n d e) me children s = stop 0
  resume (branch e k) me children s = stop 0
  resume (jump k) me children s = stop 0
  resume end me children s = stop 0

  -- "The tree is visited from main." "At `F`, the live children are visited in order".
  unfoldable mutual
    pub visit : Node → ℕ → Running → Result Turn
    visit (node r place names own children) level s =
        visit_forest children (suc level) (enter own s)
        >>= λ (a : Turn). resume (instruction_at listing r place) (frame level r place names (length s.memory)) a.tree a.running

    pub visit_forest : Forest → ℕ → Running → Result Turn
    visit_forest empty level s = ok (record { running = s; tree = empty })
    visit_forest (more n ns) level s =
        visit n level s >>= λ (a : Turn).
        visit_forest ns level a.running >>= λ (b : Turn). ok (record { running = b.running; tree = a.tree ⊕ b.tree })
