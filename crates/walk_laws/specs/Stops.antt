-- Why an instant stops: the instructions that the walk reaches, and the questions 13 to 18 that are put before each of them.
-- What a part of the instant did that is over is told by the walk's own functions.
-- Letters as in the walk: `me` is the routine's frame, s what is running, k a question's number, cs child fields.
use Rattle.std.specs.Prelude.{◌≡◌, true, false, List, [], ℕ, suc, ◌+◌, ◌-◌, ◌≤◌, ◌<◌, length}
use Rattle.std.proofs.Math.Option.{some}
use Rattle.words.specs.Words.{is_positive}
use Rattle.words.specs.Moments.{moment_range}
use Rattle.listing.specs.Listing.{Listing, Piece, Call, Instruction, assign, schedule, branch, wait, fork}
use Rattle.walk.specs.State.{Variable, Node, node, Forest, empty, more, State, Running, Turn, ok, with_left, with_live, Frame, go_to, next, frame, with_memory}
use Rattle.walk.specs.Memory.{any_written, named_in, evaluate}
use Rattle.walk.specs.Walk.{instruction_at, instruction_of, new_routines, child_count, enter, goes_to, move, Runner, in_turn, begin, run, passed_wait, visit, visit_forest}
use Rattle.walk.specs.Instant.{due_in_forest, Write, new_main, at_start, at_instant}
use Rattle.walk_laws.specs.Division.{MeetsZero}

-- ── "before each instruction, the first no stops the machine" ─────────────────────────────────────
-- Some divisor met in an expression of the routine `me` is 0.
abbrev pub DividesByZero : ℕ → Frame → Running → List Piece → Type 0
DividesByZero now me s e = MeetsZero now (named_in s.memory me.names) [] e

-- `FirstNo now k me s i`: at instruction i, reached at moment `now` by the routine `me`, question k is the first whose answer is no.
-- (`live` is the true number of live routines: specs LiveCount.)
pub data FirstNo (now : ℕ) : ℕ → Frame → Running → Instruction → Type 0 where
  -- "13 Is a step left?"
  no_step : {me : Frame} {s : Running} {i : Instruction} → s.left ≡ 0 → FirstNo now 13 me s i
  -- "14 At `F`: live routines plus new children at most 64?"
  no_room : {me : Frame} {s : Running} {cs : List Call} → 1 ≤ s.left → 64 < s.live + child_count cs → FirstNo now 14 me s (fork cs)
  -- "15 At `F`: is this routine's level at most 9?"
  too_deep : {me : Frame} {s : Running} {cs : List Call} → 1 ≤ s.left → s.live + child_count cs ≤ 64 → 9 < me.level → FirstNo now 15 me s (fork cs)
  -- "18: is every divisor other than 0? Asked at `S` and `U` after 13, and at `A` before 16, delay first."
  zero_in_value : {me : Frame} {s : Running} {n : ℕ} {e : List Piece} → 1 ≤ s.left → DividesByZero now me s e → FirstNo now 18 me s (assign n e)
  zero_in_condition : {me : Frame} {s : Running} {e : List Piece} {k : ℕ} → 1 ≤ s.left → DividesByZero now me s e → FirstNo now 18 me s (branch e k)
  zero_in_delay : {me : Frame} {s : Running} {n : ℕ} {d e : List Piece} → 1 ≤ s.left → DividesByZero now me s d → FirstNo now 18 me s (schedule n d e)
  zero_in_later_value : {me : Frame} {s : Running} {n delay : ℕ} {d e : List Piece} → 1 ≤ s.left → evaluate now s.memory me.names d ≡ some delay →
      DividesByZero now me s e → FirstNo now 18 me s (schedule n d e)
  -- "16 At `A`: is the delay at least 1?"
  no_delay : {me : Frame} {s : Running} {n delay v : ℕ} {d e : List Piece} → 1 ≤ s.left →
      evaluate now s.memory me.names d ≡ some delay → evaluate now s.memory me.names e ≡ some v →
      is_positive delay ≡ false → FirstNo now 16 me s (schedule n d e)
  -- "17 At `A`: is the due moment below 2 to the 64?"
  too_late : {me : Frame} {s : Running} {n delay v : ℕ} {d e : List Piece} → 1 ≤ s.left →
      evaluate now s.memory me.names d ≡ some delay → evaluate now s.memory me.names e ≡ some v →
      is_positive delay ≡ true → moment_range ≤ now + delay → FirstNo now 17 me s (schedule n d e)

-- ── the instructions reached ──────────────────────────────────────────────────────────────────────
-- "each instruction reached counts one"
abbrev pub step_taken : Running → Running
step_taken s = with_left s (s.left - 1)

-- A step is taken, and the new children live.
abbrev pub forked : List Call → Running → Running
forked cs s = with_live (step_taken s) (s.live + child_count cs)

-- A routine's run: the steps left bound its recursion.
abbrev pub full_run : Listing → ℕ → Runner
full_run listing now me s = run listing now s.left me s

-- The routine is at an `F` of which 13, 14 and 15 are answered with yes.
pub record Forks (listing : Listing) (me : Frame) (s : Running) (cs : List Call) : Type 0 where
  pub at : instruction_of listing me ≡ fork cs
  pub step : 1 ≤ s.left
  pub room : s.live + child_count cs ≤ 64
  pub shallow : me.level ≤ 9

-- Q says something of an instruction reached, with the routine and what is running.
module _ (listing : Listing) (now : ℕ) (Q : Frame → Running → Instruction → Type 0) where
  mutual
    -- The run of a routine reaches an instruction of which Q holds:
    pub data RunReaches : Frame → Running → Type 0 where
      -- the one that it is at;
      here : {me : Frame} {s : Running} → Q me s (instruction_of listing me) → RunReaches me s
      -- one further on, if a step is left and this instruction leads there;
      onward : {me : Frame} {s : Running} {k : ℕ} {memory : List Variable} → 1 ≤ s.left →
          move now (instruction_of listing me) me s.live s.memory ≡ goes_to k memory →
          RunReaches (go_to me k) (with_memory (step_taken s) memory) → RunReaches me s
      -- one reached by a child of this `F`;
      in_child : {me : Frame} {s : Running} {cs : List Call} → Forks listing me s cs →
          NewReach (suc me.level) (new_routines listing now s.memory me.names cs) (forked cs s) → RunReaches me s
      -- one after this `F`, if all its children end at once.
      after_children : {me : Frame} {s : Running} {cs : List Call} {a : Turn} → Forks listing me s cs →
          in_turn (begin (full_run listing now) (suc me.level)) (new_routines listing now s.memory me.names cs) (forked cs s) ≡ ok a →
          a.tree ≡ empty → RunReaches (next me) a.running → RunReaches me s

    -- One of these new routines, which run in turn, does.
    pub data NewReach : ℕ → Forest → Running → Type 0 where
      first : {level r place : ℕ} {names : List ℕ} {own : List Variable} {children ns : Forest} {s : Running} →
          RunReaches (frame level r place names (length s.memory)) (enter own s) → NewReach level (more (node r place names own children) ns) s
      later : {level : ℕ} {n : Node} {ns : Forest} {s : Running} {a : Turn} → begin (full_run listing now) level n s ≡ ok a →
          NewReach level ns a.running → NewReach level (more n ns) s

  mutual
    -- The visit of a sleeping routine does: below it, or when it goes on from its `W` or its `F`.
    pub data VisitReaches : Node → ℕ → Running → Type 0 where
      in_children : {r place : ℕ} {names : List ℕ} {own : List Variable} {children : Forest} {level : ℕ} {s : Running} →
          ForestReaches children (suc level) (enter own s) → VisitReaches (node r place names own children) level s
      woken : {r place : ℕ} {names : List ℕ} {own : List Variable} {children : Forest} {level : ℕ} {s : Running} {a : Turn} {ns : List ℕ} →
          visit_forest listing now children (suc level) (enter own s) ≡ ok a → instruction_at listing r place ≡ wait ns →
          any_written a.running.memory names ns ≡ true →
          RunReaches (frame level r (suc place) names (length s.memory)) (passed_wait a.running) →
          VisitReaches (node r place names own children) level s
      joined : {r place : ℕ} {names : List ℕ} {own : List Variable} {children : Forest} {level : ℕ} {s : Running} {a : Turn} {cs : List Call} →
          visit_forest listing now children (suc level) (enter own s) ≡ ok a → instruction_at listing r place ≡ fork cs → a.tree ≡ empty →
          RunReaches (frame level r (suc place) names (length s.memory)) a.running → VisitReaches (node r place names own children) level s

    -- The visit of these routines in turn does.
    pub data ForestReaches : Forest → ℕ → Running → Type 0 where
      first_visited : {n : Node} {ns : Forest} {level : ℕ} {s : Running} → VisitReaches n level s → ForestReaches (more n ns) level s
      later_visited : {n : Node} {ns : Forest} {level : ℕ} {s : Running} {a : Turn} → visit listing now n level s ≡ ok a →
          ForestReaches ns level a.running → ForestReaches (more n ns) level s

-- ── the cause of a stop ───────────────────────────────────────────────────────────────────────────
-- "The start is the instant 0, with main newly called and no inputs": it reaches an instruction at which question k is the first no.
abbrev pub StartStops : Listing → ℕ → ℕ → Type 0
StartStops listing allowance k = NewReach listing 0 (FirstNo 0 k) 0 (more (new_main listing) empty) (at_start listing allowance)

-- An instant at t does, after the due writes and the inputs.
abbrev pub InstantStops : Listing → State → ℕ → List Write → ℕ → ℕ → Type 0
InstantStops listing s t inputs allowance k = ForestReaches listing t (FirstNo t k) (due_in_forest s.tree t) 0 (at_instant s t inputs allowance)
