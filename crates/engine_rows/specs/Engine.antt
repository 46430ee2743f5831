-- The queue engine on rows: one instruction of the running routine, and the run with its steps left.
-- Letters: `me` the slot of the routine that runs, `left` the steps left, `live` the number of live routines, `woken` the waits passed.
use Rattle.std.specs.Prelude.{Bool, true, false, List, [], ◌∷◌, ◌++◌, ℕ, zero, suc, ◌+◌, ◌*◌, ◌-◌, ◌^◌, eqb, ltb, leb, length}
use Rattle.std.proofs.Math.Option.{Option, none, some}
use Rattle.words.specs.Words.{is_positive}
use Rattle.words.specs.Moments.{moment_range}
use Rattle.listing.specs.Listing.{Listing, Call, Kind, by_reference, by_value, Instruction, assign, schedule, branch, jump, wait, fork, end}
use Rattle.walk.specs.State.{Variable, written_to, scheduled_on}
use Rattle.walk.specs.Walk.{routine_at, instruction_at, child_count, branch_place}
use Rattle.engine_rows.specs.Rows.{Owner, in_slot, Row, Rows, free_row, with_row, at_place, with_children, variable_of, rows_with, environment_with, owner_of, named}
use Rattle.engine_rows.specs.Ready.{insert_all_lem}
use Rattle.engine_rows.specs.Triggers.{triggered}
use Rattle.engine_fork_bits.specs.ForkBits.{fork_bits}
use Rattle.walk.specs.Memory.{evaluate_by, own_variables}

-- Stopped under a number; or ended, with rows, environment, steps left, live routines and waits passed.
pub data RowsResult : Type 0 where
  halts : ℕ → RowsResult
  ends : Rows → List Variable → ℕ → ℕ → ℕ → RowsResult

-- The rest of a run: rows, environment, ready list, live routines, waits passed, the slot that runs.
abbrev pub RowsRunner : Type 0
RowsRunner = Rows → List Variable → List ℕ → ℕ → ℕ → ℕ → RowsResult

-- ── the next that is ready ────────────────────────────────────────────────────────────────────────
-- A sleeper goes on after its wait, a new routine begins where it is.
unfoldable pub first_place : Bool → ℕ → ℕ
first_place true place = suc place
first_place false place = place

unfoldable pub count_if : Bool → ℕ → ℕ
count_if true n = suc n
count_if false n = n

unfoldable pub next_ready : RowsRunner → ℕ → Rows → List Variable → List ℕ → ℕ → ℕ → RowsResult
next_ready go left rows environment [] live woken = ends rows environment left live woken
next_ready go left rows environment (s ∷ ss) live woken =
    go (with_row rows s (at_place (rows s) (first_place (rows s).asleep (rows s).place))) environment ss live (count_if (rows s).asleep woken) s

unfoldable pub or_halt : Bool → ℕ → RowsResult → RowsResult
or_halt true k next = next
or_halt false k next = halts k

-- Document 02: "18: is every divisor other than 0?": the rest with the expression's value, if it has one.
unfoldable pub value_or_halt : Option ℕ → (ℕ → RowsResult) → RowsResult
value_or_halt none next = halts 18
value_or_halt (some v) next = next v

-- ── `E` ───────────────────────────────────────────────────────────────────────────────────────────
-- The routine's row is free already; `p` is the parent's slot. The last child's end lets the parent go on at once.
unfoldable pub join_rows : Bool → RowsRunner → ℕ → Rows → List Variable → List ℕ → ℕ → ℕ → ℕ → RowsResult
join_rows true go left rows environment ready live woken p =
    go (with_row rows p (at_place (with_children (rows p) 0) (suc (rows p).place))) environment ready live woken p
join_rows false go left rows environment ready live woken p =
    next_ready go left (with_row rows p (with_children (rows p) ((rows p).children - 1))) environment ready live woken

-- Main's end ends the instant.
unfoldable pub end_rows : Bool → RowsRunner → ℕ → Rows → List Variable → List ℕ → ℕ → ℕ → ℕ → RowsResult
end_rows true go left rows environment ready live woken p = ends rows environment left live woken
end_rows false go left rows environment ready live woken p = join_rows (eqb (rows p).children 1) go left rows environment ready live woken p

-- ── `F` ───────────────────────────────────────────────────────────────────────────────────────────
-- The lowest free slot of the last n.
unfoldable pub free_else : Bool → ℕ → ℕ → ℕ
free_else true s later = later
free_else false s later = s

unfoldable pub free_slot : Rows → ℕ → ℕ
free_slot rows zero = 0
free_slot rows (suc n) = free_else (rows (63 - n)).used (63 - n) (free_slot rows n)

-- k of slot s's own variables, from the i-th on
unfoldable pub own_bindings : ℕ → ℕ → ℕ → List Owner
own_bindings zero s i = []
own_bindings (suc k) s i = in_slot s i ∷ own_bindings k s (suc i)

-- The bindings of a child in slot s from its caller's; i: the next of its own variables.
unfoldable pub child_bindings : List Kind → List ℕ → ℕ → List Owner → ℕ → ℕ → List Owner
child_bindings [] arguments locals caller s i = own_bindings locals s i
child_bindings (by_reference ∷ ks) [] locals caller s i = []
child_bindings (by_reference ∷ ks) (n ∷ arguments) locals caller s i = owner_of caller n ∷ child_bindings ks arguments locals caller s i
child_bindings (by_value ∷ ks) [] locals caller s i = []
child_bindings (by_value ∷ ks) (n ∷ arguments) locals caller s i = in_slot s i ∷ child_bindings ks arguments locals caller s (suc i)

-- What a new routine takes from its caller: the caller's slot, the new routine's level and first own address, the lowest priority
-- and the bits of the children, the caller's bindings and what its names stand for.
pub record Caller : Type 0 where
  pub slot : ℕ
  pub level : ℕ
  pub base : ℕ
  pub low : ℕ
  pub bits : ℕ
  pub bindings : List Owner
  pub name : ℕ → Variable

-- The routine in slot `me` as the caller of n children: "divides its priority range by the fewest bits that number n children", which stand in a table.
unfoldable pub caller_at : Rows → List Variable → ℕ → ℕ → Caller
caller_at rows environment me n =
    let r = rows me in
    record {
      slot = me;
      level = suc r.level;
      base = r.base + length r.own;
      low = r.low;
      bits = r.bits - fork_bits n;
      bindings = r.bindings;
      name = named rows environment r.bindings;
    }

-- The row of child number i of a caller, made by child field c, in slot s: asleep or not, at this place, with these variables.
abbrev pub row_under : Listing → Caller → Call → ℕ → ℕ → Bool → ℕ → List Variable → Row
row_under listing caller c i s asleep place own =
    let called = routine_at listing c.callee in
    record {
      used = true;
      asleep = asleep;
      level = caller.level;
      parent = caller.slot;
      child = i;
      base = caller.base;
      children = 0;
      low = caller.low + i * 2 ^ caller.bits;
      bits = caller.bits;
      routine = c.callee;
      place = place;
      bindings = child_bindings called.kinds c.arguments called.locals caller.bindings s 0;
      own = own;
    }

module _ (listing : Listing) (now : ℕ) where
  -- The whole row of the routine that child field c, number i, makes in slot s at `now`.
  unfoldable pub child_row : Caller → Call → ℕ → ℕ → Row
  child_row caller c i s =
      let called = routine_at listing c.callee in
      row_under listing caller c i s false 0 (own_variables now called.kinds c.arguments called.locals caller.name)

  -- The rows with one new child of `me`, one of n, in the lowest free slot.
  unfoldable pub rows_with_child : Rows → List Variable → ℕ → ℕ → Call → ℕ → Rows
  rows_with_child rows environment me n c i = with_row rows (free_slot rows 64) (child_row (caller_at rows environment me n) c i (free_slot rows 64))

  -- The rows with the new children, field number i first; and their slots, in order.
  unfoldable pub rows_with_new : Rows → List Variable → ℕ → ℕ → List Call → ℕ → Rows
  rows_with_new rows environment me n [] i = rows
  rows_with_new rows environment me n (c ∷ cs) i = rows_with_new (rows_with_child rows environment me n c i) environment me n cs (suc i)

  unfoldable pub new_slots : Rows → List Variable → ℕ → ℕ → List Call → ℕ → List ℕ
  new_slots rows environment me n [] i = []
  new_slots rows environment me n (c ∷ cs) i = free_slot rows 64 ∷ new_slots (rows_with_child rows environment me n c i) environment me n cs (suc i)

  -- The children come first in the ready list: all their priorities are the parent's.
  unfoldable pub fork_rows : RowsRunner → ℕ → Rows → List Variable → List ℕ → ℕ → ℕ → ℕ → List Call → RowsResult
  fork_rows go left rows environment ready live woken me cs =
      let counted = with_row rows me (with_children (rows me) (child_count cs)) in
      next_ready go left (rows_with_new counted environment me (child_count cs) cs 0) environment
      (new_slots counted environment me (child_count cs) cs 0 ++ ready) (live + child_count cs) woken

  -- ── one instruction, and the run ────────────────────────────────────────────────────────────────
  -- `now` is the instant's moment, `triggers` its trigger lists.
  module _ (triggers : Owner → List ℕ) where
    unfoldable pub execute_rows : RowsRunner → ℕ → Instruction → Rows → List Variable → List ℕ → ℕ → ℕ → ℕ → RowsResult
    execute_rows go left (assign n e) rows environment ready live woken me =
        let r = rows me in
        let o = owner_of r.bindings n in
        value_or_halt (evaluate_by now (named rows environment r.bindings) e) (λ v.
        let x = written_to now (variable_of rows environment o) v in
        go (with_row (rows_with rows o x) me (at_place (rows_with rows o x me) (suc r.place))) (environment_with o environment x)
        (insert_all_lem rows (triggered rows r.low (triggers o)) ready) live woken me)
    execute_rows go left (schedule n d e) rows environment ready live woken me =
        let r = rows me in
        let o = owner_of r.bindings n in
        value_or_halt (evaluate_by now (named rows environment r.bindings) d) (λ delay.
        value_or_halt (evaluate_by now (named rows environment r.bindings) e) (λ v.
        let x = scheduled_on (variable_of rows environment o) (now + delay) v in
        or_halt (is_positive delay) 16 (or_halt (ltb (now + delay) moment_range) 17
        (go (with_row (rows_with rows o x) me (at_place (rows_with rows o x me) (suc r.place))) (environment_with o environment x) ready live woken me))))
    execute_rows go left (branch e k) rows environment ready live woken me =
        let r = rows me in
        value_or_halt (evaluate_by now (named rows environment r.bindings) e) (λ v.
        go (with_row rows me (at_place r (branch_place (eqb v 0) k (suc r.place)))) environment ready live woken me)
    execute_rows go left (jump k) rows environment ready live woken me = go (with_row rows me (at_place (rows me) k)) environment ready live woken me
    execute_rows go left (wait ns) rows environment ready live woken me = next_ready go left rows environment ready live woken
    execute_rows go left (fork cs) rows environment ready live woken me =
        or_halt (leb (live + child_count cs) 64) 14 (or_halt (leb (rows me).level 9) 15 (fork_rows go left rows environment ready live woken me cs))
    execute_rows go left end rows environment ready live woken me =
        end_rows (eqb (rows me).level 0) go left (with_row rows me free_row) environment ready (live - 1) woken (rows me).parent

    -- The run from the routine at slot `me`, with so many steps left.
    unfoldable pub run_rows : ℕ → RowsRunner
    run_rows zero rows environment ready live woken me = halts 13
    run_rows (suc left) rows environment ready live woken me =
        execute_rows (run_rows left) left (instruction_at listing (rows me).routine (rows me).place) rows environment ready live woken me
