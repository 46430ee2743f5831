-- The beginning of a call: the rows of the live routines, of which level, child field, place and own variables are kept between calls,
-- are filled in by one pass in walking order. A routine's parent is the last slot seen one level up; its `F` gives the rest.
use Rattle.std.specs.Prelude.{Bool, true, false, List, [], ◌∷◌, ◌++◌, ℕ, zero, suc, eqb, get_or}
use Rattle.listing.specs.Listing.{Listing, Routine, Call, Instruction, assign, schedule, branch, jump, wait, fork, end}
use Rattle.walk.specs.State.{Variable, Node, Forest}
use Rattle.walk.specs.Walk.{instruction_at, child_count}
use Rattle.walk.specs.Instant.{main_call}
use Rattle.walk.specs.Question7.{Asleep, waits, joins, LiveChildren, no_more, ended, lives}
use Rattle.engine_rows.specs.Rows.{Row, Rows, with_row, with_children}
use Rattle.engine_rows.specs.Engine.{Caller, caller_at, row_under}
use Rattle.engine_rows.specs.Beginning.{environment_caller}

unfoldable pub is_wait : Instruction → Bool
is_wait (wait ns) = true
is_wait (assign n e) = false
is_wait (schedule n d e) = false
is_wait (branch e k) = false
is_wait (jump k) = false
is_wait (fork cs) = false
is_wait end = false

-- The child fields of an instruction.
unfoldable pub calls_of : Instruction → List Call
calls_of (fork cs) = cs
calls_of (assign n e) = []
calls_of (schedule n d e) = []
calls_of (branch e k) = []
calls_of (jump k) = []
calls_of (wait ns) = []
calls_of end = []

unfoldable pub no_call_lem : Call
no_call_lem = record { callee = 0; arguments = [] }

-- The slot seen last, by level.
unfoldable pub choose_slot : Bool → ℕ → ℕ → ℕ
choose_slot true s other = s
choose_slot false s other = other

unfoldable pub seen : (ℕ → ℕ) → ℕ → ℕ → ℕ → ℕ
seen latest level s n = choose_slot (eqb n level) s (latest n)

module _ (listing : Listing) where
  unfoldable pub calls_at : Row → List Call
  calls_at r = calls_of (instruction_at listing r.routine r.place)

  -- The kept row x of slot s, filled in: it was made by child field c of this caller.
  unfoldable pub filled_row_lem : Caller → Call → Row → ℕ → Row
  filled_row_lem caller c x s =
      row_under listing caller c x.child s (is_wait (instruction_at listing c.callee x.place)) x.place x.own

  -- Main's caller is the environment; any other's is the routine in the slot p seen last one level up, which has one live child more.
  unfoldable pub filled_at : Rows → List Variable → (ℕ → ℕ) → ℕ → ℕ → Rows
  filled_at rows environment latest zero s = with_row rows s (filled_row_lem (environment_caller listing environment) (main_call listing) (rows s) s)
  filled_at rows environment latest (suc level) s =
      let p = latest level in
      let cs = calls_at (rows p) in
      let counted = with_row rows p (with_children (rows p) (suc (rows p).children)) in
      with_row counted s (filled_row_lem (caller_at rows environment p (child_count cs)) (get_or cs (rows s).child no_call_lem) (rows s) s)

  -- The slots in walking order, one after the other.
  unfoldable pub filled_rows : Rows → List Variable → (ℕ → ℕ) → List ℕ → Rows
  filled_rows rows environment latest [] = rows
  filled_rows rows environment latest (s ∷ ss) =
      filled_rows (filled_at rows environment latest (rows s).level s) environment (seen latest (rows s).level s) ss

-- ── what is kept between calls ────────────────────────────────────────────────────────────────────
pub record Kept : Type 0 where
  pub level : ℕ
  pub child : ℕ
  pub place : ℕ
  pub own : List Variable

unfoldable pub kept_of_row : Row → Kept
kept_of_row r = record { level = r.level; child = r.child; place = r.place; own = r.own }

unfoldable pub kept_in : Rows → List ℕ → List Kept
kept_in rows [] = []
kept_in rows (s ∷ ss) = kept_of_row (rows s) ∷ kept_in rows ss

-- What is kept of a tree that meets question 7's condition, in walking order; the first child field is numbered i.
module _ {listing : Listing} {rest : List Variable → Bool} where
  unfoldable mutual
    pub kept_of_node : {level base : ℕ} {callerNames : List ℕ} {c : Call} {n : Node} → Asleep listing rest level base callerNames c n → ℕ → List Kept
    kept_of_node (waits {level = level} {place = place} {own = own} m e) i = record { level = level; child = i; place = place; own = own } ∷ []
    kept_of_node (joins {level = level} {place = place} {own = own} m e l a d) i = record {
      level = level;
      child = i;
      place = place;
      own = own;
    } ∷ kept_of d 0

    pub kept_of : {level base : ℕ} {names : List ℕ} {cs : List Call} {f : Forest} → LiveChildren listing rest level base names cs f → ℕ → List Kept
    kept_of no_more i = []
    kept_of (ended d) i = kept_of d (suc i)
    kept_of (lives a d) i = kept_of_node a i ++ kept_of d (suc i)
