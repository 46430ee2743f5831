-- The live routines as a list of records in walking order, the test of such a list, and the tree it stands for.
-- Walking order: a parent before its children, children in the order of their `F`.
use Rattle.std.specs.Prelude.{Bool, true, false, ◌&&◌, not, List, [], ◌∷◌, ◌++◌, ℕ, suc, ◌+◌, ◌-◌, ltb, leb, eqb, length, drop, get_or}
use Rattle.listing.specs.Listing.{Listing, Call, Instruction, assign, schedule, branch, jump, wait, fork, end}
use Rattle.walk.specs.State.{Variable, Node, node, Forest, empty, more, State}
use Rattle.walk.specs.Walk.{instruction_at}
use Rattle.walk.specs.Instant.{environment_names, main_call}
use Rattle.walk.specs.Question7.{Asleep, waits, joins, LiveChildren, no_more, ended, lives, all_at_rest, owned_by, bound_names}

-- A record: the routine's level, the number of the child field that made it, the instruction it is at, its own variables.
-- Its number and its names are not kept: the parent's `F` and the child field determine them.
pub record Record : Type 0 where
  pub level : ℕ
  pub child : ℕ
  pub place : ℕ
  pub own : List Variable

-- ── the records of a tree that meets question 7's condition; the first child field is numbered i ──
module _ {listing : Listing} {rest : List Variable → Bool} where
  unfoldable mutual
    pub records_of_node : {level base : ℕ} {callerNames : List ℕ} {c : Call} {n : Node} → Asleep listing rest level base callerNames c n → ℕ → List Record
    records_of_node (waits {level = level} {place = place} {own = own} m e) i = record { level = level; child = i; place = place; own = own } ∷ []
    records_of_node (joins {level = level} {place = place} {own = own} m e d a k) i =
        record { level = level; child = i; place = place; own = own } ∷ records_of k 0

    pub records_of : {level base : ℕ} {names : List ℕ} {cs : List Call} {f : Forest} → LiveChildren listing rest level base names cs f → ℕ → List Record
    records_of no_more i = []
    records_of (ended k) i = records_of k (suc i)
    records_of (lives a k) i = records_of_node a i ++ records_of k (suc i)

-- ── the test of a list of records ─────────────────────────────────────────────────────────────────
-- The child fields of which children may still come, and the number of the first of them.
pub record Frame : Type 0 where
  pub next : ℕ
  pub calls : List Call

-- The rest of a scan: `childNext` says that the record before is at an `F`, so that a child of it comes next;
-- the frames stand innermost first.
abbrev pub Scan : Type 0
Scan = Bool → List Frame → Bool

-- With as many frames, may a record of this level come?
unfoldable pub level_fits : Bool → ℕ → ℕ → Bool
level_fits true level frames = eqb (suc level) frames
level_fits false level frames = ltb level frames

module _ (listing : Listing) (now : ℕ) where
  -- "each asleep at a `W` or at an `F` of which a child lives", "to level 10"
  unfoldable pub asleep_at : Instruction → ℕ → Scan → List Frame → Bool
  asleep_at (assign n e) level go frames = false
  asleep_at (schedule n d e) level go frames = false
  asleep_at (branch e k) level go frames = false
  asleep_at (jump k) level go frames = false
  asleep_at (wait ns) level go frames = go false frames
  asleep_at (fork cs) level go frames = leb level 9 && go true (record { next = 0; calls = cs } ∷ frames)
  asleep_at end level go frames = false

  -- The record is what the first of these child fields makes.
  unfoldable pub made_by_first : Record → Scan → List Call → List Frame → Bool
  made_by_first x go [] outer = false
  made_by_first x go (c ∷ cs) outer =
      eqb (length x.own) (owned_by listing c.callee) && (all_at_rest now x.own &&
      asleep_at (instruction_at listing c.callee x.place) x.level go (record { next = suc x.child; calls = cs } ∷ outer))

  -- The record is a child of the innermost frame.
  unfoldable pub child_of_frame : Record → Scan → List Frame → Bool
  child_of_frame x go [] = false
  child_of_frame x go (f ∷ outer) = leb f.next x.child && made_by_first x go (drop (x.child - f.next) f.calls) outer

  unfoldable pub scan : List Record → Scan
  scan [] childNext frames = not childNext
  scan (x ∷ xs) childNext frames =
      level_fits childNext x.level (length frames) && child_of_frame x (scan xs) (drop (length frames - suc x.level) frames)

-- Main is the only child of the environment.
unfoldable pub main_frame : Listing → Frame
main_frame listing = record { next = 0; calls = main_call listing ∷ [] }

unfoldable pub records_pass : Listing → ℕ → List Record → Bool
records_pass listing now xs = scan listing now xs false (main_frame listing ∷ [])

-- ── the tree that a list of records stands for ────────────────────────────────────────────────────
unfoldable pub no_call_lem : Call
no_call_lem = record { callee = 0; arguments = [] }

unfoldable pub calls_of : Instruction → List Call
calls_of (assign n e) = []
calls_of (schedule n d e) = []
calls_of (branch e k) = []
calls_of (jump k) = []
calls_of (wait ns) = []
calls_of (fork cs) = cs
calls_of end = []

-- A record deeper than the level read is passed over, one of that level is the next child, any other stands further up.
unfoldable pub grown : Bool → Bool → Forest → Node → Forest
grown true same f n = f
grown false true f n = more n f
grown false false f n = empty

module _ (listing : Listing) where
  -- The children at a level of a routine with these names and child fields; names come from the child fields.
  unfoldable pub forest_from : List Record → ℕ → ℕ → List ℕ → List Call → Forest
  forest_from [] level base names cs = empty
  forest_from (x ∷ xs) level base names cs =
      let c = get_or cs x.child no_call_lem in
      let bound = bound_names listing base names c in
      grown (ltb level x.level) (eqb level x.level) (forest_from xs level base names cs)
      (node c.callee x.place bound x.own
      (forest_from xs (suc level) (base + length x.own) bound (calls_of (instruction_at listing c.callee x.place))))

-- The state with this present moment, environment and records.
unfoldable pub state_from : Listing → ℕ → List Variable → List Record → State
state_from listing now environment xs = record {
  now = now;
  environment = environment;
  tree = forest_from listing xs 0 (length environment) (environment_names listing) (main_call listing ∷ []);
}
