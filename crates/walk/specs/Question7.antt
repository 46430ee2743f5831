-- Question 7's condition, said of the walk's states: "one state of the walk on this table".
use Rattle.std.specs.Prelude.{◌≡◌, Bool, true, false, ◌&&◌, not, List, [], ◌∷◌, ℕ, suc, ◌+◌, ◌<◌, ◌≤◌, ltb, length}
use Rattle.words.specs.Moments.{moment_range}
use Rattle.listing.specs.Listing.{Listing, Kind, by_reference, by_value, Call, wait, fork}
use Rattle.walk.specs.State.{Waiting, idle, due, Variable, Node, node, Forest, empty, more, live_in_forest, State}
use Rattle.walk.specs.Memory.{addresses_of, bind_names}
use Rattle.walk.specs.Walk.{routine_at, instruction_at}
use Rattle.walk.specs.Instant.{environment_size, environment_names, main_call}

-- ── variables between instants ────────────────────────────────────────────────────────────────────
-- "waiting writes due after the present moment"; a moment has 64 bits, a value 32.
unfoldable pub due_after : ℕ → Waiting → Bool
due_after now idle = true
due_after now (due t v) = ltb now t && (ltb t moment_range && ltb v 4294967296)

-- No mark of an earlier instant is left.
unfoldable pub at_rest : ℕ → Variable → Bool
at_rest now x = ltb x.value 4294967296 && (not x.written && due_after now x.waiting)

unfoldable pub all_at_rest : ℕ → List Variable → Bool
all_at_rest now [] = true
all_at_rest now (x ∷ xs) = at_rest now x && all_at_rest now xs

-- ── what an `F` binds ─────────────────────────────────────────────────────────────────────────────
-- The number of variables that a routine owns: one for each argument by value, and its locals.
unfoldable pub owned_count : List Kind → ℕ → ℕ
owned_count [] locals = locals
owned_count (by_reference ∷ ks) locals = owned_count ks locals
owned_count (by_value ∷ ks) locals = suc (owned_count ks locals)

unfoldable pub owned_by : Listing → ℕ → ℕ
owned_by listing r = owned_count (routine_at listing r).kinds (routine_at listing r).locals

-- The names of the routine that child field c of a caller with these names makes, its own variables beginning at `base`.
unfoldable pub bound_names : Listing → ℕ → List ℕ → Call → List ℕ
bound_names listing base names c =
    bind_names (routine_at listing c.callee).kinds (addresses_of names c.arguments) (routine_at listing c.callee).locals base

-- "children and their names as that `F` binds them"
pub record MadeBy (listing : Listing) (rest : List Variable → Bool) (base : ℕ) (callerNames : List ℕ) (c : Call)
    (r : ℕ) (names : List ℕ) (own : List Variable) : Type 0 where
  pub number : r ≡ c.callee
  pub bound : names ≡ bound_names listing base callerNames c
  pub owned : length own ≡ owned_by listing c.callee
  pub resting : rest own ≡ true

-- ── the tree ──────────────────────────────────────────────────────────────────────────────────────
unfoldable pub some_alive : Forest → Bool
some_alive empty = false
some_alive (more n f) = true

-- `rest` says what owned variables may be.
module _ (listing : Listing) (rest : List Variable → Bool) where
  mutual
    -- "each asleep at a `W` or at an `F` of which a child lives": a routine at this level, made by child field c of a caller
    -- with these names; "to level 10".
    pub data Asleep : ℕ → ℕ → List ℕ → Call → Node → Type 0 where
      waits : {level base : ℕ} {callerNames : List ℕ} {c : Call} {r place : ℕ} {names : List ℕ} {own : List Variable} {ns : List ℕ} →
          MadeBy listing rest base callerNames c r names own → instruction_at listing r place ≡ wait ns →
          Asleep level base callerNames c (node r place names own empty)
      joins : {level base : ℕ} {callerNames : List ℕ} {c : Call} {r place : ℕ} {names : List ℕ} {own : List Variable} {cs : List Call} {f : Forest} →
          MadeBy listing rest base callerNames c r names own → instruction_at listing r place ≡ fork cs → level ≤ 9 → some_alive f ≡ true →
          LiveChildren (suc level) (base + length own) names cs f → Asleep level base callerNames c (node r place names own f)

    -- The live children: some of those that the child fields make, in their order.
    pub data LiveChildren : ℕ → ℕ → List ℕ → List Call → Forest → Type 0 where
      no_more : {level base : ℕ} {names : List ℕ} → LiveChildren level base names [] empty
      ended : {level base : ℕ} {names : List ℕ} {c : Call} {cs : List Call} {f : Forest} →
          LiveChildren level base names cs f → LiveChildren level base names (c ∷ cs) f
      lives : {level base : ℕ} {names : List ℕ} {c : Call} {cs : List Call} {n : Node} {f : Forest} →
          Asleep level base names c n → LiveChildren level base names cs f → LiveChildren level base names (c ∷ cs) (more n f)

-- "one state of the walk on this table: a tree (none after main's end) of at most 64 routines, to level 10, .. main's as the start does"
pub record IsState (listing : Listing) (s : State) : Type 0 where
  pub moment : s.now < moment_range
  pub size : length s.environment ≡ environment_size listing
  pub resting : all_at_rest s.now s.environment ≡ true
  pub tree : LiveChildren listing (all_at_rest s.now) 0 (length s.environment) (environment_names listing) (main_call listing ∷ []) s.tree
  pub few : live_in_forest s.tree ≤ 64
