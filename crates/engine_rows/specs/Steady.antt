-- What the loader's questions 4 and 5 give of a listing, and a tree whose routines are what their parents' child fields make.
-- Letters as in Tree and Held.
use Rattle.std.specs.Prelude.{◌≡◌, List, [], ◌∷◌, ℕ, suc, ◌+◌, ◌*◌, ◌-◌, ◌^◌, ◌≤◌, ◌<◌, length, get_or, replicate}
use Rattle.listing.specs.Listing.{Listing, Piece, Kind, by_reference, Call, assign, schedule, fork}
use Rattle.walk.specs.State.{Variable}
use Rattle.walk.specs.Memory.{address_of}
use Rattle.walk.specs.Walk.{routine_at, instruction_at, child_count}
use Rattle.walk.specs.Instant.{environment_size, environment_names, main_call}
use Rattle.walk.specs.Question7.{owned_by, bound_names}
use Rattle.engine_rows.specs.Records.{calls_of, no_call_lem}
use Rattle.engine_rows.specs.Tree.{Record, Tree, nil, put}
use Rattle.engine_fork_bits.specs.ForkBits.{fork_bits}

-- as many arguments as letters, each a name of the caller
pub data Passed (n : ℕ) : List Kind → List ℕ → Type 0 where
  passed_nil : Passed n [] []
  passed_put : {k : Kind} {ks : List Kind} {x : ℕ} {xs : List ℕ} → x < n → Passed n ks xs → Passed n (k ∷ ks) (x ∷ xs)

unfoldable pub name_count : Listing → ℕ → ℕ
name_count listing r = length (routine_at listing r).kinds + (routine_at listing r).locals

-- child fields whose callees take as many arguments, each a name of a caller with n names
pub data CallsFit (listing : Listing) (n : ℕ) : List Call → Type 0 where
  calls_nil : CallsFit listing n []
  calls_put : {c : Call} {cs : List Call} → Passed n (routine_at listing c.callee).kinds c.arguments → CallsFit listing n cs →
      CallsFit listing n (c ∷ cs)

pub record TableFits (listing : Listing) : Type 0 where
  pub sets : (r place n : ℕ) (e : List Piece) → instruction_at listing r place ≡ assign n e → n < name_count listing r
  pub delays : (r place n : ℕ) (d e : List Piece) → instruction_at listing r place ≡ schedule n d e → n < name_count listing r
  pub forks : (r place : ℕ) (cs : List Call) → instruction_at listing r place ≡ fork cs → CallsFit listing (name_count listing r) cs
  pub some : (r place : ℕ) (cs : List Call) → instruction_at listing r place ≡ fork cs → (1 ≤ child_count cs) × (child_count cs ≤ 8)
  pub few : (r : ℕ) → name_count listing r ≤ 16
  pub main : (routine_at listing 0).kinds ≡ replicate (environment_size listing) by_reference

pub record Above : Type 0 where
  pub calls : List Call
  pub names : List ℕ
  pub low : ℕ
  pub bits : ℕ  -- of each child

-- main's parent is the environment
unfoldable pub above_main : Listing → Above
above_main listing = record { calls = main_call listing ∷ []; names = environment_names listing; low = 0; bits = 32 }

unfoldable pub above_of : Listing → Record → Above
above_of listing x =
    let cs = calls_of (instruction_at listing x.routine x.place) in
    record { calls = cs; names = x.names; low = x.low; bits = x.bits - fork_bits (child_count cs) }

-- a routine at level lv, its first own address c
pub record SteadyRecord (listing : Listing) (u : Above) (level c : ℕ) (x : Record) : Type 0 where
  pub numbered : x.child < child_count u.calls
  pub called : x.routine ≡ (get_or u.calls x.child no_call_lem).callee
  pub bound : x.names ≡ bound_names listing c u.names (get_or u.calls x.child no_call_lem)
  pub owned : length x.own ≡ owned_by listing x.routine
  pub lowest : x.low ≡ u.low + x.child * 2 ^ x.bits
  pub divided : x.bits ≡ u.bits
  pub deep : 32 ≤ x.bits + 3 * level
  pub many : length x.names ≡ name_count listing x.routine
  pub near : (n : ℕ) → n < length x.names → address_of x.names n < c + length x.own
  pub short : c + length x.own ≤ 16 * (level + 2)
  pub high : level ≤ 10

pub data Steady (listing : Listing) : Above → ℕ → ℕ → Tree → Type 0 where
  steady_nil : {u : Above} {level c : ℕ} → Steady listing u level c nil
  steady_put : {u : Above} {level c : ℕ} {x : Record} {k f : Tree} → SteadyRecord listing u level c x →
      Steady listing (above_of listing x) (suc level) (c + length x.own) k → Steady listing u level c f → Steady listing u level c (put x k f)

module _ (listing : Listing) where
  abbrev pub SteadyTree : List Variable → Tree → Type 0
  SteadyTree environment t = Steady listing (above_main listing) 0 (length environment) t
