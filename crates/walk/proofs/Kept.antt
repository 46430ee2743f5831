-- What the promises on lent memory come to, one outcome at a time; a promise that says less is refused here.
use mathlib.Core.Path.{◌≡◌, refl}
use mathlib.Core.List.{List, [], ◌∷◌, ◌++◌}
use mathlib.Core.Option.{some}
use Prim.Native.Nat.{ℕ}
use native.Mathlib.Omega.{arith}
use lib.ListN.{length, get_or}
use Rattle.listing.specs.Listing.{Listing}
use Rattle.listing.specs.Load.{Loading}
use Rattle.listing.specs.Load as Load
use Rattle.walk.specs.Instant.{Done}
use Rattle.walk.specs.Calls.{Layout, running, halted_words, first_words, later_words, Outcome, refused, stopped, done, MachineAfter, untouched, halts, runs}
use Rattle.walk.specs.Promises.{TableAfter, InstantPromise}
use Rattle.walk.specs.Promises as Promises
use Rattle.walk.specs.Boards.{BoardCall, BoardCalls, no_more, and_then}

-- outcomes of different cases are not equal
apart : {A : Type 0} → ◌≡◌ {A = ℕ} 0 1 → A
apart e = absurd (let z : ⊥ = omega arith in z)

module _ (layout : Layout) (table before after : List ℕ) where
  -- "Up to 12 a refusal leaves all lent memory untouched"
  pub refused_leaves : (k : ℕ) {o : Outcome} → MachineAfter layout table before after o → o ≡ refused k → after ≡ before
  refused_leaves k (untouched e) q = e
  refused_leaves k (halts e) q = let z : ◌≡◌ {A = ℕ} 0 1 = cc in apart z
  refused_leaves k (runs t m z a b) q = let y : ◌≡◌ {A = ℕ} 0 1 = cc in apart y

  -- "The machine's first word holds the number .., its other 12,287 words are 0"; "Words past 12,288 are never touched."
  pub stopped_leaves : (k : ℕ) {o : Outcome} → MachineAfter layout table before after o → o ≡ stopped k → after ≡ halted_words k ++ later_words before
  stopped_leaves k (untouched e) q = let z : ◌≡◌ {A = ℕ} 0 1 = cc in apart z
  stopped_leaves k (halts {k = j} e) q = let same : j ≡ k = cc in rw (← same) e
  stopped_leaves k (runs t m z a b) q = let y : ◌≡◌ {A = ℕ} 0 1 = cc in apart y

  -- "(0 while running)", a state of the walk, and nothing else touched
  pub done_leaves : (d : Done) (listing : Listing) → layout.read_table (first_words table) ≡ some listing → {o : Outcome} →
      MachineAfter layout table before after o → o ≡ done d →
      (layout.read_machine listing (first_words after) ≡ some (running d.state)) × (get_or after 0 0 ≡ 0) × (length after ≡ length before) × (later_words after ≡ later_words before)
  done_leaves d listing t (untouched e) q = let z : ◌≡◌ {A = ℕ} 0 1 = cc in apart z
  done_leaves d listing t (halts e) q = let z : ◌≡◌ {A = ℕ} 0 1 = cc in apart z
  done_leaves d listing t (runs {d = c} {listing = l} r m z a b) q =
      let same : c ≡ d = cc in
      let one : l ≡ listing = cc in
      (rw (← same, ← one) m, z, a, b)

  -- the same of the table: "a refusal leaves all lent memory untouched"; words that stand for the listing, and nothing else touched
  pub not_loaded_leaves : (k place : ℕ) {o : Loading} → TableAfter layout before after o → o ≡ Load.refused k place → after ≡ before
  not_loaded_leaves k place (Promises.untouched e) q = e
  not_loaded_leaves k place (Promises.holds r a b) q = let z : ◌≡◌ {A = ℕ} 0 1 = cc in apart z

  pub loaded_leaves : (listing : Listing) {o : Loading} → TableAfter layout before after o → o ≡ Load.loaded listing →
      (layout.read_table (first_words after) ≡ some listing) × (length after ≡ length before) × (later_words after ≡ later_words before)
  loaded_leaves listing (Promises.untouched e) q = let z : ◌≡◌ {A = ℕ} 0 1 = cc in apart z
  loaded_leaves listing (Promises.holds {listing = l} r a b) q = let same : l ≡ listing = cc in (rw (← same) r, a, b)

-- "the machine as the call before left it"
pub second_gets_what_the_first_left : (layout : Layout) (table machine : List ℕ) (c e : BoardCall) → BoardCalls layout table machine (c ∷ e ∷ []) →
    InstantPromise layout table machine c.time c.in_numbers c.in_values c.numbers c.values c.allowance c.machine_after c.numbers_after c.values_after c.result
    × InstantPromise layout table c.machine_after e.time e.in_numbers e.in_values e.numbers e.values e.allowance e.machine_after e.numbers_after e.values_after e.result
second_gets_what_the_first_left layout table machine c e (and_then p small (and_then q small' rest)) = (p, q)
