-- What an instruction's entry tells of a wait and of a fork. The letters are those of specs/Entry of crate `table`.
use mathlib.Core.Path.{◌≡◌, refl, ap, ◌∙◌}
use mathlib.Core.Bool.{true, false}
use mathlib.Core.List.{List, [], ◌∷◌}
use Prim.Native.Nat.{ℕ, suc, ◌≤◌, ◌<◌}
use native.Mathlib.Omega.{arith}
use native.Mathlib.Decide.{ℕ_discrete}
use lib.ListN.{length}
use Rattle.listing.specs.Listing.{Piece, Call, Instruction, assign, schedule, branch, jump, end}
use Rattle.walk.specs.Walk.{instruction_at, child_count}
use Rattle.table.specs.Decode.{calls_at, table_listing}
use Rattle.table.specs.Entry.{Fetched}
use Rattle.table.proofs.Reach.{calls_count}
use Rattle.engine_rows.specs.Records.{is_wait, calls_of}

-- An instruction that is neither a wait nor a fork.
pub data Plain : Instruction → Type 0 where
  plain_assign : (n : ℕ) {e : List Piece} → Plain (assign n e)
  plain_schedule : (n : ℕ) {d e : List Piece} → Plain (schedule n d e)
  plain_branch : {e : List Piece} (k : ℕ) → Plain (branch e k)
  plain_jump : (k : ℕ) → Plain (jump k)
  plain_end : Plain end

plain_waits_not : {i : Instruction} → Plain i → is_wait i ≡ false
unfolding is_wait
plain_waits_not (plain_assign n) = refl
plain_waits_not (plain_schedule n) = refl
plain_waits_not (plain_branch k) = refl
plain_waits_not (plain_jump k) = refl
plain_waits_not plain_end = refl

plain_calls_none : {i : Instruction} → Plain i → calls_of i ≡ []
unfolding calls_of
plain_calls_none (plain_assign n) = refl
plain_calls_none (plain_schedule n) = refl
plain_calls_none (plain_branch k) = refl
plain_calls_none (plain_jump k) = refl
plain_calls_none plain_end = refl

passed : (n k : ℕ) → n ≤ k → (k ≡ n → ⊥) → suc n ≤ k
passed n k h d = omega arith

only_seven : (k : ℕ) → 7 ≤ k → k ≤ 7 → k ≡ 7
only_seven k h l = omega arith

module _ {t : List ℕ} {r place kind operand cells first second : ℕ} (F : Fetched t r place kind operand cells first second) where
  abbrev instruction : Instruction
  instruction = instruction_at (table_listing t) r place

  plain : (kind ≡ 5 → ⊥) → (kind ≡ 6 → ⊥) → Plain instruction
  plain n5 n6 = go (ℕ_discrete kind 1) (ℕ_discrete kind 2) (ℕ_discrete kind 3) (ℕ_discrete kind 4)
    where
      go : Dec (kind ≡ 1) → Dec (kind ≡ 2) → Dec (kind ≡ 3) → Dec (kind ≡ 4) → Plain instruction
      go (yes e) b c d = rw (F.assigns e).is (plain_assign operand)
      go (no a) (yes e) c d = rw (F.schedules e).is (plain_schedule operand)
      go (no a) (no b) (yes e) d = rw (F.branches e).is (plain_branch operand)
      go (no a) (no b) (no c) (yes e) = rw (F.jumps e).is (plain_jump operand)
      go (no a) (no b) (no c) (no d) =
          let six : 7 ≤ kind = passed 6 kind (passed 5 kind (passed 4 kind (passed 3 kind (passed 2 kind (passed 1 kind F.least a) b) c) d) n5) n6 in
          rw (F.ends (only_seven kind six F.most)).is plain_end

  pub marked_wait : kind ≡ 5 → is_wait instruction ≡ true
  unfolding is_wait
  marked_wait e = rw (F.waits e).is

  pub unmarked_wait : (kind ≡ 5 → ⊥) → is_wait instruction ≡ false
  unfolding is_wait
  unmarked_wait n = go (ℕ_discrete kind 6)
    where
      go : Dec (kind ≡ 6) → is_wait instruction ≡ false
      go (yes e) = rw (F.forks e).is
      go (no m) = plain_waits_not (plain n m)

  waits_none : kind ≡ 5 → calls_of instruction ≡ []
  unfolding calls_of
  waits_none e = rw (F.waits e).is

  -- an instruction with child fields is a fork
  pub fork_kind : 0 < child_count (calls_of instruction) → kind ≡ 6
  unfolding child_count
  fork_kind some = go (ℕ_discrete kind 6) (ℕ_discrete kind 5)
    where
      none : calls_of instruction ≡ [] → ⊥
      none e = let z : 0 < child_count [] = rw e at some in omega arith

      go : Dec (kind ≡ 6) → Dec (kind ≡ 5) → kind ≡ 6
      go (yes e) w = e
      go (no n) (yes e) = absurd (none (waits_none e))
      go (no n) (no m) = absurd (none (plain_calls_none (plain m n)))

  pub fork_calls : kind ≡ 6 → calls_of instruction ≡ calls_at t cells first
  unfolding calls_of
  fork_calls e = rw (F.forks e).is

pub child_count_length : (cs : List Call) → child_count cs ≡ length cs
unfolding child_count
child_count_length [] = refl
child_count_length (c ∷ cs) = ap suc (child_count_length cs)

pub calls_counted : (t : List ℕ) (cells n : ℕ) → child_count (calls_at t cells n) ≡ n
calls_counted t cells n = child_count_length (calls_at t cells n) ∙ calls_count t n cells
