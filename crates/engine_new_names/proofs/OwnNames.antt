-- The loops that bind own variables and the environment's; then all names of a routine. The letters are those of specs/Naming.
use mathlib.Core.Path.{◌≡◌, refl, sym, ap, subst, ◌∙◌}
use mathlib.Core.List.{List, ◌∷◌, ◌++◌, append-nil}
use Prim.Native.Nat.{ℕ, suc, ◌+◌, ◌*◌, ◌-◌, ◌/◌, ◌%◌, ◌≤◌, ◌<◌, min}
use native.Mathlib.Nat.{add-suc}
use native.Mathlib.Numerals.{add-one}
use native.Mathlib.Omega.{arith}
use Rattle.engine_rows.specs.Rows.{Owner, in_environment, in_slot}
use Rattle.engine_rows.specs.Engine.{own_bindings}
use Rattle.engine_rows.specs.Beginning.{environment_bindings}
use Rattle.engine_blocks.specs.Tabulate.{tabulate_from}
use Rattle.engine_blocks.specs.Blocks.{Block, block, owner_at, owner_in, bindings_in}
use Rattle.engine_blocks.specs.Changes.{InBlock, put_in}
use Rattle.engine_blocks.proofs.Tabulated.{tabulate_same}
use Rattle.engine_blocks.proofs.InBlocks.{in_block_start, in_block_then}
use Rattle.engine_new_names.specs.Naming.{OwnBound, EnvironmentBound, NamesBound}
use Rattle.engine_new_names.proofs.Lists.{moved_over}
use Rattle.engine_new_names.proofs.Naming.{stored_word, other_word, next_name, own_word, environment_word, others_next}

-- a word stored into the block that was changed already
pub changed_then : {s : ℕ} {a m after : List ℕ} {b : Block} → InBlock s a m (block m s) → InBlock s m after b → InBlock s a after (block after s)
changed_then {s} {a} {m} {after} p q = in_block_then p (subst (λ (b : Block). InBlock s m after b) (sym q.words) q)

-- ── own variables ─────────────────────────────────────────────────────────────────────────────────
-- j of `count` names are bound
pub record OwnNames (before : List ℕ) (s from count own : ℕ) (m : List ℕ) (j : ℕ) : Type 0 where
  pub in_block : InBlock s before m (block m s)
  pub others : (k : ℕ) → (112 + from ≤ k → k < 112 + from + j → ⊥) → block m s k ≡ block before s k
  pub within : j ≤ count
  pub names : tabulate_from 0 (from + j) (owner_in (block m s)) ++ own_bindings (count - j) s (own + j)
      ≡ tabulate_from 0 from (owner_in (block before s)) ++ own_bindings count s own

pub own_start : (before : List ℕ) (s from count own : ℕ) → OwnNames before s from count own before 0
own_start before s from count own =
    let e : from + 0 ≡ from = omega arith in
    let f : own + 0 ≡ own = omega arith in
    let z : count - 0 ≡ count = omega arith in
    record { in_block = in_block_start before s; others = λ k h. refl; within = omega arith; names = rw (e, f, z) }

module _ {before : List ℕ} {s from count own : ℕ} {m : List ℕ} {j : ℕ} (N : OwnNames before s from count own m j) where
  pub own_next : {after : List ℕ} {w : ℕ} → s < 64 → own + count ≤ 16 → j < count → w ≡ 16 * s + (own + j)
      → InBlock s m after (put_in (block m s) (112 + from + j) w) → OwnNames before s from count own after (j + 1)
  unfolding own_bindings
  own_next {after} {w} h few more is p =
      rw (add-one j)
      (record {
        in_block = changed_then N.in_block p;
        others = others_next before s (112 + from) j w N.others p;
        within = omega arith;
        names =
            let e : count - j ≡ suc (count - suc j) = omega arith in
            let place : 112 + from + j ≡ 112 + (from + j) = omega arith in
            let o : owner_at (w / 16) (w % 16) ≡ in_slot s (own + j) = rw is (own_word s (own + j) h (omega arith)) in
            let old : tabulate_from 0 (from + j) (owner_in (block m s)) ++ (in_slot s (own + j) ∷ own_bindings (count - suc j) s (suc (own + j)))
            ≡ tabulate_from 0 from (owner_in (block before s)) ++ own_bindings count s own = rw e at N.names in
            rw (add-suc from j, add-suc own j, next_name s (from + j) w (in_slot s (own + j)) (rw place at p) o, moved_over) old;
      })

  pub own_end : count ≤ j → OwnBound before s from count own m
  unfolding own_bindings
  own_end none =
      let e : j ≡ count = omega (arith, N.within, none) in
      let z : count - count ≡ 0 = omega arith in
      let assoc : 112 + from + count ≡ 112 + (from + count) = omega arith in
      record {
        in_block = N.in_block;
        others = rw (e, assoc) at N.others;
        names = sym (append-nil (tabulate_from 0 (from + count) (owner_in (block m s)))) ∙ (rw (e, z) at N.names);
      }

-- ── the environment's variables ───────────────────────────────────────────────────────────────────
pub record EnvironmentVariables (before : List ℕ) (s count : ℕ) (m : List ℕ) (j : ℕ) : Type 0 where
  pub in_block : InBlock s before m (block m s)
  pub others : (k : ℕ) → (112 ≤ k → k < 112 + j → ⊥) → block m s k ≡ block before s k
  pub within : j ≤ count
  pub names : tabulate_from 0 j (owner_in (block m s)) ++ environment_bindings (count - j) j ≡ environment_bindings count 0

pub environment_start : (before : List ℕ) (s count : ℕ) → EnvironmentVariables before s count before 0
unfolding tabulate_from
environment_start before s count =
    let z : count - 0 ≡ count = omega arith in
    record { in_block = in_block_start before s; others = λ k h. refl; within = omega arith; names = rw z }

module _ {before : List ℕ} {s count : ℕ} {m : List ℕ} {j : ℕ} (N : EnvironmentVariables before s count m j) where
  pub environment_next : {after : List ℕ} {w : ℕ} → count ≤ 16 → j < count → w ≡ 1024 + j → InBlock s m after (put_in (block m s) (112 + j) w)
      → EnvironmentVariables before s count after (j + 1)
  unfolding environment_bindings
  environment_next {after} {w} few more is p =
      rw (add-one j)
      (record {
        in_block = changed_then N.in_block p;
        others = others_next before s 112 j w N.others p;
        within = omega arith;
        names =
            let e : count - j ≡ suc (count - suc j) = omega arith in
            let o : owner_at (w / 16) (w % 16) ≡ in_environment j = rw is (environment_word j (omega arith)) in
            let old : tabulate_from 0 j (owner_in (block m s)) ++ (in_environment j ∷ environment_bindings (count - suc j) (suc j)) ≡ environment_bindings count 0 =
            rw e at N.names in
            rw (next_name s j w (in_environment j) p o, moved_over) old;
      })

  pub environment_end : count ≤ j → EnvironmentBound before s count m
  unfolding environment_bindings
  environment_end none =
      let e : j ≡ count = omega (arith, N.within, none) in
      let z : count - count ≡ 0 = omega arith in
      record {
        in_block = N.in_block;
        others = rw e at N.others;
        names = sym (append-nil (tabulate_from 0 count (owner_in (block m s)))) ∙ (rw (e, z) at N.names);
      }

-- ── all names ─────────────────────────────────────────────────────────────────────────────────────
-- The first names are bound, then the own ones, then their number is stored.
pub all_names : {before first second after : List ℕ} {s count locals own : ℕ} {owners : List Owner} → InBlock s before first (block first s)
    → ((k : ℕ) → (112 ≤ k → k < 112 + count → ⊥) → block first s k ≡ block before s k)
    → tabulate_from 0 count (owner_in (block first s)) ++ own_bindings locals s own ≡ owners → count + locals ≤ 16
    → OwnBound first s count locals own second → InBlock s second after (put_in (block second s) 110 (count + locals)) → NamesBound before s owners after
unfolding bindings_in owner_in
all_names {before} {first} {second} {after} {s} {count} {locals} {own} p others names few O q =
    let size : min (count + locals) 16 ≡ count + locals = omega arith in
    record {
      in_block = changed_then (changed_then p O.in_block) q;
      others = λ k n outside. other_word s 110 (count + locals) k q n ∙ (O.others k (λ x y. outside (omega arith) (omega arith))
          ∙ others k (λ x y. outside x (omega arith)));
      bindings =
          rw (stored_word s 110 (count + locals) q, size)
          (tabulate_same 0 (count + locals) (owner_in (block after s)) (owner_in (block second s))
          (λ k x y. ap (λ (w : ℕ). owner_at (w / 16) (w % 16)) (other_word s 110 (count + locals) (112 + k) q (λ e. omega arith)))
          ∙ O.names ∙ names);
    }
