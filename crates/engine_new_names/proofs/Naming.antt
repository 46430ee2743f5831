-- The loops that bind a routine's names: what holds before each name. The letters are those of specs/Naming.
use mathlib.Core.Path.{◌≡◌, refl, sym, ap, subst, ◌∙◌}
use mathlib.Core.Bool.{cond}
use mathlib.Core.List.{List, [], ◌∷◌, ◌++◌}
use Prim.Native.Nat.{ℕ, suc, ◌+◌, ◌*◌, ◌-◌, ◌/◌, ◌%◌, ◌≤◌, ◌<◌}
use native.Mathlib.Numerals.{add-one}
use native.Mathlib.Omega.{arith}
use native.Mathlib.Decide.{ℕ_discrete}
use lib.Dec.{eqb}
use lib.ListN.{length}
use borrow.Author.Tests.{lt-ltb, eq-eqb, ne_eqb}
use Rattle.listing.specs.Listing.{by_reference, by_value}
use Rattle.table.specs.Decode.{name_at, cells_at, names_at, kinds_of_bits}
use Rattle.table.proofs.Entry.{name_there}
use Rattle.engine_rows.specs.Rows.{Owner, in_environment, in_slot, owner_of}
use Rattle.engine_rows.specs.Engine.{child_bindings}
use Rattle.engine_blocks.specs.Tabulate.{tabulate_from}
use Rattle.engine_blocks.specs.Blocks.{Block, block, owner_at, owner_in}
use Rattle.engine_blocks.specs.Changes.{InBlock, put_in}
use Rattle.engine_blocks.proofs.Puts.{put_same, put_other}
use Rattle.engine_blocks.proofs.InBlocks.{in_block_start, in_block_then, other_block}
use Rattle.engine_variables.proofs.Readings.{binding_of}
use Rattle.engine_evaluate.specs.Bound.{bindings_of}
use Rattle.engine_new_names.specs.Naming.{MayBind, ArgumentsBound}
use Rattle.engine_new_names.proofs.Lists.{tabulate_next, moved_over}

-- ── one name's word ───────────────────────────────────────────────────────────────────────────────
pub stored_word : {m after : List ℕ} (s offset w : ℕ) → InBlock s m after (put_in (block m s) offset w) → block after s offset ≡ w
stored_word {m} {after} s offset w p = ap (λ (b : Block). b offset) p.words ∙ put_same (block m s) offset w

pub other_word : {m after : List ℕ} (s offset w k : ℕ) → InBlock s m after (put_in (block m s) offset w) → (k ≡ offset → ⊥) → block after s k ≡ block m s k
other_word {m} {after} s offset w k p n = ap (λ (b : Block). b k) p.words ∙ put_other (block m s) offset w k n

-- the names so far, and one more
pub next_name : {m after : List ℕ} (s j w : ℕ) (o : Owner) → InBlock s m after (put_in (block m s) (112 + j) w) → owner_at (w / 16) (w % 16) ≡ o
    → tabulate_from 0 (suc j) (owner_in (block after s)) ≡ tabulate_from 0 j (owner_in (block m s)) ++ (o ∷ [])
unfolding owner_in
next_name {m} {after} s j w o p e =
    tabulate_next j (owner_in (block m s)) (owner_in (block after s)) o
    (λ k h. ap (λ (x : ℕ). owner_at (x / 16) (x % 16)) (other_word s (112 + j) w (112 + k) p (λ q. omega arith)))
    (ap (λ (x : ℕ). owner_at (x / 16) (x % 16)) (stored_word s (112 + j) w p) ∙ e)

-- an own variable's word
pub own_word : (s own : ℕ) → s < 64 → own < 16 → owner_at ((16 * s + own) / 16) ((16 * s + own) % 16) ≡ in_slot s own
unfolding owner_at
own_word s own h l =
    let q : (16 * s + own) / 16 ≡ s = omega arith in
    let r : (16 * s + own) % 16 ≡ own = omega arith in
    rw (q, r, lt-ltb s 64 h)

-- an environment variable's word
pub environment_word : (a : ℕ) → a < 16 → owner_at ((1024 + a) / 16) ((1024 + a) % 16) ≡ in_environment a
unfolding owner_at
environment_word a l =
    let q : (1024 + a) / 16 ≡ 64 = omega arith in
    let r : (1024 + a) % 16 ≡ a = omega arith in
    rw (q, r)

-- words of names stored one after the other
pub others_next : (a : List ℕ) {m after : List ℕ} (s from j w : ℕ) → ((k : ℕ) → (from ≤ k → k < from + j → ⊥) → block m s k ≡ block a s k)
    → InBlock s m after (put_in (block m s) (from + j) w) → (k : ℕ) → (from ≤ k → k < from + suc j → ⊥) → block after s k ≡ block a s k
others_next a s from j w old p k n =
    other_word s (from + j) w k p (λ e. n (omega arith) (omega arith)) ∙ old k (λ x y. n x (omega arith))

-- ── the arguments ─────────────────────────────────────────────────────────────────────────────────
-- j arguments are bound, `own` of them by value; `rest` has the kinds of the others
pub record Arguments (t before : List ℕ) (me s at count bits : ℕ) (m : List ℕ) (j rest own : ℕ) : Type 0 where
  pub in_block : InBlock s before m (block m s)
  pub others : (k : ℕ) → (112 ≤ k → k < 112 + j → ⊥) → block m s k ≡ block before s k
  pub within : j ≤ count
  pub few : own ≤ j
  pub names : (locals : ℕ) → tabulate_from 0 j (owner_in (block m s)) ++ child_bindings (kinds_of_bits (count - j) rest) (names_at t (at + 2 * j) (count - j)) locals (bindings_of before me) s own
      ≡ child_bindings (kinds_of_bits count bits) (names_at t at count) locals (bindings_of before me) s 0

module _ {t before : List ℕ} {me s at count bits : ℕ} (M : MayBind t before me s at count 0) where
  pub arguments_start : Arguments t before me s at count bits before 0 bits 0
  unfolding tabulate_from
  arguments_start =
      let e : at + 2 * 0 ≡ at = omega arith in
      let z : count - 0 ≡ count = omega arith in
      record { in_block = in_block_start before s; others = λ k h. refl; within = omega arith; few = omega arith; names = λ locals. rw (e, z) }

  module _ {m : List ℕ} {j rest own : ℕ} (A : Arguments t before me s at count bits m j rest own) (more : j < count) where
    -- its name is one of the caller's
    pub argument_there : name_at t (at + 2 * j) < length (bindings_of before me)
    argument_there = name_there t (length (bindings_of before me)) at count M.names j more

    -- by reference: the caller's word stands for the caller's variable
    caller_word : owner_at (block m me (112 + name_at t (at + 2 * j)) / 16) (block m me (112 + name_at t (at + 2 * j)) % 16) ≡ owner_of (bindings_of before me) (name_at t (at + 2 * j))
    caller_word =
        ap (λ (b : Block). owner_at (b (112 + name_at t (at + 2 * j)) / 16) (b (112 + name_at t (at + 2 * j)) % 16)) (other_block A.in_block me M.apart)
        ∙ binding_of before me (name_at t (at + 2 * j)) M.caller argument_there

    module _ {after : List ℕ} {w : ℕ} (p : InBlock s m after (put_in (block m s) (112 + j) w))
        (reference : rest % 2 ≡ 1 → w ≡ block m me (112 + name_at t (at + 2 * j))) (value : (rest % 2 ≡ 1 → ⊥) → w ≡ 16 * s + own)
      where
        abbrev left : ℕ
        left = count - suc j

        split : (locals : ℕ) → tabulate_from 0 j (owner_in (block m s)) ++ child_bindings (cond (eqb (rest % 2) 1) by_reference by_value ∷ kinds_of_bits left (rest / 2))
            (name_at t (at + 2 * j) ∷ names_at t (at + 2 * suc j) left) locals (bindings_of before me) s own
            ≡ child_bindings (kinds_of_bits count bits) (names_at t at count) locals (bindings_of before me) s 0
        unfolding kinds_of_bits cells_at
        split locals =
            let e : count - j ≡ suc left = omega arith in
            let f : (at + 2 * j) + 2 ≡ at + 2 * suc j = omega arith in
            rw (e, f) at (A.names locals)

        grown : (o : Owner) (own' : ℕ) → owner_at (w / 16) (w % 16) ≡ o → (locals : ℕ)
            → tabulate_from 0 j (owner_in (block m s)) ++ (o ∷ child_bindings (kinds_of_bits left (rest / 2)) (names_at t (at + 2 * suc j) left) locals (bindings_of before me) s own')
            ≡ child_bindings (kinds_of_bits count bits) (names_at t at count) locals (bindings_of before me) s 0
            → tabulate_from 0 (suc j) (owner_in (block after s)) ++ child_bindings (kinds_of_bits left (rest / 2)) (names_at t (at + 2 * suc j) left) locals (bindings_of before me) s own'
            ≡ child_bindings (kinds_of_bits count bits) (names_at t at count) locals (bindings_of before me) s 0
        grown o own' e locals whole = rw (next_name s j w o p e, moved_over) whole

        by_kind : Dec (rest % 2 ≡ 1) → (locals : ℕ)
            → tabulate_from 0 (suc j) (owner_in (block after s)) ++ child_bindings (kinds_of_bits left (rest / 2)) (names_at t (at + 2 * suc j) left) locals (bindings_of before me) s (own + (1 - rest % 2))
            ≡ child_bindings (kinds_of_bits count bits) (names_at t at count) locals (bindings_of before me) s 0
        unfolding child_bindings
        by_kind (yes e) locals =
            let z : own + (1 - rest % 2) ≡ own = omega arith in
            rw z (grown (owner_of (bindings_of before me) (name_at t (at + 2 * j))) own (rw (reference e) caller_word) locals (rw (eq-eqb (rest % 2) 1 e) at (split locals)))
        by_kind (no n) locals =
            let z : own + (1 - rest % 2) ≡ suc own = omega arith in
            rw z (grown (in_slot s own) (suc own) (rw (value n) (own_word s own M.slot (omega (arith, M.few, A.few)))) locals (rw (ne_eqb (rest % 2) 1 n) at (split locals)))

        pub arguments_next : Arguments t before me s at count bits after (j + 1) (rest / 2) (own + (1 - rest % 2))
        arguments_next =
            rw (add-one j)
            (record {
              in_block = in_block_then A.in_block (subst (λ (b : Block). InBlock s m after b) (sym p.words) p);
              others = others_next before s 112 j w A.others p;
              within = omega arith;
              few = omega (arith, A.few);
              names = by_kind (ℕ_discrete (rest % 2) 1);
            })

  pub arguments_end : {m : List ℕ} {j rest own : ℕ} → Arguments t before me s at count bits m j rest own → count ≤ j → ArgumentsBound t before me s at count bits m own
  unfolding kinds_of_bits child_bindings
  arguments_end {m} {j} {rest} {own} A none =
      let e : j ≡ count = omega (arith, A.within, none) in
      let z : count - count ≡ 0 = omega arith in
      record {
        in_block = A.in_block;
        others = rw e at A.others;
        few = rw e at A.few;
        names = λ locals. rw (e, z) at (A.names locals);
      }
