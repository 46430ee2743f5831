-- Stores into one block: the block they leave, the other blocks, what is outside; then the rows and the environment.
use mathlib.Core.List.{List}
use mathlib.Core.Path.{◌≡◌, refl, sym, ap, ◌∙◌, fun_ext}
use Prim.Native.Nat.{ℕ, ◌+◌, ◌≤◌, ◌<◌}
use native.Mathlib.Decide.{ℕ_discrete, dec_lt}
use native.Mathlib.Omega.{arith}
use lib.ListN.{length, get_or, set, take, drop, length-set, length-take, length-drop}
use lib.Seq.{get_or-set_same, get_or-set_other, get_or-take, get_or-drop, ext_get_or}
use borrow.Author.Tests.{lt-ltb, le-ltb}
use Rattle.machine.specs.Words.{block_at}
use Rattle.engine_blocks.proofs.Puts.{put_same, put_other}
use Rattle.engine_blocks.specs.Blocks.{Block, block}
use Rattle.engine_blocks.specs.Changes.{SameOutside, SameTriggers, InBlock, put_in}

-- ── words of a block ──────────────────────────────────────────────────────────────────────────────
pub block_word : (words : List ℕ) (s offset : ℕ) → offset < 184 → block words s offset ≡ get_or words (block_at s + offset) 0
unfolding block
block_word words s offset h = rw (lt-ltb offset 184 h)

pub block_end : (words : List ℕ) (s offset : ℕ) → 184 ≤ offset → block words s offset ≡ 0
unfolding block
block_end words s offset h = rw (le-ltb offset 184 h)

-- Two blocks whose words are the same.
block_same : (a m : List ℕ) (t : ℕ) → ((k : ℕ) → k < 184 → get_or m (block_at t + k) 0 ≡ get_or a (block_at t + k) 0) → block m t ≡ block a t
block_same a m t h = fun_ext λ k. go k (dec_lt k 184)
  where
    go : (k : ℕ) → Dec (k < 184) → block m t k ≡ block a t k
    go k (yes l) = block_word m t k l ∙ h k l ∙ sym (block_word a t k l)
    go k (no l) = block_end m t k (omega arith) ∙ sym (block_end a t k (omega arith))

-- ── stores, one after the other ───────────────────────────────────────────────────────────────────
pub in_block_start : (m : List ℕ) (s : ℕ) → InBlock s m m (block m s)
in_block_start m s = record { size = refl; below = λ k h. refl; above = λ k h. refl; words = refl }

pub in_block_put : (m : List ℕ) (s offset v : ℕ) → block_at s + offset < length m → offset < 184 →
    InBlock s m (set m (block_at s + offset) v) (put_in (block m s) offset v)
in_block_put m s offset v room low =
    record {
      size = length-set m (block_at s + offset) v;
      below = λ k h. get_or-set_other m (block_at s + offset) k v 0 (λ e. omega arith);
      above = λ k h. get_or-set_other m (block_at s + offset) k v 0 (λ e. omega arith);
      words = fun_ext λ k. go k (ℕ_discrete k offset) (dec_lt k 184);
    }
  where
    m' : List ℕ
    m' = set m (block_at s + offset) v

    go : (k : ℕ) → Dec (k ≡ offset) → Dec (k < 184) → block m' s k ≡ put_in (block m s) offset v k
    go k (yes e) l =
        ap (block m' s) e ∙ block_word m' s offset low ∙ get_or-set_same m (block_at s + offset) v 0 room
        ∙ sym (ap (put_in (block m s) offset v) e ∙ put_same (block m s) offset v)
    go k (no e) (yes l) =
        block_word m' s k l ∙ get_or-set_other m (block_at s + offset) (block_at s + k) v 0 (λ q. e (omega arith)) ∙ sym (block_word m s k l)
        ∙ sym (put_other (block m s) offset v k e)
    go k (no e) (no l) = block_end m' s k (omega arith) ∙ sym (block_end m s k (omega arith)) ∙ sym (put_other (block m s) offset v k e)

pub in_block_then : {s : ℕ} {a m m' : List ℕ} {b c : Block} → InBlock s a m b → InBlock s m m' c → InBlock s a m' c
in_block_then p q =
    record { size = q.size ∙ p.size; below = λ k h. q.below k h ∙ p.below k h; above = λ k h. q.above k h ∙ p.above k h; words = q.words }

-- One word more.
pub in_block_put_then : {s : ℕ} {a m m' : List ℕ} {b : Block} (offset v : ℕ) → InBlock s a m b → InBlock s m m' (put_in (block m s) offset v)
    → InBlock s a m' (put_in b offset v)
in_block_put_then {s} {a} {m} {m'} {b} offset v p q = rw p.words at (in_block_then p q)

-- ── what stays ────────────────────────────────────────────────────────────────────────────────────
module _ {s : ℕ} {a m : List ℕ} {b : Block} (p : InBlock s a m b) where
  pub other_block : (t : ℕ) → (t ≡ s → ⊥) → block m t ≡ block a t
  other_block t ne = block_same a m t (λ k h. go k h (dec_lt t s))
    where
      go : (k : ℕ) → k < 184 → Dec (t < s) → get_or m (block_at t + k) 0 ≡ get_or a (block_at t + k) 0
      go k h (yes l) = p.below (block_at t + k) (omega arith)
      go k h (no l) = p.above (block_at t + k) (let z : s < t = above ne l in omega arith)
        where
          above : (t ≡ s → ⊥) → (t < s → ⊥) → s < t
          above ne l = omega arith

  pub same_outside : s ≤ 64 → SameOutside a m
  same_outside h =
      let z = p.size in
      record {
        size = p.size;
        header = ext_get_or 0 (take 328 m) (take 328 a) (omega (arith, length-take 328 m, length-take 328 a)) (λ k l. front k (omega (arith, length-take 328 m)));
        past = ext_get_or 0 (drop 12288 m) (drop 12288 a) (omega (arith, length-drop 12288 m, length-drop 12288 a)) (λ k l. back k);
      }
    where
      front : (k : ℕ) → k < 328 → get_or (take 328 m) k 0 ≡ get_or (take 328 a) k 0
      front k l = get_or-take 328 m k 0 l ∙ p.below k (omega arith) ∙ sym (get_or-take 328 a k 0 l)

      back : (k : ℕ) → get_or (drop 12288 m) k 0 ≡ get_or (drop 12288 a) k 0
      back k = get_or-drop 12288 m k 0 ∙ p.above (12288 + k) (omega arith) ∙ sym (get_or-drop 12288 a k 0)

  pub same_triggers : ((k : ℕ) → 144 ≤ k → b k ≡ block a s k) → SameTriggers a m
  same_triggers h = record { same = λ t k l f. go t k f (ℕ_discrete t s) }
    where
      go : (t k : ℕ) → 144 ≤ k → Dec (t ≡ s) → block m t k ≡ block a t k
      go t k f (yes e) = ap (λ (z : ℕ). block m z k) e ∙ ap (λ (c : Block). c k) p.words ∙ h k f ∙ sym (ap (λ (z : ℕ). block a z k) e)
      go t k f (no e) = ap (λ (c : Block). c k) (other_block t e)
