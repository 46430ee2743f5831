-- A part of a block's words made 0 in one go.
use mathlib.Core.List.{List, ◌++◌}
use mathlib.Core.Path.{◌≡◌, sym, ap, ◌∙◌, fun_ext}
use Prim.Native.Nat.{ℕ, ◌+◌, ◌-◌, ◌≤◌, ◌<◌}
use native.Mathlib.Decide.{dec_lt}
use native.Mathlib.Omega.{arith}
use lib.ListN.{length, get_or, take, replicate, length-take}
use lib.Seq.{get_or-take, get_or-drop}
use borrow.Rule.Slice.PartMut.{put_mid, post_of}
use Rattle.std.proofs.lemmas.List.{get_or_append_left, get_or-append_right, get_or-replicate, length-replicate}
use Rattle.machine.specs.Words.{block_at}
use Rattle.engine_blocks.proofs.InBlocks.{block_word, block_end}
use Rattle.engine_blocks.proofs.Puts.{cleared_inside, cleared_below, cleared_above}
use Rattle.engine_blocks.specs.Blocks.{block}
use Rattle.engine_blocks.specs.Changes.{InBlock, cleared}

-- ── k words from a on ─────────────────────────────────────────────────────────────────────────────
module _ (m : List ℕ) (a k : ℕ) (room : a + k ≤ length m) where
  abbrev pub filled : List ℕ
  filled = put_mid a k m (replicate k 0)

  before : length (take a m) ≡ a
  before = let e = length-take a m in omega arith

  pub filled_before : (j : ℕ) → j < a → get_or filled j 0 ≡ get_or m j 0
  filled_before j h = get_or_append_left (take a m) (replicate k 0 ++ post_of a k m) 0 j (omega (arith, before)) ∙ get_or-take a m j 0 h

  pub filled_inside : (j : ℕ) → a ≤ j → j < a + k → get_or filled j 0 ≡ 0
  filled_inside j l h =
      get_or-append_right (take a m) (replicate k 0 ++ post_of a k m) a j 0 before l
      ∙ get_or_append_left (replicate k 0) (post_of a k m) 0 (j - a) (omega (arith, length-replicate {A = ℕ} k 0))
      ∙ get_or-replicate k (j - a) 0 0 (omega arith)

  pub filled_behind : (j : ℕ) → a + k ≤ j → get_or filled j 0 ≡ get_or m j 0
  filled_behind j h =
      let e : a + (k + (j - a - k)) ≡ j = omega arith in
      get_or-append_right (take a m) (replicate k 0 ++ post_of a k m) a j 0 before (omega arith)
      ∙ get_or-append_right (replicate k 0) (post_of a k m) k (j - a) 0 (length-replicate {A = ℕ} k 0) (omega arith)
      ∙ get_or-drop k _ (j - a - k) 0 ∙ get_or-drop a m (k + (j - a - k)) 0 ∙ ap (λ (i : ℕ). get_or m i 0) e

-- ── the words of a block from one offset up to another ────────────────────────────────────────────
pub in_block_filled : (m : List ℕ) (s from to a k : ℕ) → from ≤ to → to ≤ 184 → block_at s + 184 ≤ length m → a ≡ block_at s + from → a + k ≡ block_at s + to
    → length (put_mid a k m (replicate k 0)) ≡ length m → InBlock s m (put_mid a k m (replicate k 0)) (cleared from to (block m s))
in_block_filled m s from to a k low high room first last size =
    record {
      size = size;
      below = λ j h. filled_before m a k inside j (omega arith);
      above = λ j h. filled_behind m a k inside j (omega arith);
      words = fun_ext λ offset. go offset (dec_lt offset from) (dec_lt offset to) (dec_lt offset 184);
    }
  where
    inside : a + k ≤ length m
    inside = omega arith

    m' : List ℕ
    m' = put_mid a k m (replicate k 0)

    go : (offset : ℕ) → Dec (offset < from) → Dec (offset < to) → Dec (offset < 184) → block m' s offset ≡ cleared from to (block m s) offset
    go offset (yes l) t w =
        block_word m' s offset (omega arith) ∙ filled_before m a k inside (block_at s + offset) (omega arith)
        ∙ sym (block_word m s offset (omega arith)) ∙ sym (cleared_below from to (block m s) offset l)
    go offset (no l) (yes t) w =
        block_word m' s offset (omega arith) ∙ filled_inside m a k inside (block_at s + offset) (omega arith) (omega arith)
        ∙ sym (cleared_inside from to (block m s) offset (omega arith) t)
    go offset (no l) (no t) (yes w) =
        block_word m' s offset w ∙ filled_behind m a k inside (block_at s + offset) (omega arith)
        ∙ sym (block_word m s offset w) ∙ sym (cleared_above from to (block m s) offset (omega arith))
    go offset (no l) (no t) (no w) =
        block_end m' s offset (omega arith) ∙ sym (block_end m s offset (omega arith)) ∙ sym (cleared_above from to (block m s) offset (omega arith))
