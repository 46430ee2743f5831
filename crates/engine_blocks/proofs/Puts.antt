-- A word put into a block; words cleared.
use mathlib.Core.Bool.{Bool, true, false, ◌&&◌, cond}
use mathlib.Core.Path.{◌≡◌, refl}
use Prim.Native.Nat.{ℕ, ◌≤◌, ◌<◌}
use lib.Dec.{ltb, leb}
use borrow.Author.Tests.{lt-ltb, le-ltb, le-leb, lt-leb, eq-eqb, ne_eqb}
use Rattle.engine_blocks.specs.Blocks.{Block}
use Rattle.engine_blocks.specs.Changes.{put_in, cleared}

pub put_same : (b : Block) (offset v : ℕ) → put_in b offset v offset ≡ v
unfolding put_in
put_same b offset v = rw (eq-eqb offset offset refl)

pub put_other : (b : Block) (offset v k : ℕ) → (k ≡ offset → ⊥) → put_in b offset v k ≡ b k
unfolding put_in
put_other b offset v k h = rw (ne_eqb k offset h)

pub cleared_inside : (from to : ℕ) (b : Block) (k : ℕ) → from ≤ k → k < to → cleared from to b k ≡ 0
unfolding cleared
cleared_inside from to b k h l = rw (le-leb from k h, lt-ltb k to l)

pub cleared_below : (from to : ℕ) (b : Block) (k : ℕ) → k < from → cleared from to b k ≡ b k
unfolding cleared
cleared_below from to b k h = rw (lt-leb from k h)

pub cleared_above : (from to : ℕ) (b : Block) (k : ℕ) → to ≤ k → cleared from to b k ≡ b k
unfolding cleared
cleared_above from to b k h = go (leb from k)
  where
    go : (w : Bool) → cond (w && ltb k to) 0 (b k) ≡ b k
    go true = rw (le-ltb k to h)
    go false = refl
