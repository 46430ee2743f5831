-- One turn of the due pass over a block: the first i variables done, then one more.
use mathlib.Core.Path.{◌≡◌, refl}
use mathlib.Core.Bool.{true}
use mathlib.Core.List.{List}
use Prim.Native.Nat.{ℕ, zero, suc, ◌+◌, min}
use native.Mathlib.Numerals.{add-one}
use native.Mathlib.Omega.{arith}
use Rattle.engine_blocks.specs.Blocks.{Block, block, nonzero}
use Rattle.engine_blocks.specs.Changes.{InBlock, due_block}
use Rattle.engine_blocks.proofs.InBlocks.{in_block_start, in_block_then}
use Rattle.engine_due.specs.Passes.{due_first, due_slot}

pub no_variable_done : (t : ℕ) (m : List ℕ) (s : ℕ) → InBlock s m m (due_first 0 t (block m s))
unfolding due_first
no_variable_done t m s = in_block_start m s

pub one_more_done : {s : ℕ} {a m m' : List ℕ} (t i : ℕ) → InBlock s a m (due_first i t (block a s)) → InBlock s m m' (due_block i t (block m s))
    → InBlock s a m' (due_first (i + 1) t (block a s))
unfolding due_first
one_more_done t i done next = rw add-one (in_block_then done (rw done.words at next))

-- A free slot's block stays; in any other the own variables are done.
pub free_slot_stays : (t : ℕ) (m : List ℕ) (s : ℕ) → block m s 0 ≡ 0 → InBlock s m m (due_slot t (block m s))
unfolding due_slot nonzero
free_slot_stays t m s e = rw e (in_block_start m s)

nonzero_above : (n : ℕ) → (n ≡ 0 → ⊥) → nonzero n ≡ true
unfolding nonzero
nonzero_above zero h = absurd (h (let z : 0 ≡ 0 = omega arith in z))
nonzero_above (suc n) h = refl

pub taken_slot_done : {s : ℕ} {a m : List ℕ} (t count : ℕ) → (block a s 0 ≡ 0 → ⊥) → count ≡ min (block a s 4) 16 → InBlock s a m (due_first count t (block a s))
    → InBlock s a m (due_slot t (block a s))
unfolding due_slot
taken_slot_done {s} {a} t count taken e done = rw (nonzero_above (block a s 0) taken, ← e) done

-- A block that making the due writes would not change may be passed over.
pub block_passed_over : (m : List ℕ) (s : ℕ) (b : Block) → b ≡ block m s → InBlock s m m b
block_passed_over m s b e = rw e (in_block_start m s)
