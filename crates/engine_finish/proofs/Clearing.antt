-- The working words of all blocks cleared.
use mathlib.Core.Path.{◌≡◌, ap, ◌∙◌}
use mathlib.Core.List.{List}
use Prim.Native.Nat.{ℕ, ◌+◌, ◌≤◌, ◌<◌}
use native.Mathlib.Decide.{dec_lt}
use native.Mathlib.Numerals.{add-one}
use native.Mathlib.Omega.{arith}
use Rattle.engine_blocks.specs.Blocks.{block}
use Rattle.engine_blocks.specs.Changes.{InBlock}
use Rattle.engine_blocks.proofs.InBlocks.{other_block, same_outside}
use Rattle.engine_due.specs.Passes.{Mapped}
use Rattle.engine_due.proofs.Passing.{one_more_mapped}
use Rattle.engine_finish.specs.Ended.{idle_block, WorkingCleared}

pub one_more_cleared : (a m m' : List ℕ) (s : ℕ) → s < 64 → Mapped s idle_block a m → InBlock s m m' (idle_block (block m s)) → Mapped (s + 1) idle_block a m'
one_more_cleared a m m' s few done next = rw add-one (one_more_mapped idle_block a m m' s few done next)

pub all_cleared : (a m m' : List ℕ) → Mapped 64 idle_block a m → InBlock 64 m m' (idle_block (block m 64)) → WorkingCleared a m'
all_cleared a m m' slots outer =
    let o = same_outside outer (omega arith) in
    record {
      size = o.size ∙ slots.size;
      header = o.header ∙ slots.header;
      past = o.past ∙ slots.past;
      made = λ s h. go s h (dec_lt s 64);
    }
  where
    go : (s : ℕ) → s ≤ 64 → Dec (s < 64) → block m' s ≡ idle_block (block a s)
    go s h (yes l) = other_block outer s (λ e. omega arith) ∙ slots.made s l l
    go s h (no l) =
        let e : s ≡ 64 = omega (arith, l) in
        rw e (outer.words ∙ ap idle_block (slots.others 64 (omega arith) (omega arith)))
