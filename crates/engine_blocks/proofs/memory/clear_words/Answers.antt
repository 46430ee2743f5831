-- `engine_blocks::memory::clear_words` meets its contract.
use mathlib.Core.Path.{◌≡◌, refl, ap, ◌∙◌}
use Prim.Native.Nat.{ℕ, ◌+◌, ◌-◌, ◌≤◌}
use native.Mathlib.Omega.{arith}
use lib.ListN.{length, replicate}
use borrow.Author.Rules.{rules}
use borrow.Rule.Slice.PartMut.{same_len_mid, mid_len}
use Rattle.machine.specs.Words.{block_at}
use Rattle.engine_blocks.proofs.Filled.{in_block_filled}
use Rattle.engine_blocks.proofs.memory.clear_words.Goals as goal

pub returns : goal.returns
returns c =
    let a = c.args in
    let m = a.m.now in
    let start = block_at a.s in
    let first = start + a.from in
    let k = start + a.to - first in
    let room : start + 184 ≤ length m = search rules in
    let low : first ≤ start + a.to = omega arith in
    let last : first + k ≡ start + a.to = omega arith in
    let new = c.fill.ensures.after (λ y h. h) ∙ ap (λ (n : ℕ). replicate n 0) (mid_len first (start + a.to) m (omega arith)) in
    let size = same_len_mid first k m c.fill.new.self c.fill.ensures.len in
    rw new (in_block_filled m a.s a.from a.to first k (search rules) (search rules) room refl last (rw new at size))
