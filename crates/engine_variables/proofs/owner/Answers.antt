-- `engine_variables::owner` meets its contract.
use mathlib.Core.Path.{◌≡◌, ap, ◌∙◌}
use Prim.Native.Nat.{ℕ, ◌<◌, ◌/◌, ◌%◌, min}
use native.Mathlib.Omega.{arith}
use borrow.Author.Rules.{rules}
use Rattle.engine_variables.proofs.Readings.{binding_of, owner_capped}
use Rattle.engine_blocks.specs.Blocks.{owner_at}
use Rattle.engine_variables.proofs.owner.Goals as goal

pub returns : goal.returns
returns c =
    let a = c.args in
    let w = c.word_at-word.result in
    let few : w % 16 < 16 = omega arith in
    let capped : c.min-block.result ≡ min (w / 16) 64 = search rules in
    record {
      block = omega (arith, capped);
      index = few;
      owner = λ h. ap (λ (k : ℕ). owner_at k (w % 16)) capped ∙ owner_capped (w / 16) (w % 16)
          ∙ ap (λ (k : ℕ). owner_at (k / 16) (k % 16)) c.word_at-word.ensures ∙ binding_of a.m.now a.s a.name (search rules) h;
    }
