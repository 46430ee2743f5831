use Rattle.std.proofs.Common.{◌≡◌, ℕ, ◌-◌, List, min, length, take, drop, arith}
use Rattle.std.proofs.lemmas.Grind.{common_steps}
use Rattle.test_cases.proofs.Telling.{all_words}
use Rattle.test_cases.proofs.memories.all_from.Goals as goal

from_place : (from n : ℕ) (m : List ℕ) → n ≡ min from (length m) → take (length m - n) (drop n m) ≡ drop from m
from_place from n m e = grind (arith, common_steps)

pub returns : goal.returns
returns c =
    let a = c.args in
    rw (from_place a.from c.min.result a.m.now c.min.ensures) at (all_words a.w _ c.all_are.ensures)
