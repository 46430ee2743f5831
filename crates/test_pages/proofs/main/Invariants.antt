use Rattle.std.proofs.Common.{◌≡◌, length}
use Rattle.test_pages.proofs.main.Given as goal

abbrev pub invariant-loop : goal.invariant-loop
invariant-loop l = (length l.moments ≡ 400) × (length l.outputs ≡ 400) × (length l.values ≡ 400) × (length l.memory ≡ 2800) × (length l.out ≡ 4096)
