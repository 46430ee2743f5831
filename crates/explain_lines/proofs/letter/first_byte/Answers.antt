-- `explain_lines::letter::first_byte` meets its contract.
use mathlib.Core.Path.{◌≡◌, refl}
use mathlib.Core.List.{List, [], ◌∷◌}
use Prim.Native.Nat.{ℕ}
use native.Mathlib.Omega.{arith}
use lib.ListN.{length, get_or}
use Rattle.explain_lines.proofs.letter.first_byte.Goals as goal

none_first : (s : List ℕ) → length s ≡ 0 → 0 ≡ get_or s 0 0
none_first [] e = refl
none_first (b ∷ s) e = absurd (let z : ⊥ = omega (arith, e) in z)

pub returns-then-s-eq0 : goal.returns-then-s-eq0
returns-then-s-eq0 c = none_first c.args.s.now c.if-s-eq0.true
