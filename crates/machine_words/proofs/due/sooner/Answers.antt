-- `machine_words::due::sooner` meets its contract.
use mathlib.Core.Path.{◌≡◌}
use Prim.Native.Nat.{ℕ, min}
use native.Mathlib.Omega.{arith}
use Rattle.walk.specs.Instant.{earlier}
use Rattle.machine.specs.Due.{due_at}
use Rattle.machine_words.proofs.DueLaws.{sooner_is_least}
use Rattle.machine_words.proofs.due.sooner.Goals as goal

least_is_sooner : (a b least : ℕ) → (a ≡ 0 → ⊥) → (b ≡ 0 → ⊥) → least ≡ min a b → due_at least ≡ earlier (due_at a) (due_at b)
least_is_sooner a b least f g e = rw e (sooner_is_least a b f g)

pub returns : goal.returns
returns c = least_is_sooner c.args.a c.args.b _ c.if-a-eq0.false c.if-b-eq0.false (omega arith)
