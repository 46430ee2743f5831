-- `explain::traced::put_traced` meets its contract.
use mathlib.Core.Path.{refl}
use native.Mathlib.Omega.{arith}
use Rattle.explain.specs.Traced.{unread, read}
use Rattle.explain.proofs.traced.put_traced.Goals as goal

pub returns-in_default : goal.returns-in_default
returns-in_default g c = (unread refl, omega arith)

pub returns-in_default-read_listing : goal.returns-in_default-read_listing
returns-in_default-read_listing g c = (unread refl, omega arith)

pub returns : goal.returns
returns g c = let said = c.put_played.ensures in (read said.0, said.1)
