-- `explain_listing::said::put_file` meets its contract.
use mathlib.Core.Path.{refl}
use native.Mathlib.Omega.{arith}
use Rattle.explain_listing.specs.Said.{unread, read}
use Rattle.explain_listing.proofs.said.put_file.Goals as goal

pub put_verdict-requires : goal.put_verdict-requires
put_verdict-requires g c = let got = c.in-Some.ensures in omega (arith, got.read.0, got.read.1, got.length, c.text-bytes.ensures)

pub returns-in-Some : goal.returns-in-Some
returns-in-Some g c = let said = c.put_verdict.ensures in (read said, said.few)

pub returns-in-None : goal.returns-in-None
returns-in-None g c = (unread refl, omega arith)
