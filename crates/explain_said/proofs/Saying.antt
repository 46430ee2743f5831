-- What is said, put piece by piece.
use mathlib.Core.Path.{refl}
use mathlib.Core.List.{[]}
use Prim.Native.Nat.{ℕ}
use native.Mathlib.Omega.{arith}
use Rattle.listing.specs.Bytes.{Bytes}
use Rattle.session_print.specs.Puts.{Puts}

-- nothing is put
pub none_put : (l : Bytes) (at : ℕ) → Puts l at [] l at
none_put l at = record { past = omega arith; stored = refl }
