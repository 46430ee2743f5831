-- A number of days.
use Rattle.std.proofs.Math.Option.{Option, none, some}
use Rattle.std.specs.Prelude.{ℕ}
use Rattle.listing.specs.Bytes.{Bytes}
use Rattle.walk.specs.Trace.{read_below}

-- 0 if the word is no figure of at most 9,999
unfoldable pub or_none : Option ℕ → ℕ
or_none none = 0
or_none (some days) = days

unfoldable pub days_of : Bytes → ℕ
days_of word = or_none (read_below 10000 word)
