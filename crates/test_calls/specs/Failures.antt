-- Which item of which case fails, as a line.
use Rattle.std.specs.Prelude.{◌++◌, ℕ}
use Rattle.listing.specs.Bytes.{Bytes, bytes_of, figure}

unfoldable pub failure_line : ℕ → ℕ → Bytes
failure_line name item = bytes_of "case " ++ (figure name ++ (bytes_of ", item " ++ (figure item ++ bytes_of " fails\n")))
