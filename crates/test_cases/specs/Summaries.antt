-- The last line of a test program's report.
use Rattle.std.specs.Prelude.{◌++◌, ℕ, zero, suc}
use Rattle.listing.specs.Bytes.{Bytes, bytes_of, figure}

-- how many cases agree; or else how many of them fail
unfoldable pub counted : ℕ → ℕ → Bytes
counted cases zero = figure cases ++ bytes_of " cases agree\n"
counted cases (suc failed) = figure (suc failed) ++ (bytes_of " of " ++ (figure cases ++ bytes_of " cases fail\n"))

-- a title before it
abbrev pub summary : Bytes → ℕ → ℕ → Bytes
summary title cases failed = title ++ counted cases failed
