-- A line of a file.
use Rattle.std.specs.Prelude.{◌++◌, ℕ}
use Rattle.listing.specs.Bytes.{Bytes, bytes_of, figure}
use Rattle.explain_parts.specs.Shown.{shown}

-- the file, of whose name at most so many bytes are shown, and the line
unfoldable pub place_text : ℕ → Bytes → ℕ → Bytes
place_text most path line = shown most path ++ (bytes_of ":" ++ (figure line ++ bytes_of ": "))
