-- Why no page is printed.
use Rattle.std.specs.Prelude.{Bool, cond, [], ℕ, eqb}
use Rattle.listing.specs.Bytes.{Bytes, bytes_of}

unfoldable pub too_long_lem : Bytes
too_long_lem = bytes_of "book: the print has 262,144 bytes or more: no page is printed\n"

unfoldable pub too_many_lem : Bytes
too_many_lem = bytes_of "book: there are more than 16,384 writes: no page is printed\n"

unfoldable pub turned_away : Bytes
turned_away = bytes_of "book: a moment falls, or an output is 16 or more or listed twice in a moment: no page is printed\n"

-- of so many bytes read, of whether all their writes were gathered, and of the first page's number; nothing if pages are printed
unfoldable pub why_none : ℕ → Bool → ℕ → Bytes
why_none read all number = cond (eqb read 262144) too_long_lem (cond all (cond (eqb number 0) [] turned_away) too_many_lem)
