-- The columns of a right-aligned figure, from the last to the first.
use Rattle.std.specs.Prelude.{cond, ℕ, ◌+◌, ◌%◌, eqb}
use Prim.Native.Char.{code}
use Rattle.listing.specs.Bytes.{space}

-- what is left of a number after the columns to the right of this one: its last digit, or a space if nothing is left
abbrev pub column_byte : ℕ → ℕ
column_byte rest = cond (eqb rest 0) space (code "0" + rest % 10)
