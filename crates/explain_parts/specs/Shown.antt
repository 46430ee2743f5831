-- Bytes as they are shown: none that a terminal would act on is left.
use Rattle.std.specs.Prelude.{Bool, cond, ◌&&◌, [], ◌∷◌, ◌++◌, ℕ, ◌+◌, ◌-◌, ◌/◌, ◌%◌, eqb, ltb, leb, length, take}
use Prim.Native.Char.{code}
use Rattle.listing.specs.Bytes.{Bytes, tab}

-- a digit of sixteen
unfoldable pub hex_digit : ℕ → ℕ
hex_digit d = cond (ltb d 10) (code "0" + d) (code "A" + (d - 10))

-- a byte as \x and two digits
abbrev pub hexed : ℕ → Bytes
hexed byte = code "\\" ∷ code "x" ∷ hex_digit (byte / 16) ∷ hex_digit (byte % 16) ∷ []

-- a tab as \t, a byte that prints as itself, any other as \x and two digits
unfoldable pub escaped : ℕ → Bytes
escaped byte =
    cond (eqb byte tab) (code "\\" ∷ code "t" ∷ [])
    (cond (leb (code " ") byte && leb byte (code "~")) (byte ∷ []) (hexed byte))

unfoldable pub escaped_all : Bytes → Bytes
escaped_all [] = []
escaped_all (byte ∷ bytes) = escaped byte ++ escaped_all bytes

-- two dots where bytes are left out
unfoldable pub dots : Bool → Bytes
dots cut = cond cut (code "." ∷ code "." ∷ []) []

-- at most so many bytes
unfoldable pub shown : ℕ → Bytes → Bytes
shown most bytes = escaped_all (take most bytes) ++ dots (ltb most (length bytes))
