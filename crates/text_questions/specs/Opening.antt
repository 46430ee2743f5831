-- "The file begins with the bytes `P`, tab".
use Rattle.std.specs.Prelude.{Bool, true, false, ◌&&◌, [], ◌∷◌, eqb}
use Rattle.listing.specs.Bytes.{Bytes}

unfoldable pub begins_with : Bytes → Bytes → Bool
begins_with [] text = true
begins_with (byte ∷ opening) [] = false
begins_with (byte ∷ opening) (first ∷ text) = eqb byte first && begins_with opening text
