-- Rows by computation.
use mathlib.Core.Path.{◌≡◌, refl}
use mathlib.Core.List.{[], ◌∷◌, ◌++◌, map}
use mathlib.Core.Option.{Option, none, some}
use Prim.Native.Nat.{ℕ}
use Prim.Native.String.{String}
use Rattle.listing.specs.Bytes.{Bytes, bytes_of, digits, figure}
use Rattle.openings.specs.Openings.{Opening}
use Rattle.page_rows.specs.Rows.{right_aligned, row_of, hyphens, open_for, row, heading, blank_row}

opening : ℕ → ℕ → Option ℕ → Opening
opening output opened closed = record { output = output; opened = opened; closed = closed }

-- a quoted text and a line feed
line : String → Bytes
unfolding bytes_of
line text = bytes_of text ++ (10 ∷ [])

the-rows-agree :
    heading ∷ blank_row
    ∷ row (opening 0 0 (some 0))
    ∷ row (opening 7 3 (some 60003))
    ∷ row (opening 15 0 (some 18446744073709551615))
    ∷ row (opening 10 18446744073709551615 none)
    ∷ [] ≡ map line
    ("NR               OPENED             OPEN FOR"
    ∷ "                                            "
    ∷ " 0                    0                    0"
    ∷ " 7                    3                60000"
    ∷ "15                    0 18446744073709551615"
    ∷ "10 18446744073709551615 --------------------"
    ∷ [])
unfolding opening line bytes_of digits figure right_aligned row_of hyphens open_for row heading blank_row
the-rows-agree = refl
