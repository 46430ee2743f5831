-- What loading gives (document 01, "The questions"): the loader's outcome as one value.
use Rattle.std.specs.Prelude.{◌≡◌, Bool, true, false, List, ℕ, zero, suc, leb, length}
use Rattle.listing.specs.Bytes.{Bytes}
use Rattle.listing.specs.Listing.{Listing}
use Rattle.listing.specs.Questions.{place2, place3, place4, place5, listing_in}

pub data Loading : Type 0 where
  -- the number of the question and the place
  refused : ℕ → ℕ → Loading
  loaded : Listing → Loading

-- document 01's number and place for each case: "A call that goes through has number 0 and place 0."
unfoldable pub loading_number : Loading → ℕ
loading_number (refused number place) = number
loading_number (loaded listing) = 0

unfoldable pub loading_place : Loading → ℕ
loading_place (refused number place) = place
loading_place (loaded listing) = 0

-- question 1, "Are the lent memories long enough? Table 12,288 words of 32 bits"
abbrev pub table_length : ℕ
table_length = 12288

abbrev pub is_long_enough : List ℕ → Bool
is_long_enough table = leb table_length (length table)

-- a question refuses at its place, or at place 0 lets the others be put
abbrev pub ask : ℕ → ℕ → Loading → Loading
ask number zero others = others
ask number (suc line) others = refused number (suc line)

-- "The loader puts each question to the whole listing before the next"
unfoldable pub questions2to5 : Bytes → Loading
questions2to5 text =
    ask 2 (place2 text)
    (ask 3 (place3 text)
    (ask 4 (place4 text)
    (ask 5 (place5 text)
    (loaded (listing_in text)))))

-- loading a text into a table that is long enough, or not: "(question 1: place 0)"
unfoldable pub loading : Bool → Bytes → Loading
loading false text = refused 1 0
loading true text = questions2to5 text

-- these bytes, loaded into a table that is long enough, give this listing
abbrev pub Loads : Bytes → Listing → Type 0
Loads text listing = loading true text ≡ loaded listing
