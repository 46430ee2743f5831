-- Texts as bytes: the parts between separators, and decimal figures (document 01, "The listing").
-- A byte is a natural number; a figure has any length, and none wraps.
use Rattle.std.specs.Prelude.{Bool, true, false, cond, ◌&&◌, List, [], ◌∷◌, ◌++◌, ℕ, zero, suc, ◌+◌, ◌*◌, ◌-◌, ◌/◌, ◌%◌, eqb, ltb, leb}
use Rattle.std.proofs.Math.Option.{Option, none, some}
use Prim.Native.Char.{code}
use Prim.Native.String as Str
use Prim.Native.String.{String}
use Rattle.listing.specs.Lists.{all}

abbrev pub Bytes : Type 0
Bytes = List ℕ

-- a quoted text as bytes
unfoldable pub bytes_of : String → Bytes
bytes_of Str.[] = []
bytes_of (Str.◌∷◌ character text) = code character ∷ bytes_of text

-- "Plain ASCII"
abbrev pub is_ascii : ℕ → Bool
is_ascii byte = ltb byte 128

-- ── "fields parted by one tab .., pieces inside a field by one space, each line closed by a line feed" ──
abbrev pub tab : ℕ
tab = 9

abbrev pub line_feed : ℕ
line_feed = 10

abbrev pub space : ℕ
space = 32

-- one byte more in front of the parts of a text: a separator begins a new part, any other byte joins the first
unfoldable pub extend : Bool → ℕ → List Bytes → List Bytes
extend true byte parts = [] ∷ parts
extend false byte [] = (byte ∷ []) ∷ []
extend false byte (part ∷ parts) = (byte ∷ part) ∷ parts

-- the parts of a text between its separators: one more than there are separators, so two neighbours have an empty part between them
unfoldable pub split : ℕ → Bytes → List Bytes
split separator [] = [] ∷ []
split separator (byte ∷ text) = extend (eqb byte separator) byte (split separator text)

-- the parts with one separator between each two
unfoldable pub join : ℕ → List Bytes → Bytes
join separator [] = []
join separator (part ∷ []) = part
join separator (part ∷ next ∷ parts) = part ++ (separator ∷ join separator (next ∷ parts))

-- ── "Figures are decimal without leading zeros." ─────────────────────────────────
abbrev pub is_digit : ℕ → Bool
is_digit byte = leb (code "0") byte && leb byte (code "9")

-- a figure is one digit, or several of which the first is no zero
unfoldable pub is_figure : Bytes → Bool
is_figure [] = false
is_figure (byte ∷ []) = is_digit byte
is_figure (byte ∷ next ∷ rest) = leb (code "1") byte && leb byte (code "9") && all is_digit (next ∷ rest)

-- the number that digits make, read on from n
unfoldable pub read_on : ℕ → Bytes → ℕ
read_on n [] = n
read_on n (byte ∷ rest) = read_on (n * 10 + (byte - code "0")) rest

-- the number of a figure
unfoldable pub read_figure : Bytes → Option ℕ
read_figure piece = cond (is_figure piece) (some (read_on 0 piece)) none

-- the decimal digits of n, at most as many as the first number allows
unfoldable pub digits : ℕ → ℕ → Bytes
digits zero n = []
digits (suc most) n =
    let longer = digits most (n / 10) ++ ((code "0" + n % 10) ∷ []) in cond (ltb n 10) ((code "0" + n) ∷ []) longer

-- the figure of n, which has at most n + 1 digits
unfoldable pub figure : ℕ → Bytes
figure n = digits (suc n) n
