-- The lines of a listing at which the rule of a stop is asked. Document 01, "The questions": "At `F`", "At `A`". Document 02, Change 2: "Asked at `S` and `U` after 13,
-- and at `A` before 16".
use Rattle.std.specs.Prelude.{Bool, true, false, cond, ◌&&◌, ◌||◌, List, [], ◌∷◌, ◌++◌, ℕ, ◌+◌, ◌-◌, eqb, ltb, get_or}
use Prim.Native.Char.{code}
use Rattle.listing.specs.Bytes.{Bytes, bytes_of, line_feed, split, figure}
use Rattle.explain_parts.specs.Shown.{shown}
use Rattle.explain_trace_said.specs.Places.{place_text}

-- a byte stands in a text
unfoldable pub stands_in : ℕ → Bytes → Bool
stands_in byte [] = false
stands_in byte (first ∷ rest) = eqb first byte || stands_in byte rest

-- a line divides if a piece `/` or `%` is in it: by the form of a listing these bytes stand nowhere else
unfoldable pub divides : Bytes → Bool
divides line = stands_in (code "/") line || stands_in (code "%") line

-- "every instruction with an expression": "`S|n|e`", "`U|e|k`", "`A|n|d|e`"
unfoldable pub with_expression : ℕ → Bool
with_expression letter = eqb letter (code "S") || (eqb letter (code "U") || eqb letter (code "A"))

-- is the rule of a stop asked at a line? "14 At `F`: ..", "15 At `F`: ..", "16 At `A`: ..", "17 At `A`: ..", "18: is every divisor other than 0?";
-- "13 Is a step left?" is asked before each instruction: no line
unfoldable pub asks : ℕ → Bytes → Bool
asks stop line =
    let letter = get_or line 0 0 in
    cond (eqb stop 14) (eqb letter (code "F"))
    (cond (eqb stop 15) (eqb letter (code "F"))
    (cond (eqb stop 16) (eqb letter (code "A"))
    (cond (eqb stop 17) (eqb letter (code "A"))
    (cond (eqb stop 18) (with_expression letter && divides line) false))))

-- so many lines are shown
abbrev pub most_shown : ℕ
most_shown = 8

-- at how many lines it is asked
unfoldable pub seen_after : ℕ → ℕ → Bytes → ℕ
seen_after stop seen line = cond (asks stop line) (seen + 1) seen

unfoldable pub seen_from : ℕ → ℕ → List Bytes → ℕ
seen_from stop seen [] = seen
seen_from stop seen (line ∷ lines) = seen_from stop (seen_after stop seen line) lines

abbrev pub count_all : ℕ → Bytes → ℕ
count_all stop text = seen_from stop 0 (split line_feed text)

-- the only line at which it is asked is the one at which it stopped
unfoldable pub word_text : Bool → Bytes
word_text true = bytes_of "it stops here: "
word_text false = bytes_of "it is asked here: "

unfoldable pub asked_line : Bytes → Bool → ℕ → Bytes → Bytes
asked_line path alone number line = place_text 200 path number ++ (word_text alone ++ (shown 120 line ++ bytes_of "\n"))

-- a line, it being asked at so many before it
unfoldable pub asked_here_lem : Bytes → ℕ → Bool → ℕ → ℕ → Bytes → Bytes
asked_here_lem path stop alone seen number line = cond (asks stop line) (cond (ltb seen most_shown) (asked_line path alone number line) []) []

-- so many bytes at most
unfoldable pub room : ℕ → ℕ → Bytes → ℕ
room stop seen line = cond (asks stop line) (cond (ltb seen most_shown) 1700 0) 0

-- how many more there are
unfoldable pub more_text : ℕ → Bytes
more_text seen = cond (ltb most_shown seen) (bytes_of "and at " ++ (figure (seen - most_shown) ++ bytes_of " more\n")) []

unfoldable pub asked_from : Bytes → ℕ → Bool → ℕ → ℕ → List Bytes → Bytes
asked_from path stop alone seen number [] = more_text seen
asked_from path stop alone seen number (line ∷ lines) =
    asked_here_lem path stop alone seen number line ++ asked_from path stop alone (seen_after stop seen line) (number + 1) lines

abbrev pub asked_all : Bytes → ℕ → Bool → Bytes → Bytes
asked_all path stop alone text = asked_from path stop alone 0 1 (split line_feed text)

-- of a listing
unfoldable pub asked_text : Bytes → Bytes → ℕ → Bytes
asked_text path listing stop = asked_all path stop (eqb (count_all stop listing) 1) listing
