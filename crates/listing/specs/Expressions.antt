-- The form of an expression (document 01, "The listing"): its pieces, and what it leaves and holds.
use Rattle.std.specs.Prelude.{Bool, true, false, cond, ◌&&◌, List, [], ◌∷◌, ℕ, suc, ◌-◌, eqb, ltb, leb}
use Rattle.std.proofs.Math.Option.{Option, none, some}
use Prim.Native.Char.{code}
use Rattle.listing.specs.Bytes.{Bytes, read_figure}
use Rattle.listing.specs.Listing.{Piece, literal, value_of, written_mark, plus, minus, times, less, divide, remainder, Expression}

-- ── readings that may fail ───────────────────────────────────────────────────────
-- what was read, handed on
abbrev pub bind : {A B : Type 0} → Option A → (A → Option B) → Option B
bind none next = none
bind (some a) next = next a

-- a result that counts only if a test passes
abbrev pub when : {A : Type 0} → Bool → A → Option A
when true a = some a
when false a = none

-- every element read, or none
unfoldable pub each : {A B : Type 0} → (A → Option B) → List A → Option (List B)
each read [] = some []
each read (x ∷ xs) = bind (read x) (λ y. bind (each read xs) (λ ys. some (y ∷ ys)))

-- nothing comes after the first byte
unfoldable pub alone : {A : Type 0} → Bytes → A → Option A
alone [] a = some a
alone (byte ∷ rest) a = none

-- ── pieces ───────────────────────────────────────────────────────────────────────
-- 2 ^ 31 and 2 ^ 32
abbrev pub half_range : ℕ
half_range = 2147483648

abbrev pub word_range : ℕ
word_range = 4294967296

-- "`#v` (a signed 32-bit literal)": -2147483648 to 2147483647, as a word;
-- "A minus stands only before a literal, never `-0`."
unfoldable pub read_literal : Bytes → Option Piece
read_literal [] = none
read_literal (byte ∷ rest) =
    cond (eqb byte (code "-"))
    (bind (read_figure rest) (λ n. when (leb 1 n && leb n half_range) (literal (word_range - n))))
    (bind (read_figure (byte ∷ rest)) (λ n. when (ltb n half_range) (literal n)))

-- "the pieces `#v` .., `n` (a name's value), `@n` .., `+ - * <`"; document 02: "Expressions gain `/` and `%`"
unfoldable pub read_piece : Bytes → Option Piece
read_piece [] = none
read_piece (byte ∷ rest) =
    cond (eqb byte (code "#")) (read_literal rest)
    (cond (eqb byte (code "@")) (bind (read_figure rest) (λ n. some (written_mark n)))
    (cond (eqb byte (code "+")) (alone rest plus)
    (cond (eqb byte (code "-")) (alone rest minus)
    (cond (eqb byte (code "*")) (alone rest times)
    (cond (eqb byte (code "<")) (alone rest less)
    (cond (eqb byte (code "/")) (alone rest divide)
    (cond (eqb byte (code "%")) (alone rest remainder)
    (bind (read_figure (byte ∷ rest)) (λ n. some (value_of n))))))))))

-- ── "It leaves one value and never holds more than 8; both belong to its form." ──
abbrev pub most_values_held : ℕ
most_values_held = 8

-- what a piece does to the values held: it adds one, or takes two and leaves one
pub data Effect : Type 0 where
  adds joins : Effect

unfoldable pub effect_of : Piece → Effect
effect_of (literal v) = adds
effect_of (value_of n) = adds
effect_of (written_mark n) = adds
effect_of plus = joins
effect_of minus = joins
effect_of times = joins
effect_of less = joins
effect_of divide = joins
effect_of remainder = joins

-- if so many are held, is there room for one more, are there two to take?
unfoldable pub may_come : ℕ → Effect → Bool
may_come held adds = ltb held most_values_held
may_come held joins = leb 2 held

-- how many are held then
unfoldable pub held_with : ℕ → Effect → ℕ
held_with held adds = suc held
held_with held joins = held - 1

-- do these pieces leave one value, and hold at most 8, if so many are held before them?
unfoldable pub leaves_one_from : ℕ → Expression → Bool
leaves_one_from held [] = eqb held 1
leaves_one_from held (p ∷ rest) = may_come held (effect_of p) && leaves_one_from (held_with held (effect_of p)) rest

abbrev pub leaves_one : Expression → Bool
leaves_one expression = leaves_one_from 0 expression

-- the expression of a field's pieces
unfoldable pub read_expression : List Bytes → Option Expression
read_expression pieces = bind (each read_piece pieces) (λ expression. when (leaves_one expression) expression)
