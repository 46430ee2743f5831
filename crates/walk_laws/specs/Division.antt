-- Expressions with `/` and `%` (document 02, Change 2): when evaluating fails, and what stays as document 01 has it.
use Rattle.std.specs.Prelude.{◌≡◌, Bool, true, false, List, [], ◌∷◌, ◌++◌, ℕ}
use Rattle.std.proofs.Math.Option.{some}
use Rattle.words.specs.Words.{bit, wrapping_add, wrapping_subtract, wrapping_multiply, signed_less}
use Rattle.listing.specs.Listing.{Piece, literal, value_of, written_mark, plus, minus, times, less, divide, remainder, Expression}
use Rattle.walk.specs.State.{Variable}
use Rattle.walk.specs.Memory.{operate, top, evaluate_pieces}

-- "Expressions gain `/` and `%`": is it one of these?
unfoldable pub is_division : Piece → Bool
is_division (literal v) = false
is_division (value_of n) = false
is_division (written_mark n) = false
is_division plus = false
is_division minus = false
is_division times = false
is_division less = false
is_division divide = true
is_division remainder = true

-- A divisor that is met is 0, if so much is held at first: the pieces before a `/` or a `%` are evaluated, and leave 0 on top.
pub record MeetsZero (now : ℕ) (name : ℕ → Variable) (start : List ℕ) (e : Expression) : Type 0 where
  pub before : Expression
  pub sign : Piece
  pub after : Expression
  pub held : List ℕ
  pub parts : e ≡ before ++ (sign ∷ after)
  pub division : is_division sign ≡ true
  pub met : evaluate_pieces now name before start ≡ some held
  pub zero : top held ≡ 0

-- ── document 01's evaluation, which cannot fail ───────────────────────────────────────────────────
-- (It has no `/` and no `%`; for them anything can stand here.)
unfoldable pub base_piece : (ℕ → Variable) → Piece → List ℕ → List ℕ
base_piece name (literal v) held = v ∷ held
base_piece name (value_of n) held = (name n).value ∷ held
base_piece name (written_mark n) held = bit (name n).written ∷ held
base_piece name plus held = operate wrapping_add held
base_piece name minus held = operate wrapping_subtract held
base_piece name times held = operate wrapping_multiply held
base_piece name less held = operate (λ x y. bit (signed_less x y)) held
base_piece name divide held = held
base_piece name remainder held = held

unfoldable pub base_pieces : (ℕ → Variable) → Expression → List ℕ → List ℕ
base_pieces name [] held = held
base_pieces name (p ∷ ps) held = base_pieces name ps (base_piece name p held)

abbrev pub base_value : (ℕ → Variable) → Expression → ℕ
base_value name e = top (base_pieces name e [])
