-- The values held while an expression is evaluated. Document 01: "An expression is postfix".
use Rattle.std.specs.Prelude.{cond, List, [], ◌∷◌, ◌≡◌, ℕ, zero, suc, ◌-◌, eqb, ltb, length, get_or, Some, None, IfSome}
use Rattle.std.proofs.Math.Option.{Option, none, some}
use Rattle.std.specs.declared.option.Option as program
use Rattle.words.specs.Words.{bit, wrapping_add, wrapping_subtract, wrapping_multiply, signed_less}
use Rattle.words_division.specs.Division.{signed_quotient, signed_remainder}
use Rattle.listing.specs.Expressions.{bind}
use Rattle.engine_values.specs.declared.Held.{Held}

-- So many values below the one on top, the last one first: they stand in an array of 8, from place 1 on.
unfoldable pub below : List ℕ → ℕ → List ℕ
below values zero = []
below values (suc count) = get_or values (suc count) 0 ∷ below values count

-- All values held, the one on top first.
unfoldable pub held : List ℕ → ℕ → ℕ → List ℕ
held values zero top = []
held values (suc count) top = top ∷ below values count

abbrev pub held_by : List ℕ → Held → List ℕ
held_by values h = held values h.count h.top

-- The value that the program found, or none.
unfoldable pub found : program.Option ℕ → Option ℕ
found (Some v) = some v
found None = none

-- What a number of 64 bits stands for: a value, which has 32, or none.
unfoldable pub given : ℕ → Option ℕ
given r = cond (ltb r 4294967296) (some r) none

-- Document 02: "18: is every divisor other than 0?" What a division gives.
unfoldable pub divided : (ℕ → ℕ → ℕ) → ℕ → ℕ → Option ℕ
divided f x y = cond (eqb y 0) none (some (f x y))

-- "`+ - * <`" and "`/` and `%`", by the number of the piece's kind in a table: 3 to 8.
unfoldable pub sign_of : ℕ → ℕ → ℕ → Option ℕ
sign_of kind x y =
    cond (eqb kind 3) (some (wrapping_add x y)) (cond (eqb kind 4) (some (wrapping_subtract x y))
    (cond (eqb kind 5) (some (wrapping_multiply x y)) (cond (eqb kind 6) (some (bit (signed_less x y)))
    (cond (eqb kind 7) (divided signed_quotient x y) (cond (eqb kind 8) (divided signed_remainder x y) none)))))

-- The two values on top joined, the first one pushed on the left, if a value comes of it.
unfoldable pub joined : (ℕ → ℕ → Option ℕ) → List ℕ → Option (List ℕ)
joined f [] = none
joined f (y ∷ []) = none
joined f (y ∷ (x ∷ rest)) = bind (f x y) (λ v. some (v ∷ rest))

-- One value more is held, v on top.
pub record Pushed (before : List ℕ) (h : Held) (v : ℕ) (after : List ℕ) (r : Held) : Type 0 where
  pub size : length after ≡ 8
  pub counted : r.count ≡ suc h.count
  pub values : held_by after r ≡ v ∷ held_by before h

-- What is held after a piece: something, unless the evaluation fails.
unfoldable pub left_by : List ℕ → program.Option Held → Option (List ℕ)
left_by values (Some h) = some (held_by values h)
left_by values None = none

-- The two values on top are joined by the sign.
pub record Operated (values : List ℕ) (h : Held) (kind : ℕ) (r : program.Option Held) : Type 0 where
  pub counted : IfSome r (λ x. x.count ≡ h.count - 1)
  pub left : left_by values r ≡ joined (sign_of kind) (held_by values h)
