-- Reading and writing variables, the binding of names, and the value of an expression.
use Rattle.std.specs.Prelude.{Bool, false, cond, ◌||◌, List, [], ◌∷◌, ◌++◌, ℕ, zero, suc, eqb, length, get_or, set, replicate}
use Rattle.std.proofs.Math.Option.{Option, none, some}
use Rattle.words.specs.Words.{bit, wrapping_add, wrapping_subtract, wrapping_multiply, signed_less}
use Rattle.words_division.specs.Division.{signed_quotient, signed_remainder}
use Rattle.listing.specs.Expressions.{bind}
use Rattle.listing.specs.Listing.{Piece, literal, value_of, written_mark, plus, minus, times, less, divide, remainder, Kind, by_reference, by_value}
use Rattle.walk.specs.State.{Variable, no_variable, new_variable, written_to, input_to, scheduled_on}

-- The variable at an address; past the last one there is none.
unfoldable pub variable_at : List Variable → ℕ → Variable
variable_at memory a = get_or memory a no_variable

-- The variable at an address changed: by a write at `now`, by an input, by a waiting write.
unfoldable pub write_at : ℕ → List Variable → ℕ → ℕ → List Variable
write_at now memory a v = set memory a (written_to now (variable_at memory a) v)

unfoldable pub input_at : ℕ → List Variable → ℕ → ℕ → List Variable
input_at now memory a v = set memory a (input_to now (variable_at memory a) v)

unfoldable pub schedule_at : List Variable → ℕ → ℕ → ℕ → List Variable
schedule_at memory a t v = set memory a (scheduled_on (variable_at memory a) t v)

-- No variable has this address: there is none past 16 environment variables and 11 times 16 owned ones.
-- Only a name that is not there (question 4) would have it.
abbrev pub nowhere : ℕ
nowhere = 65536

-- The address of a name.
unfoldable pub address_of : List ℕ → ℕ → ℕ
address_of names n = get_or names n nowhere

unfoldable pub addresses_of : List ℕ → List ℕ → List ℕ
addresses_of names [] = []
addresses_of names (n ∷ ns) = address_of names n ∷ addresses_of names ns

-- What a name stands for.
abbrev pub named_in : List Variable → List ℕ → ℕ → Variable
named_in memory names n = variable_at memory (address_of names n)

-- "if a name of that wait has been written in this instant before its turn"
unfoldable pub any_written : List Variable → List ℕ → List ℕ → Bool
any_written memory names [] = false
any_written memory names (n ∷ ns) = (variable_at memory (address_of names n)).written || any_written memory names ns

-- ── expressions: "An expression is postfix"; the values held, the last one first ──────────────────
-- The first value pushed is the left operand. (By its form an expression never lacks an operand.)
unfoldable pub operate : (ℕ → ℕ → ℕ) → List ℕ → List ℕ
operate f [] = []
operate f (y ∷ []) = []
operate f (y ∷ (x ∷ held)) = f x y ∷ held

unfoldable pub top : List ℕ → ℕ
top [] = 0
top (x ∷ held) = x

-- Document 02: "Evaluating can now fail": it does where a divisor, the value pushed last, is 0.
unfoldable pub divide_by : (ℕ → ℕ → ℕ) → List ℕ → Option (List ℕ)
divide_by f held = cond (eqb (top held) 0) none (some (operate f held))

-- "`#v` (a signed 32-bit literal), `n` (a name's value), `@n` (1 if it was written in this instant, else 0), `+ - * <`";
-- document 02: "Expressions gain `/` and `%`". `now` is the moment of the instant, `name` says what each name stands for.
unfoldable pub evaluate_piece : ℕ → (ℕ → Variable) → Piece → List ℕ → Option (List ℕ)
evaluate_piece now name (literal v) held = some (v ∷ held)
evaluate_piece now name (value_of n) held = some ((name n).value ∷ held)
evaluate_piece now name (written_mark n) held = some (bit (name n).written ∷ held)
evaluate_piece now name plus held = some (operate wrapping_add held)
evaluate_piece now name minus held = some (operate wrapping_subtract held)
evaluate_piece now name times held = some (operate wrapping_multiply held)
evaluate_piece now name less held = some (operate (λ x y. bit (signed_less x y)) held)
evaluate_piece now name divide held = divide_by signed_quotient held
evaluate_piece now name remainder held = divide_by signed_remainder held

unfoldable pub evaluate_pieces : ℕ → (ℕ → Variable) → List Piece → List ℕ → Option (List ℕ)
evaluate_pieces now name [] held = some held
evaluate_pieces now name (p ∷ ps) held = bind (evaluate_piece now name p held) (evaluate_pieces now name ps)

-- "It leaves one value.": that value, or none if the evaluation fails.
unfoldable pub evaluate_by : ℕ → (ℕ → Variable) → List Piece → Option ℕ
evaluate_by now name e = bind (evaluate_pieces now name e []) (λ held. some (top held))

unfoldable pub evaluate : ℕ → List Variable → List ℕ → List Piece → Option ℕ
evaluate now memory names e = evaluate_by now (named_in memory names) e

-- ── names: "Names in a routine are its arguments, then its locals, numbered from 0." ──────────────
-- k addresses from a on
unfoldable pub consecutive : ℕ → ℕ → List ℕ
consecutive zero a = []
consecutive (suc k) a = a ∷ consecutive k (suc a)

-- The addresses of a new routine's names: an argument by reference has the address passed,
-- one by value and a local the next of the routine's own, which begin at `base`.
unfoldable pub bind_names : List Kind → List ℕ → ℕ → ℕ → List ℕ
bind_names [] passed locals base = consecutive locals base
bind_names (by_reference ∷ ks) [] locals base = nowhere ∷ bind_names ks [] locals base
bind_names (by_reference ∷ ks) (a ∷ passed) locals base = a ∷ bind_names ks passed locals base
bind_names (by_value ∷ ks) [] locals base = base ∷ bind_names ks [] locals (suc base)
bind_names (by_value ∷ ks) (a ∷ passed) locals base = base ∷ bind_names ks passed locals (suc base)

-- The variables that a new routine owns: one for each argument by value, holding what was passed, and its locals.
-- `now` is the moment that makes them, `name` says what each of the caller's names stands for.
unfoldable pub own_variables : ℕ → List Kind → List ℕ → ℕ → (ℕ → Variable) → List Variable
own_variables now [] arguments locals name = replicate locals (new_variable now 0)
own_variables now (by_reference ∷ ks) [] locals name = own_variables now ks [] locals name
own_variables now (by_reference ∷ ks) (n ∷ arguments) locals name = own_variables now ks arguments locals name
own_variables now (by_value ∷ ks) [] locals name = new_variable now 0 ∷ own_variables now ks [] locals name
own_variables now (by_value ∷ ks) (n ∷ arguments) locals name = new_variable now (name n).value ∷ own_variables now ks arguments locals name
