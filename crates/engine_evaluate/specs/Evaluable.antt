-- What evaluation asks for, and what it gives. The letters: t the table's words, m the machine's, me the running routine's slot,
-- `cells` the address of an expression's first cell.
use Rattle.std.specs.Prelude.{true, List, ◌∷◌, ◌≡◌, ℕ, ◌+◌, ◌*◌, ◌≤◌, ◌<◌, length, IfSome}
use Rattle.std.proofs.Math.Option.{Option, some}
use Rattle.std.specs.declared.option.Option as program
use Rattle.listing.specs.Lists.{all}
use Rattle.listing.specs.Expressions.{adds, effect_of, may_come, held_with, leaves_one}
use Rattle.listing.specs.Questions.{piece_is_there}
use Rattle.table.specs.Decode.{piece_at, pieces_at}
use Rattle.engine_evaluate.specs.Bound.{bindings_of, FromNames}
use Rattle.engine_values.specs.Values.{held_by, left_by}
use Rattle.engine_values.specs.declared.Held.{Held}
use Rattle.walk.specs.Memory.{evaluate_piece, evaluate_by}
use Rattle.listing.specs.Listing.{Piece}

-- These cells hold an expression in its form, and its names are names of the routine.
pub record Evaluable (t m : List ℕ) (me cells pieces : ℕ) : Type 0 where
  pub size : 12288 ≤ length m
  pub slot : me < 64
  pub inside : cells + 2 * pieces ≤ length t
  pub form : leaves_one (pieces_at t cells pieces) ≡ true
  pub names : all (piece_is_there (length (bindings_of m me))) (pieces_at t cells pieces) ≡ true

-- The cell at a holds a piece whose name, if it has one, is one of the routine's.
pub record PieceStands (t m : List ℕ) (me a : ℕ) : Type 0 where
  pub size : 12288 ≤ length m
  pub slot : me < 64
  pub inside : a + 2 ≤ length t
  pub name : piece_is_there (length (bindings_of m me)) (piece_at t a) ≡ true

-- It may come after so many values.
pub record MayCome (t m : List ℕ) (me a : ℕ) (values : List ℕ) (count : ℕ) : Type 0 where
  pub piece : PieceStands t m me a
  pub places : length values ≡ 8
  pub most : count ≤ 8
  pub room : may_come count (effect_of (piece_at t a)) ≡ true

-- The piece adds r to what is held.
pub record Adds (t m : List ℕ) (me a r : ℕ) : Type 0 where
  pub effect : effect_of (piece_at t a) ≡ adds
  pub values : (moment : ℕ) (below : List ℕ) → FromNames m me (λ names. evaluate_piece moment names (piece_at t a) below) (some (r ∷ below))

-- What is held after the piece is what it makes of the values held before; nothing is where the evaluation fails.
pub record Past (t m : List ℕ) (me a : ℕ) (before : List ℕ) (h : Held) (after : List ℕ) (r : program.Option Held) : Type 0 where
  pub size : length after ≡ 8
  pub counted : IfSome r (λ x. x.count ≡ held_with h.count (effect_of (piece_at t a)))
  pub values : (moment : ℕ) → FromNames m me (λ names. evaluate_piece moment names (piece_at t a) (held_by before h)) (left_by after r)

-- r is the expression's value, or none, at any moment.
abbrev pub Evaluates : List ℕ → ℕ → List Piece → Option ℕ → Type 0
Evaluates m me e r = (moment : ℕ) → FromNames m me (λ names. evaluate_by moment names e) r
