-- What a piece's first byte decides.
use mathlib.Core.Path.{◌≡◌, refl}
use mathlib.Core.Bool.{Bool, true, false, cond, ◌&&◌}
use mathlib.Core.List.{List, ◌∷◌}
use mathlib.Core.Option.{Option, none, some}
use Prim.Native.Nat.{ℕ, ◌+◌, ◌-◌, ◌≤◌, ◌<◌, min}
use native.Mathlib.Omega.{arith}
use native.Mathlib.Numerals.{add-one}
use lib.Dec.{eqb, ltb, leb}
use lib.ListN.{length, get_or}
use lib.Seq.{slice, slice-cons, slice_empty}
use borrow.Author.Tests.{le-ltb, le-leb, lt-leb, ne_eqb, leb-true, leb-false, ltb-true, ltb-false}
use Rattle.listing.specs.Bytes.{read_figure}
use Rattle.listing.specs.Expressions.{bind, when, alone, read_literal, read_piece}
use Rattle.listing.specs.Listing as L
use Rattle.text_piece.specs.Pieces.{cap, as_figure, figure_answer, as_piece, piece_answer, if_alone, negative, positive, marking, valuing}
use Rattle.text_piece.specs.declared.piece.Piece.TheVariants as PV

negative_of : (o : Option ℕ) → as_piece (bind o (λ n. when (leb 1 n && leb n 2147483648) (L.Piece.literal (4294967296 - n)))) ≡ negative (as_figure o)
negative_of none = refl
negative_of (some n) = go (leb 1 n) (leb n 2147483648) refl refl
  where
    go : (t u : Bool) → leb 1 n ≡ t → leb n 2147483648 ≡ u
        → as_piece (when (t && u) (L.Piece.literal (4294967296 - n))) ≡ cond (leb 1 (min n cap) && leb (min n cap) 2147483648) (PV.Literal (4294967296 - min n cap)) PV.Bad
    go true true e f =
        let hi : n ≤ 2147483648 = leb-true n 2147483648 f in
        let m : min n cap ≡ n = omega arith in
        rw (m, e, f)
    go true false e f =
        let hi : 2147483648 < n = leb-false n 2147483648 f in
        rw (le-leb 1 (min n cap) (omega arith), lt-leb (min n cap) 2147483648 (omega arith))
    go false true e f =
        let lo : n < 1 = leb-false 1 n e in
        rw (lt-leb 1 (min n cap) (omega arith))
    go false false e f =
        let lo : n < 1 = leb-false 1 n e in
        rw (lt-leb 1 (min n cap) (omega arith))

positive_of : (o : Option ℕ) → as_piece (bind o (λ n. when (ltb n 2147483648) (L.Piece.literal n))) ≡ positive (as_figure o)
positive_of none = refl
positive_of (some n) = go (ltb n 2147483648) refl
  where
    go : (t : Bool) → ltb n 2147483648 ≡ t → as_piece (when t (L.Piece.literal n)) ≡ cond (ltb (min n cap) 2147483648) (PV.Literal (min n cap)) PV.Bad
    go true e =
        let hi : n < 2147483648 = ltb-true n 2147483648 e in
        let m : min n cap ≡ n = omega arith in
        rw (m, e)
    go false e =
        let hi : 2147483648 ≤ n = ltb-false n 2147483648 e in
        rw (le-ltb (min n cap) 2147483648 (omega arith))

marking_of : (o : Option ℕ) → as_piece (bind o (λ n. some (L.Piece.written_mark n))) ≡ marking (as_figure o)
marking_of none = refl
marking_of (some n) = refl

valuing_of : (o : Option ℕ) → as_piece (bind o (λ n. some (L.Piece.value_of n))) ≡ valuing (as_figure o)
valuing_of none = refl
valuing_of (some n) = refl

-- a figure that a minus may stand before
pub negative_in : (n : ℕ) → (leb 1 n && leb n 2147483648) ≡ true → (1 ≤ n) × (n ≤ 2147483648)
negative_in n = go (leb 1 n) (leb n 2147483648) refl refl
  where
    go : (t u : Bool) → leb 1 n ≡ t → leb n 2147483648 ≡ u → (t && u) ≡ true → (1 ≤ n) × (n ≤ 2147483648)
    go true true e f h = (leb-true 1 n e, leb-true n 2147483648 f)
    go true false e f h = absurd (let z : ◌≡◌ {A = ℕ} 0 1 = cc in omega arith)
    go false u e f h = absurd (let z : ◌≡◌ {A = ℕ} 0 1 = cc in omega arith)

pub literal_none : (s : List ℕ) (i to : ℕ) → i ≡ to → as_piece (read_literal (slice i to s)) ≡ PV.Bad
unfolding read_literal
literal_none s i to e = rw (e, slice_empty to s)

pub piece_none : (s : List ℕ) (i to : ℕ) → i ≡ to → piece_answer (slice i to s) ≡ PV.Bad
unfolding read_piece
piece_none s i to e = rw (e, slice_empty to s)

-- Of a text from one offset up to another, which is not empty.
module _ (s : List ℕ) (from to : ℕ) (inside : (from ≤ to) × (to ≤ length s)) (left : from ≡ to → ⊥) where
  first : slice from to s ≡ get_or s from 0 ∷ slice (from + 1) to s
  first = simp add-one (slice-cons from to s 0 (omega (arith, inside.0, left)) inside.1)

  pub literal_minus : get_or s from 0 ≡ 45 → as_piece (read_literal (slice from to s)) ≡ negative (figure_answer (slice (from + 1) to s))
  unfolding read_literal
  literal_minus e = rw (first, e) (negative_of (read_figure (slice (from + 1) to s)))

  pub literal_plain : (get_or s from 0 ≡ 45 → ⊥) → as_piece (read_literal (slice from to s)) ≡ positive (figure_answer (slice from to s))
  unfolding read_literal
  literal_plain n = rw (first, ne_eqb (get_or s from 0) 45 n) (positive_of (read_figure (get_or s from 0 ∷ slice (from + 1) to s)))

  pub piece_literal : get_or s from 0 ≡ 35 → piece_answer (slice from to s) ≡ as_piece (read_literal (slice (from + 1) to s))
  unfolding read_piece
  piece_literal e = rw (first, e)

  pub piece_mark : get_or s from 0 ≡ 64 → piece_answer (slice from to s) ≡ marking (figure_answer (slice (from + 1) to s))
  unfolding read_piece
  piece_mark e = rw (first, e) (marking_of (read_figure (slice (from + 1) to s)))

  -- a sign stands alone
  alone_of : (p : L.Piece) → as_piece (alone (slice (from + 1) to s) p) ≡ if_alone (from + 1) to (as_piece (some p))
  unfolding alone
  alone_of p = go (eqb (from + 1) to) refl
    where
      go : (t : Bool) → eqb (from + 1) to ≡ t → as_piece (alone (slice (from + 1) to s) p) ≡ cond t (as_piece (some p)) PV.Bad
      go true e = rw (borrow.Author.Tests.eqb-true (from + 1) to e, slice_empty to s)
      go false e =
          let n : from + 1 ≡ to → ⊥ = borrow.Author.Tests.eqb-false (from + 1) to e in
          let l : from + 1 < to = omega (arith, inside.0, left) in
          rw (slice-cons (from + 1) to s 0 l inside.1)

  pub piece_plus : get_or s from 0 ≡ 43 → piece_answer (slice from to s) ≡ if_alone (from + 1) to PV.Plus
  unfolding read_piece
  piece_plus e = rw (first, e) (alone_of L.Piece.plus)

  pub piece_minus : get_or s from 0 ≡ 45 → piece_answer (slice from to s) ≡ if_alone (from + 1) to PV.Minus
  unfolding read_piece
  piece_minus e = rw (first, e) (alone_of L.Piece.minus)

  pub piece_times : get_or s from 0 ≡ 42 → piece_answer (slice from to s) ≡ if_alone (from + 1) to PV.Times
  unfolding read_piece
  piece_times e = rw (first, e) (alone_of L.Piece.times)

  pub piece_less : get_or s from 0 ≡ 60 → piece_answer (slice from to s) ≡ if_alone (from + 1) to PV.Less
  unfolding read_piece
  piece_less e = rw (first, e) (alone_of L.Piece.less)

  pub piece_divide : get_or s from 0 ≡ 47 → piece_answer (slice from to s) ≡ if_alone (from + 1) to PV.Divide
  unfolding read_piece
  piece_divide e = rw (first, e) (alone_of L.Piece.divide)

  pub piece_remainder : get_or s from 0 ≡ 37 → piece_answer (slice from to s) ≡ if_alone (from + 1) to PV.Remainder
  unfolding read_piece
  piece_remainder e = rw (first, e) (alone_of L.Piece.remainder)

  abbrev Not : ℕ → Type 0
  Not byte = get_or s from 0 ≡ byte → ⊥

  pub piece_value : Not 35 → Not 64 → Not 43 → Not 45 → Not 42 → Not 60 → Not 47 → Not 37
      → piece_answer (slice from to s) ≡ valuing (figure_answer (slice from to s))
  unfolding read_piece
  piece_value a b c d e f g h =
      let no : (byte : ℕ) → Not byte → eqb (get_or s from 0) byte ≡ false = ne_eqb (get_or s from 0) in
      rw (first, no 35 a, no 64 b, no 43 c, no 45 d, no 42 e, no 60 f, no 47 g, no 37 h)
      (valuing_of (read_figure (get_or s from 0 ∷ slice (from + 1) to s)))
