-- Figures: what their digits decide, and a turn of the loop over them.
use mathlib.Core.Path.{◌≡◌, refl}
use mathlib.Core.Bool.{Bool, true, false, cond, ◌&&◌}
use mathlib.Core.List.{List, [], ◌∷◌}
use mathlib.Core.Option.{none, some}
use Prim.Native.Nat.{ℕ, suc, ◌+◌, ◌*◌, ◌-◌, ◌≤◌, ◌<◌, min}
use native.Mathlib.Omega.{arith}
use lib.Dec.{leb}
use lib.ListN.{length, get_or}
use lib.Seq.{slice, slice-cons, slice_empty}
use borrow.Author.Tests.{le-leb, leb-true}
use Rattle.listing.specs.Lists.{all}
use Rattle.listing.specs.Bytes.{is_digit, read_on, is_figure, read_figure}
use Rattle.listing.proofs.Tests.{and_left, and_right}
use Rattle.text_piece.specs.Pieces.{cap, figure_answer, as_figure}
use Rattle.text_piece.specs.declared.figure.Figure.TheVariants as FV

pub figure_digits : (w : List ℕ) → is_figure w ≡ true → all is_digit w ≡ true
unfolding is_figure all
figure_digits [] h = refl
figure_digits (b ∷ []) h = rw h
figure_digits (b ∷ (d ∷ w)) h =
    let two = and_left (leb 49 b && leb b 57) (is_digit d && all is_digit w) h in
    let lo : 49 ≤ b = leb-true 49 b (and_left (leb 49 b) (leb b 57) two) in
    rw (le-leb 48 b (omega arith), and_right (leb 49 b) (leb b 57) two) (and_right (leb 49 b && leb b 57) (is_digit d && all is_digit w) h)

pub no_digits : (w : List ℕ) → all is_digit w ≡ false → figure_answer w ≡ FV.Bad
unfolding read_figure
no_digits w h = go (is_figure w) refl
  where
    go : (t : Bool) → is_figure w ≡ t → as_figure (cond t (some (read_on 0 w)) none) ≡ FV.Bad
    go true e = absurd (let f = figure_digits w e in let z : ◌≡◌ {A = ℕ} 0 1 = cc in omega arith)
    go false e = refl

pub no_bytes : figure_answer [] ≡ FV.Bad
unfolding read_figure is_figure
no_bytes = refl

pub zero_alone : figure_answer (48 ∷ []) ≡ FV.Value 0
unfolding read_figure is_figure read_on
zero_alone = refl

pub zero_first : (b : ℕ) (w : List ℕ) → figure_answer (48 ∷ (b ∷ w)) ≡ FV.Bad
unfolding read_figure is_figure
zero_first b w = refl

pub figure_shape : (b : ℕ) (w : List ℕ) → (b ≡ 48 → ⊥) → all is_digit (b ∷ w) ≡ true → is_figure (b ∷ w) ≡ true
unfolding is_figure all
figure_shape b [] n h = and_left (is_digit b) true h
figure_shape b (d ∷ w) n h =
    let dig = and_left (is_digit b) (is_digit d && all is_digit w) h in
    let lo : 48 ≤ b = leb-true 48 b (and_left (leb 48 b) (leb b 57) dig) in
    let low : 49 ≤ b = omega arith in
    rw (le-leb 49 b low, and_right (leb 48 b) (leb b 57) dig) (and_right (is_digit b) (is_digit d && all is_digit w) h)

pub is_figure_lem : (b : ℕ) (w : List ℕ) → (b ≡ 48 → ⊥) → all is_digit (b ∷ w) ≡ true → figure_answer (b ∷ w) ≡ FV.Value (min (read_on 0 (b ∷ w)) cap)
unfolding read_figure
is_figure_lem b w n h = rw (figure_shape b w n h)

-- a number at the cap stays there
pub number_capped : (l : List ℕ) (a b : ℕ) → min a cap ≡ min b cap → min (read_on a l) cap ≡ min (read_on b l) cap
unfolding read_on
number_capped [] a b h = h
number_capped (x ∷ l) a b h = number_capped l (a * 10 + (x - 48)) (b * 10 + (x - 48)) (omega arith)

-- a turn of the loop over a figure
module _ (s : List ℕ) (i to : ℕ) (h : i < to) (k : to ≤ length s) where
  pub digits_turn : is_digit (get_or s i 0) ≡ true → all is_digit (slice i to s) ≡ all is_digit (slice (suc i) to s)
  unfolding all
  digits_turn e = rw (slice-cons i to s 0 h k, e)

  pub digits_out : is_digit (get_or s i 0) ≡ false → all is_digit (slice i to s) ≡ false
  unfolding all
  digits_out e = rw (slice-cons i to s 0 h k, e)

  pub number_turn : (n : ℕ) → read_on n (slice i to s) ≡ read_on (n * 10 + (get_or s i 0 - 48)) (slice (suc i) to s)
  unfolding read_on
  number_turn n = rw (slice-cons i to s 0 h k)

pub digits_none : (s : List ℕ) (i to : ℕ) → i ≡ to → all is_digit (slice i to s) ≡ true
unfolding all
digits_none s i to e = rw (e, slice_empty to s)

pub number_none : (s : List ℕ) (i to n : ℕ) → i ≡ to → read_on n (slice i to s) ≡ n
unfolding read_on
number_none s i to n e = rw (e, slice_empty to s)

pub figure_none : (s : List ℕ) (i to : ℕ) → i ≡ to → figure_answer (slice i to s) ≡ FV.Bad
figure_none s i to e = rw (e, slice_empty to s) no_bytes
