-- Figures of at most 64 bits: what their digits decide, and a turn of the loop over them.
use mathlib.Core.Path.{◌≡◌, refl, sym, ap, ◌∙◌}
use mathlib.Core.Bool.{Bool, true, false, cond, not, ◌&&◌}
use mathlib.Core.List.{List, [], ◌∷◌}
use mathlib.Core.Option.{Option, none, some}
use Prim.Native.Nat.{ℕ, suc, ◌+◌, ◌*◌, ◌-◌, ◌≤◌, ◌<◌}
use native.Mathlib.Omega.{arith}
use native.Mathlib.Nat.{le_refl}
use native.Mathlib.Numerals.{add-one}
use Rattle.std.specs.Prelude.{Some, None}
use lib.Dec.{ltb, leb}
use lib.ListN.{length, get_or}
use lib.Seq.{slice, slice-cons, slice_empty}
use borrow.Author.Tests.{lt-ltb, le-ltb, ltb-true, ltb-false, le-leb, lt-leb, leb-true, ne_eqb}
use Rattle.listing.specs.Lists.{all}
use Rattle.listing.specs.Bytes.{is_digit, read_on, is_figure, read_figure}
use Rattle.listing.specs.Expressions.{bind, when}
use Rattle.walk.specs.Trace.{read_below, read_signed}
use Rattle.listing.proofs.Tests.{and_left, and_right}
use Rattle.text_piece.proofs.Figures.{figure_digits, figure_shape, digits_turn, digits_out, number_turn, digits_none, number_none}
use Rattle.session_trace_lines.specs.Figures.{as_bounded, appended, below_answer, value_answer}
use Rattle.session_trace_lines.specs.declared.figure.Bounded.{Bounded}
use Rattle.session_trace_lines.specs.declared.figure.Bounded.TheVariants.{Value, Bad}

pub appended_fits : (n more : ℕ) → Some more ≡ appended n → (more ≡ n) × (n < 18446744073709551616)
appended_fits n more e = go (ltb n 18446744073709551616) refl e
  where
    go : (t : Bool) → ltb n 18446744073709551616 ≡ t → Some more ≡ cond t (Some n) None → (more ≡ n) × (n < 18446744073709551616)
    go true i e = (cc, ltb-true n _ i)
    go false i e = let z : ◌≡◌ {A = ℕ} 0 1 = cc in absurd (omega arith)

pub appended_large : (n : ℕ) → None ≡ appended n → 18446744073709551616 ≤ n
appended_large n e = go (ltb n 18446744073709551616) refl e
  where
    go : (t : Bool) → ltb n 18446744073709551616 ≡ t → None ≡ cond t (Some n) None → 18446744073709551616 ≤ n
    go true i e = let z : ◌≡◌ {A = ℕ} 0 1 = cc in absurd (omega arith)
    go false i e = ltb-false n _ i

-- ── what the digits decide, for every range ──────────────────────────────────────
pub no_bytes : (range : ℕ) → below_answer range [] ≡ Bad
unfolding read_below read_figure is_figure
no_bytes range = refl

pub zero_alone : (most : ℕ) → below_answer (most + 1) (48 ∷ []) ≡ Value 0
unfolding read_below read_figure is_figure read_on
zero_alone most = rw (lt-ltb 0 (most + 1) (omega arith))

pub zero_first : (range b : ℕ) (w : List ℕ) → below_answer range (48 ∷ (b ∷ w)) ≡ Bad
unfolding read_below read_figure is_figure
zero_first range b w = refl

pub no_digits : (range : ℕ) (w : List ℕ) → all is_digit w ≡ false → below_answer range w ≡ Bad
unfolding read_below read_figure
no_digits range w h = go (is_figure w) refl
  where
    go : (t : Bool) → is_figure w ≡ t → as_bounded (bind (cond t (some (read_on 0 w)) none) (λ n. when (ltb n range) n)) ≡ Bad
    go true e = absurd (let f = figure_digits w e in let z : ◌≡◌ {A = ℕ} 0 1 = cc in omega arith)
    go false e = refl

-- a number out of the range is none
pub too_large : (range : ℕ) (w : List ℕ) → range ≤ read_on 0 w → below_answer range w ≡ Bad
unfolding read_below read_figure
too_large range w h = go (is_figure w)
  where
    go : (t : Bool) → as_bounded (bind (cond t (some (read_on 0 w)) none) (λ n. when (ltb n range) n)) ≡ Bad
    go true = rw (le-ltb (read_on 0 w) range h)
    go false = refl

pub is_number : (range b : ℕ) (w : List ℕ) → (b ≡ 48 → ⊥) → all is_digit (b ∷ w) ≡ true → read_on 0 (b ∷ w) < range →
    below_answer range (b ∷ w) ≡ Value (read_on 0 (b ∷ w))
unfolding read_below read_figure
is_number range b w n h l = rw (figure_shape b w n h, lt-ltb (read_on 0 (b ∷ w)) range l)

-- what is read is below the range
pub below_fits : (range n : ℕ) (w : List ℕ) → Value n ≡ below_answer range w → n < range
unfolding read_below
below_fits range n w e = go (read_figure w) e
  where
    test : (m : ℕ) (t : Bool) → ltb m range ≡ t → Value n ≡ as_bounded (when t m) → n < range
    test m true i e = let same : n ≡ m = cc in let l = ltb-true m range i in omega arith
    test m false i e = let z : ◌≡◌ {A = ℕ} 0 1 = cc in absurd (omega arith)

    go : (o : Option ℕ) → Value n ≡ as_bounded (bind o (λ m. when (ltb m range) m)) → n < range
    go none e = let z : ◌≡◌ {A = ℕ} 0 1 = cc in absurd (omega arith)
    go (some m) e = test m (ltb m range) refl e

-- more digits make no number smaller
pub read_grows : (w : List ℕ) (n : ℕ) → n ≤ read_on n w
unfolding read_on
read_grows [] n = le_refl n
read_grows (x ∷ w) n = let d = read_grows w (n * 10 + (x - 48)) in omega (arith, d)

pub figure_none : (range : ℕ) (s : List ℕ) (i to : ℕ) → i ≡ to → below_answer range (slice i to s) ≡ Bad
figure_none range s i to e = rw (e, slice_empty to s) (no_bytes range)

-- ── the loop over the digits ─────────────────────────────────────────────────────
-- n is the number of the digits before i
pub record Reading (s : List ℕ) (from to n i : ℕ) : Type 0 where
  pub after : from ≤ i
  pub before : i ≤ to
  pub digits : all is_digit (slice i to s) ≡ all is_digit (slice from to s)
  pub number : read_on n (slice i to s) ≡ read_on 0 (slice from to s)
  pub small : n < 18446744073709551616

pub reading_begun : (s : List ℕ) (from to : ℕ) → from ≤ to → Reading s from to 0 from
reading_begun s from to h = record { after = le_refl from; before = h; digits = refl; number = refl; small = omega arith }

pub was_true : (t : Bool) → not t ≡ false → t ≡ true
was_true true e = refl
was_true false e = let z : ◌≡◌ {A = ℕ} 0 1 = cc in absurd (omega arith)

pub was_false : (t : Bool) → not t ≡ true → t ≡ false
was_false true e = let z : ◌≡◌ {A = ℕ} 0 1 = cc in absurd (omega arith)
was_false false e = refl

pub digit_low : (b : ℕ) (t : Bool) → t ≡ is_digit b → t ≡ true → 48 ≤ b
digit_low b t e u = leb-true 48 b (and_left (leb 48 b) (leb b 57) (sym e ∙ u))

pub digit_high : (b : ℕ) (t : Bool) → t ≡ is_digit b → t ≡ true → b ≤ 57
digit_high b t e u = leb-true b 57 (and_right (leb 48 b) (leb b 57) (sym e ∙ u))

module _ (s : List ℕ) (from to most n i : ℕ) (k : to ≤ length s) where
  pub reading_bad : Reading s from to n i → i < to → (t : Bool) → t ≡ is_digit (get_or s i 0) → t ≡ false → below_answer (most + 1) (slice from to s) ≡ Bad
  reading_bad v l t e u = no_digits (most + 1) (slice from to s) (sym v.digits ∙ digits_out s i to l k (sym e ∙ u))

  pub reading_large : most < 18446744073709551616 → Reading s from to n i → i < to → (d : ℕ) → d ≡ get_or s i 0 - 48 → None ≡ appended (n * 10 + d) →
      below_answer (most + 1) (slice from to s) ≡ Bad
  reading_large h v l d e a =
      let large : 18446744073709551616 ≤ n * 10 + d = appended_large (n * 10 + d) a in
      let grows = read_grows (slice (suc i) to s) (n * 10 + d) in
      let turn : read_on n (slice i to s) ≡ read_on (n * 10 + d) (slice (suc i) to s) = number_turn s i to l k n ∙ ap (λ (x : ℕ). read_on (n * 10 + x) (slice (suc i) to s)) (sym e) in
      too_large (most + 1) (slice from to s) (omega (arith, large, grows, turn, v.number))

  pub reading_on : Reading s from to n i → i < to → (t : Bool) → t ≡ is_digit (get_or s i 0) → t ≡ true → (d : ℕ) → d ≡ get_or s i 0 - 48 →
      (more : ℕ) → Some more ≡ appended (n * 10 + d) → Reading s from to more (i + 1)
  reading_on v l t e u d w more a =
      let fits = appended_fits (n * 10 + d) more a in
      let turn : read_on n (slice i to s) ≡ read_on more (slice (suc i) to s) =
      number_turn s i to l k n ∙ ap (λ (x : ℕ). read_on (n * 10 + x) (slice (suc i) to s)) (sym w) ∙ ap (λ (x : ℕ). read_on x (slice (suc i) to s)) (sym fits.0) in
      record {
        after = omega (arith, v.after);
        before = omega arith;
        digits = simp add-one (sym (digits_turn s i to l k (sym e ∙ u)) ∙ v.digits);
        number = simp add-one (sym turn ∙ v.number);
        small = omega (arith, fits.0, fits.1);
      }

  reading_value : Reading s from to n i → to ≤ i → n ≡ read_on 0 (slice from to s)
  reading_value v l = sym (number_none s i to n (omega (arith, v.before))) ∙ v.number

  pub reading_over : Reading s from to n i → to ≤ i → most < n → below_answer (most + 1) (slice from to s) ≡ Bad
  reading_over v l h = let value = reading_value v l in too_large (most + 1) (slice from to s) (omega arith)

  pub reading_done : from ≤ to → Reading s from to n i → to ≤ i → (from ≡ to → ⊥) → (get_or s from 0 ≡ 48 → ⊥) → n ≤ most → Value n ≡ below_answer (most + 1) (slice from to s)
  reading_done h v l long lead fits =
      let at_end_lem : i ≡ to = omega (arith, v.before) in
      let first : from < to = omega arith in
      let cut = slice-cons from to s 0 first k in
      let value : n ≡ read_on 0 (slice from to s) = reading_value v l in
      let all_digits : all is_digit (slice from to s) ≡ true = sym v.digits ∙ digits_none s i to at_end_lem in
      let within : n < most + 1 = omega arith in
      let small : read_on 0 (get_or s from 0 ∷ slice (suc from) to s) < most + 1 = rw (← cut, ← value) within in
      ap Value value ∙ rw cut (sym (is_number (most + 1) (get_or s from 0) (slice (suc from) to s) lead (rw cut at all_digits) small))

module _ (most : ℕ) (s : List ℕ) (from to : ℕ) (k : to ≤ length s) where
  pub zero_only : get_or s from 0 ≡ 48 → from + 1 ≡ to → below_answer (most + 1) (slice from to s) ≡ Value 0
  zero_only z e =
      let single : suc from ≡ to = omega arith in
      rw (slice-cons from to s 0 (omega arith) k, z, single, slice_empty) (zero_alone most)

  pub zero_leads : from ≤ to → (from ≡ to → ⊥) → get_or s from 0 ≡ 48 → (from + 1 ≡ to → ⊥) → below_answer (most + 1) (slice from to s) ≡ Bad
  zero_leads h n z e =
      let first : from < to = omega arith in
      let second : suc from < to = omega arith in
      rw (slice-cons from to s 0 first k, z, slice-cons (suc from) to s 0 second k) (zero_first (most + 1) _ _)

-- ── signed ───────────────────────────────────────────────────────────────────────
-- after a minus
abbrev pub negated : Bounded → Bounded
negated Bad = Bad
negated (Value n) = cond (leb 1 n) (Value (4294967296 - n)) Bad

negated_of : (o : Option ℕ) → as_bounded (bind o (λ n. when (leb 1 n && leb n 2147483648) (4294967296 - n)))
    ≡ negated (as_bounded (bind o (λ n. when (ltb n 2147483649) n)))
negated_of none = refl
negated_of (some n) = go (ltb n 2147483649) refl
  where
    test : (a b : Bool) → as_bounded (when (a && b) (4294967296 - n)) ≡ cond b (cond a (Value (4294967296 - n)) Bad) Bad
    test true true = refl
    test true false = refl
    test false true = refl
    test false false = refl

    go : (t : Bool) → ltb n 2147483649 ≡ t → as_bounded (when (leb 1 n && leb n 2147483648) (4294967296 - n)) ≡ negated (as_bounded (when t n))
    go true e = let l = ltb-true n 2147483649 e in rw (le-leb n 2147483648 (omega arith)) (test (leb 1 n) true)
    go false e = let l = ltb-false n 2147483649 e in rw (lt-leb n 2147483648 (omega arith)) (test (leb 1 n) false)

pub negated_in : (n : ℕ) → 1 ≤ n → negated (Value n) ≡ Value (4294967296 - n)
negated_in n a = rw (le-leb 1 n a)

pub negated_zero : (n : ℕ) → n < 1 → negated (Value n) ≡ Bad
negated_zero n h = rw (lt-leb 1 n h)

value_none : value_answer [] ≡ Bad
unfolding read_signed
value_none = refl

value_plain : (b : ℕ) (w : List ℕ) → (b ≡ 45 → ⊥) → value_answer (b ∷ w) ≡ below_answer 2147483648 (b ∷ w)
unfolding read_signed
value_plain b w n = rw (ne_eqb b 45 n)

value_minus : (w : List ℕ) → value_answer (45 ∷ w) ≡ negated (below_answer 2147483649 w)
unfolding read_signed read_below
value_minus w = negated_of (read_figure w)

-- a signed figure by its first byte
module _ (s : List ℕ) (from to : ℕ) (h : from < to) (k : to ≤ length s) where
  first_byte : slice from to s ≡ get_or s from 0 ∷ slice (from + 1) to s
  first_byte = simp add-one (slice-cons from to s 0 h k)

  pub signed_minus : get_or s from 0 ≡ 45 → (r : Bounded) → r ≡ below_answer 2147483649 (slice (from + 1) to s) → value_answer (slice from to s) ≡ negated r
  signed_minus e r m = rw (first_byte, e) (value_minus (slice (from + 1) to s) ∙ ap negated (sym m))

  pub signed_plain : (get_or s from 0 ≡ 45 → ⊥) → (r : Bounded) → r ≡ below_answer 2147483648 (slice from to s) → r ≡ value_answer (slice from to s)
  signed_plain n r m = m ∙ rw first_byte (sym (value_plain (get_or s from 0) (slice (from + 1) to s) n))

pub signed_none : (s : List ℕ) (from to : ℕ) → from ≡ to → value_answer (slice from to s) ≡ Bad
signed_none s from to e = rw (e, slice_empty to s) value_none
