-- Figures and numbers determine each other.
-- n is a number, d a digit's value, w the bytes of a piece; a digit's byte is 48 + d.
use mathlib.Core.Path.{◌≡◌, refl, sym, ◌∙◌}
use mathlib.Core.Bool.{Bool, true, false, cond, ◌&&◌}
use mathlib.Core.List.{[], ◌∷◌, ◌++◌, append_assoc, append-nil}
use mathlib.Core.Option.{none, some}
use Prim.Native.Nat.{ℕ, zero, suc, ◌+◌, ◌*◌, ◌-◌, ◌/◌, ◌%◌, ◌≤◌, ◌<◌}
use native.Mathlib.Omega.{arith}
use lib.Dec.{ltb, leb}
use borrow.Author.Tests.{lt-ltb, le-ltb, le-leb, ltb-true, ltb-false, leb-true}
use Rattle.listing.specs.Lists.{all}
use Rattle.listing.specs.Bytes.{Bytes, is_digit, is_figure, read_on, read_figure, digits, figure}
use Rattle.listing.proofs.Tests.{no_test, no_reading, and_left, and_right, all_head, all_tail}

-- ── from a number to its figure and back ─────────────────────────────────────────
read_on-append : (n : ℕ) (v w : Bytes) → read_on n (v ++ w) ≡ read_on (read_on n v) w
unfolding read_on
read_on-append n [] w = refl
read_on-append n (b ∷ v) w = read_on-append (n * 10 + (b - 48)) v w

digits_value : (most n : ℕ) → n < most → read_on 0 (digits most n) ≡ n
unfolding digits read_on
digits_value zero n h = omega arith
digits_value (suc most) n h = go (digits_value most (n / 10)) (ltb n 10) refl
  where
    go : (n / 10 < most → read_on 0 (digits most (n / 10)) ≡ n / 10) → (t : Bool) → ltb n 10 ≡ t
        → read_on 0 (cond t ((48 + n) ∷ []) (digits most (n / 10) ++ ((48 + n % 10) ∷ []))) ≡ n
    go i true e = omega arith
    go i false e =
        let big : 10 ≤ n = ltb-false n 10 e in
        let ih : read_on 0 (digits most (n / 10)) ≡ n / 10 = i (omega arith) in
        rw (read_on-append, ih) (omega arith)

-- the bytes of a figure that is not 0: a digit from 1 to 9, then digits
pub record Leading (w : Bytes) : Type 0 where
  pub head : ℕ
  pub rest : Bytes
  pub is : w ≡ head ∷ rest
  pub low : 49 ≤ head
  pub high : head ≤ 57
  pub others : all is_digit rest ≡ true

digits_snoc : (w : Bytes) (d : ℕ) → all is_digit w ≡ true → d < 10 → all is_digit (w ++ ((48 + d) ∷ [])) ≡ true
unfolding all
digits_snoc [] d h l = rw (le-leb 48 (48 + d) (omega arith), le-leb (48 + d) 57 (omega arith))
digits_snoc (b ∷ w) d h l = rw (all_head is_digit b w h) (digits_snoc w d (all_tail is_digit b w h) l)

digits_lead : (most n : ℕ) → n < most → 1 ≤ n → Leading (digits most n)
unfolding digits all
digits_lead zero n h p = absurd (let z : ⊥ = omega arith in z)
digits_lead (suc most) n h p = go (digits_lead most (n / 10)) (ltb n 10) refl
  where
    go : (n / 10 < most → 1 ≤ n / 10 → Leading (digits most (n / 10))) → (t : Bool) → ltb n 10 ≡ t
        → Leading (cond t ((48 + n) ∷ []) (digits most (n / 10) ++ ((48 + n % 10) ∷ [])))
    go i true e =
        let small : n < 10 = ltb-true n 10 e in
        record { head = 48 + n; rest = []; is = refl; low = omega arith; high = omega arith; others = refl }
    go i false e =
        let big : 10 ≤ n = ltb-false n 10 e in
        let s : Leading (digits most (n / 10)) = i (omega arith) (omega arith) in
        record {
          head = s.head;
          rest = s.rest ++ ((48 + n % 10) ∷ []);
          is = rw s.is;
          low = s.low;
          high = s.high;
          others = digits_snoc s.rest (n % 10) s.others (omega arith);
        }

pub figure_leads : (n : ℕ) → 1 ≤ n → Leading (figure n)
unfolding figure
figure_leads n p = digits_lead (suc n) n (omega arith) p

pub figure_zero : figure 0 ≡ 48 ∷ []
unfolding figure digits
figure_zero = refl

leading_is_figure : (b : ℕ) (w : Bytes) → 49 ≤ b → b ≤ 57 → all is_digit w ≡ true → is_figure (b ∷ w) ≡ true
unfolding is_figure
leading_is_figure b [] l h d = rw (le-leb 48 b (omega arith), le-leb b 57 h)
leading_is_figure b (c ∷ w) l h d = rw (le-leb 49 b l, le-leb b 57 h, d)

is_figure-figure : (n : ℕ) → is_figure (figure n) ≡ true
unfolding is_figure
is_figure-figure zero = rw figure_zero
is_figure-figure (suc n) =
    let s = figure_leads (suc n) (omega arith) in
    rw s.is (leading_is_figure s.head s.rest s.low s.high s.others)

read_on-figure : (n : ℕ) → read_on 0 (figure n) ≡ n
unfolding figure
read_on-figure n = digits_value (suc n) n (omega arith)

-- a number is read from its figure
pub read_figure-figure : (n : ℕ) → read_figure (figure n) ≡ some n
unfolding read_figure
read_figure-figure n = rw (is_figure-figure n, read_on-figure n)

-- ── from a figure to its number and back ─────────────────────────────────────────
digits_enough : (most more n : ℕ) → n < most → n < more → digits most n ≡ digits more n
unfolding digits
digits_enough zero more n h k = absurd (let z : ⊥ = omega arith in z)
digits_enough (suc most) zero n h k = absurd (let z : ⊥ = omega arith in z)
digits_enough (suc most) (suc more) n h k = go (digits_enough most more (n / 10)) (ltb n 10) refl
  where
    go : (n / 10 < most → n / 10 < more → digits most (n / 10) ≡ digits more (n / 10)) → (t : Bool) → ltb n 10 ≡ t
        → cond t ((48 + n) ∷ []) (digits most (n / 10) ++ ((48 + n % 10) ∷ [])) ≡ cond t ((48 + n) ∷ []) (digits more (n / 10) ++ ((48 + n % 10) ∷ []))
    go i true e = refl
    go i false e =
        let big : 10 ≤ n = ltb-false n 10 e in
        rw (i (omega arith) (omega arith))

pub figure_more : (n d : ℕ) → 1 ≤ n → d < 10 → figure (n * 10 + d) ≡ figure n ++ ((48 + d) ∷ [])
unfolding figure digits
figure_more n d p l =
    let big : ltb (n * 10 + d) 10 ≡ false = le-ltb (n * 10 + d) 10 (omega arith) in
    let q : (n * 10 + d) / 10 ≡ n = omega arith in
    let r : (n * 10 + d) % 10 ≡ d = omega arith in
    rw (big, q, r, digits_enough (n * 10 + d) (suc n) n (omega arith) (omega arith))

pub figure_digit : (d : ℕ) → d < 10 → figure d ≡ (48 + d) ∷ []
unfolding figure digits
figure_digit d l = rw (lt-ltb d 10 l)

-- a digit's byte
pub record Digit (b : ℕ) : Type 0 where
  pub low : 48 ≤ b
  pub high : b ≤ 57
  pub back : 48 + (b - 48) ≡ b

pub digit : (b : ℕ) → is_digit b ≡ true → Digit b
digit b h =
    let lo : 48 ≤ b = leb-true 48 b (and_left (leb 48 b) (leb b 57) h) in
    record { low = lo; high = leb-true b 57 (and_right (leb 48 b) (leb b 57) h); back = omega arith }

figure-read_on-from : (n : ℕ) (w : Bytes) → 1 ≤ n → all is_digit w ≡ true → figure (read_on n w) ≡ figure n ++ w
unfolding read_on
figure-read_on-from n [] p h = sym (append-nil (figure n))
figure-read_on-from n (b ∷ w) p h =
    let d = digit b (all_head is_digit b w h) in
    figure-read_on-from (n * 10 + (b - 48)) w (omega arith) (all_tail is_digit b w h)
    ∙ rw (figure_more n (b - 48) p (omega arith), d.back, append_assoc)

figure-read_on : (w : Bytes) → is_figure w ≡ true → figure (read_on 0 w) ≡ w
unfolding is_figure read_on
figure-read_on [] h = no_test h
figure-read_on (b ∷ []) h =
    let d = digit b h in
    let v : 0 * 10 + (b - 48) ≡ b - 48 = omega arith in
    rw (v, figure_digit (b - 48) (omega arith), d.back)
figure-read_on (b ∷ c ∷ w) h =
    let first = and_left (leb 49 b && leb b 57) (all is_digit (c ∷ w)) h in
    let lo : 49 ≤ b = leb-true 49 b (and_left (leb 49 b) (leb b 57) first) in
    let hi : b ≤ 57 = leb-true b 57 (and_right (leb 49 b) (leb b 57) first) in
    let v : 0 * 10 + (b - 48) ≡ b - 48 = omega arith in
    let back : 48 + (b - 48) ≡ b = omega arith in
    rw v (figure-read_on-from (b - 48) (c ∷ w) (omega arith) (and_right (leb 49 b && leb b 57) (all is_digit (c ∷ w)) h)
    ∙ rw (figure_digit (b - 48) (omega arith), back))

-- a figure is the figure of its number
pub figure-read_figure : (w : Bytes) (n : ℕ) → read_figure w ≡ some n → figure n ≡ w
unfolding read_figure
figure-read_figure w n = go (is_figure w) refl
  where
    go : (t : Bool) → is_figure w ≡ t → cond t (some (read_on 0 w)) none ≡ some n → figure n ≡ w
    go true e h = let v : read_on 0 w ≡ n = cc in rw (← v) (figure-read_on w e)
    go false e h = no_reading h
