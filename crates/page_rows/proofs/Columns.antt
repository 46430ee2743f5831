-- A right-aligned figure, column by column from the last. Letters: n a number, k how many columns.
use mathlib.Core.Path.{◌≡◌, refl, sym, ap, ◌∙◌}
use mathlib.Core.List.{List, [], ◌∷◌, ◌++◌, append_assoc}
use Prim.Native.Nat.{ℕ, zero, suc, ◌+◌, ◌*◌, ◌-◌, ◌/◌, ◌%◌, ◌≤◌, ◌<◌}
use native.Mathlib.Decide.{dec_le}
use native.Mathlib.Numerals.{add-one}
use native.Mathlib.Omega.{arith}
use lib.ListN.{length, set, replicate, length-set, length-append, replicate-append-replicate}
use lib.Seq.{sets}
use borrow.Author.Tests.{ne_eqb}
use Rattle.listing.specs.Bytes.{Bytes, figure}
use Rattle.listing.proofs.Figures.{figure_more, figure_digit}
use Rattle.listing.proofs.LineLengths.{twenty_digits}
use Rattle.page_rows.specs.Rows.{right_aligned}
use Rattle.page_rows.specs.Columns.{column_byte}
use Rattle.page_rows.proofs.Stores.{sets_last}

-- ── the digits of a figure ────────────────────────────────────────────────────────────────────────
figure_step : (n : ℕ) → 10 ≤ n → figure n ≡ figure (n / 10) ++ ((48 + n % 10) ∷ [])
figure_step n h =
    let e : n / 10 * 10 + n % 10 ≡ n = omega arith in
    ap figure (sym e) ∙ figure_more (n / 10) (n % 10) (omega arith) (omega arith)

some_digit : (n : ℕ) → 1 ≤ length (figure n)
some_digit n = go (dec_le 10 n)
  where
    go : Dec (10 ≤ n) → 1 ≤ length (figure n)
    go (yes big) = let s = ap length (figure_step n big) ∙ length-append (figure (n / 10)) ((48 + n % 10) ∷ []) in omega arith
    go (no small) = let s = ap length (figure_digit n (omega arith)) in omega arith

pub few_digits : (n : ℕ) → n < 18446744073709551616 → length (figure n) ≤ 20
few_digits n h = twenty_digits n (omega arith)

pub two_digits : (n : ℕ) → n < 16 → length (figure n) ≤ 2
two_digits n h = go (dec_le 10 n)
  where
    go : Dec (10 ≤ n) → length (figure n) ≤ 2
    go (yes big) =
        let small = ap length (figure_digit (n / 10) (omega arith)) in
        let s = ap length (figure_step n big) ∙ length-append (figure (n / 10)) ((48 + n % 10) ∷ []) in omega arith
    go (no small) = let s = ap length (figure_digit n (omega arith)) in omega arith

-- ── k columns before the last ─────────────────────────────────────────────────────────────────────
unfoldable pub column_bytes : ℕ → ℕ → Bytes
column_bytes zero rest = []
column_bytes (suc k) rest = column_bytes k (rest / 10) ++ (column_byte rest ∷ [])

columns_length : (k rest : ℕ) → length (column_bytes k rest) ≡ k
unfolding column_bytes
columns_length zero rest = refl
columns_length (suc k) rest =
    let d = columns_length k (rest / 10) in let a = length-append (column_bytes k (rest / 10)) (column_byte rest ∷ []) in omega (arith, d, a)

columns_empty : (k : ℕ) → column_bytes k 0 ≡ replicate k 32
unfolding column_bytes
columns_empty zero = refl
columns_empty (suc k) =
    ap (λ (l : Bytes). l ++ (32 ∷ [])) (columns_empty k) ∙ replicate-append-replicate k 1 32 ∙ ap (λ (j : ℕ). replicate j 32) (add-one k)

pub column_space : (n : ℕ) → n ≡ 0 → column_byte n ≡ 32
column_space n e = rw e

pub column_digit : (n : ℕ) → 1 ≤ n → column_byte n ≡ 48 + n % 10
column_digit n h = rw (ne_eqb n 0 (λ e. omega arith))

-- a figure of one digit, and one of more
one_digit : (k n : ℕ) → n < 10 → column_bytes k (n / 10) ++ ((48 + n % 10) ∷ []) ≡ right_aligned (suc k) (figure n)
unfolding right_aligned
one_digit k n h =
    let none : n / 10 ≡ 0 = omega arith in
    let whole : n % 10 ≡ n = omega arith in
    let f = figure_digit n h in
    let d : suc k - 1 ≡ k = omega arith in
    rw (none, whole, f, columns_empty k) (ap (λ (j : ℕ). replicate j 32 ++ ((48 + n) ∷ [])) (sym d))

more_digits : (k n : ℕ) → 10 ≤ n → column_bytes k (n / 10) ≡ right_aligned k (figure (n / 10)) →
    column_bytes k (n / 10) ++ ((48 + n % 10) ∷ []) ≡ right_aligned (suc k) (figure n)
unfolding right_aligned
more_digits k n h e =
    let f = figure_step n h in
    let l : length (figure n) ≡ length (figure (n / 10)) + 1 = ap length f ∙ length-append (figure (n / 10)) ((48 + n % 10) ∷ []) in
    let d : suc k - length (figure n) ≡ k - length (figure (n / 10)) = omega arith in
    ap (λ (b : Bytes). b ++ ((48 + n % 10) ∷ [])) e
    ∙ append_assoc (replicate (k - length (figure (n / 10))) 32) (figure (n / 10)) ((48 + n % 10) ∷ [])
    ∙ rw (d, f)

-- the columns of a figure that they suffice for
pub columns_of : (k n : ℕ) → length (figure n) ≤ suc k → column_bytes k (n / 10) ++ ((48 + n % 10) ∷ []) ≡ right_aligned (suc k) (figure n)
unfolding column_bytes
columns_of zero n h = go (dec_le 10 n)
  where
    go : Dec (10 ≤ n) → column_bytes zero (n / 10) ++ ((48 + n % 10) ∷ []) ≡ right_aligned 1 (figure n)
    go (yes big) =
        let l = ap length (figure_step n big) ∙ length-append (figure (n / 10)) ((48 + n % 10) ∷ []) in
        let s = some_digit (n / 10) in absurd (omega arith)
    go (no small) = one_digit zero n (omega arith)
columns_of (suc k) n h = go (dec_le 10 n) (columns_of k (n / 10))
  where
    go : Dec (10 ≤ n) →
        (length (figure (n / 10)) ≤ suc k → column_bytes k (n / 10 / 10) ++ ((48 + n / 10 % 10) ∷ []) ≡ right_aligned (suc k) (figure (n / 10))) →
        column_bytes (suc k) (n / 10) ++ ((48 + n % 10) ∷ []) ≡ right_aligned (suc (suc k)) (figure n)
    go (yes big) deep =
        let l = ap length (figure_step n big) ∙ length-append (figure (n / 10)) ((48 + n % 10) ∷ []) in
        more_digits (suc k) n big
        (ap (λ (b : ℕ). column_bytes k (n / 10 / 10) ++ (b ∷ [])) (column_digit (n / 10) (omega arith)) ∙ deep (omega arith))
    go (no small) deep = one_digit (suc k) n (omega arith)

-- ── storing them ──────────────────────────────────────────────────────────────────────────────────
-- of so many columns the first k, of what is left of the number, are still to be stored
pub record Storing (before : List ℕ) (at columns number : ℕ) (out : List ℕ) (k rest : ℕ) : Type 0 where
  pub few : k ≤ columns
  pub long : length out ≡ length before
  pub same : sets out at (column_bytes k rest) ≡ sets before at (column_bytes columns number)

pub storing_begun : (before : List ℕ) (at columns number : ℕ) → Storing before at columns number before columns number
storing_begun before at columns number = record { few = omega arith; long = refl; same = refl }

pub storing_on : (before : List ℕ) (at columns number : ℕ) (out : List ℕ) (k rest : ℕ) → Storing before at columns number out k rest → 1 ≤ k →
    (b : ℕ) → b ≡ column_byte rest → {after : List ℕ} → after ≡ set out (at + (k - 1)) b → Storing before at columns number after (k - 1) (rest / 10)
unfolding column_bytes
storing_on before at columns number out k rest v h b digit {after} put =
    let e : suc (k - 1) ≡ k = omega arith in
    record {
      few = omega (arith, v.few);
      long = ap length put ∙ length-set out (at + (k - 1)) b ∙ v.long;
      same =
          ap (λ (l : List ℕ). sets l at (column_bytes (k - 1) (rest / 10))) (put ∙ ap (set out (at + (k - 1))) digit)
          ∙ ap (λ (j : ℕ). sets (set out (at + j) (column_byte rest)) at (column_bytes (k - 1) (rest / 10))) (sym (columns_length (k - 1) (rest / 10)))
          ∙ sym (sets_last out at (column_bytes (k - 1) (rest / 10)) (column_byte rest))
          ∙ ap (λ (j : ℕ). sets out at (column_bytes j rest)) e
          ∙ v.same;
    }

-- the last digit was stored first
pub storing_done : (lent : List ℕ) (at columns n : ℕ) → 1 ≤ columns → length (figure n) ≤ columns → (b : ℕ) → b ≡ 48 + n % 10 →
    {before : List ℕ} → before ≡ set lent (at + (columns - 1)) b → (out : List ℕ) (k rest : ℕ) → Storing before at (columns - 1) (n / 10) out k rest → k ≡ 0 →
    out ≡ sets lent at (right_aligned columns (figure n))
unfolding column_bytes
storing_done lent at columns n some enough b digit {before} put out k rest v z =
    let e : suc (columns - 1) ≡ columns = omega arith in
    sym (ap (λ (j : ℕ). sets out at (column_bytes j rest)) z)
    ∙ v.same
    ∙ ap (λ (l : List ℕ). sets l at (column_bytes (columns - 1) (n / 10))) (put ∙ ap (set lent (at + (columns - 1))) digit)
    ∙ ap (λ (j : ℕ). sets (set lent (at + j) (48 + n % 10)) at (column_bytes (columns - 1) (n / 10))) (sym (columns_length (columns - 1) (n / 10)))
    ∙ sym (sets_last lent at (column_bytes (columns - 1) (n / 10)) (48 + n % 10))
    ∙ ap (sets lent at) (columns_of (columns - 1) n (omega arith) ∙ ap (λ (j : ℕ). right_aligned j (figure n)) e)
