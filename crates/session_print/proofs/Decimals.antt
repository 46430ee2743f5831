-- The digits of a number, from the last to the first.
use mathlib.Core.Path.{◌≡◌, refl, sym, ap, ◌∙◌}
use mathlib.Core.List.{List, [], ◌∷◌, ◌++◌}
use Prim.Native.Nat.{ℕ, zero, suc, ◌+◌, ◌*◌, ◌-◌, ◌/◌, ◌%◌, ◌≤◌, ◌<◌}
use native.Mathlib.Decide.{dec_le}
use native.Mathlib.Omega.{arith}
use lib.ListN.{length, set, length-set, length-append}
use lib.Seq.{sets}
use Rattle.listing.specs.Bytes.{figure}
use Rattle.listing.proofs.Figures.{figure_more, figure_digit}
use Rattle.listing.proofs.LineLengths.{twenty_digits}
use Rattle.session_print.proofs.Stores.{sets_last}

pub figure_step : (n : ℕ) → 10 ≤ n → figure n ≡ figure (n / 10) ++ ((48 + n % 10) ∷ [])
figure_step n h =
    let e : n / 10 * 10 + n % 10 ≡ n = omega arith in
    ap figure (sym e) ∙ figure_more (n / 10) (n % 10) (omega arith) (omega arith)

pub length_step : (n : ℕ) → 10 ≤ n → length (figure n) ≡ length (figure (n / 10)) + 1
length_step n h = ap length (figure_step n h) ∙ length-append (figure (n / 10)) ((48 + n % 10) ∷ [])

pub length_digit : (n : ℕ) → n < 10 → length (figure n) ≡ 1
length_digit n h = ap length (figure_digit n h)

-- the last k digits
unfoldable pub last_digits : ℕ → ℕ → List ℕ
last_digits zero n = []
last_digits (suc k) n = last_digits k (n / 10) ++ ((48 + n % 10) ∷ [])

pub last_length : (k n : ℕ) → length (last_digits k n) ≡ k
unfolding last_digits
last_length zero n = refl
last_length (suc k) n =
    let d = last_length k (n / 10) in let a = length-append (last_digits k (n / 10)) ((48 + n % 10) ∷ []) in omega (arith, d, a)

pub all_digits : (k n : ℕ) → length (figure n) ≡ k → last_digits k n ≡ figure n
unfolding last_digits
all_digits zero n h = go (dec_le 10 n)
  where
    go : Dec (10 ≤ n) → [] ≡ figure n
    go (yes big) = let s = length_step n big in absurd (omega arith)
    go (no small) = let s = length_digit n (omega arith) in absurd (omega arith)
all_digits (suc k) n h = go (dec_le 10 n) (all_digits k (n / 10))
  where
    one : (j : ℕ) → j ≡ 0 → last_digits j (n / 10) ≡ []
    one zero e = refl
    one (suc j) e = absurd (omega arith)

    go : Dec (10 ≤ n) → (length (figure (n / 10)) ≡ k → last_digits k (n / 10) ≡ figure (n / 10)) → last_digits k (n / 10) ++ ((48 + n % 10) ∷ []) ≡ figure n
    go (yes big) deep = let s = length_step n big in ap (λ (l : List ℕ). l ++ ((48 + n % 10) ∷ [])) (deep (omega arith)) ∙ sym (figure_step n big)
    go (no small) deep =
        let l : n < 10 = omega arith in
        let s = length_digit n l in
        let r : n % 10 ≡ n = omega arith in
        let z : k ≡ 0 = omega arith in
        ap (λ (d : List ℕ). d ++ ((48 + n % 10) ∷ [])) (one k z) ∙ ap (λ (x : ℕ). (48 + x) ∷ []) r ∙ sym (figure_digit n l)

-- one digit stored, k digits left
pub digit_stored : (out : List ℕ) (at k rest : ℕ) →
    sets out at (last_digits (suc k) rest) ≡ sets (set out (at + k) (48 + rest % 10)) at (last_digits k (rest / 10))
unfolding last_digits
digit_stored out at k rest =
    sets_last out at (last_digits k (rest / 10)) (48 + rest % 10)
    ∙ ap (λ (j : ℕ). sets (set out (at + j) (48 + rest % 10)) at (last_digits k (rest / 10))) (last_length k (rest / 10))

pub few_digits : (n : ℕ) → n < 18446744073709551616 → length (figure n) ≤ 20
few_digits n h = twenty_digits n (omega arith)

some_digit : (n : ℕ) → 1 ≤ length (figure n)
some_digit n = go (dec_le 10 n)
  where
    go : Dec (10 ≤ n) → 1 ≤ length (figure n)
    go (yes big) = let s = length_step n big in omega arith
    go (no small) = let s = length_digit n (omega arith) in omega arith

-- ── counting ─────────────────────────────────────────────────────────────────────
-- count - 1 digits are counted, those of rest are left
abbrev pub Counting : ℕ → ℕ → ℕ → Type 0
Counting n count rest = count + length (figure rest) ≡ 1 + length (figure n)

pub count_few : (n count rest : ℕ) → n < 18446744073709551616 → Counting n count rest → count ≤ 20
count_few n count rest h i = let a = few_digits n h in let b = some_digit rest in omega arith

pub count_on : (n count rest : ℕ) → Counting n count rest → 10 ≤ rest → Counting n (count + 1) (rest / 10)
count_on n count rest i h = let s = length_step rest h in omega arith

pub count_done : (n count rest : ℕ) → Counting n count rest → rest < 10 → count ≡ length (figure n)
count_done n count rest i h = let s = length_digit rest h in omega arith

-- ── storing ──────────────────────────────────────────────────────────────────────
-- the first k digits, those of rest, are still to be stored
pub record Storing (before : List ℕ) (at n count : ℕ) (out : List ℕ) (k rest : ℕ) : Type 0 where
  pub few : k ≤ count
  pub long : length out ≡ length before
  pub same : sets out at (last_digits k rest) ≡ sets before at (last_digits count n)

pub storing_begun : (out : List ℕ) (at n count : ℕ) → Storing out at n count out count n
storing_begun out at n count = record { few = omega arith; long = refl; same = refl }

pub storing_on : (before : List ℕ) (at n count : ℕ) (out : List ℕ) (k rest : ℕ) → Storing before at n count out k rest → 1 ≤ k →
    (b : ℕ) → b ≡ 48 + rest % 10 → (after : List ℕ) → after ≡ set out (at + (k - 1)) b → Storing before at n count after (k - 1) (rest / 10)
storing_on before at n count out k rest v h b digit after put =
    let e : k ≡ suc (k - 1) = omega arith in
    record {
      few = omega (arith, v.few);
      long = ap length put ∙ length-set out (at + (k - 1)) b ∙ v.long;
      same =
          ap (λ (l : List ℕ). sets l at (last_digits (k - 1) (rest / 10))) (put ∙ ap (set out (at + (k - 1))) digit)
          ∙ sym (digit_stored out at (k - 1) rest)
          ∙ ap (λ (j : ℕ). sets out at (last_digits j rest)) (sym e)
          ∙ v.same;
    }

pub storing_done : (before : List ℕ) (at n count : ℕ) (out : List ℕ) (k rest : ℕ) → Storing before at n count out k rest → k ≡ 0 →
    count ≡ length (figure n) → out ≡ sets before at (figure n)
unfolding last_digits
storing_done before at n count out k rest v z e =
    sym (ap (λ (j : ℕ). sets out at (last_digits j rest)) z) ∙ v.same ∙ ap (sets before at) (all_digits count n (sym e))
