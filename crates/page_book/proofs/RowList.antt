-- A page as a list of rows. Letters: r a row, rs rows, bs bytes stored, x an opening, xs openings in order, n an opening's number.
use mathlib.Core.Path.{◌≡◌, refl, sym, ap, ap₂, ◌∙◌}
use mathlib.Core.Bool.{cond}
use mathlib.Core.List.{List, [], ◌∷◌, ◌++◌, append_assoc, append-nil}
use mathlib.Core.Logic.{◌⊎◌, inl, inr, ⊎_elim}
use mathlib.Core.Option.{Option, none, some}
use Prim.Native.Nat.{ℕ, zero, suc, ◌+◌, ◌-◌, ◌*◌, ◌≤◌, ◌<◌}
use native.Mathlib.Decide.{dec_lt}
use native.Mathlib.Omega.{arith}
use lib.ListN.{length, get_or, set, length-append, length-set, drop_of_length-le}
use lib.Seq.{sets, sets-eq, set-append_left}
use Rattle.listing.specs.Bytes.{Bytes, figure}
use Rattle.openings.specs.Openings.{Opening}
use Rattle.openings.proofs.All.{All, each}
use Rattle.openings.proofs.All as all
use Rattle.page_rows.specs.Rows.{right_aligned, row_of, hyphens, open_for, row, Fits, blank_row, joined}
use Rattle.page_rows.proofs.RowBytes.{aligned_length, blank_length}
use Rattle.page_rows.proofs.Columns.{few_digits, two_digits}
use Rattle.page_book.specs.Book.{line_of, on_page}
use Rattle.page_book.proofs.Entering.{line_before, line_behind, line_here_lem, this_page}

-- ── stores in one of two parts ────────────────────────────────────────────────────────────────────
pub sets_left : (l m : List ℕ) (i : ℕ) (bs : List ℕ) → i + length bs ≤ length l → sets (l ++ m) i bs ≡ sets l i bs ++ m
sets_left l m i [] h = refl
sets_left l m i (b ∷ bs) h =
    let inl : i < length l = omega arith in
    ap (λ (k : List ℕ). sets k (suc i) bs) (set-append_left l m i b inl) ∙ sets_left (set l i b) m (suc i) bs (simp length-set (omega arith))

set_right : (l m : List ℕ) (i b : ℕ) → set (l ++ m) (length l + i) b ≡ l ++ set m i b
set_right [] m i b = let e : 0 + i ≡ i = omega arith in rw e
set_right (x ∷ l) m i b =
    let e : suc (length l) + i ≡ suc (length l + i) = omega arith in rw e (ap (λ (k : List ℕ). x ∷ k) (set_right l m i b))

sets_right : (l m : List ℕ) (i : ℕ) (bs : List ℕ) → sets (l ++ m) (length l + i) bs ≡ l ++ sets m i bs
sets_right l m i [] = refl
sets_right l m i (b ∷ bs) =
    let e : suc (length l + i) ≡ length l + suc i = omega arith in
    ap₂ (λ (k : List ℕ) (j : ℕ). sets k j bs) (set_right l m i b) e ∙ sets_right l (set m i b) (suc i) bs

pub sets_whole : (r bs : List ℕ) → length bs ≡ length r → sets r 0 bs ≡ bs
sets_whole r bs e =
    sets-eq bs r 0 (omega arith)
    ∙ ap (λ (k : List ℕ). bs ++ k) (drop_of_length-le r {i = 0 + length bs} (omega arith))
    ∙ append-nil bs

-- ── rows of 45 bytes ──────────────────────────────────────────────────────────────────────────────
abbrev pub Long : Bytes → Type 0
Long r = length r ≡ 45

pub row_stored : (rs : List Bytes) (tail : Bytes) (i c : ℕ) (bs : Bytes) → All Long rs → i < length rs → c + length bs ≤ 45 →
    sets (joined rs ++ tail) (i * 45 + c) bs ≡ joined (set rs i (sets (get_or rs i []) c bs)) ++ tail
unfolding joined
row_stored [] tail i c bs a h l = absurd (omega arith)
row_stored (r ∷ rs) tail zero c bs (each e a) h l =
    let z : 0 * 45 + c ≡ c = omega arith in
    rw z (ap (λ (k : Bytes). sets k c bs) (append_assoc r (joined rs) tail)
    ∙ sets_left r (joined rs ++ tail) c bs (omega arith)
    ∙ sym (append_assoc (sets r c bs) (joined rs) tail))
row_stored (r ∷ rs) tail (suc i) c bs (each e a) h l =
    let z : suc i * 45 + c ≡ length r + (i * 45 + c) = omega arith in
    rw z (ap (λ (k : Bytes). sets k (length r + (i * 45 + c)) bs) (append_assoc r (joined rs) tail)
    ∙ sets_right r (joined rs ++ tail) (i * 45 + c) bs
    ∙ ap (λ (k : Bytes). r ++ k) (row_stored rs tail i c bs a (omega arith) l)
    ∙ sym (append_assoc r (joined (set rs i (sets (get_or rs i []) c bs))) tail))

-- ── rows of openings ──────────────────────────────────────────────────────────────────────────────
pub last_long : (opened : ℕ) (closed : Option ℕ) → ((c : ℕ) → closed ≡ some c → c < 18446744073709551616) → length (open_for opened closed) ≤ 20
unfolding open_for hyphens
last_long opened none h = omega arith
last_long opened (some c) h = few_digits (c - opened) (let l = h c refl in omega arith)

pub row_long : (x : Opening) → Fits x → Long (row x)
unfolding row row_of
row_long x f =
    let a = aligned_length 2 (figure x.output) (two_digits x.output f.low) in
    let b = aligned_length 20 (figure x.opened) (few_digits x.opened f.soon) in
    let d = aligned_length 20 (open_for x.opened x.closed) (last_long x.opened x.closed f.ends) in
    simp length-append (omega arith)

-- the last column stored over the hyphens
before_last : ℕ → ℕ → Bytes
before_last output opened = right_aligned 2 (figure output) ++ (32 ∷ (right_aligned 20 (figure opened) ++ (32 ∷ [])))

in_two : (output opened : ℕ) (third : Bytes) → row_of (figure output) (figure opened) third ≡ before_last output opened ++ (right_aligned 20 third ++ (10 ∷ []))
unfolding row_of before_last
in_two output opened third = simp append_assoc

hyphens_long : length hyphens ≤ 20
unfolding hyphens
hyphens_long = omega arith

front_long : (output opened : ℕ) → output < 16 → opened < 18446744073709551616 → length (before_last output opened) ≡ 24
unfolding before_last
front_long output opened p q =
    let a = aligned_length 2 (figure output) (two_digits output p) in
    let b = aligned_length 20 (figure opened) (few_digits opened q) in
    simp length-append (omega arith)

pub row_closes : (output opened closed : ℕ) → output < 16 → opened < 18446744073709551616 → closed < 18446744073709551616 →
    sets (row (record { output = output; opened = opened; closed = none })) 24 (right_aligned 20 (figure (closed - opened))) ≡
    row (record { output = output; opened = opened; closed = some closed })
unfolding row open_for
row_closes output opened closed p q r =
    let front = before_last output opened in
    let digits = right_aligned 20 (figure (closed - opened)) in
    let long : length front ≡ 24 = front_long output opened p q in
    let same : length digits ≡ length (right_aligned 20 hyphens) =
    aligned_length 20 (figure (closed - opened)) (few_digits (closed - opened) (omega arith)) ∙ sym (aligned_length 20 hyphens hyphens_long) in
    let place : 24 ≡ length front + 0 = omega arith in
    ap₂ (λ (k : Bytes) (j : ℕ). sets k j digits) (in_two output opened hyphens) place
    ∙ sets_right front (right_aligned 20 hyphens ++ (10 ∷ [])) 0 digits
    ∙ ap (λ (k : Bytes). front ++ k)
    (sets_left (right_aligned 20 hyphens) (10 ∷ []) 0 digits (omega arith) ∙ ap (λ (k : Bytes). k ++ (10 ∷ [])) (sets_whole (right_aligned 20 hyphens) digits same))
    ∙ sym (in_two output opened (figure (closed - opened)))

-- ── a row by its number ───────────────────────────────────────────────────────────────────────────
-- the row of opening n, a row of spaces where there is none
unfoldable pub row_number : List Opening → ℕ → Bytes
row_number [] n = blank_row
row_number (x ∷ xs) zero = row x
row_number (x ∷ xs) (suc n) = row_number xs n

pub number_here : (xs : List Opening) (x : Opening) (ys : List Opening) → row_number (xs ++ (x ∷ ys)) (length xs) ≡ row x
unfolding row_number
number_here [] x ys = refl
number_here (y ∷ xs) x ys = number_here xs x ys

pub number_past : (xs : List Opening) (n : ℕ) → length xs ≤ n → row_number xs n ≡ blank_row
unfolding row_number
number_past [] n h = refl
number_past (x ∷ xs) zero h = absurd (omega arith)
number_past (x ∷ xs) (suc n) h = number_past xs n (omega arith)

-- two lists of openings whose rows differ at one number alone
abbrev pub Differ : ℕ → List Opening → List Opening → Type 0
Differ n xs ys = (j : ℕ) → (j ≡ n → ⊥) → row_number ys j ≡ row_number xs j

pub differ_at : (xs : List Opening) (x y : Opening) (ys : List Opening) → Differ (length xs) (xs ++ (x ∷ ys)) (xs ++ (y ∷ ys))
unfolding row_number
differ_at [] x y ys zero n = absurd (n refl)
differ_at [] x y ys (suc j) n = refl
differ_at (z ∷ xs) x y ys zero n = refl
differ_at (z ∷ xs) x y ys (suc j) n = differ_at xs x y ys j (λ e. n (omega arith))

pub differ_end : (xs : List Opening) (x : Opening) → Differ (length xs) xs (xs ++ (x ∷ []))
unfolding row_number
differ_end [] x zero n = absurd (n refl)
differ_end [] x (suc j) n = refl
differ_end (z ∷ xs) x zero n = refl
differ_end (z ∷ xs) x (suc j) n = differ_end xs x j (λ e. n (omega arith))

-- ── the rows of a page ────────────────────────────────────────────────────────────────────────────
-- k rows from number j on
unfoldable pub rows_from : ℕ → ℕ → List Opening → List Bytes
rows_from zero j xs = []
rows_from (suc k) j xs = row_number xs j ∷ rows_from k (suc j) xs

pub rows_length : (k j : ℕ) (xs : List Opening) → length (rows_from k j xs) ≡ k
unfolding rows_from
rows_length zero j xs = refl
rows_length (suc k) j xs = ap suc (rows_length k (suc j) xs)

pub rows_at : (k j : ℕ) (xs : List Opening) (i : ℕ) → i < k → get_or (rows_from k j xs) i [] ≡ row_number xs (j + i)
unfolding rows_from
rows_at zero j xs i h = absurd (omega arith)
rows_at (suc k) j xs zero h = let e : j ≡ j + 0 = omega arith in ap (row_number xs) e
rows_at (suc k) j xs (suc i) h = let e : suc j + i ≡ j + suc i = omega arith in rows_at k (suc j) xs i (omega arith) ∙ ap (row_number xs) e

number_long : (xs : List Opening) (n : ℕ) → All Fits xs → Long (row_number xs n)
unfolding row_number
number_long [] n a = blank_length
number_long (x ∷ xs) zero (each f a) = row_long x f
number_long (x ∷ xs) (suc n) (each f a) = number_long xs n a

pub rows_long : (k j : ℕ) (xs : List Opening) → All Fits xs → All Long (rows_from k j xs)
unfolding rows_from
rows_long zero j xs a = all.none
rows_long (suc k) j xs a = each (number_long xs j a) (rows_long k (suc j) xs a)

rows_same : (k j : ℕ) (xs ys : List Opening) (n : ℕ) → Differ n xs ys → (n < j) ⊎ (j + k ≤ n) → rows_from k j ys ≡ rows_from k j xs
unfolding rows_from
rows_same zero j xs ys n d o = refl
rows_same (suc k) j xs ys n d o =
    let other : j ≡ n → ⊥ = λ e. ⊎_elim (λ l. omega arith) (λ l. omega arith) o in
    let further : (n < suc j) ⊎ (suc j + k ≤ n) = ⊎_elim (λ l. inl (omega arith)) (λ l. inr (omega arith)) o in
    rw (d j other, rows_same k (suc j) xs ys n d further)

rows_changed_lem : (k j i : ℕ) (xs ys : List Opening) → Differ (j + i) xs ys → i < k → rows_from k j ys ≡ set (rows_from k j xs) i (row_number ys (j + i))
unfolding rows_from
rows_changed_lem zero j i xs ys d h = absurd (omega arith)
rows_changed_lem (suc k) j zero xs ys d h =
    let e : j ≡ j + 0 = omega arith in
    ap₂ (λ (r : Bytes) (rs : List Bytes). r ∷ rs) (ap (row_number ys) e) (rows_same k (suc j) xs ys (j + 0) d (inl (omega arith)))
rows_changed_lem (suc k) j (suc i) xs ys d h =
    let e : suc j + i ≡ j + suc i = omega arith in
    let other : j ≡ j + suc i → ⊥ = λ f. omega arith in
    ap₂ (λ (r : Bytes) (rs : List Bytes). r ∷ rs) (d j other)
    (rows_changed_lem k (suc j) i xs ys (λ m n. d m (λ f. n (f ∙ sym e))) (omega arith) ∙ ap (λ (m : ℕ). set (rows_from k (suc j) xs) i (row_number ys m)) e)

-- the page whose first opening is number `first`, with a row of spaces where the heading goes
abbrev pub shown : ℕ → List Opening → List Bytes
shown first xs = blank_row ∷ rows_from 59 first xs

-- ── a store into the row of opening n, if it stands on the page ───────────────────────────────────
module _ (first : ℕ) (xs ys : List Opening) (fit : All Fits xs) (n : ℕ) (d : Differ n xs ys) (tail : Bytes) (c : ℕ) (bs : Bytes) (room : c + length bs ≤ 45)
    (changes : sets (row_number xs n) c bs ≡ row_number ys n) where
  stored_here : first ≤ n → n - first < 59 → sets (joined (shown first xs) ++ tail) ((n - first + 1) * 45 + c) bs ≡ joined (shown first ys) ++ tail
  stored_here h l =
      let i = n - first in
      let place : i + 1 ≡ suc i = omega arith in
      let number : first + i ≡ n = omega arith in
      ap (λ (j : ℕ). sets (joined (shown first xs) ++ tail) (j * 45 + c) bs) place
      ∙ row_stored (shown first xs) tail (suc i) c bs (each blank_length (rows_long 59 first xs fit)) (let e = rows_length 59 first xs in omega arith) room
      ∙ ap (λ (r : Bytes). joined (blank_row ∷ set (rows_from 59 first xs) i (sets r c bs)) ++ tail) (rows_at 59 first xs i l ∙ ap (row_number xs) number)
      ∙ ap (λ (r : Bytes). joined (blank_row ∷ set (rows_from 59 first xs) i r) ++ tail) (changes ∙ ap (row_number ys) (sym number))
      ∙ ap (λ (rs : List Bytes). joined (blank_row ∷ rs) ++ tail) (sym (rows_changed_lem 59 first i xs ys (λ m o. d m (λ f. o (f ∙ sym number))) l))

  not_here : (n < first) ⊎ (first + 59 ≤ n) → joined (shown first xs) ++ tail ≡ joined (shown first ys) ++ tail
  not_here o = ap (λ (rs : List Bytes). joined (blank_row ∷ rs) ++ tail) (sym (rows_same 59 first xs ys n d o))

  pub stored_at : {memory : Bytes} → memory ≡ joined (shown first xs) ++ tail →
      cond (on_page (line_of first n)) (sets memory (line_of first n * 45 + c) bs) memory ≡ joined (shown first ys) ++ tail
  stored_at {memory} e = rw e (go (dec_lt n first) (dec_lt (n - first) 59))
    where
      go : Dec (n < first) → Dec (n - first < 59) →
          cond (on_page (line_of first n)) (sets (joined (shown first xs) ++ tail) (line_of first n * 45 + c) bs) (joined (shown first xs) ++ tail) ≡ joined (shown first ys) ++ tail
      go (yes h) l = rw (← line_before first n h) (not_here (inl h))
      go (no h) (yes l) =
          let g : first ≤ n = omega arith in
          let on = this_page (n - first + 1) (λ z. omega arith) (omega arith) in
          rw (← line_here_lem first n g l, on) (stored_here g l)
      go (no h) (no l) = let g : first ≤ n = omega arith in let k : 59 ≤ n - first = omega arith in rw (← line_behind first n g k) (not_here (inr (omega arith)))
