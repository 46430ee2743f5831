-- A row tells its opening: the figures in its columns are the numbers, so different openings have different rows. Letters: x, y openings, r a row.
use mathlib.Core.Path.{◌≡◌, refl, sym, ap, ◌∙◌}
use mathlib.Core.List.{List, [], ◌∷◌, ◌++◌, append_assoc}
use mathlib.Core.Option.{Option, none, some}
use Prim.Native.Nat.{ℕ, zero, suc, ◌+◌, ◌-◌, ◌*◌, ◌≤◌, ◌<◌}
use native.Mathlib.Omega.{arith}
use lib.ListN.{length, get_or, take, drop, replicate, length-append}
use lib.Seq.{take_at, drop_at, drop-append-add}
use borrow.Author.Tests.{ne_eqb}
use Rattle.listing.specs.Bytes.{Bytes, figure, is_figure, read_figure}
use Rattle.listing.specs.Lists.{all}
use Rattle.listing.proofs.Figures.{figure_leads, figure_zero, read_figure-figure}
use Rattle.openings.specs.Openings.{Opening, EndsLater}
use Rattle.openings.proofs.All.{All, each}
use Rattle.page_rows.specs.Rows.{right_aligned, row_of, hyphens, open_for, row, Fits, joined}
use Rattle.page_rows.proofs.RowBytes.{aligned_length}
use Rattle.page_rows.proofs.Columns.{few_digits, two_digits}
use Rattle.page_book.proofs.RowList.{Long, last_long}
use Rattle.page.specs.Together.{row_of_bytes, unpadded, number_at}

-- ── a figure behind spaces ────────────────────────────────────────────────────────────────────────
unpad_spaces : (k : ℕ) (text : Bytes) → unpadded (replicate k 32 ++ text) ≡ unpadded text
unfolding unpadded
unpad_spaces zero text = refl
unpad_spaces (suc k) text = unpad_spaces k text

unpad_figure : (n : ℕ) → unpadded (figure n) ≡ figure n
unfolding unpadded
unpad_figure zero = rw figure_zero
unpad_figure (suc n) =
    let l = figure_leads (suc n) (omega arith) in
    let low = l.low in
    rw (l.is, ne_eqb l.head 32 (λ e. omega arith))

read_aligned : (columns n : ℕ) → read_figure (unpadded (right_aligned columns (figure n))) ≡ some n
unfolding right_aligned
read_aligned columns n = rw (unpad_spaces (columns - length (figure n)) (figure n), unpad_figure n) (read_figure-figure n)

-- ── the columns of a row ──────────────────────────────────────────────────────────────────────────
module _ (first second third : Bytes) (one : length first ≤ 2) (two : length second ≤ 20) (three : length third ≤ 20) where
  abbrev a : Bytes
  a = right_aligned 2 first

  abbrev b : Bytes
  b = right_aligned 20 second

  abbrev c : Bytes
  c = right_aligned 20 third

  first_column : take 2 (drop 0 (row_of first second third)) ≡ a
  unfolding row_of
  first_column = take_at a _ 2 (aligned_length 2 first one)

  second_column : take 20 (drop 3 (row_of first second third)) ≡ b
  unfolding row_of
  second_column =
      let long = aligned_length 2 first one in
      ap (take 20)
      (ap (drop 3) (sym (append_assoc a (32 ∷ []) (b ++ (32 ∷ (c ++ (10 ∷ []))))))
      ∙ drop_at (a ++ (32 ∷ [])) (b ++ (32 ∷ (c ++ (10 ∷ [])))) 3 (length-append a (32 ∷ []) ∙ omega arith))
      ∙ take_at b _ 20 (aligned_length 20 second two)

  third_column : take 20 (drop 24 (row_of first second third)) ≡ c
  unfolding row_of
  third_column =
      let la = aligned_length 2 first one in
      let lb = aligned_length 20 second two in
      let front : Bytes = a ++ (32 ∷ (b ++ (32 ∷ []))) in
      let whole : a ++ (32 ∷ (b ++ (32 ∷ (c ++ (10 ∷ []))))) ≡ front ++ (c ++ (10 ∷ [])) = simp append_assoc in
      let long : length front ≡ 24 = simp length-append (omega arith) in
      ap (take 20) (ap (drop 24) whole ∙ drop_at front (c ++ (10 ∷ [])) 24 long) ∙ take_at c (10 ∷ []) 20 (aligned_length 20 third three)

hyphens_whole : right_aligned 20 hyphens ≡ hyphens
unfolding right_aligned hyphens
hyphens_whole = refl

-- ── the theorems ──────────────────────────────────────────────────────────────────────────────────
module _ (x : Opening) (f : Fits x) where
  abbrev o : ℕ
  o = x.output

  two : length (figure x.output) ≤ 2
  two = two_digits x.output f.low

  twenty : length (figure x.opened) ≤ 20
  twenty = few_digits x.opened f.soon

  last : length (open_for x.opened x.closed) ≤ 20
  last = last_long x.opened x.closed f.ends

  -- the output number in the first 2 columns
  pub output_read : number_at (row x) 0 2 ≡ some x.output
  unfolding row
  output_read = ap (λ (t : Bytes). read_figure (unpadded t)) (first_column _ _ _ two twenty last) ∙ read_aligned 2 x.output

  -- the moment opened in the next 20
  pub opened_read : number_at (row x) 3 20 ≡ some x.opened
  unfolding row
  opened_read = ap (λ (t : Bytes). read_figure (unpadded t)) (second_column _ _ _ two twenty last) ∙ read_aligned 20 x.opened

  -- the milliseconds open in the last 20
  pub milliseconds_read : (closed : ℕ) → x.closed ≡ some closed → number_at (row x) 24 20 ≡ some (closed - x.opened)
  unfolding row open_for
  milliseconds_read closed e =
      ap (λ (t : Bytes). read_figure (unpadded t)) (third_column _ _ _ two twenty last ∙ ap (λ (d : Option ℕ). right_aligned 20 (open_for x.opened d)) e)
      ∙ read_aligned 20 (closed - x.opened)

  -- or hyphens, if the valve is still open at the end
  pub hyphens_read : x.closed ≡ none → take 20 (drop 24 (row x)) ≡ hyphens
  unfolding row open_for
  hyphens_read e = third_column _ _ _ two twenty last ∙ ap (λ (d : Option ℕ). right_aligned 20 (open_for x.opened d)) e ∙ hyphens_whole

same_some : {m n : ℕ} → some m ≡ some n → m ≡ n
same_some e = cc

-- Two openings with the same row have the same output and the same moment opened.
pub start_told : (x y : Opening) → Fits x → Fits y → row x ≡ row y → (x.output ≡ y.output) × (x.opened ≡ y.opened)
start_told x y f g e = (
  same_some (sym (output_read x f) ∙ ap (λ (r : Bytes). number_at r 0 2) e ∙ output_read y g),
  same_some (sym (opened_read x f) ∙ ap (λ (r : Bytes). number_at r 3 20) e ∙ opened_read y g),
)

-- hyphens are no number
hyphens_unread : read_figure (unpadded hyphens) ≡ none
unfolding unpadded hyphens read_figure is_figure all
hyphens_unread = refl

open_unread : (x : Opening) → Fits x → x.closed ≡ none → number_at (row x) 24 20 ≡ none
open_unread x f e = ap (λ (t : Bytes). read_figure (unpadded t)) (hyphens_read x f e) ∙ hyphens_unread

end_told : (x y : Opening) → Fits x → Fits y → EndsLater x → EndsLater y → row x ≡ row y → x.opened ≡ y.opened →
    (c d : Option ℕ) → x.closed ≡ c → y.closed ≡ d → c ≡ d
end_told x y f g l m e s none none p q = refl
end_told x y f g l m e s none (some d) p q =
    let z = sym (open_unread x f p) ∙ ap (λ (r : Bytes). number_at r 24 20) e ∙ milliseconds_read y g d q in
    absurd (let n : ◌≡◌ {A = ℕ} 0 1 = cc in omega arith)
end_told x y f g l m e s (some c) none p q =
    let z = sym (open_unread y g q) ∙ ap (λ (r : Bytes). number_at r 24 20) (sym e) ∙ milliseconds_read x f c p in
    absurd (let n : ◌≡◌ {A = ℕ} 0 1 = cc in omega arith)
end_told x y f g l m e s (some c) (some d) p q =
    let z = same_some (sym (milliseconds_read x f c p) ∙ ap (λ (r : Bytes). number_at r 24 20) e ∙ milliseconds_read y g d q) in
    let a = l c p in
    let b = m d q in
    let same : c ≡ d = omega arith in
    ap some same

same_opening : (x y : Opening) → x.output ≡ y.output → x.opened ≡ y.opened → x.closed ≡ y.closed → x ≡ y
same_opening x y p q r =
    ap (λ (o : ℕ). record { output = o; opened = x.opened; closed = x.closed }) p
    ∙ ap (λ (m : ℕ). record { output = y.output; opened = m; closed = x.closed }) q
    ∙ ap (λ (c : Option ℕ). record { output = y.output; opened = y.opened; closed = c }) r

-- A row tells its opening, the closing moment too: two openings with the same row are the same.
pub row_tells : (x y : Opening) → Fits x → Fits y → EndsLater x → EndsLater y → row x ≡ row y → x ≡ y
row_tells x y f g l m e =
    let s = start_told x y f g e in
    same_opening x y s.0 s.1 (end_told x y f g l m e s.1 x.closed y.closed refl refl)

-- ── the rows of a page's bytes ────────────────────────────────────────────────────────────────────
pub row_in_bytes : (rs : List Bytes) (tail : Bytes) (i : ℕ) → All Long rs → i < length rs → row_of_bytes (joined rs ++ tail) i ≡ get_or rs i []
unfolding joined
row_in_bytes [] tail i a h = absurd (omega arith)
row_in_bytes (r ∷ rs) tail zero (each e a) h =
    ap (take 45) (append_assoc r (joined rs) tail) ∙ take_at r (joined rs ++ tail) 45 e
row_in_bytes (r ∷ rs) tail (suc i) (each e a) h =
    let z : suc i * 45 ≡ length r + i * 45 = omega arith in
    ap (λ (k : ℕ). take 45 (drop k ((r ++ joined rs) ++ tail))) z
    ∙ ap (λ (l : Bytes). take 45 (drop (length r + i * 45) l)) (append_assoc r (joined rs) tail)
    ∙ ap (take 45) (drop-append-add r (joined rs ++ tail) (i * 45))
    ∙ row_in_bytes rs tail i a (omega arith)
