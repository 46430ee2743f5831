-- Comparing a table's words with the areas of a listing, area by area.
use mathlib.Core.Path.{◌≡◌, refl, sym, ap, ◌∙◌}
use mathlib.Core.Bool.{true, ◌&&◌}
use mathlib.Core.List.{List, [], ◌∷◌, ◌++◌, map}
use Prim.Native.Nat.{ℕ, zero, suc, ◌+◌, ◌*◌, ◌-◌, ◌≤◌, ◌<◌}
use native.Mathlib.Omega.{arith}
use native.Mathlib.Numerals.{add-one}
use lib.Dec.{eqb}
use lib.ListN.{length, drop, replicate, length-append, drop_of_length-le}
use lib.Seq.{drop-cons}
use borrow.Author.Tests.{eqb-true}
use Rattle.listing.specs.Lists.{total}
use Rattle.listing.specs.Listing.{Routine, Listing}
use Rattle.table.specs.Areas.{operands, kind_bits, routine_words, all_routines, all_code, padded, header_words, laid_out}
use Rattle.table.specs.Decode.{word, code_at_entry, routine_at_entry, routines_at_entry, table_listing}
use Rattle.table.specs.Question6.{same_words}
use Rattle.table.proofs.Lengths.{pad_length, routine_five}
use Rattle.table.proofs.Reach.{code_count, routine_total}
use Rattle.table.proofs.Tests.{and_left, and_right}
use Rattle.table_check_cells.specs.Pass.{same_at}
use Rattle.table_check_cells.proofs.Words.{same_split, same_number}
use Rattle.table_check_ends.specs.Ends.{zeros_at, operand_count}
use Rattle.table_check.proofs.Opening.{five}

-- ── words by address ─────────────────────────────────────────────────────────────
none_left : (w : List ℕ) (a : ℕ) → length w ≡ a → drop a w ≡ []
none_left w a h = drop_of_length-le w {i = a} (omega arith)

pub same_by_address : (ys w : List ℕ) (a : ℕ) → length w ≡ a + length ys → same_words (drop a w) ys ≡ same_at w a ys
unfolding same_words same_at
same_by_address [] w a h = rw (none_left w a (omega arith))
same_by_address (y ∷ ys) w a h =
    let l : a < length w = omega arith in
    let k : length w ≡ suc a + length ys = omega arith in
    rw (drop-cons w a 0 l, add-one a, same_by_address ys w (suc a) k)

pub zeros_same : (w : List ℕ) (n a : ℕ) → same_at w a (replicate n 0) ≡ zeros_at w a n
unfolding same_at zeros_at
zeros_same w zero a = refl
zeros_same w (suc n) a = rw (zeros_same w n (a + 1))

pub padded_same : (w : List ℕ) (a n : ℕ) (xs : List ℕ) → same_at w a (padded n xs) ≡ (same_at w a xs && zeros_at w (a + length xs) (n - length xs))
unfolding padded
padded_same w a n xs = same_split w a xs (replicate (n - length xs) 0) ∙ rw (zeros_same w (n - length xs) (a + length xs))

pub laid_out_same : (w h r e c : List ℕ) → length w ≡ 12288 → length h ≤ 8 → length r ≤ 320 → length e ≤ 2560 → length c ≤ 9400
    → same_words w (laid_out h r e c) ≡ (same_at w 0 (padded 8 h) && (same_at w 8 (padded 320 r) && (same_at w 328 (padded 2560 e) && same_at w 2888 (padded 9400 c))))
unfolding laid_out
laid_out_same w h r e c l hh hr he hc =
    let ph = pad_length 8 h hh in
    let pr = pad_length 320 r hr in
    let pe = pad_length 2560 e he in
    let pc = pad_length 9400 c hc in
    let k : length w ≡ 0 + length (padded 8 h ++ (padded 320 r ++ (padded 2560 e ++ padded 9400 c))) = simp length-append (omega arith) in
    same_by_address (padded 8 h ++ (padded 320 r ++ (padded 2560 e ++ padded 9400 c))) w 0 k
    ∙ rw (
      same_split w 0 (padded 8 h) (padded 320 r ++ (padded 2560 e ++ padded 9400 c)),
      ph,
      same_split w 8 (padded 320 r) (padded 2560 e ++ padded 9400 c),
      pr,
      same_split w 328 (padded 2560 e) (padded 9400 c),
      pe,
    )

pub header_same : (w : List ℕ) → same_at w 0 (header_words (table_listing w)) ≡ true
unfolding header_words same_at table_listing
header_same w = rw (routine_total w) (go (word w 0) (word w 1) (word w 2))
  where
    go : (x y z : ℕ) → (eqb x x && (eqb y y && (eqb z z && true))) ≡ true
    go x y z = rw (same_number x, same_number y, same_number z)

pub header_three : (l : Listing) → length (header_words l) ≡ 3
unfolding header_words
header_three l = refl

-- ── operands ─────────────────────────────────────────────────────────────────────
pub operand_total : (w : List ℕ) (n e : ℕ) → operand_count w e n ≡ total (map operands (code_at_entry w e n))
unfolding operand_count code_at_entry total
operand_total w zero e = refl
operand_total w (suc n) e = rw (operand_total w n (e + 5))

code_append : (w : List ℕ) (m n e : ℕ) → code_at_entry w e (m + n) ≡ code_at_entry w e m ++ code_at_entry w (e + 5 * m) n
unfolding code_at_entry
code_append w zero n e = let z : 0 + n ≡ n = omega arith in let k : e + 5 * 0 ≡ e = omega arith in rw (z, k)
code_append w (suc m) n e =
    let z : suc m + n ≡ suc (m + n) = omega arith in
    let k : e + 5 + 5 * m ≡ e + 5 * suc m = omega arith in
    rw (z, code_append w m n (e + 5), k)

-- the code of routines whose entries give running first numbers is the code in a row
entry_first : (w : List ℕ) (a first : ℕ) (r : Routine) → same_at w a (routine_words first r) ≡ true → word w (a + 3) ≡ first
unfolding routine_words
entry_first w a first r h =
    let words = sym (five w a (length r.kinds) (kind_bits r.kinds) r.locals first (length r.code)) ∙ h in
    let one = and_right (eqb (word w (a + 0)) (length r.kinds)) _ words in
    let two = and_right (eqb (word w (a + 1)) (kind_bits r.kinds)) _ one in
    let three = and_right (eqb (word w (a + 2)) r.locals) _ two in
    eqb-true (word w (a + 3)) first (and_left (eqb (word w (a + 3)) first) (eqb (word w (a + 4)) (length r.code)) three)

code_at_first : (w : List ℕ) (a first : ℕ) → word w (a + 3) ≡ first → (routine_at_entry w a).code ≡ code_at_entry w (328 + 5 * first) (length (routine_at_entry w a).code)
unfolding routine_at_entry
code_at_first w a first h = rw (h, code_count w (word w (a + 4)) (328 + 5 * first))

pub code_in_row : (w : List ℕ) (n a first : ℕ) → same_at w a (all_routines first (routines_at_entry w a n)) ≡ true
    → all_code (routines_at_entry w a n) ≡ code_at_entry w (328 + 5 * first) (length (all_code (routines_at_entry w a n)))
unfolding routines_at_entry all_routines all_code code_at_entry
code_in_row w zero a first h = refl
code_in_row w (suc n) a first h =
    let r = routine_at_entry w a in
    let rs = routines_at_entry w (a + 5) n in
    let k = length r.code in
    let e = 328 + 5 * first in
    let split = sym (same_split w a (routine_words first r) (all_routines (first + k) rs)) ∙ h in
    let here = and_left (same_at w a (routine_words first r)) _ split in
    let rest : same_at w (a + length (routine_words first r)) (all_routines (first + k) rs) ≡ true = and_right (same_at w a (routine_words first r)) _ split in
    let one : r.code ≡ code_at_entry w e k = code_at_first w a first (entry_first w a first r here) in
    let others : all_code rs ≡ code_at_entry w (328 + 5 * (first + k)) (length (all_code rs)) = code_in_row w n (a + 5) (first + k) (rw (routine_five first r) at rest) in
    let z : e + 5 * k ≡ 328 + 5 * (first + k) = omega arith in
    let row : code_at_entry w e (k + length (all_code rs)) ≡ code_at_entry w e k ++ code_at_entry w (328 + 5 * (first + k)) (length (all_code rs)) =
    code_append w k (length (all_code rs)) e ∙ ap (λ (x : ℕ). code_at_entry w e k ++ code_at_entry w x (length (all_code rs))) z in
    rw (length-append r.code (all_code rs)) (cc)
