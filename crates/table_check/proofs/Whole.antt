-- The pass over a table's words answers question 6.
use mathlib.Core.Path.{◌≡◌, refl, sym, ap, ◌∙◌}
use mathlib.Core.Bool.{Bool, true, false, ◌&&◌, not}
use mathlib.Core.List.{List, [], ◌∷◌, map}
use Prim.Native.Nat.{ℕ, ◌+◌, ◌*◌, ◌-◌, ◌≤◌, ◌<◌}
use native.Mathlib.Omega.{arith}
use lib.Dec.{leb}
use lib.ListN.{length, length-append, length-replicate}
use borrow.Author.Tests.{le-leb, leb-true}
use Rattle.listing.specs.Lists.{all, is_empty, total, all_yes}
use Rattle.listing.specs.Listing.{Instruction, Routine, Listing, name_count}
use Rattle.listing.specs.Questions.{routines_there, there_answers, routines_end, ending_answers}
use Rattle.listing.specs.WellFormed.{instruction_has_form, has_form, routine_instructions, routine_pieces, meets_counts, well_formed_but_for_length, well_formed}
use Rattle.listing.proofs.ShortText.{length_needs_no_test}
use Rattle.table.specs.Areas.{operands, all_routines, all_code, all_cells, all_entries, padded, header_words, laid_out, table_words}
use Rattle.table.specs.Decode.{word, routines_at_entry, table_listing}
use Rattle.table.specs.Question6.{same_words, is_table}
use Rattle.table.proofs.Lengths.{entries_length, routines_length}
use Rattle.table.proofs.Pieces.{pieces_in_cells, pieces_in_all}
use Rattle.table.proofs.Reach.{routine_total}
use Rattle.table.proofs.Tests.{and_left, and_right, same_answer}
use Rattle.table.proofs.Table.{Meets, table_meets, instructions_total, table_is_laid_out}
use Rattle.table_check_cells.specs.Pass.{same_at}
use Rattle.table_check_ends.specs.Ends.{zeros_at, operand_count, tail_test}
use Rattle.table_check.specs.Check.{routines_pass, routines_test, table_test}
use Rattle.table_check.proofs.Conditions.{routines_pass_lem}
use Rattle.table_check.proofs.RoutinePass.{pass_from_lem}
use Rattle.table_check.proofs.Areas.{padded_same, laid_out_same, header_same, header_three, operand_total, code_in_row}

-- ── rows of tests ────────────────────────────────────────────────────────────────
row_five : (a b c d e : Bool) → (a && (b && (c && (d && e)))) ≡ true → (a ≡ true) × (b ≡ true) × (c ≡ true) × (d ≡ true) × (e ≡ true)
row_five a b c d e h =
    let h₁ = and_right a (b && (c && (d && e))) h in
    let h₂ = and_right b (c && (d && e)) h₁ in
    let h₃ = and_right c (d && e) h₂ in
    (and_left a (b && (c && (d && e))) h, and_left b (c && (d && e)) h₁, and_left c (d && e) h₂, and_left d e h₃, and_right d e h₃)

row_six : (a b c d e f : Bool) → (a && (b && (c && (d && (e && f))))) ≡ true → (a ≡ true) × (b ≡ true) × (c ≡ true) × (d ≡ true) × (e ≡ true) × (f ≡ true)
row_six a b c d e f h =
    let r = row_five b c d e f (and_right a (b && (c && (d && (e && f)))) h) in
    (and_left a (b && (c && (d && (e && f)))) h, r.0, r.1, r.2, r.3, r.4)

some_routine : {A : Type 0} (xs : List A) → 1 ≤ length xs → not (is_empty xs) ≡ true
some_routine [] h = absurd (omega arith)
some_routine (x ∷ xs) h = refl

routine_some : {A : Type 0} (xs : List A) → not (is_empty xs) ≡ true → 1 ≤ length xs
routine_some [] h = absurd (let z : ◌≡◌ {A = ℕ} 0 1 = cc in omega arith)
routine_some (x ∷ xs) h = omega arith

abbrev routines : List ℕ → List Routine
routines w = (table_listing w).routines

abbrev code : List ℕ → List Instruction
code w = all_code (routines w)

abbrev cells_end : List ℕ → ℕ
cells_end w = 2888 + length (all_cells (code w))

-- what both ask, part by part
record Parts (w : List ℕ) : Type 0 where
  some : 1 ≤ word w 2
  few : word w 2 ≤ 64
  passes : routines_pass (table_listing w) 0 (routines w) ≡ true
  instruction_room : length (code w) ≤ 512
  piece_room : cells_end w + 2 * operand_count w 328 (length (code w)) ≤ 11080
  routine_area : same_at w 8 (all_routines 0 (routines w)) ≡ true
  entry_area : same_at w 328 (all_entries 2888 (code w)) ≡ true
  cell_area : same_at w 2888 (all_cells (code w)) ≡ true
  header_tail : zeros_at w 3 5 ≡ true
  routine_tail : zeros_at w (8 + 5 * word w 2) (320 - 5 * word w 2) ≡ true
  entry_tail : zeros_at w (328 + 5 * length (code w)) (2560 - 5 * length (code w)) ≡ true
  cell_tail : zeros_at w (cells_end w) (12288 - cells_end w) ≡ true

-- ── the check ────────────────────────────────────────────────────────────────────
checked_is : (w : List ℕ) → table_test w
    ≡ ((leb 1 (word w 2) && leb (word w 2) 64) && (routines_test w 0 0 2888 (routines w) && tail_test w (word w 2) (length (code w)) (cells_end w)))
unfolding table_test table_listing
checked_is w =
    let p = pass_from_lem w (word w 2) 0 0 2888 (omega arith) (omega arith) in
    let z : 0 + word w 2 ≡ word w 2 = omega arith in
    let y : 0 + length (all_code (routines_at_entry w 8 (word w 2))) ≡ length (all_code (routines_at_entry w 8 (word w 2))) = omega arith in
    ap (λ (b : Bool). (leb 1 (word w 2) && leb (word w 2) 64) && b) (p ∙ rw (z, y))

parts_of_check : (w : List ℕ) → table_test w ≡ true → Parts w
unfolding routines_test tail_test
parts_of_check w h =
    let n = word w 2 in
    let k = length (code w) in
    let t = sym (checked_is w) ∙ h in
    let bounds = and_left (leb 1 n && leb n 64) (routines_test w 0 0 2888 (routines w) && tail_test w n k (cells_end w)) t in
    let both = and_right (leb 1 n && leb n 64) (routines_test w 0 0 2888 (routines w) && tail_test w n k (cells_end w)) t in
    let r =
    row_six (routines_pass (table_listing w) 0 (routines w)) (leb (0 + k) 512) (leb (cells_end w) 11080) (same_at w 8 (all_routines 0 (routines w)))
    (same_at w 328 (all_entries 2888 (code w))) (same_at w 2888 (all_cells (code w))) (and_left (routines_test w 0 0 2888 (routines w)) (tail_test w n k (cells_end w)) both) in
    let s =
    row_five (zeros_at w 3 5) (zeros_at w (8 + 5 * n) (320 - 5 * n)) (zeros_at w (328 + 5 * k) (2560 - 5 * k)) (zeros_at w (cells_end w) (12288 - cells_end w))
    (leb (cells_end w + 2 * operand_count w 328 k) 11080) (and_right (routines_test w 0 0 2888 (routines w)) (tail_test w n k (cells_end w)) both) in
    let room = leb-true (0 + k) 512 r.1 in
    record {
      some = leb-true 1 n (and_left (leb 1 n) (leb n 64) bounds);
      few = leb-true n 64 (and_right (leb 1 n) (leb n 64) bounds);
      passes = r.0;
      instruction_room = omega arith;
      piece_room = leb-true _ 11080 s.4;
      routine_area = r.3;
      entry_area = r.4;
      cell_area = r.5;
      header_tail = s.0;
      routine_tail = s.1;
      entry_tail = s.2;
      cell_tail = s.3;
    }

check_of_parts : (w : List ℕ) → Parts w → table_test w ≡ true
unfolding routines_test tail_test
check_of_parts w p =
    let n = word w 2 in
    let k = length (code w) in
    let room = p.instruction_room in
    let pieces = p.piece_room in
    checked_is w
    ∙ rw (
      le-leb 1 n p.some,
      le-leb n 64 p.few,
      p.passes,
      le-leb (0 + k) 512 (omega arith),
      le-leb (cells_end w) 11080 (omega arith),
      p.routine_area,
      p.entry_area,
      p.cell_area,
      p.header_tail,
      p.routine_tail,
      p.entry_tail,
      p.cell_tail,
      le-leb (cells_end w + 2 * operand_count w 328 k) 11080 pieces,
    )

-- ── question 6 ───────────────────────────────────────────────────────────────────
pieces_are : (w : List ℕ) → same_at w 8 (all_routines 0 (routines w)) ≡ true
    → 2 * total (map routine_pieces (routines w)) ≡ length (all_cells (code w)) + 2 * operand_count w 328 (length (code w))
unfolding table_listing
pieces_are w h =
    let row = code_in_row w (word w 2) 8 0 h in
    let count : operand_count w 328 (length (code w)) ≡ total (map operands (code w)) =
    operand_total w (length (code w)) 328 ∙ ap (λ (is : List Instruction). total (map operands is)) (sym row) in
    ap (λ (k : ℕ). 2 * k) (pieces_in_all (routines w)) ∙ (pieces_in_cells (code w) ∙ ap (λ (k : ℕ). length (all_cells (code w)) + 2 * k) (sym count))

-- the four areas, each with what is behind it
abbrev areas : List ℕ → Bool
areas w =
    zeros_at w 3 5
    && ((same_at w 8 (all_routines 0 (routines w)) && zeros_at w (8 + 5 * word w 2) (320 - 5 * word w 2))
    && ((same_at w 328 (all_entries 2888 (code w)) && zeros_at w (328 + 5 * length (code w)) (2560 - 5 * length (code w)))
    && (same_at w 2888 (all_cells (code w)) && zeros_at w (cells_end w) (9400 - length (all_cells (code w))))))

areas_are : (w : List ℕ) → length w ≡ 12288 → word w 2 ≤ 64 → length (code w) ≤ 512 → length (all_cells (code w)) ≤ 9400
    → same_words w (table_words (table_listing w)) ≡ areas w
unfolding table_words
areas_are w l few room cells =
    let rs = routines w in
    let h = header_three (table_listing w) in
    let r : length (all_routines 0 rs) ≡ 5 * word w 2 = routines_length rs 0 ∙ rw (routine_total w) in
    let e = entries_length (code w) 2888 in
    laid_out_same w (header_words (table_listing w)) (all_routines 0 rs) (all_entries 2888 (code w)) (all_cells (code w)) l (omega arith) (omega arith) (omega arith) cells
    ∙ rw (
      padded_same w 0 8 (header_words (table_listing w)),
      header_same w,
      h,
      padded_same w 8 320 (all_routines 0 rs),
      r,
      padded_same w 328 2560 (all_entries 2888 (code w)),
      e,
      padded_same w 2888 9400 (all_cells (code w)),
    )

cells_few : (w : List ℕ) → total (map routine_pieces (routines w)) ≤ 4096 → length (all_cells (code w)) ≤ 8192
cells_few w h =
    let a = pieces_in_all (routines w) in
    let b = pieces_in_cells (code w) in
    omega arith

conditions : (w : List ℕ) → Meets (table_listing w) → (1 ≤ word w 2) × (routines_pass (table_listing w) 0 (routines w) ≡ true)
unfolding there_answers ending_answers has_form all
conditions w m =
    let rs = routines w in
    let there = m.there in
    let some = routine_some rs (and_left (not (is_empty rs)) (all_yes (routines_there (table_listing w) 0 rs)) there) in
    let others = and_right (not (is_empty rs)) (all_yes (routines_there (table_listing w) 0 rs)) there in
    (rw (routine_total w) at some, routines_pass_lem (table_listing w) rs 0 ∙ rw (m.form, m.names, others, m.ending))

parts_of_table : (w : List ℕ) → length w ≡ 12288 → is_table w ≡ true → Parts w
unfolding is_table
parts_of_table w l h =
    let listing = table_listing w in
    let rs = routines w in
    let k = length (code w) in
    let m = table_meets w h in
    let c = conditions w m in
    let few : word w 2 ≤ 64 = rw (routine_total w) at m.routine_count in
    let room = m.instruction_count in
    let cells = cells_few w m.piece_count in
    let same : areas w ≡ true =
    sym (areas_are w l few room (omega arith)) ∙ and_right (well_formed listing) (same_words w (table_words listing)) h in
    let r = same_at w 8 (all_routines 0 rs) in
    let rz = zeros_at w (8 + 5 * word w 2) (320 - 5 * word w 2) in
    let e = same_at w 328 (all_entries 2888 (code w)) in
    let ez = zeros_at w (328 + 5 * k) (2560 - 5 * k) in
    let d = same_at w 2888 (all_cells (code w)) in
    let dz = zeros_at w (cells_end w) (9400 - length (all_cells (code w))) in
    let a₁ = and_right (zeros_at w 3 5) ((r && rz) && ((e && ez) && (d && dz))) same in
    let a₂ = and_right (r && rz) ((e && ez) && (d && dz)) a₁ in
    let a₃ = and_right (e && ez) (d && dz) a₂ in
    let r₁ = and_left (r && rz) ((e && ez) && (d && dz)) a₁ in
    let e₁ = and_left (e && ez) (d && dz) a₂ in
    let pieces = pieces_are w (and_left r rz r₁) in
    let limit = m.piece_count in
    let z : 9400 - length (all_cells (code w)) ≡ 12288 - cells_end w = omega arith in
    record {
      some = c.0;
      few = few;
      passes = c.1;
      instruction_room = room;
      piece_room = omega arith;
      routine_area = and_left r rz r₁;
      entry_area = and_left e ez e₁;
      cell_area = and_left d dz a₃;
      header_tail = and_left (zeros_at w 3 5) ((r && rz) && ((e && ez) && (d && dz))) same;
      routine_tail = and_right r rz r₁;
      entry_tail = and_right e ez e₁;
      cell_tail = rw z at (and_right d dz a₃);
    }

table_of_parts : (w : List ℕ) → length w ≡ 12288 → Parts w → is_table w ≡ true
unfolding is_table well_formed_but_for_length meets_counts has_form there_answers ending_answers all
table_of_parts w l p =
    let listing = table_listing w in
    let rs = routines w in
    let k = length (code w) in
    let few = p.few in
    let some = p.some in
    let room = p.instruction_room in
    let piece_room = p.piece_room in
    let pieces = pieces_are w p.routine_area in
    let n = routine_total w in
    let i = instructions_total rs in
    let z : 9400 - length (all_cells (code w)) ≡ 12288 - cells_end w = omega arith in
    let asked = and_four' (all (λ r. all instruction_has_form r.code) rs) (all (λ r. leb (name_count r) 16) rs)
    (all_yes (routines_there listing 0 rs)) (all_yes (routines_end rs)) (sym (routines_pass_lem listing rs 0) ∙ p.passes) in
    let same : same_words w (table_words listing) ≡ true =
    areas_are w l few room (omega arith)
    ∙ rw (z, p.header_tail, p.routine_area, p.routine_tail, p.entry_area, p.entry_tail, p.cell_area, p.cell_tail) in
    rw (
      length_needs_no_test listing,
      same,
      asked.0,
      asked.1,
      asked.2,
      asked.3,
      some_routine rs (omega arith),
      le-leb (length rs) 64 (omega arith),
      le-leb (total (map routine_instructions rs)) 512 (omega arith),
      le-leb (total (map routine_pieces rs)) 4096 (omega arith),
    )
  where
    and_four' : (a b c d : Bool) → ((a && b) && (c && d)) ≡ true → (a ≡ true) × (b ≡ true) × (c ≡ true) × (d ≡ true)
    and_four' a b c d h =
        let ab = and_left (a && b) (c && d) h in
        let cd = and_right (a && b) (c && d) h in
        (and_left a b ab, and_right a b ab, and_left c d cd, and_right c d cd)

-- the pass is question 6, for 12,288 words
pub table_is_checked : (w : List ℕ) → length w ≡ 12288 → is_table w ≡ table_test w
table_is_checked w l = same_answer (is_table w) (table_test w) (λ h. check_of_parts w (parts_of_table w l h)) (λ h. table_of_parts w l (parts_of_check w h))

-- fewer words are no table
padded_long : (n : ℕ) (xs : List ℕ) → n ≤ length (padded n xs)
unfolding padded
padded_long n xs = simp (length-append, length-replicate) (omega arith)

table_long : (l : Listing) → 12288 ≤ length (table_words l)
unfolding table_words laid_out
table_long l =
    let h = padded_long 8 (header_words l) in
    let r = padded_long 320 (all_routines 0 l.routines) in
    let e = padded_long 2560 (all_entries 2888 (all_code l.routines)) in
    let c = padded_long 9400 (all_cells (all_code l.routines)) in
    simp length-append (omega arith)

pub short_is_no_table : (w : List ℕ) → length w < 12288 → is_table w ≡ false
short_is_no_table w h =
    same_answer (is_table w) false
    (λ (t : is_table w ≡ true). let e = ap length (table_is_laid_out w t) in let l = table_long (table_listing w) in absurd (omega arith))
    (λ (t : false ≡ true). absurd (let z : ◌≡◌ {A = ℕ} 0 1 = cc in omega arith))
