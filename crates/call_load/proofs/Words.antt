-- One line more in the table's words.
use mathlib.Core.Path.{◌≡◌, refl, sym, ap, ◌∙◌}
use mathlib.Core.List.{List, [], ◌∷◌, ◌++◌, append_assoc, append-nil}
use Prim.Native.Nat.{ℕ, ◌+◌, ◌*◌, ◌-◌, ◌≤◌, ◌<◌}
use native.Mathlib.Omega.{arith}
use lib.ListN.{length, set, replicate, length-append, replicate-append-replicate}
use lib.Seq.{sets, set_at}
use Rattle.listing.specs.Listing.{Instruction, Kind, Routine, Listing, ports, opens, instruction}
use Rattle.table.specs.Areas.{cell_words, entry_words, all_cells, all_entries, kind_bits, routine_words, all_routines, all_code, padded, header_words, laid_out, table_words, words_of_each}
use Rattle.table.proofs.Lengths.{pad_length, routine_five, routines_length, entries_length}
use Rattle.table.proofs.Append.{routines_append, instruction_more, routine_more, code_append}
use Rattle.call_load.specs.Growing.{opened_with, extended, with_instruction, last_code_lem, nothing_said, with_line}
use Rattle.call_load.proofs.Growing.{with_instruction_last, last_code, split, code_extended}

-- ── the header ───────────────────────────────────────────────────────────────────
module _ (i o n : ℕ) (r e c : List ℕ) where
  pub ports_put : (i' o' : ℕ) → set (set (laid_out (i ∷ (o ∷ (n ∷ []))) r e c) 0 i') 1 o' ≡ laid_out (i' ∷ (o' ∷ (n ∷ []))) r e c
  unfolding laid_out padded
  ports_put i' o' = refl

  pub count_put : (n' : ℕ) → set (laid_out (i ∷ (o ∷ (n ∷ []))) r e c) 2 n' ≡ laid_out (i ∷ (o ∷ (n' ∷ []))) r e c
  unfolding laid_out padded
  count_put n' = refl

-- ── nothing yet ──────────────────────────────────────────────────────────────────
pub nothing_written : table_words nothing_said ≡ replicate 12288 0
unfolding table_words laid_out padded header_words all_routines all_entries all_cells all_code words_of_each
nothing_written =
    ap (λ (l : List ℕ). replicate 8 0 ++ (replicate 320 0 ++ l)) (replicate-append-replicate 2560 9400 0)
    ∙ (ap (λ (l : List ℕ). replicate 8 0 ++ l) (replicate-append-replicate 320 11960 0) ∙ replicate-append-replicate 8 12280 0)

-- ── one line more ────────────────────────────────────────────────────────────────
pub ports_written : (l : Listing) (i o : ℕ) → set (set (table_words l) 0 i) 1 o ≡ table_words (with_line l (ports i o))
unfolding table_words header_words with_line
ports_written l i o = ports_put l.inputs l.outputs (length l.routines) (all_routines 0 l.routines) (all_entries 2888 (all_code l.routines)) (all_cells (all_code l.routines)) i o

code_opened : (rs : List Routine) (kinds : List Kind) (locals : ℕ) → all_code (rs ++ (opened_with kinds locals ∷ [])) ≡ all_code rs
unfolding all_code
code_opened rs kinds locals = code_append rs (opened_with kinds locals ∷ []) ∙ append-nil (all_code rs)

pub opens_written : (l : Listing) (kinds : List Kind) (locals : ℕ) → length l.routines < 64
    → set (sets (table_words l) (8 + 5 * length l.routines) (length kinds ∷ (kind_bits kinds ∷ (locals ∷ (length (all_code l.routines) ∷ (0 ∷ [])))))) 2 (length l.routines + 1)
    ≡ table_words (with_line l (opens kinds locals))
unfolding table_words header_words routine_words with_line
opens_written l kinds locals room =
    let rs = l.routines in
    let e = all_entries 2888 (all_code rs) in
    let c = all_cells (all_code rs) in
    let r = all_routines 0 (rs ++ (opened_with kinds locals ∷ [])) in
    ap (λ (w : List ℕ). set w 2 (length rs + 1)) (routine_more (header_words l) e c rs (opened_with kinds locals) (omega arith) room)
    ∙ (count_put l.inputs l.outputs (length rs) r e c (length rs + 1) ∙ rw (length-append, code_opened rs kinds locals))

-- the last word of the last routine's entry: the number of its instructions
module _ (h : List ℕ) (hf : length h ≤ 8) (ds : List Routine) (r : Routine) (i : Instruction) (few : length ds < 64) where
  routines_last : (t : Routine) → all_routines 0 (ds ++ (t ∷ [])) ≡ all_routines 0 ds ++ routine_words (length (all_code ds)) t
  unfolding all_routines
  routines_last t = let z : 0 + length (all_code ds) ≡ length (all_code ds) = omega arith in routines_append ds (t ∷ []) 0 ∙ rw (z, append-nil)

  front : List ℕ
  front = padded 8 h ++ (all_routines 0 ds ++ (length r.kinds ∷ (kind_bits r.kinds ∷ (r.locals ∷ (length (all_code ds) ∷ [])))))

  front_length : length front ≡ 7 + 5 * (length ds + 1)
  unfolding front
  front_length = simp length-append (omega (arith, pad_length 8 h hf, routines_length ds 0))

  apart : (t : Routine) (e c : List ℕ) → t.kinds ≡ r.kinds → t.locals ≡ r.locals → laid_out h (all_routines 0 (ds ++ (t ∷ []))) e c
      ≡ front ++ (length t.code ∷ (replicate (320 - 5 * (length ds + 1)) 0 ++ (padded 2560 e ++ padded 9400 c)))
  unfolding laid_out padded front routine_words
  apart t e c k l =
      let m : length (all_routines 0 ds ++ routine_words (length (all_code ds)) t) ≡ 5 * (length ds + 1) =
      length-append (all_routines 0 ds) (routine_words (length (all_code ds)) t) ∙ omega (arith, routines_length ds 0, routine_five (length (all_code ds)) t) in
      rw (routines_last t, m, k, l) (simp append_assoc)

  pub code_put : (e c : List ℕ) → set (laid_out h (all_routines 0 (ds ++ (r ∷ []))) e c) (7 + 5 * (length ds + 1)) (length r.code + 1)
      ≡ laid_out h (all_routines 0 (ds ++ (extended r i ∷ []))) e c
  code_put e c =
      let z : List ℕ = replicate (320 - 5 * (length ds + 1)) 0 ++ (padded 2560 e ++ padded 9400 c) in
      ap (λ (w : List ℕ). set w (7 + 5 * (length ds + 1)) (length r.code + 1)) (apart r e c refl refl)
      ∙ (set_at front (length r.code) z (length r.code + 1) (7 + 5 * (length ds + 1)) front_length
      ∙ (ap (λ (n : ℕ). front ++ (n ∷ z)) (sym (length-append r.code (i ∷ []))) ∙ sym (apart (extended r i) e c refl refl)))

-- what the table holds after the cells, the entry and the count of one instruction more
abbrev instruction_put : List ℕ → List Routine → Instruction → List ℕ
instruction_put w rs i =
    let at = 2888 + length (all_cells (all_code rs)) in
    set (sets (sets w at (cell_words i)) (328 + 5 * length (all_code rs)) (entry_words at i)) (7 + 5 * length rs) (length (last_code_lem rs) + 1)

abbrev saying : ℕ → ℕ → List Routine → Listing
saying inputs outputs rs = record { inputs = inputs; outputs = outputs; routines = rs }

extended_written : (inputs outputs : ℕ) (ds : List Routine) (r : Routine) (i : Instruction) → length ds < 64
    → length (all_code (ds ++ (r ∷ []))) < 512 → length (all_cells (all_code (ds ++ (r ∷ [])))) + length (cell_words i) ≤ 9400
    → instruction_put (table_words (saying inputs outputs (ds ++ (r ∷ [])))) (ds ++ (r ∷ [])) i ≡ table_words (saying inputs outputs (ds ++ (extended r i ∷ [])))
unfolding table_words header_words
extended_written inputs outputs ds r i few room cells =
    let rs : List Routine = ds ++ (r ∷ []) in
    let is = all_code rs in
    let h : List ℕ = inputs ∷ (outputs ∷ (length rs ∷ [])) in
    let at = 2888 + length (all_cells is) in
    let n : length rs ≡ length ds + 1 = length-append ds (r ∷ []) in
    let n' : length (ds ++ (extended r i ∷ [])) ≡ length rs = length-append ds (extended r i ∷ []) ∙ sym n in
    let el = entries_length is 2888 in
    let m = instruction_more h (all_routines 0 rs) is i (omega arith) (omega (arith, routines_length rs 0)) (omega arith) cells at refl in
    let put : sets (sets (laid_out h (all_routines 0 rs) (all_entries 2888 is) (all_cells is)) at (cell_words i)) (328 + 5 * length is) (entry_words at i)
    ≡ laid_out h (all_routines 0 rs) (all_entries 2888 (is ++ (i ∷ []))) (all_cells (is ++ (i ∷ []))) = rw el at m in
    let a : 7 + 5 * length rs ≡ 7 + 5 * (length ds + 1) = omega arith in
    ap (λ (w : List ℕ). set w (7 + 5 * length rs) (length (last_code_lem rs) + 1)) put
    ∙ rw (a, last_code ds r, code_extended ds r i, n') (code_put h (omega arith) ds r i few (all_entries 2888 (is ++ (i ∷ []))) (all_cells (is ++ (i ∷ []))))

pub instruction_written : (l : Listing) (i : Instruction) → 1 ≤ length l.routines → length l.routines ≤ 64
    → length (all_code l.routines) < 512 → length (all_cells (all_code l.routines)) + length (cell_words i) ≤ 9400
    → instruction_put (table_words l) l.routines i ≡ table_words (with_line l (instruction i))
unfolding with_line
instruction_written l i some few room cells =
    let p = split l.routines some in
    let n : length l.routines ≡ length p.front + 1 = ap length p.is ∙ length-append p.front (p.last ∷ []) in
    let w = extended_written l.inputs l.outputs p.front p.last i (omega arith) (rw (← p.is) room) (rw (← p.is) cells) in
    let e : with_instruction l.routines i ≡ p.front ++ (extended p.last i ∷ []) = ap (λ (rs : List Routine). with_instruction rs i) p.is ∙ with_instruction_last p.front p.last i in
    ap (λ (rs : List Routine). instruction_put (table_words (saying l.inputs l.outputs rs)) rs i) p.is ∙ (w ∙ ap (λ (rs : List Routine). table_words (saying l.inputs l.outputs rs)) (sym e))
