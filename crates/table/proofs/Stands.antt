-- Where each instruction of a table's listing stands: its entry, its cells, and within which bounds.
use mathlib.Core.Path.{◌≡◌, sym, ap, ◌∙◌}
use mathlib.Core.Bool.{true}
use mathlib.Core.List.{List, [], ◌∷◌, ◌++◌, append_assoc}
use Prim.Native.Nat.{ℕ, zero, suc, ◌+◌, ◌*◌, ◌≤◌, ◌<◌}
use native.Mathlib.Omega.{arith}
use lib.ListN.{length, get_or, drop, length-append}
use Rattle.listing.specs.Listing.{Instruction, end, Routine, Listing}
use Rattle.walk.specs.Walk.{no_routine, routine_at}
use Rattle.table.specs.Areas.{words_of_each, cell_words, entry_words, all_cells, all_entries, routine_words, all_routines, all_code, header_words, laid_out, table_words}
use Rattle.table.specs.Decode.{word, routine_entry, table_listing}
use Rattle.table.specs.Question6.{is_table}
use Rattle.table.proofs.Lengths.{entry_five, routine_five, entries_append, cells_append, entries_length, routines_length}
use Rattle.table.proofs.ReadBack.{word_at_lem, past, at_routines, at_entries, header_short, pad_split}
use Rattle.table.proofs.Pieces.{pieces_in_cells, pieces_in_all}
use Rattle.table.proofs.Reach.{routine_total}
use Rattle.table.proofs.Table.{Meets, table_meets, table_is_laid_out}

-- an instruction's entry stands at e, its cells from `cells` on, between two addresses
pub record Stands (w : List ℕ) (e low high : ℕ) (i : Instruction) : Type 0 where
  pub cells : ℕ
  pub behind : List ℕ
  pub entry : drop e w ≡ entry_words cells i ++ behind
  pub least : low ≤ cells
  pub most : cells + length (cell_words i) ≤ high

wider : {w : List ℕ} {e low high : ℕ} {i : Instruction} (low' high' : ℕ) → low' ≤ low → high ≤ high' → Stands w e low high i → Stands w e low' high' i
wider low' high' l h s =
    let a = s.least in
    let b = s.most in
    record { cells = s.cells; behind = s.behind; entry = s.entry; least = omega arith; most = omega arith }

code_stands : (w : List ℕ) (is : List Instruction) (e cells : ℕ) (re : List ℕ) → drop e w ≡ all_entries cells is ++ re
    → (k : ℕ) → k < length is → Stands w (e + 5 * k) cells (cells + length (all_cells is)) (get_or is k end)
unfolding all_entries all_cells words_of_each
code_stands w [] e cells re h k l = absurd (omega arith)
code_stands w (i ∷ is) e cells re h zero l =
    let z : e ≡ e + 5 * 0 = omega arith in
    let b = length-append (cell_words i) (all_cells is) in
    rw (← z) (record { cells = cells; behind = all_entries (cells + length (cell_words i)) is ++ re; entry = h ∙ append_assoc (entry_words cells i) _ re; least = omega arith; most = omega arith })
code_stands w (i ∷ is) e cells re h (suc k) l =
    let m = cells + length (cell_words i) in
    let h₁ : drop (e + 5) w ≡ all_entries m is ++ re = past w e 5 (entry_words cells i) _ (entry_five cells i) (h ∙ append_assoc (entry_words cells i) (all_entries m is) re) in
    let b = length-append (cell_words i) (all_cells is) in
    let z : e + 5 + 5 * k ≡ e + 5 * suc k = omega arith in
    rw (← z) (wider cells (cells + length (cell_words i ++ all_cells is)) (omega arith) (omega arith) (code_stands w is (e + 5) m re h₁ k (omega arith)))

-- the first instruction of a routine by its entry, and its instructions where that says
pub record RoutineStands (w : List ℕ) (a low high bound : ℕ) (r : Routine) : Type 0 where
  pub first : ℕ
  pub is : word w (a + 3) ≡ first
  pub room : first + length r.code ≤ bound
  pub code : (place : ℕ) → place < length r.code → Stands w (328 + 5 * first + 5 * place) low high (get_or r.code place end)

third_word : (w : List ℕ) (a first : ℕ) (t : Routine) (rest : List ℕ) → drop a w ≡ routine_words first t ++ rest → word w (a + 3) ≡ first
unfolding routine_words
third_word w a first t rest h = word_at_lem w a 3 _ h

more_cells : (is js : List Instruction) → length (all_cells (is ++ js)) ≡ length (all_cells is) + length (all_cells js)
more_cells is js = ap length (cells_append is js) ∙ length-append (all_cells is) (all_cells js)

routines_stand : (w : List ℕ) (rs : List Routine) (a first cells : ℕ) (ra re : List ℕ) → drop a w ≡ all_routines first rs ++ ra
    → drop (328 + 5 * first) w ≡ all_entries cells (all_code rs) ++ re → (r : ℕ) → r < length rs
    → RoutineStands w (a + 5 * r) cells (cells + length (all_cells (all_code rs))) (first + length (all_code rs)) (get_or rs r no_routine)
unfolding all_routines all_code
routines_stand w [] a first cells ra re h k r l = absurd (omega arith)
routines_stand w (t ∷ rs) a first cells ra re h k zero l =
    let z : a ≡ a + 5 * 0 = omega arith in
    let n = length t.code in
    let h₁ : drop a w ≡ routine_words first t ++ (all_routines (first + n) rs ++ ra) = h ∙ append_assoc (routine_words first t) _ ra in
    let k₁ : drop (328 + 5 * first) w ≡ all_entries cells t.code ++ (all_entries (cells + length (all_cells t.code)) (all_code rs) ++ re) =
    k ∙ (ap (λ (x : List ℕ). x ++ re) (entries_append t.code (all_code rs) cells) ∙ append_assoc (all_entries cells t.code) _ re) in
    let c = more_cells t.code (all_code rs) in
    let b = length-append t.code (all_code rs) in
    rw (← z)
    (record {
      first = first;
      is = third_word w a first t _ h₁;
      room = omega arith;
      code = λ place l. wider cells (cells + length (all_cells (t.code ++ all_code rs))) (omega arith) (omega arith) (code_stands w t.code (328 + 5 * first) cells _ k₁ place l);
    })
routines_stand w (t ∷ rs) a first cells ra re h k (suc r) l =
    let n = length t.code in
    let m = cells + length (all_cells t.code) in
    let h₁ : drop a w ≡ routine_words first t ++ (all_routines (first + n) rs ++ ra) = h ∙ append_assoc (routine_words first t) _ ra in
    let k₁ : drop (328 + 5 * first) w ≡ all_entries cells t.code ++ (all_entries m (all_code rs) ++ re) =
    k ∙ (ap (λ (x : List ℕ). x ++ re) (entries_append t.code (all_code rs) cells) ∙ append_assoc (all_entries cells t.code) _ re) in
    let h₂ = past w a 5 (routine_words first t) _ (routine_five first t) h₁ in
    let k₂ = past w (328 + 5 * first) (5 * n) (all_entries cells t.code) _ (entries_length t.code cells) k₁ in
    let e : 328 + 5 * first + 5 * n ≡ 328 + 5 * (first + n) = omega arith in
    let k₃ : drop (328 + 5 * (first + n)) w ≡ all_entries m (all_code rs) ++ re = ap (λ (x : ℕ). drop x w) (sym e) ∙ k₂ in
    let c = more_cells t.code (all_code rs) in
    let b = length-append t.code (all_code rs) in
    let z : a + 5 + 5 * r ≡ a + 5 * suc r = omega arith in
    let s = routines_stand w rs (a + 5) (first + n) m ra re h₂ k₃ r (omega arith) in
    let room = s.room in
    rw (← z)
    (record {
      first = s.first;
      is = s.is;
      room = omega arith;
      code = λ place l. wider cells (cells + length (all_cells (t.code ++ all_code rs))) (omega arith) (omega arith) (s.code place l);
    })

-- ── in a table ───────────────────────────────────────────────────────────────────
-- the cells' area holds the cells of at most 4,096 pieces
pub cells_room : (listing : Listing) → Meets listing → 2888 + length (all_cells (all_code listing.routines)) ≤ 11080
cells_room listing m =
    let few = m.piece_count in
    let all = pieces_in_all listing.routines in
    let cells = pieces_in_cells (all_code listing.routines) in
    omega arith

pub routine_stands : (w : List ℕ) → is_table w ≡ true → (r : ℕ) → r < word w 2
    → RoutineStands w (routine_entry r) 2888 11080 512 (routine_at (table_listing w) r)
unfolding routine_at table_words
routine_stands w h r l =
    let listing = table_listing w in
    let m = table_meets w h in
    let rs = listing.routines in
    let is = all_code rs in
    let few = m.routine_count in
    let room = m.instruction_count in
    let rl = routines_length rs 0 in
    let el = entries_length is 2888 in
    let total = routine_total w in
    let end = cells_room listing m in
    let laid : w ≡ laid_out (header_words listing) (all_routines 0 rs) (all_entries 2888 is) (all_cells is) = table_is_laid_out w h in
    let p₁ : drop 8 w ≡ all_routines 0 rs ++ _ = ap (λ (x : List ℕ). drop 8 x) laid ∙ (at_routines (header_words listing) (all_routines 0 rs) (all_entries 2888 is) (all_cells is) (header_short listing) (omega arith) (omega arith) ∙ pad_split 320 (all_routines 0 rs) _) in
    let p₂ : drop 328 w ≡ all_entries 2888 is ++ _ = ap (λ (x : List ℕ). drop 328 x) laid ∙ (at_entries (header_words listing) (all_routines 0 rs) (all_entries 2888 is) (all_cells is) (header_short listing) (omega arith) (omega arith) ∙ pad_split 2560 (all_entries 2888 is) _) in
    let s = routines_stand w rs 8 0 2888 _ _ p₁ p₂ r (omega arith) in
    let bound = s.room in
    record {
      first = s.first;
      is = s.is;
      room = omega arith;
      code = λ place k. wider 2888 11080 (omega arith) (omega arith) (s.code place k);
    }
