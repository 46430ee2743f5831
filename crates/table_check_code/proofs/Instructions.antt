-- The pass over a routine's entries asks of its instructions, together, what question 6 asks of them.
use mathlib.Core.Path.{◌≡◌, refl}
use mathlib.Core.Bool.{Bool, true, false, cond, ◌&&◌}
use mathlib.Core.List.{List, [], ◌∷◌, ◌++◌}
use Prim.Native.Nat.{ℕ, zero, suc, ◌+◌, ◌≤◌, ◌<◌}
use native.Mathlib.Omega.{arith}
use lib.Dec.{leb}
use lib.ListN.{length, length-append}
use Rattle.std.proofs.Common.{Option, Some, None}
use Rattle.std.specs.Prelude.{option_and_then}
use borrow.Author.Tests.{le-leb, leb-true}
use Rattle.listing.specs.Lists.{all}
use Rattle.listing.specs.Listing.{Instruction}
use Rattle.table.specs.Areas.{words_of_each, cell_words, entry_words, all_cells, all_entries}
use Rattle.table.specs.Decode.{instruction_at_entry, code_at_entry}
use Rattle.table.proofs.Lengths.{entry_five}
use Rattle.table.proofs.Tests.{and_left, and_right, and_no}
use Rattle.table_check_cells.specs.Pass.{same_at, routines_in, instruction_passes, instruction_test, entry_past, code_past, code_test}
use Rattle.table_check_cells.proofs.Words.{same_split, leb_before}

-- ── one instruction more ─────────────────────────────────────────────────────────
regroup : (pass passes here end entry entries same sames : Bool) → (end ≡ true → here ≡ true)
    → ((pass && passes) && (end && ((entry && entries) && (same && sames)))) ≡ ((pass && (here && (entry && same))) && (passes && (end && (entries && sames))))
regroup false passes here end entry entries same sames h = refl
regroup true false here end entry entries same sames h = simp and_no
regroup true true here false entry entries same sames h = simp and_no
regroup true true here true false entries same sames h = simp and_no
regroup true true here true true false same sames h = simp and_no
regroup true true here true true true false sames h = simp and_no
regroup true true here true true true true sames h = rw (h refl)

module _ (w : List ℕ) (names size : ℕ) where
  pub code_test_more : (e at : ℕ) (i : Instruction) (is : List Instruction)
      → code_test w names size e at (i ∷ is) ≡ (instruction_test w names size e at i && code_test w names size (e + 5) (at + length (cell_words i)) is)
  unfolding code_test instruction_test all_entries all_cells words_of_each all
  code_test_more e at i is =
      let m = at + length (cell_words i) in
      let s : at + length (cell_words i ++ all_cells is) ≡ m + length (all_cells is) = simp length-append (omega arith) in
      rw (s, same_split w e (entry_words at i) (all_entries m is), same_split w at (cell_words i) (all_cells is), entry_five at i)
      (regroup (instruction_passes (routines_in w) names size i) (all (instruction_passes (routines_in w) names size) is) (leb m 11080) (leb (m + length (all_cells is)) 11080)
      (same_at w e (entry_words at i)) (same_at w (e + 5) (all_entries m is)) (same_at w at (cell_words i)) (same_at w m (all_cells is)) (leb_before m (length (all_cells is)) 11080))

  -- a turn: if the instruction passes, the rest of the pass counts
  passes_on : (b b' : Bool) (m r : ℕ) (f : ℕ → Option ℕ) → (b ≡ true → f m ≡ cond b' (Some r) None) → option_and_then f (cond b (Some m) None) ≡ cond (b && b') (Some r) None
  passes_on true b' m r f h = h refl
  passes_on false b' m r f h = refl

  instruction_room_lem : (e at : ℕ) (i : Instruction) → instruction_test w names size e at i ≡ true → at + length (cell_words i) ≤ 11080
  unfolding instruction_test
  instruction_room_lem e at i h =
      let m = at + length (cell_words i) in
      leb-true m 11080 (and_left (leb m 11080) (same_at w e (entry_words at i) && same_at w at (cell_words i)) (and_right (instruction_passes (routines_in w) names size i) _ h))

  no_code : (e at : ℕ) → at ≤ 11080 → Some at ≡ cond (code_test w names size e at []) (Some (at + length (all_cells []))) None
  unfolding code_test all_cells words_of_each all all_entries same_at
  no_code e at u = let z : at + 0 ≡ at = omega arith in rw (z, le-leb at 11080 u)

  cells_more : (at : ℕ) (i : Instruction) (is : List Instruction) → at + length (all_cells (i ∷ is)) ≡ at + length (cell_words i) + length (all_cells is)
  unfolding all_cells words_of_each
  cells_more at i is = simp length-append (omega arith)

  pub code_past_lem : (n e at : ℕ) → at ≤ 11080
      → code_past w names size e at n ≡ cond (code_test w names size e at (code_at_entry w e n)) (Some (at + length (all_cells (code_at_entry w e n)))) None
  unfolding code_past code_at_entry entry_past
  code_past_lem zero e at u = no_code e at u
  code_past_lem (suc n) e at u =
      let i = instruction_at_entry w e in
      let is = code_at_entry w (e + 5) n in
      let m = at + length (cell_words i) in
      rw (code_test_more e at i is, cells_more at i is)
      (passes_on (instruction_test w names size e at i) (code_test w names size (e + 5) m is) m (m + length (all_cells is)) (λ k. code_past w names size (e + 5) k n)
      (λ (h : instruction_test w names size e at i ≡ true). code_past_lem n (e + 5) m (instruction_room_lem e at i h)))

  -- ── the turns of the pass ──────────────────────────────────────────────────────
  pub entry_past_top : (e at v : ℕ) → entry_past w names size e at ≡ Some v → v ≤ 11080
  unfolding entry_past
  entry_past_top e at v = go (instruction_test w names size e at (instruction_at_entry w e)) refl
    where
      go : (b : Bool) → instruction_test w names size e at (instruction_at_entry w e) ≡ b
          → cond b (Some (at + length (cell_words (instruction_at_entry w e)))) None ≡ Some v → v ≤ 11080
      go true h q =
          let room = instruction_room_lem e at (instruction_at_entry w e) h in
          let z : at + length (cell_words (instruction_at_entry w e)) ≡ v = cc in
          omega arith
      go false h q = absurd (let z : ⊥ = cc in z)

  -- the instruction is refused, or the rest counts from behind its cells
  pub code_past_stop : (e at left : ℕ) → 0 < left → entry_past w names size e at ≡ None → code_past w names size e at left ≡ None
  unfolding code_past
  code_past_stop e at zero l h = absurd (omega arith)
  code_past_stop e at (suc n) l h = rw h

  pub code_past_more : (e at left n next v : ℕ) → left ≡ suc n → next ≡ e + 5 → entry_past w names size e at ≡ Some v
      → code_past w names size next v n ≡ code_past w names size e at left
  unfolding code_past
  code_past_more e at left n next v z y q = rw (z, y, q)

  pub code_past_none : (e at left : ℕ) → left ≡ 0 → code_past w names size e at left ≡ Some at
  unfolding code_past
  code_past_none e at left z = rw z
