-- How many words each part of a listing takes, and that parts in a row are laid out one after the other.
use mathlib.Core.Path.{◌≡◌, refl}
use mathlib.Core.List.{List, [], ◌∷◌, ◌++◌, append_assoc}
use Prim.Native.Nat.{ℕ, ◌+◌, ◌*◌, ◌≤◌}
use native.Mathlib.Omega.{arith}
use lib.ListN.{length, length-append, length-replicate}
use Rattle.listing.specs.Listing.{Piece, literal, value_of, written_mark, plus, minus, times, less, divide, remainder, Call, Instruction, assign, schedule, branch, jump, wait, fork, end, Routine}
use Rattle.table.specs.Areas.{words_of_each, piece_words, name_words, call_words, cell_words, entry_words, all_cells, all_entries, routine_words, all_routines, padded}

pub piece_two : (p : Piece) → length (piece_words p) ≡ 2
unfolding piece_words
piece_two (literal v) = refl
piece_two (value_of v) = refl
piece_two (written_mark v) = refl
piece_two plus = refl
piece_two minus = refl
piece_two times = refl
piece_two less = refl
piece_two divide = refl
piece_two remainder = refl

pub name_two : (n : ℕ) → length (name_words n) ≡ 2
unfolding name_words
name_two n = refl

pub each_two : {A : Type 0} (f : A → List ℕ) → ((x : A) → length (f x) ≡ 2) → (xs : List A) → length (words_of_each f xs) ≡ 2 * length xs
unfolding words_of_each
each_two f two [] = refl
each_two f two (x ∷ xs) = let t = two x in let r = each_two f two xs in simp length-append (omega arith)

pub call_length : (c : Call) → length (call_words c) ≡ 2 + 2 * length c.arguments
unfolding call_words
call_length c = let h = each_two name_words name_two c.arguments in omega arith

pub entry_five : (at : ℕ) (i : Instruction) → length (entry_words at i) ≡ 5
unfolding entry_words
entry_five at (assign n e) = refl
entry_five at (schedule n d e) = refl
entry_five at (branch e k) = refl
entry_five at (jump k) = refl
entry_five at (wait ns) = refl
entry_five at (fork cs) = refl
entry_five at end = refl

pub routine_five : (first : ℕ) (t : Routine) → length (routine_words first t) ≡ 5
unfolding routine_words
routine_five first t = refl

pub entries_append : (is js : List Instruction) (at : ℕ) → all_entries at (is ++ js) ≡ all_entries at is ++ all_entries (at + length (all_cells is)) js
unfolding all_entries all_cells words_of_each
entries_append [] js at = let z : at + 0 ≡ at = omega arith in rw z
entries_append (i ∷ is) js at =
    let m : (at + length (cell_words i)) + length (all_cells is) ≡ at + length (cell_words i ++ all_cells is) = simp length-append (omega arith) in
    rw (entries_append is js (at + length (cell_words i)), append_assoc, m)

pub cells_append : (is js : List Instruction) → all_cells (is ++ js) ≡ all_cells is ++ all_cells js
unfolding all_cells words_of_each
cells_append [] js = refl
cells_append (i ∷ is) js = rw (cells_append is js, append_assoc)

pub entries_length : (is : List Instruction) (at : ℕ) → length (all_entries at is) ≡ 5 * length is
unfolding all_entries
entries_length [] at = refl
entries_length (i ∷ is) at =
    let h = entries_length is (at + length (cell_words i)) in let f = entry_five at i in simp length-append (omega arith)

pub pad_length : (n : ℕ) (xs : List ℕ) → length xs ≤ n → length (padded n xs) ≡ n
unfolding padded
pad_length n xs h = simp (length-append, length-replicate) (omega arith)

pub routines_length : (rs : List Routine) (first : ℕ) → length (all_routines first rs) ≡ 5 * length rs
unfolding all_routines
routines_length [] first = refl
routines_length (t ∷ rs) first =
    let h = routines_length rs (first + length t.code) in let f = routine_five first t in simp length-append (omega arith)
