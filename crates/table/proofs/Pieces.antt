-- The pieces of instructions, counted by the words of their cells and by their operands.
use mathlib.Core.Path.{◌≡◌, refl}
use mathlib.Core.List.{List, [], ◌∷◌, ◌++◌, map}
use Prim.Native.Nat.{ℕ, ◌+◌, ◌*◌}
use native.Mathlib.Omega.{arith}
use lib.ListN.{length, length-append}
use Rattle.listing.specs.Lists.{total}
use Rattle.listing.specs.Listing.{Call, Instruction, assign, schedule, branch, jump, wait, fork, end, Routine}
use Rattle.listing.specs.Limits.{call_pieces, instruction_pieces}
use Rattle.listing.specs.WellFormed.{routine_pieces}
use Rattle.table.specs.Areas.{words_of_each, piece_words, name_words, call_words, cell_words, operands, all_cells, all_code}
use Rattle.table.proofs.Lengths.{piece_two, name_two, each_two, call_length}

calls_pieces : (cs : List Call) → 2 * total (map call_pieces cs) ≡ length (words_of_each call_words cs)
unfolding total words_of_each
calls_pieces [] = refl
calls_pieces (c ∷ cs) = let l = call_length c in let h = calls_pieces cs in simp length-append (omega arith)

instruction_pieces_lem : (i : Instruction) → 2 * instruction_pieces i ≡ length (cell_words i) + 2 * operands i
unfolding instruction_pieces cell_words operands
instruction_pieces_lem (assign n e) = let h = each_two piece_words piece_two e in omega arith
instruction_pieces_lem (schedule n d e) =
    let h = each_two piece_words piece_two d in let k = each_two piece_words piece_two e in simp length-append (omega arith)
instruction_pieces_lem (branch e k) = let h = each_two piece_words piece_two e in omega arith
instruction_pieces_lem (jump k) = refl
instruction_pieces_lem (wait names) = let h = each_two name_words name_two names in omega arith
instruction_pieces_lem (fork calls) = let h = calls_pieces calls in omega arith
instruction_pieces_lem end = refl

pub pieces_in_cells : (is : List Instruction) → 2 * total (map instruction_pieces is) ≡ length (all_cells is) + 2 * total (map operands is)
unfolding total all_cells words_of_each
pieces_in_cells [] = refl
pieces_in_cells (i ∷ is) = let h = instruction_pieces_lem i in let k = pieces_in_cells is in simp length-append (omega arith)

total_append : (xs ys : List ℕ) → total (xs ++ ys) ≡ total xs + total ys
unfolding total
total_append [] ys = omega arith
total_append (x ∷ xs) ys = let h = total_append xs ys in omega arith

map_append : {A B : Type 0} (f : A → B) (xs ys : List A) → map f (xs ++ ys) ≡ map f xs ++ map f ys
map_append f [] ys = refl
map_append f (x ∷ xs) ys = rw (map_append f xs ys)

pub pieces_in_all : (rs : List Routine) → total (map routine_pieces rs) ≡ total (map instruction_pieces (all_code rs))
unfolding total all_code
pieces_in_all [] = refl
pieces_in_all (r ∷ rs) =
    rw (map_append instruction_pieces r.code (all_code rs), total_append (map instruction_pieces r.code) (map instruction_pieces (all_code rs)), pieces_in_all rs)
