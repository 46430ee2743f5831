-- A table that passes question 6 keeps the bounds that its readers rely on.
use mathlib.Core.Path.{◌≡◌, refl, sym, ap, ◌∙◌}
use mathlib.Core.Bool.{true, not}
use mathlib.Core.List.{List, [], ◌∷◌, ◌++◌}
use Prim.Native.Nat.{ℕ, zero, suc, ◌+◌, ◌≤◌, ◌<◌}
use native.Mathlib.Omega.{arith}
use lib.Dec.{eqb}
use lib.ListN.{length, get_or, length-append}
use borrow.Author.Tests.{eqb-true}
use Rattle.listing.specs.Lists.{all, is_empty, all_yes}
use Rattle.listing.specs.Listing.{Kind, Routine, Listing}
use Rattle.listing.specs.Questions.{is_by_reference, opens_as_stated, routines_there, there_answers}
use Rattle.walk.specs.Walk.{routine_at}
use Rattle.table.specs.Areas.{all_routines, all_code, all_cells, all_entries, padded, header_words, laid_out, table_words}
use Rattle.table.specs.Decode.{word, table_listing}
use Rattle.table.specs.Question6.{is_table}
use Rattle.table.specs.Bounds.{Bounds}
use Rattle.table.proofs.Tests.{and_left, and_right, true_not_false}
use Rattle.table.proofs.Lengths.{entries_length, routines_length, pad_length}
use Rattle.table.proofs.ReadBack.{header_short}
use Rattle.table.proofs.Reach.{routine_total, kinds_by_number, arguments_by_number, locals_by_number, code_length_by_number}
use Rattle.table.proofs.Table.{Meets, table_meets, table_is_laid_out}
use Rattle.table.proofs.Stands.{cells_room, routine_stands}
use Rattle.table.proofs.Asked.{names_few, opens_as_stated_lem, code_some}

-- ── the words ────────────────────────────────────────────────────────────────────
table_length_lem : (l : Listing) → Meets l → length (table_words l) ≡ 12288
unfolding table_words laid_out
table_length_lem l m =
    let rs = l.routines in
    let few = m.routine_count in
    let room = m.instruction_count in
    let cells = cells_room l m in
    let rl = routines_length rs 0 in
    let el = entries_length (all_code rs) 2888 in
    let h = pad_length 8 (header_words l) (header_short l) in
    let r = pad_length 320 (all_routines 0 rs) (omega arith) in
    let e = pad_length 2560 (all_entries 2888 (all_code rs)) (omega arith) in
    let c = pad_length 9400 (all_cells (all_code rs)) (omega arith) in
    simp length-append (omega arith)

header_zero : (l : Listing) (rest : List ℕ) (j : ℕ) → 3 ≤ j → j < 8 → get_or (padded 8 (header_words l) ++ rest) j 0 ≡ 0
unfolding padded header_words
header_zero l rest zero a b = absurd (omega arith)
header_zero l rest (suc zero) a b = absurd (omega arith)
header_zero l rest (suc (suc zero)) a b = absurd (omega arith)
header_zero l rest (suc (suc (suc zero))) a b = refl
header_zero l rest (suc (suc (suc (suc zero)))) a b = refl
header_zero l rest (suc (suc (suc (suc (suc zero))))) a b = refl
header_zero l rest (suc (suc (suc (suc (suc (suc zero)))))) a b = refl
header_zero l rest (suc (suc (suc (suc (suc (suc (suc zero))))))) a b = refl
header_zero l rest (suc (suc (suc (suc (suc (suc (suc (suc j)))))))) a b = absurd (omega arith)

unused_zero : (l : Listing) (j : ℕ) → 3 ≤ j → j < 8 → word (table_words l) j ≡ 0
unfolding table_words laid_out
unused_zero l j a b = header_zero l _ j a b

some_routine : {A : Type 0} (xs : List A) → not (is_empty xs) ≡ true → 1 ≤ length xs
some_routine [] h = absurd (true_not_false h refl)
some_routine (x ∷ xs) h = omega arith

pub routines_some : (l : Listing) → Meets l → 1 ≤ length l.routines
unfolding there_answers all
routines_some l m = some_routine l.routines (and_left (not (is_empty l.routines)) (all_yes (routines_there l 0 l.routines)) m.there)

pub main_ports : (l : Listing) (t : Routine) → opens_as_stated l 0 t ≡ true → (length t.kinds ≡ l.inputs + l.outputs) × (all is_by_reference t.kinds ≡ true)
unfolding opens_as_stated
main_ports l t h =
    let q = eqb (length t.kinds) (l.inputs + l.outputs) in
    (eqb-true (length t.kinds) (l.inputs + l.outputs) (and_left q (all is_by_reference t.kinds) h), and_right q (all is_by_reference t.kinds) h)

pub bounds : (w : List ℕ) → is_table w ≡ true → Bounds w
unfolding table_listing
bounds w h =
    let l = table_listing w in
    let m = table_meets w h in
    let n = routine_total w in
    let laid = table_is_laid_out w h in
    let some = routines_some l m in
    let few = m.routine_count in
    let main : 0 < word w 2 = omega arith in
    let opens = main_ports l (routine_at l 0) (opens_as_stated_lem l m 0 (omega arith)) in
    record {
      words = ap length laid ∙ table_length_lem l m;
      some = omega arith;
      few = omega arith;
      unused = λ j a b. ap (λ (x : List ℕ). word x j) laid ∙ unused_zero l j a b;
      ports = sym (arguments_by_number w 0 main) ∙ opens.0;
      references = ap (λ (ks : List Kind). all is_by_reference ks) (sym (kinds_by_number w 0 main)) ∙ opens.1;
      names = λ r t. let a = arguments_by_number w r t in let b = locals_by_number w r t in let c = names_few l m r (omega arith) in omega arith;
      code = λ r t. let s = routine_stands w h r t in let a = s.is in let b = s.room in let c = code_length_by_number w r t in omega arith;
      line = λ r t. let c = code_length_by_number w r t in let s = code_some l m r (omega arith) in omega arith;
    }
