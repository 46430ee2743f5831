-- A listing that meets the other conditions has a text of at most 38,792 bytes: its length needs no test.
use mathlib.Core.Path.{◌≡◌, refl, sym, ◌∙◌}
use mathlib.Core.Bool.{Bool, true, false, ◌&&◌, not}
use mathlib.Core.List.{List, [], ◌∷◌, ◌++◌, map}
use Prim.Native.Nat.{ℕ, suc, ◌+◌, ◌*◌, ◌≤◌}
use native.Mathlib.Omega.{arith}
use lib.Dec.{eqb, leb}
use lib.ListN.{length}
use borrow.Author.Tests.{leb-true, le-leb, eqb-true}
use Rattle.listing.specs.Lists.{all, total, is_empty, all_yes}
use Rattle.listing.specs.Listing.{Instruction, Line, instruction, Routine, Listing, name_count, routine_lines, lines_of}
use Rattle.listing.specs.Text.{line_text, text_of}
use Rattle.listing.specs.Limits.{byte_limit, routine_limit, instruction_limit, name_limit, bytes_on, instruction_pieces}
use Rattle.listing.specs.Questions.{is_there, is_by_reference, opens_as_stated, routines_there, there_answers, ending_answers}
use Rattle.listing.specs.WellFormed.{instruction_has_form, has_form, routine_instructions, routine_pieces, meets_counts, well_formed_but_for_length, well_formed}
use Rattle.listing.proofs.Tests.{no_test, and_left, all_head, all_tail}
use Rattle.listing.proofs.Answers.{yes_head, yes_tail, yes_left, yes_right, yes_map}
use Rattle.listing.proofs.Records.{routine_has_form}
use Rattle.listing.proofs.Counts.{counts_met, bytes_counted}
use Rattle.listing.proofs.LineLengths.{instruction_cost, opens_length, ports_length}

-- the bytes of lines, with their line feeds
bytes_of : List Line → ℕ
bytes_of lines = total (map bytes_on (map line_text lines))

module _ (listing : Listing) (known : length listing.routines ≤ routine_limit) where
  code_cost : (names size : ℕ) → names ≤ name_limit → size ≤ instruction_limit → (code : List Instruction) (rest : List Line)
      → all instruction_has_form code ≡ true → all (is_there listing.routines names size) code ≡ true
      → 2 * bytes_of (map instruction code ++ rest) ≤ 15 * total (map instruction_pieces code) + 26 * length code + 2 * bytes_of rest
  unfolding bytes_of total
  code_cost names size few short [] rest f t = omega arith
  code_cost names size few short (i ∷ code) rest f t =
      let there = is_there listing.routines names size in
      let c = instruction_cost listing.routines names size known few short i (all_head instruction_has_form i code f) (all_head there i code t) in
      omega (arith, c, code_cost names size few short code rest (all_tail instruction_has_form i code f) (all_tail there i code t))

  abbrev few_names : Routine → Bool
  few_names routine = leb (name_count routine) name_limit

  routines_cost : (number : ℕ) (routines : List Routine) → total (map routine_instructions routines) ≤ instruction_limit
      → all routine_has_form routines ≡ true → all few_names routines ≡ true → all_yes (routines_there listing number routines) ≡ true
      → 2 * bytes_of (routine_lines routines) ≤ 15 * total (map routine_pieces routines) + 26 * total (map routine_instructions routines) + 44 * length routines
  unfolding bytes_of total routine_lines routines_there
  routines_cost number [] s f n t = omega arith
  routines_cost number (routine ∷ rest) s f n t =
      let code = routine.code in
      let there = is_there listing.routines (name_count routine) (length code) in
      let answers = map there code ++ routines_there listing (suc number) rest in
      let later = yes_tail (opens_as_stated listing number routine) answers t in
      let few : name_count routine ≤ name_limit = leb-true _ _ (all_head few_names routine rest n) in
      let o = opens_length routine.kinds routine.locals few in
      let c = code_cost (name_count routine) (length code) few (omega arith) code (routine_lines rest) (all_head routine_has_form routine rest f)
      (sym (yes_map there code) ∙ yes_left (map there code) (routines_there listing (suc number) rest) later) in
      let r = routines_cost (suc number) rest (omega arith) (all_tail routine_has_form routine rest f) (all_tail few_names routine rest n)
      (yes_right (map there code) (routines_there listing (suc number) rest) later) in
      omega arith

-- main's arguments are the inputs and the outputs
main_names_lem : (listing : Listing) (routines : List Routine) → all_yes (not (is_empty routines) ∷ routines_there listing 0 routines) ≡ true
    → all (λ routine. leb (name_count routine) name_limit) routines ≡ true → listing.inputs + listing.outputs ≤ name_limit
unfolding routines_there opens_as_stated
main_names_lem listing [] t n = no_test (yes_head false [] t)
main_names_lem listing (main ∷ rest) t n =
    let stated : Bool = eqb (length main.kinds) (listing.inputs + listing.outputs) in
    let references : Bool = all is_by_reference main.kinds in
    let opened : (stated && references) ≡ true = yes_head (stated && references) _ (yes_tail true _ t) in
    let arguments : length main.kinds ≡ listing.inputs + listing.outputs = eqb-true _ _ (and_left stated references opened) in
    let few : name_count main ≤ name_limit = leb-true _ _ (all_head (λ routine. leb (name_count routine) name_limit) main rest n) in
    omega arith

pub text_is_short : (listing : Listing) → has_form listing ≡ true → meets_counts listing ≡ true → all_yes (there_answers listing) ≡ true
    → length (text_of listing) ≤ 38792
unfolding has_form there_answers lines_of bytes_of total
text_is_short listing f c t =
    let w = counts_met listing c in
    let rs = listing.routines in
    let p = ports_length listing.inputs listing.outputs (main_names_lem listing rs t w.names) in
    let r = routines_cost listing w.routines 0 rs w.instructions f w.names (yes_tail (not (is_empty rs)) (routines_there listing 0 rs) t) in
    omega (arith, p, r, bytes_counted (lines_of listing))

-- so the length is no condition of its own
pub length_needs_no_test : (listing : Listing) → well_formed listing ≡ well_formed_but_for_length listing
unfolding well_formed well_formed_but_for_length
length_needs_no_test listing = go (has_form listing) (meets_counts listing) (all_yes (there_answers listing)) (all_yes (ending_answers listing)) refl refl refl
  where
    go : (f c t e : Bool) → has_form listing ≡ f → meets_counts listing ≡ c → all_yes (there_answers listing) ≡ t
        → (f && c && t && e && leb (length (text_of listing)) byte_limit) ≡ (f && c && t && e)
    go false c t e pf pc pt = refl
    go true false t e pf pc pt = refl
    go true true false e pf pc pt = refl
    go true true true false pf pc pt = refl
    go true true true true pf pc pt = le-leb (length (text_of listing)) byte_limit (omega (arith, text_is_short listing pf pc pt))
