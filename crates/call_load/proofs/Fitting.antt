-- The lines of a listing that meets its conditions have figures that fit their words.
use mathlib.Core.Path.{◌≡◌}
use mathlib.Core.Bool.{Bool, true, not}
use mathlib.Core.List.{List, [], ◌∷◌, ◌++◌, map}
use Prim.Native.Nat.{ℕ, suc, ◌+◌, ◌≤◌}
use native.Mathlib.Omega.{arith}
use lib.Dec.{leb}
use lib.ListN.{length, length-append}
use borrow.Author.Tests.{leb-true}
use Rattle.listing.specs.Lists.{all, is_empty, all_yes}
use Rattle.listing.specs.Listing.{Instruction, Line, instruction, Routine, Listing, name_count, routine_lines, lines_of}
use Rattle.listing.specs.Questions.{is_there, opens_as_stated, routines_there, there_answers}
use Rattle.listing.proofs.Tests.{and_left, and_right, all_head, all_tail, all_right}
use Rattle.table.specs.Areas.{all_code}
use Rattle.table.proofs.Table.{Meets}
use Rattle.table.proofs.Bounds.{main_ports, routines_some}
use Rattle.table_lines.specs.Lines as S
use Rattle.call_load.specs.Writing.{AllFit, none, more}

abbrev few_names : Routine → Bool
few_names r = leb (name_count r) 16

module _ (listing : Listing) (m : Meets listing) where
  code_fits : (names size : ℕ) → names ≤ 16 → size ≤ 512 → (code : List Instruction) (rest : List Line) (others : List Bool)
      → all_yes (map (is_there listing.routines names size) code ++ others) ≡ true → AllFit rest → AllFit (map instruction code ++ rest)
  unfolding all
  code_fits names size n k [] rest others h f = f
  code_fits names size n k (i ∷ code) rest others h f =
      let there = is_there listing.routines names size i in
      let after = all_yes (map (is_there listing.routines names size) code ++ others) in
      more (S.Fits.instruction listing.routines names size (and_left there after h) m.routine_count n k) (code_fits names size n k code rest others (and_right there after h) f)

  routines_fit : (number : ℕ) (rs : List Routine) → all_yes (routines_there listing number rs) ≡ true → all few_names rs ≡ true → length (all_code rs) ≤ 512
      → AllFit (routine_lines rs)
  unfolding routine_lines routines_there all all_code
  routines_fit number [] h n c = none
  routines_fit number (r ∷ rs) h n c =
      let few : name_count r ≤ 16 = leb-true (name_count r) 16 (all_head few_names r rs n) in
      let l = length-append r.code (all_code rs) in
      let stated = opens_as_stated listing number r in
      let code = map (is_there listing.routines (name_count r) (length r.code)) r.code in
      let rest = routines_there listing (suc number) rs in
      let h' : all_yes (code ++ rest) ≡ true = and_right stated (all_yes (code ++ rest)) h in
      more (S.Fits.opens {kinds = r.kinds} {locals = r.locals} (omega arith) (omega arith))
      (code_fits (name_count r) (length r.code) few (omega arith) r.code (routine_lines rs) rest h'
      (routines_fit (suc number) rs (all_right (λ (b : Bool). b) code rest h') (all_tail few_names r rs n) (omega arith)))

  few_ports : (rs : List Routine) → 1 ≤ length rs → all_yes (routines_there listing 0 rs) ≡ true → all few_names rs ≡ true → listing.inputs + listing.outputs ≤ 16
  unfolding routines_there all
  few_ports [] s h n = absurd (let z : ⊥ = omega arith in z)
  few_ports (r ∷ rs) s h n =
      let few : name_count r ≤ 16 = leb-true (name_count r) 16 (all_head few_names r rs n) in
      let e = main_ports listing r (and_left (opens_as_stated listing 0 r) _ h) in
      omega (arith, few, e.0)

  pub lines_fit : AllFit (lines_of listing)
  unfolding lines_of there_answers all
  lines_fit =
      let there : all_yes (routines_there listing 0 listing.routines) ≡ true =
      and_right (not (is_empty listing.routines)) (all_yes (routines_there listing 0 listing.routines)) m.there in
      let few = few_ports listing.routines (routines_some listing m) there m.names in
      more (S.Fits.ports {i = listing.inputs} {o = listing.outputs} (omega arith) (omega arith)) (routines_fit 0 listing.routines there m.names m.instruction_count)
