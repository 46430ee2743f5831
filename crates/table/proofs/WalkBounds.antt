-- What questions 2 to 4 give of a listing for the states of the walk, whatever the routine and the place.
use mathlib.Core.Path.{◌≡◌, refl, sym, ap, ◌∙◌}
use mathlib.Core.Bool.{Bool, true, false}
use mathlib.Core.List.{List, [], ◌∷◌}
use Prim.Native.Nat.{ℕ, zero, suc, ◌+◌, ◌≤◌, ◌<◌}
use native.Mathlib.Omega.{arith}
use lib.Dec.{ltb, leb}
use lib.ListN.{length, get_or, length-append}
use borrow.Author.Tests.{ltb-true, ltb-false, leb-true}
use Rattle.listing.specs.Listing.{Call, fork, end, Kind, by_reference, by_value, Routine, Listing, name_count}
use Rattle.listing.specs.Form.{one_to}
use Rattle.listing.specs.WellFormed.{instruction_has_form}
use Rattle.walk.specs.Walk.{no_routine, routine_at, instruction_at}
use Rattle.walk.specs.Instant.{environment_size}
use Rattle.walk.specs.Question7.{owned_count, owned_by}
use Rattle.table.specs.Areas.{all_code}
use Rattle.table.proofs.Tests.{and_right}
use Rattle.table.proofs.Table.{Meets}
use Rattle.table.proofs.Asked.{names_few, opens_as_stated_lem, instruction_form}
use Rattle.table.proofs.Bounds.{routines_some, main_ports}

past_last : {A : Type 0} (xs : List A) (k : ℕ) (d : A) → length xs ≤ k → get_or xs k d ≡ d
past_last [] zero d h = refl
past_last [] (suc k) d h = refl
past_last (x ∷ xs) zero d h = absurd (omega arith)
past_last (x ∷ xs) (suc k) d h = past_last xs k d (omega arith)

owned_names : (ks : List Kind) (locals : ℕ) → owned_count ks locals ≤ length ks + locals
unfolding owned_count
owned_names [] locals = omega arith
owned_names (by_reference ∷ ks) locals = let h = owned_names ks locals in omega arith
owned_names (by_value ∷ ks) locals = let h = owned_names ks locals in omega arith

code_in_all : (rs : List Routine) (r : ℕ) → length (get_or rs r no_routine).code ≤ length (all_code rs)
unfolding all_code no_routine
code_in_all [] zero = omega arith
code_in_all [] (suc r) = omega arith
code_in_all (t ∷ rs) zero = simp length-append (omega arith)
code_in_all (t ∷ rs) (suc r) = let h = code_in_all rs r in simp length-append (omega arith)

none_owned : owned_count no_routine.kinds no_routine.locals ≤ 16
unfolding owned_count no_routine
none_owned = omega arith

no_place : (place : ℕ) → get_or no_routine.code place end ≡ end
unfolding no_routine
no_place zero = refl
no_place (suc place) = refl

few_children : (cs : List Call) → instruction_has_form (fork cs) ≡ true → length cs ≤ 8
unfolding instruction_has_form one_to
few_children cs h = leb-true (length cs) 8 (and_right (leb 1 (length cs)) (leb (length cs) 8) h)

end_no_fork : (cs : List Call) → end ≡ fork cs → ⊥
end_no_fork cs e = let z : ◌≡◌ {A = ℕ} 0 1 = cc in omega arith

module _ (listing : Listing) (m : Meets listing) where
  -- "16 names a routine"
  pub owned_few : (r : ℕ) → owned_by listing r ≤ 16
  unfolding owned_by routine_at
  owned_few r = go (ltb r (length listing.routines)) refl
    where
      go : (b : Bool) → ltb r (length listing.routines) ≡ b → owned_count (get_or listing.routines r no_routine).kinds (get_or listing.routines r no_routine).locals ≤ 16
      go true h =
          let t = get_or listing.routines r no_routine in
          let few : name_count t ≤ 16 = names_few listing m r (ltb-true r (length listing.routines) h) in
          let o = owned_names t.kinds t.locals in
          omega arith
      go false h = rw (past_last listing.routines r no_routine (ltb-false r (length listing.routines) h)) none_owned

  -- "512 instructions in all"
  pub code_few : (r : ℕ) → length (routine_at listing r).code ≤ 512
  unfolding routine_at
  code_few r = let h = code_in_all listing.routines r in let k = m.instruction_count in omega arith

  -- "Main has i + o arguments", at most 16 names
  pub ports_few : environment_size listing ≤ 16
  unfolding environment_size
  ports_few =
      let main : 0 < length listing.routines = routines_some listing m in
      let few = names_few listing m 0 main in
      let ports = (main_ports listing (routine_at listing 0) (opens_as_stated_lem listing m 0 main)).0 in
      omega arith

  -- "`F|c|c..` forks 1 to 8 children"
  pub children_few : (r place : ℕ) (cs : List Call) → instruction_at listing r place ≡ fork cs → length cs ≤ 8
  unfolding instruction_at routine_at
  children_few r place cs e = go (ltb r (length listing.routines)) refl
    where
      inside : r < length listing.routines → (b : Bool) → ltb place (length (routine_at listing r).code) ≡ b → length cs ≤ 8
      inside l true k = few_children cs (rw e at (instruction_form listing m r l place (ltb-true place _ k)))
      inside l false k = absurd (end_no_fork cs (sym (past_last (routine_at listing r).code place end (ltb-false place _ k)) ∙ e))

      go : (b : Bool) → ltb r (length listing.routines) ≡ b → length cs ≤ 8
      go true h = inside (ltb-true r _ h) (ltb place (length (routine_at listing r).code)) refl
      go false h =
          let none : routine_at listing r ≡ no_routine = past_last listing.routines r no_routine (ltb-false r _ h) in
          absurd (end_no_fork cs (sym (ap (λ (t : Routine). get_or t.code place end) none ∙ no_place place) ∙ e))
