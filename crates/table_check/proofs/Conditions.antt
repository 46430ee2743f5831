-- The conditions that questions 2 to 5 put to a listing, asked routine by routine.
use mathlib.Core.Path.{◌≡◌, refl, sym}
use mathlib.Core.Bool.{Bool, true, false, ◌&&◌, not}
use mathlib.Core.List.{List, [], ◌∷◌, ◌++◌, map}
use Prim.Native.Nat.{ℕ, suc}
use lib.Dec.{leb}
use lib.ListN.{length}
use Rattle.listing.specs.Lists.{all, is_empty, all_yes}
use Rattle.listing.specs.Listing.{Instruction, Routine, Listing, name_count}
use Rattle.listing.specs.Questions.{is_there, opens_as_stated, routines_there, last_answers, routines_end}
use Rattle.listing.specs.WellFormed.{instruction_has_form}
use Rattle.table.proofs.Tests.{and_no}
use Rattle.table_check_cells.specs.Pass.{instruction_passes}
use Rattle.table_check_cells.proofs.Words.{and_assoc}
use Rattle.table_check.specs.Check.{routine_passes, routines_pass}

-- ── tests of lists ───────────────────────────────────────────────────────────────
pub all_append : {A : Type 0} (f : A → Bool) (xs ys : List A) → all f (xs ++ ys) ≡ (all f xs && all f ys)
unfolding all
all_append f [] ys = refl
all_append f (x ∷ xs) ys = rw (all_append f xs ys) (sym (and_assoc (f x) (all f xs) (all f ys)))

pub all_map : {A B : Type 0} (f : B → Bool) (g : A → B) (xs : List A) → all f (map g xs) ≡ all (λ x. f (g x)) xs
unfolding all
all_map f g [] = refl
all_map f g (x ∷ xs) = rw (all_map f g xs)

regroup_two : (a b more others : Bool) → ((a && b) && (more && others)) ≡ ((a && more) && (b && others))
regroup_two false b more others = refl
regroup_two true false more others = simp and_no
regroup_two true true more others = refl

pub instructions_pass : (routines : List Routine) (names size : ℕ) (is : List Instruction)
    → all (instruction_passes routines names size) is ≡ (all instruction_has_form is && all (is_there routines names size) is)
unfolding all instruction_passes
instructions_pass routines names size [] = refl
instructions_pass routines names size (i ∷ is) =
    rw (instructions_pass routines names size is)
    (regroup_two (instruction_has_form i) (is_there routines names size i) (all instruction_has_form is) (all (is_there routines names size) is))

-- ── the questions' answers ───────────────────────────────────────────────────────
regroup : (name names opens there theres form forms line last ends : Bool)
    → (((name && opens) && ((form && there) && (line && last))) && ((forms && names) && (theres && ends)))
    ≡ (((form && forms) && (name && names)) && ((opens && (there && theres)) && (line && (last && ends))))
regroup false names opens there theres form forms line last ends = simp and_no
regroup true false opens there theres form forms line last ends = simp and_no
regroup true true false there theres form forms line last ends = simp and_no
regroup true true true false theres form forms line last ends = simp and_no
regroup true true true true false form forms line last ends = simp and_no
regroup true true true true true false forms line last ends = refl
regroup true true true true true true false line last ends = simp and_no
regroup true true true true true true true false last ends = refl
regroup true true true true true true true true last ends = refl

pub routines_pass_lem : (listing : Listing) (rs : List Routine) (number : ℕ) → routines_pass listing number rs
    ≡ ((all (λ r. all instruction_has_form r.code) rs && all (λ r. leb (name_count r) 16) rs)
    && (all_yes (routines_there listing number rs) && all_yes (routines_end rs)))
unfolding routines_pass routine_passes all routines_there routines_end
routines_pass_lem listing [] number = refl
routines_pass_lem listing (r ∷ rs) number =
    let there = map (is_there listing.routines (name_count r) (length r.code)) r.code in
    rw (
      routines_pass_lem listing rs (suc number),
      instructions_pass listing.routines (name_count r) (length r.code) r.code,
      all_append (λ (b : Bool). b) there (routines_there listing (suc number) rs),
      all_append (λ (b : Bool). b) (last_answers r.code) (routines_end rs),
      all_map (λ (b : Bool). b) (is_there listing.routines (name_count r) (length r.code)) r.code,
    )
    (regroup (leb (name_count r) 16) (all (λ t. leb (name_count t) 16) rs) (opens_as_stated listing number r)
    (all (is_there listing.routines (name_count r) (length r.code)) r.code) (all_yes (routines_there listing (suc number) rs))
    (all instruction_has_form r.code) (all (λ t. all instruction_has_form t.code) rs)
    (not (is_empty r.code)) (all_yes (last_answers r.code)) (all_yes (routines_end rs)))
