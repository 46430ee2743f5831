-- What questions 2 to 5 give of each routine and each instruction of a listing that meets them.
use mathlib.Core.Path.{◌≡◌, refl}
use mathlib.Core.Bool.{Bool, true, false, not}
use mathlib.Core.List.{List, [], ◌∷◌, ◌++◌, map}
use Prim.Native.Nat.{ℕ, zero, suc, ◌+◌, ◌≤◌, ◌<◌}
use native.Mathlib.Omega.{arith}
use lib.Dec.{leb}
use lib.ListN.{length, get_or}
use borrow.Author.Tests.{leb-true}
use Rattle.listing.specs.Lists.{all, is_empty, all_yes}
use Rattle.listing.specs.Listing.{Instruction, end, Routine, Listing, name_count}
use Rattle.listing.specs.Questions.{is_there, opens_as_stated, routines_there, there_answers, may_be_last, last_answers, routines_end, ending_answers}
use Rattle.listing.specs.WellFormed.{instruction_has_form, has_form}
use Rattle.walk.specs.Walk.{no_routine, routine_at, instruction_at}
use Rattle.table.proofs.Tests.{and_left, and_right, true_not_false}
use Rattle.table.proofs.Table.{Meets}

-- ── lists of answers ─────────────────────────────────────────────────────────────
pub all_at : {A : Type 0} (f : A → Bool) (xs : List A) → all f xs ≡ true → (k : ℕ) → k < length xs → (d : A) → f (get_or xs k d) ≡ true
unfolding all
all_at f [] h k l d = absurd (omega arith)
all_at f (x ∷ xs) h zero l d = and_left (f x) (all f xs) h
all_at f (x ∷ xs) h (suc k) l d = all_at f xs (and_right (f x) (all f xs) h) k (omega arith) d

yes_left : (xs ys : List Bool) → all_yes (xs ++ ys) ≡ true → all_yes xs ≡ true
unfolding all
yes_left [] ys h = refl
yes_left (x ∷ xs) ys h = rw (and_left x (all_yes (xs ++ ys)) h) (yes_left xs ys (and_right x (all_yes (xs ++ ys)) h))

yes_right : (xs ys : List Bool) → all_yes (xs ++ ys) ≡ true → all_yes ys ≡ true
unfolding all
yes_right [] ys h = h
yes_right (x ∷ xs) ys h = yes_right xs ys (and_right x (all_yes (xs ++ ys)) h)

yes_map : {A : Type 0} (f : A → Bool) (xs : List A) → all_yes (map f xs) ≡ true → all f xs ≡ true
unfolding all
yes_map f [] h = refl
yes_map f (x ∷ xs) h = rw (and_left (f x) (all_yes (map f xs)) h) (yes_map f xs (and_right (f x) (all_yes (map f xs)) h))

-- ── question 4 ───────────────────────────────────────────────────────────────────
abbrev there_in : Listing → Routine → Instruction → Bool
there_in listing r i = is_there listing.routines (name_count r) (length r.code) i

routine_there : (listing : Listing) (rs : List Routine) (number : ℕ) → all_yes (routines_there listing number rs) ≡ true → (r : ℕ) → r < length rs
    → (opens_as_stated listing (number + r) (get_or rs r no_routine) ≡ true) × (all (there_in listing (get_or rs r no_routine)) (get_or rs r no_routine).code ≡ true)
unfolding routines_there all
routine_there listing [] number h r l = absurd (omega arith)
routine_there listing (t ∷ rs) number h zero l =
    let z : number + 0 ≡ number = omega arith in
    let rest = and_right (opens_as_stated listing number t) (all_yes (map (there_in listing t) t.code ++ routines_there listing (suc number) rs)) h in
    rw z (
      and_left (opens_as_stated listing number t) (all_yes (map (there_in listing t) t.code ++ routines_there listing (suc number) rs)) h,
      yes_map (there_in listing t) t.code (yes_left (map (there_in listing t) t.code) (routines_there listing (suc number) rs) rest),
    )
routine_there listing (t ∷ rs) number h (suc r) l =
    let z : number + suc r ≡ suc number + r = omega arith in
    let rest = and_right (opens_as_stated listing number t) (all_yes (map (there_in listing t) t.code ++ routines_there listing (suc number) rs)) h in
    rw z (routine_there listing rs (suc number) (yes_right (map (there_in listing t) t.code) (routines_there listing (suc number) rs) rest) r (omega arith))

-- ── question 5 ───────────────────────────────────────────────────────────────────
routine_ends : (rs : List Routine) → all_yes (routines_end rs) ≡ true → (r : ℕ) → r < length rs
    → (not (is_empty (get_or rs r no_routine).code) ≡ true) × (all_yes (last_answers (get_or rs r no_routine).code) ≡ true)
unfolding routines_end all
routine_ends [] h r l = absurd (omega arith)
routine_ends (t ∷ rs) h zero l =
    let rest = and_right (not (is_empty t.code)) (all_yes (last_answers t.code ++ routines_end rs)) h in
    (and_left (not (is_empty t.code)) (all_yes (last_answers t.code ++ routines_end rs)) h, yes_left (last_answers t.code) (routines_end rs) rest)
routine_ends (t ∷ rs) h (suc r) l =
    let rest = and_right (not (is_empty t.code)) (all_yes (last_answers t.code ++ routines_end rs)) h in
    routine_ends rs (yes_right (last_answers t.code) (routines_end rs) rest) r (omega arith)

some_code : (is : List Instruction) → not (is_empty is) ≡ true → 1 ≤ length is
some_code [] h = absurd (true_not_false h refl)
some_code (i ∷ is) h = omega arith

-- an instruction that may not be the last has one behind it
not_last : (is : List Instruction) → all_yes (last_answers is) ≡ true → (k : ℕ) → k < length is → may_be_last (get_or is k end) ≡ false → suc k < length is
unfolding last_answers all
not_last [] h k l n = absurd (omega arith)
not_last (i ∷ []) h zero l n = absurd (true_not_false (and_left (may_be_last i) true h) n)
not_last (i ∷ []) h (suc k) l n = absurd (omega arith)
not_last (i ∷ (j ∷ is)) h zero l n = omega arith
not_last (i ∷ (j ∷ is)) h (suc k) l n = let s = not_last (j ∷ is) h k (omega arith) n in omega arith

-- ── of routine r, and of its instruction `place` ─────────────────────────────────
module _ (listing : Listing) (m : Meets listing) (r : ℕ) (l : r < length listing.routines) where
  there : all_yes (routines_there listing 0 listing.routines) ≡ true
  unfolding there_answers all
  there = and_right (not (is_empty listing.routines)) (all_yes (routines_there listing 0 listing.routines)) m.there

  ending : all_yes (routines_end listing.routines) ≡ true
  unfolding ending_answers all
  ending = m.ending

  pub names_few : name_count (routine_at listing r) ≤ 16
  unfolding routine_at
  names_few = leb-true _ 16 (all_at (λ (t : Routine). leb (name_count t) 16) listing.routines m.names r l no_routine)

  pub opens_as_stated_lem : opens_as_stated listing r (routine_at listing r) ≡ true
  unfolding routine_at
  opens_as_stated_lem = let z : 0 + r ≡ r = omega arith in rw z at (routine_there listing listing.routines 0 there r l).0

  pub code_some : 1 ≤ length (routine_at listing r).code
  unfolding routine_at
  code_some = some_code (get_or listing.routines r no_routine).code (routine_ends listing.routines ending r l).0

  module _ (place : ℕ) (k : place < length (routine_at listing r).code) where
    pub instruction_there : is_there listing.routines (name_count (routine_at listing r)) (length (routine_at listing r).code) (instruction_at listing r place) ≡ true
    unfolding routine_at instruction_at
    instruction_there =
        let t = get_or listing.routines r no_routine in
        all_at (there_in listing t) t.code (routine_there listing listing.routines 0 there r l).1 place k end

    pub instruction_form : instruction_has_form (instruction_at listing r place) ≡ true
    unfolding routine_at instruction_at has_form
    instruction_form =
        let t = get_or listing.routines r no_routine in
        all_at instruction_has_form t.code (all_at (λ (u : Routine). all instruction_has_form u.code) listing.routines m.form r l no_routine) place k end

    pub instruction_next : may_be_last (instruction_at listing r place) ≡ false → suc place < length (routine_at listing r).code
    unfolding routine_at instruction_at
    instruction_next n =
        let t = get_or listing.routines r no_routine in
        not_last t.code (routine_ends listing.routines ending r l).1 place k n
