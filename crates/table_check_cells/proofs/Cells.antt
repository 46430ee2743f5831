-- The check of names and of child fields, one by one.
use mathlib.Core.Path.{◌≡◌, refl, sym, ap, ◌∙◌}
use mathlib.Core.Bool.{Bool, true, false, cond, ◌&&◌}
use mathlib.Core.List.{List, ◌++◌}
use Prim.Native.Nat.{ℕ, suc, ◌+◌, ◌*◌, ◌≤◌, ◌<◌, zero}
use native.Mathlib.Omega.{arith}
use lib.Dec.{eqb, ltb, leb}
use lib.ListN.{length, length-append}
use Rattle.std.proofs.Common.{Option, Some, None}
use borrow.Author.Tests.{eq-eqb, ne_eqb, lt-ltb, le-ltb, le-leb, lt-leb, ltb-true}
use Rattle.listing.specs.Lists.{all}
use Rattle.listing.specs.Questions.{argument_count, call_is_there}
use Rattle.table.specs.Areas.{routine_area, words_of_each, name_words, call_words}
use Rattle.table.specs.Decode.{word, name_at, cells_at, names_at, call_at, after_call, calls_at, routine_at_entry, table_listing}
use Rattle.table.proofs.Lengths.{name_two, each_two}
use Rattle.table.proofs.Reach.{cells_count, kinds_count_lem, routines_by_number, routine_total}
use Rattle.table.proofs.Tests.{and_no, and_yes}
use Rattle.table_check_cells.specs.Pass.{same_at, routines_in, names_test, cells_past, head_test, calls_past}
use Rattle.table_check_cells.proofs.Words.{same_split, same_number, leb_before}

-- ── names ────────────────────────────────────────────────────────────────────────
pub names_none : (w : List ℕ) (names a : ℕ) → names_test w names a 0 ≡ true
unfolding names_test cells_at all words_of_each same_at
names_none w names a = refl

name_same : (w : List ℕ) (a : ℕ) → same_at w a (name_words (name_at w a)) ≡ eqb (word w a) 0
unfolding name_words name_at same_at
name_same w a = rw (same_number (word w (a + 1))) (and_yes (eqb (word w a) 0))

name_number : (w : List ℕ) (a : ℕ) → name_at w a ≡ word w (a + 1)
unfolding name_at
name_number w a = refl

regroup_name : (there theres same sames : Bool) → ((there && theres) && (same && sames)) ≡ ((same && there) && (theres && sames))
regroup_name false theres same sames = simp and_no
regroup_name true false same sames = simp and_no
regroup_name true true false sames = refl
regroup_name true true true sames = refl

pub names_more : (w : List ℕ) (names a n : ℕ) → names_test w names a (suc n)
    ≡ ((eqb (word w a) 0 && ltb (word w (a + 1)) names) && names_test w names (a + 2) n)
unfolding names_test cells_at all words_of_each
names_more w names a n =
    let ns = names_at w (a + 2) n in
    rw (same_split w a (name_words (name_at w a)) (words_of_each name_words ns), name_two (name_at w a), name_same w a, name_number w a)
    (regroup_name (ltb (word w (a + 1)) names) _ (eqb (word w a) 0) _)

-- the turns of the check, with so many names left
module _ (w : List ℕ) (names a : ℕ) where
  pub names_marked : (left : ℕ) → 0 < left → (word w a ≡ 0 → ⊥) → names_test w names a left ≡ false
  names_marked zero l h = absurd (omega arith)
  names_marked (suc n) l h = names_more w names a n ∙ rw (ne_eqb (word w a) 0 h)

  pub names_past : (left : ℕ) → 0 < left → names ≤ word w (a + 1) → names_test w names a left ≡ false
  names_past zero l h = absurd (omega arith)
  names_past (suc n) l h = names_more w names a n ∙ rw (le-ltb (word w (a + 1)) names h) (simp and_no)

  pub names_turn : (left n b : ℕ) → left ≡ suc n → b ≡ a + 2 → word w a ≡ 0 → word w (a + 1) < names → names_test w names b n ≡ names_test w names a left
  names_turn left n b z y h k = rw (z, y) (sym (names_more w names a n ∙ rw (eq-eqb (word w a) 0 h, lt-ltb (word w (a + 1)) names k)))

  pub names_end : (left : ℕ) → left ≡ 0 → names_test w names a left ≡ true
  names_end left z = rw z (names_none w names a)

-- ── child fields ─────────────────────────────────────────────────────────────────
-- the arguments of a routine that is there
arguments_there : (w : List ℕ) (r : ℕ) → r < word w 2 → argument_count (routines_in w) r ≡ word w (8 + 5 * r + 0)
unfolding argument_count table_listing routine_at_entry
arguments_there w r h = rw (routines_by_number w (word w 2) routine_area r _ h) (kinds_count_lem (word w (8 + 5 * r + 0)) (word w (8 + 5 * r + 1)))

call_head : (w : List ℕ) (k r : ℕ) → (ltb r (length (routines_in w)) && eqb k (argument_count (routines_in w) r)) ≡ (ltb r (word w 2) && eqb k (word w (8 + 5 * r + 0)))
call_head w k r = rw (routine_total w) (go (ltb r (word w 2)) refl)
  where
    go : (b : Bool) → ltb r (word w 2) ≡ b → (b && eqb k (argument_count (routines_in w) r)) ≡ (b && eqb k (word w (8 + 5 * r + 0)))
    go true h = rw (arguments_there w r (ltb-true r (word w 2) h))
    go false h = refl

call_length : (w : List ℕ) (a : ℕ) → length (call_words (call_at w a)) ≡ 2 + 2 * word w (a + 0)
unfolding call_words call_at
call_length w a =
    let k = word w (a + 0) in
    let h = each_two name_words name_two (names_at w (a + 2) k) in
    let l = cells_count (name_at w) k (a + 2) in
    omega arith

call_behind : (w : List ℕ) (a : ℕ) → a + length (call_words (call_at w a)) ≡ after_call w a
unfolding after_call
call_behind w a = rw (call_length w a)

call_same : (w : List ℕ) (a : ℕ) → same_at w a (call_words (call_at w a)) ≡ same_at w (a + 2) (words_of_each name_words (names_at w (a + 2) (word w (a + 0))))
unfolding call_words call_at same_at
call_same w a =
    let z : a + 0 ≡ a = omega arith in
    let t : a + 1 + 1 ≡ a + 2 = omega arith in
    rw (cells_count (name_at w) (word w (a + 0)) (a + 2), z, same_number (word w a), same_number (word w (a + 1)), t)

call_there : (w : List ℕ) (names a : ℕ) → call_is_there (routines_in w) names (call_at w a) ≡ (head_test w a && all (λ n. ltb n names) (names_at w (a + 2) (word w (a + 0))))
unfolding call_is_there call_at head_test
call_there w names a =
    rw (cells_count (name_at w) (word w (a + 0)) (a + 2), call_head w (word w (a + 0)) (word w (a + 1)))

regroup_call : (head names others here end same sames : Bool) → (end ≡ true → here ≡ true)
    → (((head && names) && others) && (end && (same && sames))) ≡ ((head && (here && (names && same))) && (others && (end && sames)))
regroup_call false names others here end same sames h = refl
regroup_call true false others here end same sames h = simp and_no
regroup_call true true false here end same sames h = simp and_no
regroup_call true true true here false same sames h = simp and_no
regroup_call true true true here true false sames h = simp and_no
regroup_call true true true here true true sames h = rw (h refl)

-- a no inside a no
pub cond_cond : (x y : Bool) (v : Option ℕ) → cond (x && y) v None ≡ cond x (cond y v None) None
cond_cond true y v = refl
cond_cond false y v = refl

pub calls_none : (w : List ℕ) (names a : ℕ) → a ≤ 11080 → calls_past w names a 0 ≡ Some a
unfolding calls_past cells_past calls_at all words_of_each same_at
calls_none w names a h = let z : a + 0 ≡ a = omega arith in rw (z, le-leb a 11080 h)

pub calls_more : (w : List ℕ) (names a n : ℕ) → calls_past w names a (suc n)
    ≡ cond (head_test w a && (leb (after_call w a) 11080 && names_test w names (a + 2) (word w (a + 0)))) (calls_past w names (after_call w a) n) None
unfolding calls_past cells_past calls_at all words_of_each names_test
calls_more w names a n =
    let b = after_call w a in
    let c = call_words (call_at w a) in
    let r = words_of_each call_words (calls_at w b n) in
    let behind : a + length c ≡ b = call_behind w a in
    let l : a + length (c ++ r) ≡ b + length r = simp length-append (omega arith) in
    rw (same_split w a c r, l, behind, call_same w a, call_there w names a)
    (ap (λ (t : Bool). cond t (Some (b + length r)) None)
    (regroup_call (head_test w a) _ _ (leb b 11080) (leb (b + length r) 11080) _ _ (leb_before b (length r) 11080))
    ∙ cond_cond (head_test w a && (leb b 11080 && names_test w names (a + 2) (word w (a + 0)))) _ _)

-- the turns of the check, with so many child fields left
module _ (w : List ℕ) (names a : ℕ) where
  pub calls_head : (left : ℕ) → 0 < left → head_test w a ≡ false → calls_past w names a left ≡ None
  calls_head zero l h = absurd (omega arith)
  calls_head (suc n) l h = calls_more w names a n ∙ rw h

  pub calls_long : (left : ℕ) → 0 < left → 11080 < after_call w a → calls_past w names a left ≡ None
  calls_long zero l h = absurd (omega arith)
  calls_long (suc n) l h = calls_more w names a n ∙ rw (lt-leb (after_call w a) 11080 h) (simp and_no)

  pub calls_names : (left : ℕ) → 0 < left → names_test w names (a + 2) (word w (a + 0)) ≡ false → calls_past w names a left ≡ None
  calls_names zero l h = absurd (omega arith)
  calls_names (suc n) l h = calls_more w names a n ∙ rw h (simp and_no)

  pub calls_turn : (left n : ℕ) → left ≡ suc n → head_test w a ≡ true → after_call w a ≤ 11080 → names_test w names (a + 2) (word w (a + 0)) ≡ true
      → calls_past w names (after_call w a) n ≡ calls_past w names a left
  calls_turn left n z h b k = rw z (sym (calls_more w names a n ∙ rw (h, le-leb (after_call w a) 11080 b, k)))

  pub calls_end : (left : ℕ) → left ≡ 0 → a ≤ 11080 → calls_past w names a left ≡ Some a
  calls_end left z h = rw z (calls_none w names a h)
