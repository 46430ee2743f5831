-- What a routine's entry tells, word by word.
use mathlib.Core.Path.{◌≡◌, refl, sym, ◌∙◌}
use mathlib.Core.Bool.{Bool, true, false, cond, ◌&&◌, not}
use mathlib.Core.List.{List, [], ◌∷◌}
use Prim.Native.Nat.{ℕ, zero, suc, ◌+◌, ◌*◌, ◌≤◌, ◌<◌, ◌/◌, ◌%◌}
use native.Mathlib.Omega.{arith}
use lib.Dec.{eqb, leb}
use lib.ListN.{length}
use borrow.Author.Tests.{eq-eqb, ne_eqb, eqb-true, eqb-false, le-leb, leb-true}
use Rattle.listing.specs.Lists.{all, is_empty, all_yes}
use Rattle.listing.specs.Listing.{Kind, by_reference, by_value, Routine}
use Rattle.listing.specs.Questions.{is_by_reference, opens_as_stated, may_be_last, last_answers}
use Rattle.table.specs.Areas.{kind_bits, routine_words}
use Rattle.table.specs.Decode.{word, instruction_at_entry, code_at_entry, kinds_of_bits, routine_entry, routine_at_entry, table_listing}
use Rattle.table.proofs.Reach.{code_count, kinds_count_lem}
use Rattle.table.proofs.Tests.{and_left, and_right, and_no, and_yes, same_answer}
use Rattle.table_check_cells.specs.Pass.{same_at}
use Rattle.table_check_cells.proofs.Words.{same_number}
use Rattle.table_check.specs.Check.{entry_test, opening_test}

-- ── kinds as bits ────────────────────────────────────────────────────────────────
-- the bits of n kinds say no more than n kinds
pub kinds_fit_none : (bits : ℕ) → eqb bits (kind_bits (kinds_of_bits 0 bits)) ≡ eqb bits 0
unfolding kinds_of_bits kind_bits
kinds_fit_none bits = refl

one_kind : (b : Bool) (ks : List Kind) → kind_bits (cond b by_reference by_value ∷ ks) ≡ cond b 1 0 + 2 * kind_bits ks
unfolding kind_bits
one_kind true ks = refl
one_kind false ks = omega arith

pub kinds_fit_more : (n bits : ℕ) → eqb bits (kind_bits (kinds_of_bits (suc n) bits)) ≡ eqb (bits / 2) (kind_bits (kinds_of_bits n (bits / 2)))
unfolding kinds_of_bits
kinds_fit_more n bits = rw (one_kind (eqb (bits % 2) 1) (kinds_of_bits n (bits / 2))) (go (eqb (bits % 2) 1) refl (kind_bits (kinds_of_bits n (bits / 2))))
  where
    odd : (b : Bool) → eqb (bits % 2) 1 ≡ b → cond b 1 0 ≡ bits % 2
    odd true h = sym (eqb-true (bits % 2) 1 h)
    odd false h = let z : bits % 2 ≡ 1 → ⊥ = eqb-false (bits % 2) 1 h in omega arith

    go : (b : Bool) → eqb (bits % 2) 1 ≡ b → (k : ℕ) → eqb bits (cond b 1 0 + 2 * k) ≡ eqb (bits / 2) k
    go b h k =
        let o = odd b h in
        same_answer (eqb bits (cond b 1 0 + 2 * k)) (eqb (bits / 2) k)
        (λ (t : eqb bits (cond b 1 0 + 2 * k) ≡ true). let z = eqb-true bits (cond b 1 0 + 2 * k) t in eq-eqb (bits / 2) k (omega arith))
        (λ (t : eqb (bits / 2) k ≡ true). let z = eqb-true (bits / 2) k t in eq-eqb bits (cond b 1 0 + 2 * k) (omega arith))

pub references_none : (bits : ℕ) → all is_by_reference (kinds_of_bits 0 bits) ≡ true
unfolding kinds_of_bits all
references_none bits = refl

pub references_more : (n bits : ℕ) → all is_by_reference (kinds_of_bits (suc n) bits) ≡ (eqb (bits % 2) 1 && all is_by_reference (kinds_of_bits n (bits / 2)))
unfolding kinds_of_bits all
references_more n bits = go (eqb (bits % 2) 1)
  where
    go : (b : Bool) → (is_by_reference (cond b by_reference by_value) && all is_by_reference (kinds_of_bits n (bits / 2))) ≡ (b && all is_by_reference (kinds_of_bits n (bits / 2)))
    go true = refl
    go false = refl

-- the turns of both checks, with so many kinds left
pub kinds_fit_turn : (left n bits : ℕ) → left ≡ suc n
    → eqb (bits / 2) (kind_bits (kinds_of_bits n (bits / 2))) ≡ eqb bits (kind_bits (kinds_of_bits left bits))
kinds_fit_turn left n bits z = rw z (sym (kinds_fit_more n bits))

pub kinds_fit_end : (left bits : ℕ) → left ≡ 0 → eqb bits (kind_bits (kinds_of_bits left bits)) ≡ eqb bits 0
kinds_fit_end left bits z = rw z (kinds_fit_none bits)

pub references_stop : (left bits : ℕ) → 0 < left → (bits % 2 ≡ 1 → ⊥) → all is_by_reference (kinds_of_bits left bits) ≡ false
references_stop zero bits l h = absurd (omega arith)
references_stop (suc n) bits l h = references_more n bits ∙ rw (ne_eqb (bits % 2) 1 h)

pub references_turn : (left n bits : ℕ) → left ≡ suc n → bits % 2 ≡ 1
    → all is_by_reference (kinds_of_bits n (bits / 2)) ≡ all is_by_reference (kinds_of_bits left bits)
references_turn left n bits z h = rw z (sym (references_more n bits ∙ rw (eq-eqb (bits % 2) 1 h)))

pub references_end : (left bits : ℕ) → left ≡ 0 → all is_by_reference (kinds_of_bits left bits) ≡ true
references_end left bits z = rw z (references_none bits)

-- ── the entry's five words ───────────────────────────────────────────────────────
pub five : (w : List ℕ) (a x0 x1 x2 x3 x4 : ℕ) → same_at w a (x0 ∷ (x1 ∷ (x2 ∷ (x3 ∷ (x4 ∷ [])))))
    ≡ (eqb (word w (a + 0)) x0 && (eqb (word w (a + 1)) x1 && (eqb (word w (a + 2)) x2 && (eqb (word w (a + 3)) x3 && eqb (word w (a + 4)) x4))))
unfolding same_at
five w a x0 x1 x2 x3 x4 =
    let z0 : a + 0 ≡ a = omega arith in
    let z2 : a + 1 + 1 ≡ a + 2 = omega arith in
    let z3 : a + 2 + 1 ≡ a + 3 = omega arith in
    let z4 : a + 3 + 1 ≡ a + 4 = omega arith in
    rw (z0, z2, z3, z4, and_yes (eqb (word w (a + 4)) x4))

some_code : (w : List ℕ) (e n : ℕ) → not (is_empty (code_at_entry w e n)) ≡ leb 1 n
unfolding code_at_entry
some_code w e zero = refl
some_code w e (suc n) = sym (le-leb 1 (suc n) (omega arith))

regroup : (names main line room bits first : Bool)
    → ((names && main) && (line && (room && (bits && first)))) ≡ ((names && (first && (line && (room && bits)))) && main)
regroup false main line room bits first = refl
regroup true false line room bits first = simp and_no
regroup true true line room bits false = simp and_no
regroup true true line room bits true = simp (and_yes)

pub opening_test_lem : (w : List ℕ) (number first : ℕ)
    → opening_test w number first ≡ (entry_test w (routine_entry number) first && opens_as_stated (table_listing w) number (routine_at_entry w (routine_entry number)))
unfolding opening_test entry_test routine_at_entry routine_words
opening_test_lem w number first =
    let a = routine_entry number in
    let x0 = word w (a + 0) in
    let x1 = word w (a + 1) in
    let x4 = word w (a + 4) in
    let e = 328 + 5 * word w (a + 3) in
    let ks = kinds_of_bits x0 x1 in
    rw (
      five w a (length ks) (kind_bits ks) (word w (a + 2)) first (length (code_at_entry w e x4)),
      code_count w x4 e,
      kinds_count_lem x0 x1,
      same_number x0,
      same_number (word w (a + 2)),
      same_number x4,
      some_code w e x4,
      and_yes (eqb (word w (a + 3)) first),
    )
    (regroup (leb (x0 + word w (a + 2)) 16) (opens_as_stated (table_listing w) number (routine_at_entry w a)) (leb 1 x4) (leb (first + x4) 512) (eqb x1 (kind_bits ks)) (eqb (word w (a + 3)) first))

-- what a routine's entry that passes gives the rest of the pass
pub record Opened (w : List ℕ) (number first : ℕ) : Type 0 where
  pub names : word w (routine_entry number + 0) + word w (routine_entry number + 2) ≤ 16
  pub start : word w (routine_entry number + 3) ≡ first
  pub line : 1 ≤ word w (routine_entry number + 4)
  pub room : first + word w (routine_entry number + 4) ≤ 512

pub opened : (w : List ℕ) (number first : ℕ) → opening_test w number first ≡ true → Opened w number first
unfolding entry_test
opened w number first h =
    let a = routine_entry number in
    let names = leb (word w (a + 0) + word w (a + 2)) 16 in
    let start = eqb (word w (a + 3)) first in
    let line = leb 1 (word w (a + 4)) in
    let room = leb (first + word w (a + 4)) 512 in
    let bits = eqb (word w (a + 1)) (kind_bits (kinds_of_bits (word w (a + 0)) (word w (a + 1)))) in
    let e = and_left (entry_test w a first) (opens_as_stated (table_listing w) number (routine_at_entry w a)) (sym (opening_test_lem w number first) ∙ h) in
    let e₁ = and_right names (start && (line && (room && bits))) e in
    let e₂ = and_right start (line && (room && bits)) e₁ in
    let e₃ = and_right line (room && bits) e₂ in
    record {
      names = leb-true _ 16 (and_left names (start && (line && (room && bits))) e);
      start = eqb-true (word w (a + 3)) first (and_left start (line && (room && bits)) e₁);
      line = leb-true 1 (word w (a + 4)) (and_left line (room && bits) e₂);
      room = leb-true _ 512 (and_left room bits e₃);
    }

-- what is asked of main
pub main_opens : (w : List ℕ) → opens_as_stated (table_listing w) 0 (routine_at_entry w 8)
    ≡ (eqb (word w (8 + 0)) (word w 0 + word w 1) && all is_by_reference (kinds_of_bits (word w (8 + 0)) (word w (8 + 1))))
unfolding opens_as_stated routine_at_entry table_listing
main_opens w = rw (kinds_count_lem (word w (8 + 0)) (word w (8 + 1)))

pub others_open : (w : List ℕ) (number : ℕ) → 1 ≤ number → (r : Routine) → opens_as_stated (table_listing w) number r ≡ true
unfolding opens_as_stated
others_open w zero h r = absurd (omega arith)
others_open w (suc number) h r = refl

-- ── the last instruction ─────────────────────────────────────────────────────────
pub last_answers_lem : (w : List ℕ) (n e : ℕ) → all_yes (last_answers (code_at_entry w e (suc n))) ≡ may_be_last (instruction_at_entry w (e + 5 * n))
unfolding code_at_entry last_answers all
last_answers_lem w zero e = let z : e + 5 * 0 ≡ e = omega arith in rw z (and_yes (may_be_last (instruction_at_entry w e)))
last_answers_lem w (suc n) e = let z : e + 5 + 5 * n ≡ e + 5 * suc n = omega arith in last_answers_lem w n (e + 5) ∙ rw z
