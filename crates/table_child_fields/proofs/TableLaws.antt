-- Counting owned variables, walking over heads, and looking at an instruction.
use mathlib.Core.Path.{◌≡◌, refl, sym, ap, ◌∙◌}
use mathlib.Core.Bool.{Bool, true, false, cond}
use mathlib.Core.List.{List, [], ◌∷◌}
use Prim.Native.Nat.{ℕ, zero, suc, ◌+◌, ◌*◌, ◌-◌, ◌<◌, ◌≤◌, ◌/◌, ◌%◌}
use lib.Dec.{eqb}
use lib.ListN.{get_or-eq_default}
use borrow.Author.Tests.{eq-eqb, ne_eqb, eqb-true, eqb-false, le-leb, lt-leb}
use native.Mathlib.Omega.{arith}
use native.Mathlib.Numerals.{add-one}
use Rattle.listing.specs.Listing.{Kind, by_reference, by_value, Instruction, wait, fork, end}
use Rattle.walk.specs.Walk.{routine_at, instruction_at}
use Rattle.walk.specs.Question7.{owned_count, owned_by}
use Rattle.table.specs.Decode.{head_after, word, after_call, calls_at, names_at, no_instruction, instruction_of, instruction_at_entry, kinds_of_bits, instruction_entry, table_listing}
use Rattle.table.proofs.Reach.{owned_by_number, code_length_by_number, instruction_by_address}
use Rattle.machine.specs.Records.{Frame, Scan, asleep_at}
use Rattle.table_child_fields.specs.Tables.{TableBounds, Seen, at_wait, at_fork, at_other, past_line, line_at}
use Rattle.table_read.specs.Opened.{entry_at}

-- ── owned variables ───────────────────────────────────────────────────────────────────────────────
one_more : (ks : List Kind) (l : ℕ) → owned_count ks (suc l) ≡ suc (owned_count ks l)
unfolding owned_count
one_more [] l = refl
one_more (by_reference ∷ ks) l = one_more ks l
one_more (by_value ∷ ks) l = ap suc (one_more ks l)

-- what is counted so far, and the kinds still to look at
pub record OwnedLeft (w : List ℕ) (r arguments bits owned k : ℕ) : Type 0 where
  pub within : k ≤ arguments
  pub small : owned ≤ 4294967296 + k
  pub law : owned_count (kinds_of_bits (arguments - k) bits) owned ≡ owned_by (table_listing w) r

pub owned_begins : (w : List ℕ) (r arguments bits owned : ℕ) → r < word w 2 → arguments ≡ word w (8 + 5 * r) → bits ≡ word w (8 + 5 * r + 1) → owned ≡ word w (8 + 5 * r + 2) →
    owned < 4294967296 → OwnedLeft w r arguments bits owned 0
owned_begins w r arguments bits owned h a b o s =
    let p : arguments - 0 ≡ arguments = omega arith in
    let q : 8 + 5 * r + 0 ≡ 8 + 5 * r = omega arith in
    record { within = omega arith; small = omega arith; law = rw (p, a, b, o) (sym (rw q at (owned_by_number w r h))) }

pub owned_value : (w : List ℕ) (r arguments bits owned k : ℕ) → k < arguments → (bits % 2 ≡ 1 → ⊥) → OwnedLeft w r arguments bits owned k → OwnedLeft w r arguments (bits / 2) (owned + 1) (k + 1)
unfolding kinds_of_bits owned_count
owned_value w r arguments bits owned k h b L =
    let p : arguments - k ≡ suc (arguments - (k + 1)) = omega arith in
    let old : suc (owned_count (kinds_of_bits (arguments - (k + 1)) (bits / 2)) owned) ≡ owned_by (table_listing w) r = rw (p, ne_eqb (bits % 2) 1 b) at L.law in
    record { within = omega arith; small = omega (arith, L.small); law = rw (add-one owned) (one_more (kinds_of_bits (arguments - (k + 1)) (bits / 2)) owned ∙ old) }

pub owned_reference : (w : List ℕ) (r arguments bits owned k : ℕ) → k < arguments → bits % 2 ≡ 1 → OwnedLeft w r arguments bits owned k → OwnedLeft w r arguments (bits / 2) owned (k + 1)
unfolding kinds_of_bits owned_count
owned_reference w r arguments bits owned k h b L =
    let p : arguments - k ≡ suc (arguments - (k + 1)) = omega arith in
    record { within = omega arith; small = omega (arith, L.small); law = rw (p, eq-eqb (bits % 2) 1 b) at L.law }

pub owned_ends : (w : List ℕ) (r arguments bits owned k : ℕ) → arguments ≤ k → OwnedLeft w r arguments bits owned k → owned ≡ owned_by (table_listing w) r
unfolding kinds_of_bits owned_count
owned_ends w r arguments bits owned k h L = let p : arguments - k ≡ 0 = omega arith in rw p at L.law

-- ── heads ─────────────────────────────────────────────────────────────────────────────────────────
pub head_after_add : (w : List ℕ) (a i j : ℕ) → head_after w (head_after w a i) j ≡ head_after w a (i + j)
unfolding head_after
head_after_add w a zero j = let p : 0 + j ≡ j = omega arith in rw p
head_after_add w a (suc i) j = let p : suc i + j ≡ suc (i + j) = omega arith in rw p (head_after_add w (after_call w a) i j)

pub head_after_one : (w : List ℕ) (a i : ℕ) → head_after w a (i + 1) ≡ after_call w (head_after w a i)
unfolding head_after
head_after_one w a i = sym (head_after_add w a i 1)

-- ── instructions ──────────────────────────────────────────────────────────────────────────────────
pub line_past_lem : (w : List ℕ) (r place : ℕ) → word w (8 + 5 * r + 4) ≤ place → past_line ≡ line_at w r place
unfolding line_at
line_past_lem w r place h = rw (le-leb _ _ h)

pub line_there : (w : List ℕ) (r place : ℕ) → place < word w (8 + 5 * r + 4) → entry_at w r place ≡ line_at w r place
unfolding line_at
line_there w r place h = rw (lt-leb _ _ h)

module _ (w : List ℕ) (bounds : TableBounds w) (r : ℕ) (there : r < word w 2) (place : ℕ) where
  pub past_the_end : word w (8 + 5 * r + 4) ≤ place → Seen w r place 7 0 0
  unfolding instruction_at asleep_at
  past_the_end h =
      let e : instruction_at (table_listing w) r place ≡ end =
      get_or-eq_default (routine_at (table_listing w) r).code end {n = place} (rw (code_length_by_number w r there) h) in
      at_other (λ z. omega arith) (λ z. omega arith) (λ now level go frames. rw e)

  module _ (within : place < word w (8 + 5 * r + 4)) where
    reached : instruction_at (table_listing w) r place ≡
        instruction_of w (word w (instruction_entry w r place + 0)) (word w (instruction_entry w r place + 1)) (word w (instruction_entry w r place + 2))
        (word w (instruction_entry w r place + 3)) (word w (instruction_entry w r place + 4))
    unfolding instruction_at_entry
    reached = instruction_by_address w r there place within

    either : (now level : ℕ) (go : Scan) (frames : List Frame) (x : Bool) (i j : Instruction) → asleep_at (table_listing w) now i level go frames ≡ false →
        asleep_at (table_listing w) now j level go frames ≡ false → asleep_at (table_listing w) now (cond x i j) level go frames ≡ false
    either now level go frames true i j p q = p
    either now level go frames false i j p q = q

    no_sleep : (kind a b c d : ℕ) → (kind ≡ 5 → ⊥) → (kind ≡ 6 → ⊥) → (now level : ℕ) (go : Scan) (frames : List Frame) →
        asleep_at (table_listing w) now (instruction_of w kind a b c d) level go frames ≡ false
    unfolding instruction_of asleep_at
    no_sleep kind a b c d f g now level go frames =
        rw (ne_eqb kind 5 f, ne_eqb kind 6 g)
        (either now level go frames (eqb kind 1) _ _ refl (either now level go frames (eqb kind 2) _ _ refl
        (either now level go frames (eqb kind 3) _ _ refl (either now level go frames (eqb kind 4) _ _ refl (either now level go frames (eqb kind 7) end no_instruction refl refl)))))

    is_wait_lem : (kind a b c d : ℕ) → kind ≡ 5 → instruction_of w kind a b c d ≡ wait (names_at w b c)
    unfolding instruction_of
    is_wait_lem kind a b c d e = rw e

    is_fork_lem : (kind a b c d : ℕ) → kind ≡ 6 → instruction_of w kind a b c d ≡ fork (calls_at w b c)
    unfolding instruction_of
    is_fork_lem kind a b c d e = rw e

    pub seen : Seen w r place (entry_at w r place).kind (entry_at w r place).cells (entry_at w r place).first
    seen = by (eqb kind 5) refl (eqb kind 6) refl
      where
        kind : ℕ
        kind = word w (instruction_entry w r place + 0)

        by : (x : Bool) → eqb kind 5 ≡ x → (y : Bool) → eqb kind 6 ≡ y →
            Seen w r place kind (word w (instruction_entry w r place + 2)) (word w (instruction_entry w r place + 3))
        by true e y f = at_wait (eqb-true _ _ e) (reached ∙ is_wait_lem _ _ _ _ _ (eqb-true _ _ e))
        by false e true f =
            at_fork (eqb-true _ _ f) (reached ∙ is_fork_lem _ _ _ _ _ (eqb-true _ _ f)) (bounds.heads r place there within (eqb-true _ _ f))
        by false e false f =
            let ne5 : kind ≡ 5 → ⊥ = eqb-false _ _ e in
            let ne6 : kind ≡ 6 → ⊥ = eqb-false _ _ f in
            at_other ne5 ne6 (λ now level go frames. rw reached (no_sleep kind _ _ _ _ ne5 ne6 now level go frames))
