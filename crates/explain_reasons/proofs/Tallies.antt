-- The lines of a listing, counted one after another.
use mathlib.Core.Path.{◌≡◌, refl, sym, ap, ◌∙◌}
use mathlib.Core.Bool.{Bool, true, false, cond}
use mathlib.Core.List.{List, [], ◌∷◌}
use Prim.Native.Nat.{ℕ, zero, suc, ◌+◌, ◌*◌, ◌-◌, ◌≤◌, ◌<◌}
use native.Mathlib.Omega.{arith}
use lib.Dec.{eqb}
use lib.ListN.{length, get_or, take, drop, length-drop}
use lib.Seq.{length-take-le}
use Rattle.listing.specs.Bytes.{Bytes, split}
use Rattle.explain_parts.specs.Parts.{first_part_lem, part_end}
use Rattle.explain_parts.proofs.Parts.{parts_on, parts_last, part_taken, few_parts}
use Rattle.explain_reasons.specs.Tallies.{Small, nothing, tally_line, tallied, tally_of}
use Rattle.explain_reasons.specs.Faults.{unclosed_why}
use Rattle.explain_fields.specs.declared.reasons.Reason.TheVariants as WV
use Rattle.explain_reasons.specs.declared.tally.Tally.{Tally}

pub empty_text : (s : Bytes) → length s ≡ 0 → WV.EmptyListing ≡ unclosed_why s
unfolding unclosed_why
empty_text [] e = refl
empty_text (b ∷ s) e = absurd (let z : ⊥ = omega (arith, e) in z)

pub some_text : (s : Bytes) → (length s ≡ 0 → ⊥) → WV.NoLineFeed ≡ unclosed_why s
unfolding unclosed_why
some_text [] n = absurd (n refl)
some_text (b ∷ s) n = refl

-- so many bytes hold no more
pub record Bounded (held : Tally) (at : ℕ) : Type 0 where
  pub bytes : held.bytes ≤ at
  pub routines : held.routines ≤ at
  pub instructions : held.instructions ≤ at
  pub pieces : held.pieces ≤ 2 * at

bounded_on : (held : Tally) (at : ℕ) (line : Bytes) → Bounded held at → Bounded (tally_line held line) (at + length line + 1)
unfolding tally_line
bounded_on held at line b = go (eqb (get_or line 0 0) 80) (eqb (get_or line 0 0) 82)
  where
    go : (p r : Bool) →
        Bounded
        (cond p (record { bytes = held.bytes + length line + 1; routines = held.routines; instructions = held.instructions; pieces = held.pieces })
        (cond r (record { bytes = held.bytes + length line + 1; routines = held.routines + 1; instructions = held.instructions; pieces = held.pieces })
        (record {
          bytes = held.bytes + length line + 1;
          routines = held.routines;
          instructions = held.instructions + 1;
          pieces = held.pieces + (length (split 9 line) - 1) + (length (split 32 line) - 1);
        })))
        (at + length line + 1)
    go true r = record { bytes = omega (arith, b.bytes); routines = omega (arith, b.routines); instructions = omega (arith, b.instructions); pieces = omega (arith, b.pieces) }
    go false true = record { bytes = omega (arith, b.bytes); routines = omega (arith, b.routines); instructions = omega (arith, b.instructions); pieces = omega (arith, b.pieces) }
    go false false =
        record {
          bytes = omega (arith, b.bytes);
          routines = omega (arith, b.routines);
          instructions = omega (arith, b.instructions);
          pieces = omega (arith, b.pieces, few_parts 9 line, few_parts 32 line);
        }

-- the lines from an offset on add what is left
pub record Tallying (s : Bytes) (lines at left : ℕ) (held : Tally) : Type 0 where
  pub inside : at ≤ length s
  pub bounded : Bounded held at
  pub same : tallied held left (split 10 (drop at s)) ≡ tally_of s lines

pub tallying_begun : (s : Bytes) (lines : ℕ) → Tallying s lines 0 lines nothing
tallying_begun s lines =
    record { inside = omega arith; bounded = record { bytes = omega arith; routines = omega arith; instructions = omega arith; pieces = omega arith }; same = refl }

pub bounded_small : {held : Tally} (at : ℕ) → Bounded held at → at ≤ 100000 → Small held
bounded_small at b h =
    record { bytes = omega (arith, b.bytes, h); routines = omega (arith, b.routines, h); instructions = omega (arith, b.instructions, h); pieces = omega (arith, b.pieces, h) }

module _ (s : Bytes) (lines at left : ℕ) (held : Tally) (v : Tallying s lines at left held) where
  pub all_tallied : left ≡ 0 → held ≡ tally_of s lines
  unfolding tallied
  all_tallied e = ap (λ (n : ℕ). tallied held n (split 10 (drop at s))) (sym e) ∙ v.same

  module _ (end : ℕ) (e : end ≡ part_end 10 s at) (t : Tally) (is : t ≡ tally_line held (take (end - at) (drop at s))) where
    line_is_lem : take (end - at) (drop at s) ≡ first_part_lem 10 (drop at s)
    line_is_lem = part_taken 10 s at end v.inside e

    one_line : (n : ℕ) (rest : List Bytes) → tallied held (suc n) (first_part_lem 10 (drop at s) ∷ rest) ≡ tallied t n rest
    unfolding tallied
    one_line n rest = ap (λ (h : Tally). tallied h n rest) (sym (is ∙ ap (tally_line held) line_is_lem))

    pub tallied_last : end ≡ length s → 0 < left → t ≡ tally_of s lines
    unfolding tallied
    tallied_last h more = go left more v.same
      where
        none_left : (n : ℕ) → tallied t n [] ≡ t
        none_left zero = refl
        none_left (suc n) = refl

        go : (left : ℕ) → 0 < left → tallied held left (split 10 (drop at s)) ≡ tally_of s lines → t ≡ tally_of s lines
        go zero more i = absurd (let z : ⊥ = omega (arith, more) in z)
        go (suc n) more i = sym (ap (tallied held (suc n)) (parts_last 10 s at end v.inside e h) ∙ one_line n [] ∙ none_left n) ∙ i

    pub tallying_on : end < length s → 0 < left → (less : ℕ) → less ≡ left - 1 → Tallying s lines (end + 1) less t
    tallying_on h more less e' =
        record {
          inside = omega (arith, h);
          bounded = bound;
          same = ap (λ (k : ℕ). tallied t k (split 10 (drop (end + 1) s))) e' ∙ go left more v.same;
        }
      where
        size : length (take (end - at) (drop at s)) ≡ end - at
        size = length-take-le (end - at) (drop at s) (rw (length-drop at s) (omega (arith, h)))

        bound : Bounded t (end + 1)
        bound =
            let b = bounded_on held at (take (end - at) (drop at s)) v.bounded in
            let f : at + length (take (end - at) (drop at s)) + 1 ≡ end + 1 = omega (arith, size, e) in
            rw (is, ← f) b

        go : (left : ℕ) → 0 < left → tallied held left (split 10 (drop at s)) ≡ tally_of s lines → tallied t (left - 1) (split 10 (drop (end + 1) s)) ≡ tally_of s lines
        go zero more i = absurd (let z : ⊥ = omega (arith, more) in z)
        go (suc n) more i =
            ap (λ (k : ℕ). tallied t k (split 10 (drop (end + 1) s))) (let z : suc n - 1 ≡ n = omega arith in z)
            ∙ sym (ap (tallied held (suc n)) (parts_on 10 s at end v.inside e h) ∙ one_line n (split 10 (drop (end + 1) s))) ∙ i

-- a part of a short text is short
pub part_long : (s : Bytes) (at end : ℕ) → at ≤ end → end ≤ length s → length s ≤ 100000 → length (take (end - at) (drop at s)) ≤ 100000
part_long s at end r i h =
    let left = length-drop at s in
    let size = length-take-le (end - at) (drop at s) (omega (arith, left, r, i)) in
    omega (arith, size, r, i, h)
