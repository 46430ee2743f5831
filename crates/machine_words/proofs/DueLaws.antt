-- The sooner of two moments due, and one more variable of the search for the soonest.
use Prim.Native.Nat.{ℕ, zero, suc, min, ◌+◌, ◌*◌, ◌-◌, ◌<◌, ◌≤◌}
use mathlib.Core.Path.{◌≡◌, refl, sym, ◌∙◌}
use mathlib.Core.Bool.{Bool, true, false}
use mathlib.Core.List.{List}
use lib.ListN.{get_or}
use lib.Dec.{leb}
use native.Mathlib.Omega.{arith}
use borrow.Author.Tests.{le-leb, lt-leb, leb-true, leb-false}
use Rattle.walk.specs.Instant.{moment, earlier_of, earlier, due_of, due_of_variables}
use Rattle.machine.specs.Words.{moment_at, waiting_of, variable_in, variables_in}
use Rattle.machine.specs.Due.{due_at}
use Rattle.machine.proofs.NextDue.{earlier_never, earlier_associative, due_of_words}

-- ── the sooner of two ─────────────────────────────────────────────────────────────────────────────
pub first_none : (a b : ℕ) → a ≡ 0 → due_at b ≡ earlier (due_at a) (due_at b)
unfolding due_at earlier
first_none a b e = rw e

pub second_none : (a b : ℕ) → b ≡ 0 → due_at a ≡ earlier (due_at a) (due_at b)
unfolding due_at
second_none a b e = rw e (sym (earlier_never (due_at a)))

both : (a b : ℕ) → (a ≡ 0 → ⊥) → (b ≡ 0 → ⊥) → (x : Bool) → leb a b ≡ x → earlier (due_at a) (due_at b) ≡ earlier_of x a b
unfolding due_at earlier
both zero b f g x e = absurd (f refl)
both (suc a) zero f g x e = absurd (g refl)
both (suc a) (suc b) f g x e = rw e

some_due : (a : ℕ) → (a ≡ 0 → ⊥) → due_at a ≡ moment a
unfolding due_at
some_due zero f = absurd (f refl)
some_due (suc a) f = refl

pub first_sooner : (a b : ℕ) → (a ≡ 0 → ⊥) → (b ≡ 0 → ⊥) → a ≤ b → due_at a ≡ earlier (due_at a) (due_at b)
unfolding earlier_of
first_sooner a b f g h = some_due a f ∙ sym (both a b f g true (le-leb a b h))

pub second_sooner : (a b : ℕ) → (a ≡ 0 → ⊥) → (b ≡ 0 → ⊥) → b < a → due_at b ≡ earlier (due_at a) (due_at b)
unfolding earlier_of
second_sooner a b f g h = some_due b g ∙ sym (both a b f g false (lt-leb a b h))

pub sooner_is_least : (a b : ℕ) → (a ≡ 0 → ⊥) → (b ≡ 0 → ⊥) → due_at (min a b) ≡ earlier (due_at a) (due_at b)
sooner_is_least a b f g = go (leb a b) refl
  where
    go : (x : Bool) → leb a b ≡ x → due_at (min a b) ≡ earlier (due_at a) (due_at b)
    go true e = let h = leb-true a b e in let z : min a b ≡ a = omega arith in rw z (first_sooner a b f g h)
    go false e = let h = leb-false a b e in let z : min a b ≡ b = omega arith in rw z (second_sooner a b f g h)

-- ── variables ─────────────────────────────────────────────────────────────────────────────────────
-- the soonest so far and what is left to look at
pub record VariablesLeft (m : List ℕ) (at k soonest found i : ℕ) : Type 0 where
  pub within : i ≤ k
  pub law : earlier (due_at found) (due_of_variables (variables_in m (at + i * 6) (k - i))) ≡ earlier (due_at soonest) (due_of_variables (variables_in m at k))

pub variables_begin : (m : List ℕ) (at k soonest : ℕ) → VariablesLeft m at k soonest soonest 0
variables_begin m at k soonest = record {
  within = omega arith;
  law = let p : at + 0 * 6 ≡ at = omega arith in let q : k - 0 ≡ k = omega arith in rw (p, q);
}

pub variables_go_on : (m : List ℕ) (at k soonest found i due next : ℕ) → i < k → VariablesLeft m at k soonest found i →
    due ≡ moment_at m (at + i * 6 + 2) → due_at next ≡ earlier (due_at found) (due_at due) → VariablesLeft m at k soonest next (i + 1)
unfolding variables_in variable_in due_of_variables
variables_go_on m at k soonest found i due next h left d e =
    let p : k - i ≡ suc (k - (i + 1)) = omega arith in
    let q : at + i * 6 + 6 ≡ at + (i + 1) * 6 = omega arith in
    let rest = due_of_variables (variables_in m (at + (i + 1) * 6) (k - (i + 1))) in
    let here = waiting_of (moment_at m (at + i * 6 + 2)) (get_or m (at + i * 6 + 1) 0) in
    let old : earlier (due_at found) (earlier (due_of here) rest) ≡ earlier (due_at soonest) (due_of_variables (variables_in m at k)) = rw (p, q) at left.law in
    record {
      within = omega arith;
      law = rw (e, earlier_associative (due_at found) (due_at due) rest, d, ← due_of_words (moment_at m (at + i * 6 + 2)) (get_or m (at + i * 6 + 1) 0)) old;
    }

pub variables_end : (m : List ℕ) (at k soonest found i : ℕ) → k ≤ i → VariablesLeft m at k soonest found i →
    due_at found ≡ earlier (due_at soonest) (due_of_variables (variables_in m at k))
unfolding variables_in due_of_variables
variables_end m at k soonest found i h left = let p : k - i ≡ 0 = omega arith in sym (earlier_never (due_at found)) ∙ rw p at left.law
