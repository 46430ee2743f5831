-- The tests that look for the next moment due on the way: passed and failed.
use mathlib.Core.Path.{◌≡◌, refl, sym, ap, ◌∙◌}
use mathlib.Core.Bool.{Bool, true, false}
use mathlib.Core.List.{List}
use Rattle.std.proofs.Common.{Option, Some, None}
use Prim.Native.Nat.{ℕ, ◌+◌, ◌*◌, ◌-◌, ◌≤◌}
use native.Mathlib.Omega.{arith}
use Rattle.walk.specs.Instant.{NextDue, earlier, due_of_variables}
use Rattle.machine.specs.Words.{variables_in, variables_rest}
use Rattle.machine.specs.Due.{due_at}
use Rattle.machine_words.specs.Tests.{test_of, tested}
use Rattle.machine_words.proofs.DueLaws.{VariablesLeft, variables_end}

module _ (b : Bool) (d : NextDue) where
  pub fails : b ≡ false → test_of None ≡ tested b d
  unfolding test_of tested
  fails e = rw e

  -- the same of a nothing that a `?` hands on
  pub fails_by : {r : Option ℕ} → r ≡ None → b ≡ false → test_of r ≡ tested b d
  fails_by z e = rw z (fails e)

  pub passes : (t : ℕ) → b ≡ true → due_at t ≡ d → test_of (Some t) ≡ tested b d
  unfolding test_of tested
  passes t e f = rw (e, f)

inside : {x y : NextDue} → Some x ≡ Some y → x ≡ y
inside e = cc

pub not_both : {A : Type 0} {b : Bool} → b ≡ false → b ≡ true → A
not_both f e = let z : ◌≡◌ {A = Bool} false true = sym f ∙ e in let y : ◌≡◌ {A = ℕ} 0 1 = cc in absurd (omega arith)

-- ── what an answer tells ──────────────────────────────────────────────────────────────────────────
pub has_failed : (b : Bool) (d : NextDue) (r : Option ℕ) → test_of r ≡ tested b d → r ≡ None → b ≡ false
unfolding test_of tested
has_failed true d r e f = let z : ◌≡◌ {A = ℕ} 0 1 = cc in absurd (omega arith)
has_failed false d r e f = refl

pub has_passed : (b : Bool) (d : NextDue) (r : Option ℕ) (t : ℕ) → test_of r ≡ tested b d → r ≡ Some t → (b ≡ true) × (due_at t ≡ d)
unfolding test_of tested
has_passed true d r t e f = (refl, inside (sym (ap test_of f) ∙ e))
has_passed false d r t e f = let z : ◌≡◌ {A = ℕ} 0 1 = cc in absurd (omega arith)

-- ── a row of variables ────────────────────────────────────────────────────────────────────────────
pub variables_pass : (present : ℕ) (m : List ℕ) (at k found i : ℕ) → k ≤ i → variables_rest present m (at + i * 6) (k - i) ≡ variables_rest present m at k →
    VariablesLeft m at k 0 found i → test_of (Some found) ≡ tested (variables_rest present m at k) (due_of_variables (variables_in m at k))
unfolding variables_rest due_at earlier
variables_pass present m at k found i h same left =
    let z : k - i ≡ 0 = omega arith in
    passes _ _ found (sym (rw z at same)) (variables_end m at k 0 found i h left)
