-- A free slot of clean words is blank, and a blank slot has no variables. Letters: w the machine's words, n the number of environment variables.
use mathlib.Core.Path.{◌≡◌, refl, sym, ap, ◌∙◌}
use mathlib.Core.Bool.{false}
use mathlib.Core.List.{List, []}
use Prim.Native.Nat.{ℕ, zero, suc, ◌<◌}
use native.Mathlib.Omega.{arith}
use Rattle.engine_rows.specs.Rows.{Row}
use Rattle.engine_blocks.specs.Blocks.{block, nonzero, variables_in, row_at, rows_of}
use Rattle.engine_blocks.specs.Tabulate.{tabulate_from}
use Rattle.engine_blocks.proofs.RowChanges.{row_of}
use Rattle.engine_clean.specs.Clean.{Clean}

zero_of : (k : ℕ) → nonzero k ≡ false → k ≡ 0
unfolding nonzero
zero_of zero e = refl
zero_of (suc k) e = let z : ◌≡◌ {A = ℕ} 0 1 = cc in absurd (omega arith)

pub free_blank : {n : ℕ} {w : List ℕ} → Clean n w → (s : ℕ) → s < 64 → (rows_of w s).used ≡ false → (k : ℕ) → k < 144 → block w s k ≡ 0
unfolding row_at
free_blank {n} {w} clean s h free =
    (clean.slots s h).free (zero_of (block w s 0) (sym (ap (λ (r : Row). r.used) (row_of w s h)) ∙ free))

pub blank_owns_none : (w : List ℕ) (s : ℕ) → s < 64 → ((k : ℕ) → k < 144 → block w s k ≡ 0) → (rows_of w s).own ≡ []
unfolding row_at variables_in tabulate_from
blank_owns_none w s h blank = ap (λ (r : Row). r.own) (row_of w s h) ∙ rw (blank 4 (omega arith))
