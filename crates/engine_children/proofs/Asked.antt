-- What a fork asks for, from what the engine keeps: clean slots.
use mathlib.Core.Path.{◌≡◌, refl, sym, ap, ◌∙◌}
use mathlib.Core.Bool.{false}
use mathlib.Core.List.{List, []}
use Prim.Native.Nat.{ℕ, zero, suc, ◌<◌}
use native.Mathlib.Omega.{arith}
use Rattle.engine_rows.specs.Rows.{Row}
use Rattle.engine_blocks.specs.Blocks.{block, nonzero, row_at, rows_of}
use Rattle.engine_blocks.proofs.RowChanges.{row_of}
use Rattle.engine_clean.specs.Clean.{Clean}
use Rattle.engine_new_names.proofs.Passing.{no_variables}

zero_of : (n : ℕ) → nonzero n ≡ false → n ≡ 0
unfolding nonzero
zero_of zero e = refl
zero_of (suc n) e = absurd (let z : ◌≡◌ {A = ℕ} 0 1 = cc in omega arith)

-- A free slot of clean words has no variables.
pub free_is_empty : {k : ℕ} {m : List ℕ} → Clean k m → (s : ℕ) → s < 64 → (rows_of m s).used ≡ false → (rows_of m s).own ≡ []
unfolding row_at
free_is_empty {k} {m} T s h u =
    let first : block m s 0 ≡ 0 = zero_of (block m s 0) (sym (ap (λ (r : Row). r.used) (row_of m s h)) ∙ u) in
    no_variables m s h ((T.slots s h).free first 4 (omega arith))
