-- A parent's priorities reach to each of its children.
use mathlib.Core.Path.{◌≡◌, ap, ◌∙◌}
use mathlib.Core.List.{List}
use Prim.Native.Nat.{ℕ, suc, ◌+◌, ◌*◌, ◌-◌, ◌^◌, ◌%◌, ◌≤◌, ◌<◌, min}
use native.Mathlib.Nat.{mul-le-mul_right}
use native.Mathlib.Omega.{arith}
use native.Mathlib.Decide.{dec_lt}
use lib.ListN.{length}
use lib.Pow.{pow_pos, pow_mono, shl_exact}
use Rattle.engine_fork_bits.specs.ForkBits.{fork_bits}
use Rattle.engine_rows.specs.Rows.{Row, Rows}
use Rattle.engine_rows.proofs.Priority.{fork_fits}
use Rattle.engine_blocks.specs.Blocks.{block, variable_in, variables_in, row_at, rows_of}
use Rattle.engine_blocks.proofs.Tabulated.{length_tabulate}
use Rattle.engine_blocks.proofs.RowChanges.{row_of}
use Rattle.engine_new_rows.specs.declared.rows.Parent.{Parent}
use Rattle.engine_new_rows.specs.NewRow.{MayDivide, ParentIs, Reaches}

-- 2 ^ bits priorities are at most 2 ^ 32.
pub few_bits : (bits : ℕ) → 2 ^ bits ≤ 4294967296 → bits ≤ 32
few_bits bits h = go (dec_lt 32 bits)
  where
    go : Dec (32 < bits) → bits ≤ 32
    go (yes l) = let more : 2 ^ 33 ≤ 2 ^ bits = pow_mono l in absurd (omega arith)
    go (no l) = omega arith

pub reaches_child : {rows : Rows} {me n : ℕ} {p : Parent} (i : ℕ) → MayDivide rows me n → ParentIs rows me n p → i < n → Reaches p i
reaches_child {rows} {me} {n} {p} i D P l =
    let d = (rows me).bits in
    let w = 2 ^ (d - fork_bits n) in
    let all : n * w ≤ 2 ^ d = fork_fits n d D.most D.bits in
    let some : suc i * w ≤ n * w = mul-le-mul_right w l in
    let more : suc i * w ≡ i * w + w = omega arith in
    let positive : 0 < w = pow_pos (d - fork_bits n) in
    let wide : d ≤ 32 = few_bits d (omega (arith, D.range)) in
    record {
      most = omega (arith, D.most);
      bits = omega (arith, P.bits);
      low = rw (P.low, P.bits) (omega (arith, D.range));
    }

-- The shift drops no bit.
pub shifted : (i bits : ℕ) → i < 8 → bits ≤ 32 → (i * 2 ^ bits) % 2 ^ 64 ≡ i * 2 ^ bits
shifted i bits l h = shl_exact {a = i} 3 bits 64 l (omega arith)

-- ── a routine's own variables, counted ────────────────────────────────────────────────────────────
pub own_length : (words : List ℕ) (s : ℕ) → s < 64 → length (rows_of words s).own ≡ min (block words s 4) 16
unfolding row_at variables_in
own_length words s h = ap (λ (r : Row). length r.own) (row_of words s h) ∙ length_tabulate 0 (min (block words s 4) 16) (variable_in (block words s))
