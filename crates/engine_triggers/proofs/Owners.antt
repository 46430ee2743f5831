-- Owners by block and index are the same if block and index are.
use mathlib.Core.Bool.{◌&&◌}
use mathlib.Core.Path.{◌≡◌, sym, ◌∙◌}
use Prim.Native.Nat.{ℕ, ◌≤◌, ◌<◌}
use native.Mathlib.Decide.{dec_lt}
use native.Mathlib.Omega.{arith}
use lib.Dec.{eqb}
use borrow.Author.Tests.{lt-ltb, le-ltb, eq-eqb, ne_eqb}
use Rattle.engine_rows.specs.Triggers.{same_owner}
use Rattle.engine_blocks.specs.Blocks.{owner_at}

module _ (s i t j : ℕ) where
  slots : s < 64 → t < 64 → same_owner (owner_at s i) (owner_at t j) ≡ eqb s t && eqb i j
  unfolding same_owner owner_at
  slots h l = rw (lt-ltb s 64 h, lt-ltb t 64 l)

  slot_and_environment : s < 64 → t ≡ 64 → same_owner (owner_at s i) (owner_at t j) ≡ eqb s t && eqb i j
  unfolding same_owner owner_at
  slot_and_environment h l = rw (lt-ltb s 64 h, le-ltb t 64 (omega arith), ne_eqb s t (λ e. omega arith))

  environment_and_slot : s ≡ 64 → t < 64 → same_owner (owner_at s i) (owner_at t j) ≡ eqb s t && eqb i j
  unfolding same_owner owner_at
  environment_and_slot h l = rw (lt-ltb t 64 l, le-ltb s 64 (omega arith), ne_eqb s t (λ e. omega arith))

  environments : s ≡ 64 → t ≡ 64 → same_owner (owner_at s i) (owner_at t j) ≡ eqb s t && eqb i j
  unfolding same_owner owner_at
  environments h l = rw (le-ltb t 64 (omega arith), le-ltb s 64 (omega arith), eq-eqb s t (h ∙ sym l))

  pub same_owner_at : s ≤ 64 → t ≤ 64 → same_owner (owner_at s i) (owner_at t j) ≡ eqb s t && eqb i j
  same_owner_at h l = go (dec_lt s 64) (dec_lt t 64)
    where
      go : Dec (s < 64) → Dec (t < 64) → same_owner (owner_at s i) (owner_at t j) ≡ eqb s t && eqb i j
      go (yes p) (yes q) = slots p q
      go (yes p) (no q) = slot_and_environment p (omega arith)
      go (no p) (yes q) = environment_and_slot (omega arith) q
      go (no p) (no q) = environments (omega arith) (omega arith)
