-- What question 6 gives of a table's first words: inputs and outputs, at most 16 together.
use mathlib.Core.Path.{◌≡◌}
use mathlib.Core.Bool.{true}
use mathlib.Core.List.{List}
use Prim.Native.Nat.{ℕ, ◌+◌, ◌≤◌, ◌<◌}
use native.Mathlib.Decide.{dec_lt}
use native.Mathlib.Omega.{arith}
use lib.ListN.{length, get_or, take, length-take, get_or-eq_default}
use lib.Seq.{get_or-take}
use Rattle.walk.specs.Instant.{environment_size}
use Rattle.walk.specs.Calls.{Words32}
use Rattle.table.specs.Decode.{table_listing}
use Rattle.table.specs.Question6.{is_table}
use Rattle.machine_check.proofs.FromQuestion6.{table_within_limits}

-- The words 0 and 1 of a table that may be longer.
module _ (t : List ℕ) (pass : is_table (take 12288 t) ≡ true) where
  pub size_of_table : get_or t 0 0 + get_or t 1 0 ≡ environment_size (table_listing (take 12288 t))
  unfolding environment_size table_listing
  size_of_table = rw (get_or-take 12288 t 0 0 (omega arith), get_or-take 12288 t 1 0 (omega arith))

  pub table_few : environment_size (table_listing (take 12288 t)) ≤ 16
  table_few = (table_within_limits (take 12288 t) pass).ports

-- The first words of a memory have 32 bits, if all have.
pub first_words32 : (w : List ℕ) → Words32 w → Words32 (take 12288 w)
first_words32 w small k = go (dec_lt k 12288)
  where
    go : Dec (k < 12288) → get_or (take 12288 w) k 0 < 4294967296
    go (yes h) = rw (get_or-take 12288 w k 0 h) (small k)
    go (no h) =
        let l : length (take 12288 w) ≤ k = simp length-take (omega arith) in
        rw (get_or-eq_default (take 12288 w) 0 l) (omega arith)

-- The same of a table's 12,288 words.
pub whole_size : (t : List ℕ) → is_table t ≡ true → (i o : ℕ) → i ≡ get_or t 0 0 → o ≡ get_or t 1 0 → (i + o ≡ environment_size (table_listing t)) × (i + o ≤ 16)
unfolding environment_size table_listing
whole_size t pass i o e f = let p = (table_within_limits t pass).ports in (rw (e, f), omega (arith, e, f, p))
