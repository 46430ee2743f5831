-- The bits of a fork: a table of the answers for 1 to 8 children, and the rule of its entries.
-- Document 01: "A fork of n children divides its priority range by the fewest bits that number n children (document 001, 32-bit priorities)."
-- Document 001, IV.D, has a routine with the pair (p, d) that calls k children give them the pairs (p, d'), (p + 2 ^ d', d'), .., (p + (k - 1) * 2 ^ d', d')
-- with d' = d - ⌈log2 k⌉: ⌈log2 k⌉ is the fewest bits that number k children.
use Rattle.std.specs.Prelude.{ℕ, ◌-◌, ◌^◌, ◌≤◌, ◌<◌, List, [], ◌∷◌, get_or}

-- Document 02, Change 3: "a table of the answers for 1 to 8 children: 0, 1, 2, 2, 3, 3, 3, 3"
abbrev pub fork_bits_table : List ℕ
fork_bits_table = 0 ∷ 1 ∷ 2 ∷ 2 ∷ 3 ∷ 3 ∷ 3 ∷ 3 ∷ []

-- "Every fork takes them from a table": for n children, 1 to 8, the entry at n - 1
unfoldable pub fork_bits : ℕ → ℕ
fork_bits n = get_or fork_bits_table (n - 1) 0

-- "that many bits number n children and no fewer do": b bits have 2 ^ b numbers
pub record NumbersFewest (n b : ℕ) : Type 0 where
  pub enough : n ≤ 2 ^ b
  pub fewest : (c : ℕ) → c < b → 2 ^ c < n
