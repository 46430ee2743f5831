-- The frame of a file of cases.
use Rattle.std.specs.Prelude.{◌≡◌, List, ℕ, ◌+◌, ◌*◌, ◌≤◌, min, length, get_or, drop}
use Rattle.test_cases.specs.declared.frame.Part.{Part}

-- the word in the first 4 bytes, the lowest first; a byte that is not there counts as 0
abbrev pub word_of : List ℕ → ℕ
word_of s = get_or s 0 0 + 256 * get_or s 1 0 + 65536 * get_or s 2 0 + 16777216 * get_or s 3 0

-- the word that stands at a place
unfoldable pub word_at : List ℕ → ℕ → ℕ
word_at s at = word_of (drop at s)

-- the place so many bytes on, or the end
abbrev pub onward : List ℕ → ℕ → ℕ → ℕ
onward s at count = min (at + count) (length s)

-- a moment: two words, the low one first
abbrev pub moment_at : List ℕ → ℕ → ℕ
moment_at s at = word_at s at + 4294967296 * word_at s (onward s at 4)

-- the part at a place of s: its bytes begin after a word, which says how many they are, and lie within s
pub record PartAt (s : List ℕ) (at : ℕ) (r : Part) : Type 0 where
  pub begins : r.from ≡ onward s at 4
  pub ends : r.to ≡ onward s r.from (word_at s at)
  pub ordered : r.from ≤ r.to
  pub within : r.to ≤ length s
