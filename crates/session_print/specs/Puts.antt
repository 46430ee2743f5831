-- What a function that prints leaves in the lent bytes.
use Rattle.std.specs.Prelude.{List, [], ◌∷◌, ◌++◌, ◌≡◌, ℕ, ◌+◌, length}
use Rattle.std.proofs.lemmas.List.Edits.{sets}
use Rattle.listing.specs.Bytes.{Bytes, tab, figure}

-- These bytes are stored from i on, as far as there is room, and nothing else is changed; j is the place past them.
pub record Puts (before : List ℕ) (i : ℕ) (bytes after : List ℕ) (j : ℕ) : Type 0 where
  pub past : j ≡ i + length bytes
  pub stored : after ≡ sets before i bytes

-- What both kinds of lines begin with, `O|time|` and `X|code|`: a letter and a figure, each with a tab behind it.
abbrev pub front : ℕ → ℕ → Bytes
front letter n = letter ∷ (tab ∷ (figure n ++ (tab ∷ [])))
