-- Pairs read one after the other.
use mathlib.Core.Path.{◌≡◌, sym, ap, ◌∙◌}
use mathlib.Core.List.{List, ◌++◌}
use Prim.Native.Nat.{ℕ}
use lib.ListN.{take}
use lib.Seq.{take-append_seam}
use Rattle.test_cases.specs.Frame.{word_at, onward}
use Rattle.test_cases.proofs.Reading as reading
use Rattle.test_stored_answers.specs.Pairs.{each_pair}

-- the first of a list over which pairs were put
pub pairs_taken : (f : ℕ → ℕ) (s : List ℕ) (at n : ℕ) (l : List ℕ) → take n (each_pair f s at n ++ l) ≡ each_pair f s at n
pairs_taken f s at n l =
    ap (λ (k : ℕ). take k (each_pair f s at n ++ l)) (sym (reading.entries_length f (λ (i : ℕ). onward s i 8) at n)) ∙ take-append_seam (each_pair f s at n) l

-- k entries of 8 bytes have been put over a list, the next stands at a place
abbrev pub Entries : (ℕ → ℕ) → List ℕ → ℕ → List ℕ → List ℕ → ℕ → ℕ → Type 0
Entries f s from before after at k = reading.Reading f (λ (i : ℕ). onward s i 8) from before after at k

-- of k pairs the numbers and the values
abbrev pub Numbers : List ℕ → ℕ → List ℕ → List ℕ → ℕ → ℕ → Type 0
Numbers s from before after at k = Entries (word_at s) s from before after at k

abbrev pub Values : List ℕ → ℕ → List ℕ → List ℕ → ℕ → ℕ → Type 0
Values s from before after at k = Entries (λ (i : ℕ). word_at s (onward s i 4)) s from before after at k
