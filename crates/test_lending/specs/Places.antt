-- How much of a memory is lent, and what is spoilt in it.
use Rattle.std.specs.Prelude.{cond, List, ℕ, min, eqb, length, set, take}

-- how much of a memory is lent: all, or only so many places if this is what is spoilt
unfoldable pub lent_places : ℕ → ℕ → ℕ → List ℕ → ℕ
lent_places spoil which places m = cond (eqb spoil which) (min places (length m)) (length m)

abbrev pub lent_part : ℕ → ℕ → ℕ → List ℕ → List ℕ
lent_part spoil which places m = take (lent_places spoil which places m) m

-- the first word made w, if this is what is spoilt
unfoldable pub spoilt_first : ℕ → ℕ → ℕ → List ℕ → List ℕ
spoilt_first spoil which w m = cond (eqb spoil which) (set m 0 w) m

-- "spoil" 6 and 7: a first word that no table and no machine has
abbrev pub spoilt_table : ℕ → List ℕ → List ℕ
spoilt_table spoil table = spoilt_first spoil 6 2147483648 table

abbrev pub spoilt_machine : ℕ → List ℕ → List ℕ
spoilt_machine spoil machine = spoilt_first spoil 7 5 machine
