-- Tests, sums and places over lists, as the definitions of this crate use them.
use Rattle.std.specs.Prelude.{Bool, true, false, ◌&&◌, List, [], ◌∷◌, ℕ, suc, ◌+◌}
use Rattle.std.proofs.Math.Option.{Option, none, some}

-- every element passes the test
unfoldable pub all : {A : Type 0} → (A → Bool) → List A → Bool
all test [] = true
all test (x ∷ xs) = test x && all test xs

abbrev pub is_empty : {A : Type 0} → List A → Bool
is_empty [] = true
is_empty (x ∷ xs) = false

-- the elements before the last one
unfoldable pub all_but_last : {A : Type 0} → List A → List A
all_but_last [] = []
all_but_last (x ∷ []) = []
all_but_last (x ∷ y ∷ ys) = x ∷ all_but_last (y ∷ ys)

-- the last element, or a given one if there is none
unfoldable pub last_or : {A : Type 0} → A → List A → A
last_or z [] = z
last_or z (x ∷ []) = x
last_or z (x ∷ y ∷ ys) = last_or z (y ∷ ys)

-- is something there?
abbrev pub is_some : {A : Type 0} → Option A → Bool
is_some none = false
is_some (some a) = true

-- what is there, in order
unfoldable pub present : {A : Type 0} → List (Option A) → List A
present [] = []
present (none ∷ options) = present options
present (some a ∷ options) = a ∷ present options

unfoldable pub total : List ℕ → ℕ
total [] = 0
total (n ∷ ns) = n + total ns

-- the sum up to and with each number, on top of what came before
unfoldable pub running_totals : ℕ → List ℕ → List ℕ
running_totals before [] = []
running_totals before (n ∷ ns) = (before + n) ∷ running_totals (before + n) ns

-- ── answers, one for each line ───────────────────────────────────────────────────
-- every answer is yes
abbrev pub all_yes : List Bool → Bool
all_yes answers = all (λ answer. answer) answers

-- of two answers for each line one: yes where both are
unfoldable pub both : List Bool → List Bool → List Bool
both [] others = []
both (a ∷ answers) [] = []
both (a ∷ answers) (b ∷ others) = (a && b) ∷ both answers others

-- the first line where the answer is no, the first answer being that of the given line; 0 for none
unfoldable pub first_no_from : ℕ → List Bool → ℕ
first_no_from line [] = 0
first_no_from line (true ∷ answers) = first_no_from (suc line) answers
first_no_from line (false ∷ answers) = line

-- "the place is the first line, from 1, where the answer is no"
abbrev pub first_no : List Bool → ℕ
first_no answers = first_no_from 1 answers
