-- The words that hold a state: its records in walking order, each in a slot of its own.
use Rattle.std.specs.Prelude.{cond, List, [], ◌∷◌, ◌++◌, ◌≡◌, ℕ, zero, suc, ◌+◌, ◌-◌, ◌<◌, ◌%◌, ◌/◌, eqb, length, get_or, replicate}
use Rattle.walk.specs.State.{Waiting, idle, due, Variable}
use Rattle.walk.specs.Memory.{consecutive}
use Rattle.machine.specs.Records.{Record}
use Rattle.machine.specs.Words.{block_at, environment_block}

unfoldable pub zeros : ℕ → List ℕ
zeros n = replicate n 0

-- Zeros up to n words.
unfoldable pub padded : ℕ → List ℕ → List ℕ
padded n xs = xs ++ zeros (n - length xs)

unfoldable pub waiting_value : Waiting → ℕ
waiting_value idle = 0
waiting_value (due t v) = v

unfoldable pub waiting_moment : Waiting → ℕ
waiting_moment idle = 0
waiting_moment (due t v) = t

unfoldable pub variables_words : List Variable → List ℕ
variables_words [] = []
variables_words (x ∷ xs) =
    x.value ∷ waiting_value x.waiting ∷ waiting_moment x.waiting % 4294967296 ∷ waiting_moment x.waiting / 4294967296 ∷ 0 ∷ 0 ∷
    variables_words xs

-- The stop's number 0, the present moment, the number of live routines.
unfoldable pub header_words : ℕ → ℕ → List ℕ
header_words now n = 0 ∷ now % 4294967296 ∷ now / 4294967296 ∷ n ∷ []

-- The block of the p-th record, p counted from 1.
unfoldable pub record_words : ℕ → Record → List ℕ
record_words p x = p ∷ x.level ∷ x.child ∷ x.place ∷ length x.own ∷ 0 ∷ 0 ∷ 0 ∷ variables_words x.own

unfoldable pub environment_words : List Variable → List ℕ
environment_words xs = 0 ∷ 0 ∷ 0 ∷ 0 ∷ 0 ∷ 0 ∷ 0 ∷ 0 ∷ variables_words xs

-- What slot s holds: the record whose slot it is, counted from p on; nothing if it is free.
unfoldable pub slot_words : ℕ → ℕ → List ℕ → List Record → List ℕ
slot_words s p [] xs = []
slot_words s p (q ∷ slots) [] = []
slot_words s p (q ∷ slots) (x ∷ xs) = cond (eqb q s) (record_words p x) (slot_words s (suc p) slots xs)

-- m blocks from slot s on
unfoldable pub blocks_from : List ℕ → List Record → ℕ → ℕ → List ℕ
blocks_from slots xs s zero = []
blocks_from slots xs s (suc m) = padded 184 (slot_words s 1 slots xs) ++ blocks_from slots xs (suc s) m

-- The words for a present moment, an environment and records, the k-th record in the k-th of the slots.
unfoldable pub laid_out : List ℕ → ℕ → List Variable → List Record → List ℕ
laid_out slots now environment xs =
    padded 64 (header_words now (length xs)) ++ (padded 264 slots ++ (blocks_from slots xs 0 64 ++ padded 184 (environment_words environment)))

-- The records in slots 0, 1, ..
unfoldable pub words_of : ℕ → List Variable → List Record → List ℕ
words_of now environment xs = laid_out (consecutive (length xs) 0) now environment xs

-- ── the same said word by word, for words that were written place by place ───────────────────────
-- The n words from a on are those of the list, and zeros after its end.
abbrev pub Reads : List ℕ → ℕ → ℕ → List ℕ → Type 0
Reads w a n xs = (j : ℕ) → j < n → get_or w (a + j) 0 ≡ get_or xs j 0

unfoldable pub no_record : Record
no_record = record { level = 0; child = 0; place = 0; own = [] }

-- A slot below 64 for each record, no two alike.
pub record SlotsFor (slots : List ℕ) (xs : List Record) : Type 0 where
  pub size : length slots ≡ length xs
  pub below : (k : ℕ) → k < length xs → get_or slots k 0 < 64
  pub distinct : (i k : ℕ) → i < length xs → k < length xs → get_or slots i 0 ≡ get_or slots k 0 → i ≡ k

-- Header, order list and blocks hold the records in walking order at these slots, all other words are 0.
pub record Holds (w slots : List ℕ) (now : ℕ) (environment : List Variable) (xs : List Record) : Type 0 where
  pub header : Reads w 0 64 (header_words now (length xs))
  pub order : Reads w 64 264 slots
  pub used : (k : ℕ) → k < length xs → Reads w (block_at (get_or slots k 0)) 184 (record_words (suc k) (get_or xs k no_record))
  pub free : (s : ℕ) → s < 64 → ((k : ℕ) → k < length xs → get_or slots k 0 ≡ s → ⊥) → Reads w (block_at s) 184 []
  pub outer : Reads w environment_block 184 (environment_words environment)
