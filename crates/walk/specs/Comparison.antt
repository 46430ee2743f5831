-- The comparison of two machines.
use Rattle.std.specs.Prelude.{Bool, true, false, ◌&&◌, List, [], ◌∷◌, ℕ, eqb, leb, length}
use Rattle.std.proofs.Math.Option.{Option, none, some}
use Rattle.listing.specs.Listing.{Listing}
use Rattle.walk.specs.State.{Variable, State}
use Rattle.walk.specs.Calls.{Layout, Machine, halted, running, memory_words, first_words}

unfoldable pub same_values : List Variable → List Variable → Bool
same_values [] [] = true
same_values [] (y ∷ ys) = false
same_values (x ∷ xs) [] = false
same_values (x ∷ xs) (y ∷ ys) = eqb x.value y.value && same_values xs ys

-- "Two running machines are alike when their present moments and the values of all environment variables are equal."
unfoldable pub alike : State → State → Bool
alike a b = eqb a.now b.now && same_values a.environment b.environment

-- The comparison's outcome: refused under a number, or whether they are alike.
pub data Compared : Type 0 where
  not_compared : ℕ → Compared
  compared : Bool → Compared

-- Document 01's number for each case. (A refusal's other figures are 0.)
unfoldable pub compared_number : Compared → ℕ
compared_number (not_compared k) = k
compared_number (compared b) = 0

-- "A call that goes through has number 0 and place 0"; "place 0 from here on"
unfoldable pub compared_place : Compared → ℕ
compared_place c = 0

unfoldable pub compared_alike : Compared → Bool
compared_alike (not_compared k) = false
compared_alike (compared b) = b

-- "then 8 for both"
unfoldable pub both_running : Machine → Machine → Compared
both_running (halted k) b = not_compared 8
both_running (running s) (halted k) = not_compared 8
both_running (running s) (running u) = compared (alike s u)

-- "then 7 for both machines"
unfoldable pub both_states : Option Machine → Option Machine → Compared
both_states none b = not_compared 7
both_states (some a) none = not_compared 7
both_states (some a) (some b) = both_running a b

unfoldable pub on_listing : Layout → Option Listing → List ℕ → List ℕ → Compared
on_listing layout none a b = not_compared 6
on_listing layout (some listing) a b =
    both_states (layout.read_machine listing (first_words a)) (layout.read_machine listing (first_words b))

unfoldable pub ask_compared : Bool → Compared → Compared
ask_compared true next = next
ask_compared false next = not_compared 1

-- "the comparison 1, 6, then 7 for both machines, then 8 for both"
unfoldable pub alike_call : Layout → List ℕ → List ℕ → List ℕ → Compared
alike_call layout table a b =
    ask_compared (leb memory_words (length table) && (leb memory_words (length a) && leb memory_words (length b)))
    (on_listing layout (layout.read_table (first_words table)) a b)
