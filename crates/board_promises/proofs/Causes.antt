-- Each number of the instant call has one cause, on every exact layout: question 7 lets only states of the walk pass, so that nothing is asked
-- of the machine but that its words have 32 bits. (The start and the comparison ask nothing of the layout: walk_laws Causes, ComparedCauses.)
-- Letters: l the table's listing, s the machine's state, o an outcome.
use mathlib.Core.Path.{◌≡◌, ◌∙◌}
use mathlib.Core.Bool.{true}
use mathlib.Core.List.{List}
use mathlib.Core.Option.{some}
use mathlib.Core.Logic.{◌↔◌}
use Prim.Native.Nat.{ℕ, ◌≤◌, min}
use lib.Dec.{eqb, leb}
use lib.ListN.{length, length-take}
use borrow.Author.Tests.{leb-true}
use native.Mathlib.Omega.{arith}
use Rattle.listing.specs.Listing.{Listing}
use Rattle.walk.specs.State.{State}
use Rattle.walk.specs.Question7.{IsState}
use Rattle.walk.specs.Calls.{Words32, Layout, running, memory_words, first_words, Outcome, start_long_enough, instant_long_enough, instant_call}
use Rattle.walk_laws.specs.Causes.{InstantCause}
use Rattle.walk_laws.proofs.Booleans.{and_left}
use Rattle.walk_laws.proofs.Causes.{instant_exactly_if}
use Rattle.board_promises.specs.Exact.{Exact}
use Rattle.board_promises.proofs.Session.{words_of_a_part}

table_is_long : (table machine in_numbers in_values outNumbers outValues : List ℕ) →
    instant_long_enough table machine in_numbers in_values outNumbers outValues ≡ true → memory_words ≤ length table
unfolding instant_long_enough start_long_enough
table_is_long table machine in_numbers in_values outNumbers outValues e =
    leb-true memory_words (length table) (and_left (leb memory_words (length table)) _ (and_left _ (eqb (length in_numbers) (length in_values)) e))

first_words_length : (words : List ℕ) → memory_words ≤ length words → length (first_words words) ≡ memory_words
first_words_length words h = length-take memory_words words ∙ (let shorter : min memory_words (length words) ≡ memory_words = omega arith in shorter)

module _ (layout : Layout) (exact : Exact layout) (table machine : List ℕ) (small : Words32 machine)
    (t : ℕ) (in_numbers in_values outNumbers outValues : List ℕ) (allowance : ℕ)
  where
    read_states : (l : Listing) (s : State) → instant_long_enough table machine in_numbers in_values outNumbers outValues ≡ true →
        layout.read_table (first_words table) ≡ some l → layout.read_machine l (first_words machine) ≡ some (running s) → IsState l s
    read_states l s long f g =
        let size = first_words_length table (table_is_long table machine in_numbers in_values outNumbers outValues long) in
        (exact.machine l (exact.table.only (first_words table) l size f)).state_only (first_words machine) s (words_of_a_part memory_words machine small) g

    pub instant_has_one_cause : (o : Outcome) →
        (instant_call layout table machine t in_numbers in_values outNumbers outValues allowance ≡ o) ↔
        InstantCause layout table machine t in_numbers in_values outNumbers outValues allowance o
    instant_has_one_cause o = instant_exactly_if layout table machine t in_numbers in_values outNumbers outValues allowance read_states o
