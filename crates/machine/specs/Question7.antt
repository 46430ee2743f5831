-- Question 7 as the sentence it is, on the layout of docs/LAYOUT.md; proofs Question7 shows that `read_machine` decides it.
use Rattle.std.specs.Prelude.{◌≡◌, true, List, ℕ}
use Rattle.listing.specs.Listing.{Listing}
use Rattle.walk.specs.State.{State}
use Rattle.walk.specs.Question7.{IsState}
use Rattle.walk.specs.Calls.{is_stop, halted_words}
use Rattle.machine.specs.Records.{records_of}
use Rattle.machine.specs.Layout.{SlotsFor, laid_out}

-- "Is the machine memory the stopped form or, in the layout of docs/, one state of the walk on this table": the state's records stand in
-- walking order, each in a slot of its own, and every word that they do not need is 0.
pub data IsMachine (listing : Listing) (w : List ℕ) : Type 0 where
  stopped_form : (k : ℕ) → is_stop k ≡ true → w ≡ halted_words k → IsMachine listing w
  one_state : (s : State) (h : IsState listing s) (slots : List ℕ) → SlotsFor slots (records_of h.tree 0) →
      w ≡ laid_out slots s.now s.environment (records_of h.tree 0) → IsMachine listing w
