-- What a machine's 12,288 words stand for on a listing: the stopped form, a state of the walk, or nothing.
use Rattle.std.specs.Prelude.{Bool, true, false, ◌&&◌, List, ℕ, get_or}
use Rattle.std.proofs.Math.Option.{Option, none, some}
use Rattle.listing.specs.Listing.{Listing}
use Rattle.walk.specs.State.{State}
use Rattle.walk.specs.Calls.{Machine, halted, running, is_stop}
use Rattle.machine.specs.Words.{zero_from, running_words, state_of}

-- "The machine's first word holds the number .., its other 12,287 words are 0"
unfoldable pub stopped_words : List ℕ → Bool
stopped_words w = is_stop (get_or w 0 0) && zero_from w 1 12287

unfoldable pub machine_by : Bool → Bool → ℕ → State → Option Machine
machine_by true b k s = some (halted k)
machine_by false true k s = some (running s)
machine_by false false k s = none

-- 7 "Is the machine memory the stopped form or, in the layout of docs/, one state of the walk on this table"
unfoldable pub read_machine : Listing → List ℕ → Option Machine
read_machine listing w = machine_by (stopped_words w) (running_words listing w) (get_or w 0 0) (state_of listing w)
