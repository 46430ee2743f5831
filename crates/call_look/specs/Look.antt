-- A look at a machine: its present moment and its next moment due, for whoever finds a machine and knows neither, as after a power cut.
-- Document 01 has no such call. "Every engine call begins with 1"; then come 6, 7 and 8, in the words and the order that it has for the others. Nothing is written.
use Rattle.std.specs.Prelude.{Bool, true, false, ◌&&◌, List, ℕ, leb, length}
use Rattle.std.proofs.Math.Option.{Option, none, some}
use Rattle.listing.specs.Listing.{Listing}
use Rattle.walk.specs.Instant.{NextDue, next_due}
use Rattle.walk.specs.Calls.{Layout, Machine, halted, running, memory_words, first_words}

-- Refused under a number, or the present moment and "the next moment due or none".
pub data Looked : Type 0 where
  not_seen_lem : ℕ → Looked
  seen : ℕ → NextDue → Looked

-- 8 "Is the machine unstopped?"
unfoldable pub seen_unstopped : Machine → Looked
seen_unstopped (halted k) = not_seen_lem 8
seen_unstopped (running s) = seen s.now (next_due s)

-- 7 "Is the machine memory the stopped form or .. one state of the walk on this table?"
unfoldable pub seen_machine : Option Machine → Looked
seen_machine none = not_seen_lem 7
seen_machine (some m) = seen_unstopped m

-- 6 "Is the table one that loading some listing leaves?"
unfoldable pub seen_table : Layout → Option Listing → List ℕ → Looked
seen_table layout none machine = not_seen_lem 6
seen_table layout (some listing) machine = seen_machine (layout.read_machine listing (first_words machine))

-- 1 "Are the lent memories long enough? Table 12,288 words of 32 bits, machine 12,288"
unfoldable pub ask_looked : Bool → Looked → Looked
ask_looked true next = next
ask_looked false next = not_seen_lem 1

unfoldable pub look_call : Layout → List ℕ → List ℕ → Looked
look_call layout table machine =
    ask_looked (leb memory_words (length table) && leb memory_words (length machine)) (seen_table layout (layout.read_table (first_words table)) machine)
