-- What a session knows between two calls, and what is due.
use Rattle.std.specs.Prelude.{◌≡◌, List, false, ℕ, ◌<◌}
use Rattle.std.proofs.Math.Option.{some}
use Rattle.listing.specs.Listing.{Listing}
use Rattle.walk.specs.State.{State}
use Rattle.walk.specs.Instant.{NextDue, moment, next_due}
use Rattle.walk.specs.Calls.{Words32, running, first_words, due_before}
use Rattle.layout.specs.Layout.{layout}
use Rattle.call_conclude.specs.Answers.{due_of}
use Rattle.call_conclude.specs.declared.answers.Due.{Due}
use Rattle.call_conclude.specs.declared.answers.Due.TheVariants.{Never, At}
use Rattle.session_calls.specs.declared.clock.Clock.{Clock}

-- Of a next moment due: that moment if it is before t, or none.
pub data Soon (due : NextDue) (t : ℕ) : Due → Type 0 where
  due_at_lem : {m : ℕ} → due ≡ moment m → m < t → Soon due t (At m)
  none_due : due_before due t ≡ false → Soon due t Never

-- The table stands for the listing and the machine for a state, and the clock tells its moment and its next moment due.
pub record Runs (table machine : List ℕ) (clock : Clock) (l : Listing) (s : State) : Type 0 where
  pub of_table : layout.read_table (first_words table) ≡ some l
  pub of_machine : layout.read_machine l (first_words machine) ≡ some (running s)
  pub words : Words32 machine
  pub present : clock.now ≡ s.now
  pub due : due_of clock.due ≡ next_due s
