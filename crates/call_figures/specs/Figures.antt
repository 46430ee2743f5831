-- What the figures of a call say.
use Rattle.std.specs.Prelude.{Bool, true, false, ◌≡◌, ℕ, zero, suc, ◌≤◌}
use Rattle.walk.specs.Instant.{NextDue, never, moment}
use Rattle.walk.specs.Promises.{Result}
use Rattle.call_figures.specs.declared.FabrwentCall.{FabrwentCall}

-- "the next moment due or none": 0 says none
unfoldable pub due_in_lem : ℕ → ℕ → NextDue
due_in_lem zero due = never
due_in_lem (suc known) due = moment due

-- What the figures of a start or an instant call say.
unfoldable pub result_in : FabrwentCall → Result
result_in r = record { number = r.number; place = r.place; steps = r.steps; listed = r.listed; due = due_in_lem r.due_known r.due }

-- 1 and the moment due; or 0 and 0
pub record DueTold (r : FabrwentCall) : Type 0 where
  pub known : r.due_known ≤ 1
  pub none : r.due_known ≡ 0 → r.due ≡ 0

unfoldable pub bit : Bool → ℕ
bit true = 1
bit false = 0
