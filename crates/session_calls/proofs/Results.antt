-- What an answer and a next moment due tell, by their cases. Letters: d a next moment due, a an answer.
use mathlib.Core.Path.{◌≡◌, refl, sym, ◌∙◌}
use mathlib.Core.Logic.{◌≢◌}
use mathlib.Core.Bool.{false}
use Prim.Native.Nat.{ℕ, suc, ◌≤◌, ◌<◌}
use borrow.Author.Tests.{le-ltb}
use native.Mathlib.Omega.{arith}
use Rattle.walk.specs.Calls.{due_before}
use Rattle.call_conclude.specs.Answers.{Answer, due_of, result_of}
use Rattle.walk.specs.Promises.{Result}
use Rattle.session_calls.specs.Clock.{Soon, due_at_lem, none_due}
use Rattle.session_calls.specs.Calls.{Tells}
use Rattle.session_calls.specs.Calls as specs
use Rattle.session_calls.specs.declared.clock.Clock.{Clock}
use Rattle.session_calls.specs.declared.calls.Called.TheVariants.{Ended, Went}
use Rattle.call_conclude.specs.declared.answers.Due.{Due}
use Rattle.call_conclude.specs.declared.answers.Due.TheVariants.{Never, At}
use Rattle.call_conclude.specs.declared.answers.Figures.{Figures}
use Rattle.call_conclude.specs.declared.answers.Failure.{Failure}
use Rattle.call_conclude.specs.Failures.{number_of}
use Rattle.std.specs.Prelude.{Ok, Err}

pub soon_at : (d : Due) (m t : ℕ) → d ≡ At m → m < t → Soon (due_of d) t (At m)
unfolding due_of
soon_at d m t e l = due_at_lem {m = m} (rw e) l

pub soon_late : (d : Due) (m t : ℕ) → d ≡ At m → t ≤ m → Soon (due_of d) t Never
unfolding due_of due_before
soon_late d m t e l = none_due (rw e (le-ltb m t l))

pub soon_never : (d : Due) (t : ℕ) → d ≡ Never → Soon (due_of d) t Never
unfolding due_of due_before
soon_never d t e = none_due (rw e)

-- ── an answer's number, listed outputs and next moment due ────────────────────────────────────────
abbrev Gives : Answer → ℕ → ℕ → Due → Type 0
Gives a number listed due = (number ≡ (result_of a).number) × (listed ≡ (result_of a).listed) × (due_of due ≡ (result_of a).due)

pub failed_tells : (a : Answer) (failure : Failure) (k : ℕ) → a ≡ Err failure → k ≡ number_of failure → Gives a k 0 Never
unfolding due_of result_of
failed_tells a failure k e f = rw e (f, refl, refl)

pub done_tells : (a : Answer) (f : Figures) → a ≡ Ok f → Gives a 0 f.listed f.due
unfolding due_of result_of
done_tells a f e = rw e (refl, refl, refl)

-- ── what came of a call ───────────────────────────────────────────────────────────────────────────
pub tells_end : (result : Result) (t number : ℕ) → number ≡ result.number → number ≢ 0 → Tells result t (Ended number)
tells_end result t number e some = specs.Tells.ended e some

pub tells_went : (result : Result) (t number listed : ℕ) (clock : Clock) → number ≡ result.number → number ≡ 0 → listed ≡ result.listed → due_of clock.due ≡ result.due →
    clock.now ≡ t → Tells result t (Went clock listed)
tells_went result t number listed clock e none same due at = specs.Tells.went (sym e ∙ none) at due same
