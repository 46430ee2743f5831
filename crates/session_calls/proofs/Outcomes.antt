-- The outcomes of the session's calls: where the memories are long enough, those of the walk. A refusal and a stop have a number, and a call that goes through leaves its moment.
-- Letters: l the listing, s the state, o an outcome, d what was done.
use mathlib.Core.Path.{◌≡◌, refl}
use mathlib.Core.Bool.{Bool, true, false, ◌&&◌}
use mathlib.Core.List.{List, [], ◌∷◌}
use mathlib.Core.Option.{some}
use Prim.Native.Nat.{ℕ, ◌≤◌}
use lib.Dec.{eqb, leb}
use lib.ListN.{length}
use borrow.Author.Tests.{le-leb, eq-eqb}
use native.Mathlib.Omega.{arith}
use Rattle.listing.specs.Listing.{Listing}
use Rattle.walk.specs.State.{State, Turn, Result, stop, ok, ◌>>=◌}
use Rattle.walk.specs.Instant.{Write, Done, finish, start, instant}
use Rattle.walk.specs.Question7.{IsState}
use Rattle.walk.specs.Calls.{Layout, Outcome, refused, stopped, done, running, first_words, ask, found, unstopped, answered, start_long_enough, instant_long_enough, inputs_of, start_on, instant_from, start_call, instant_call}
use Rattle.walk_laws.proofs.Answers.{Answered, start_answers, instant_answers}
use Rattle.walk_laws.proofs.Answers as Answers

-- ── numbers ───────────────────────────────────────────────────────────────────────────────────────
pub data Numbered : Outcome → Type 0 where
  by_refusal : {k : ℕ} → 1 ≤ k → Numbered (refused k)
  by_stop : {k : ℕ} → 1 ≤ k → Numbered (stopped k)
  without : {d : Done} → Numbered (done d)

ask_numbered : (k : ℕ) → 1 ≤ k → (b : Bool) (next : Outcome) → Numbered next → Numbered (ask k b next)
unfolding ask
ask_numbered k l true next n = n
ask_numbered k l false next n = by_refusal l

answer_numbered : (r : Result Done) → Answered r → Numbered (answered r)
unfolding answered
answer_numbered _ Answers.done = without
answer_numbered _ (Answers.stopped k h) = by_stop {k = k} (Answers.stop_is_not_0 k h)

pub start_numbered : (l : Listing) (allowance : ℕ) → Numbered (start_on l allowance)
unfolding start_on
start_numbered l allowance = ask_numbered 12 (omega arith) _ _ (answer_numbered _ (start_answers l allowance))

pub instant_numbered : (l : Listing) (s : State) (t : ℕ) (inputs : List Write) (allowance : ℕ) → IsState l s → Numbered (instant_from l s t inputs allowance)
unfolding instant_from
instant_numbered l s t inputs allowance h =
    ask_numbered 9 (omega arith) _ _ (ask_numbered 10 (omega arith) _ _ (ask_numbered 11 (omega arith) _ _ (ask_numbered 12 (omega arith) _ _
    (answer_numbered _ (instant_answers l s t inputs allowance h)))))

-- ── moments ───────────────────────────────────────────────────────────────────────────────────────
-- An outcome that went through left this moment.
pub data Moved (t : ℕ) : Outcome → Type 0 where
  refuses : {k : ℕ} → Moved t (refused k)
  stops : {k : ℕ} → Moved t (stopped k)
  moves : {d : Done} → d.state.now ≡ t → Moved t (done d)

finish_moves : (l : Listing) (t allowance : ℕ) (r : Result Turn) → Moved t (answered (r >>= finish l t allowance))
unfolding ◌>>=◌ finish answered
finish_moves l t allowance (stop k) = stops
finish_moves l t allowance (ok a) = moves refl

ask_moves : (t k : ℕ) (b : Bool) (next : Outcome) → Moved t next → Moved t (ask k b next)
unfolding ask
ask_moves t k true next m = m
ask_moves t k false next m = refuses

pub start_moves : (l : Listing) (allowance : ℕ) → Moved 0 (start_on l allowance)
unfolding start_on start
start_moves l allowance = ask_moves 0 12 _ _ (finish_moves l 0 allowance _)

pub instant_moves : (l : Listing) (s : State) (t : ℕ) (inputs : List Write) (allowance : ℕ) → Moved t (instant_from l s t inputs allowance)
unfolding instant_from instant
instant_moves l s t inputs allowance = ask_moves t 9 _ _ (ask_moves t 10 _ _ (ask_moves t 11 _ _ (ask_moves t 12 _ _ (finish_moves l t allowance _))))

-- ── calls on memories that are long enough ────────────────────────────────────────────────────────
module _ (layout : Layout) (table machine outNumbers outValues : List ℕ) (l : Listing) (t-long : 12288 ≤ length table) (m-long : 12288 ≤ length machine)
    (n-long : 16 ≤ length outNumbers) (v-long : 16 ≤ length outValues) (reads : layout.read_table (first_words table) ≡ some l) where
  long : start_long_enough table machine outNumbers outValues ≡ true
  unfolding start_long_enough
  long = rw (le-leb 12288 (length table) t-long, le-leb 12288 (length machine) m-long, le-leb 16 (length outNumbers) n-long, le-leb 16 (length outValues) v-long)

  pub start_is : (allowance : ℕ) → start_call layout table machine outNumbers outValues allowance ≡ start_on l allowance
  unfolding start_call ask found
  start_is allowance = rw (long, reads)

  pub instant_is : (s : State) (t : ℕ) (in_numbers in_values : List ℕ) (allowance : ℕ) → length in_numbers ≡ length in_values →
      layout.read_machine l (first_words machine) ≡ some (running s) →
      instant_call layout table machine t in_numbers in_values outNumbers outValues allowance ≡ instant_from l s t (inputs_of in_numbers in_values) allowance
  unfolding instant_call instant_long_enough ask found unstopped
  instant_is s t in_numbers in_values allowance e m = rw (long, eq-eqb (length in_numbers) (length in_values) e, reads, m)
