-- Cases of the session: a listing, a trace and what is printed, derived from document 01. (More in walk_cases SessionCases.)
use mathlib.Core.Path.{◌≡◌, refl}
use mathlib.Core.List.{List, [], ◌∷◌}
use Prim.Native.Nat.{ℕ}
use Prim.Native.String.{String}
use Rattle.listing.specs.Bytes.{Bytes, bytes_of}
use Rattle.listing.specs.Listing.{Listing}
use Rattle.walk.specs.State.{State}
use Rattle.walk.specs.Instant.{Write}
use Rattle.walk.specs.Calls.{start_on, instant_from}
use Rattle.walk.specs.Trace.{Script}
use Rattle.walk.specs.Session.{played, and_then, call_from, play, play_all}
use Rattle.walk.specs.Evaluation.{session_quoted}
use Rattle.walk.proofs.Cases.{shown}

-- What a case shows, its listing and trace, and what is to be printed; in each text `|` stands for a tab.
pub record SessionCase : Type 0 where
  pub shows : String
  pub listing : String
  pub trace : String
  pub prints : String

abbrev pub session : String → String → String → String → SessionCase
session shows listing trace prints = record { shows = shows; listing = listing; trace = trace; prints = prints }

unfoldable pub printed_in : List SessionCase → List Bytes
unfolding session_quoted shown
printed_in [] = []
printed_in (c ∷ cs) = session_quoted (shown c.listing) (shown c.trace) ∷ printed_in cs

unfoldable pub quoted : String → Bytes
unfolding bytes_of shown
quoted text = bytes_of (shown text)

unfoldable pub expected_in : List SessionCase → List Bytes
unfolding quoted
expected_in [] = []
expected_in (c ∷ cs) = quoted c.prints ∷ expected_in cs

-- A case comes out.
abbrev pub Prints : SessionCase → Type 0
Prints c = printed_in (c ∷ []) ≡ expected_in (c ∷ [])

-- Output 1 is due at 4, and takes the value of each press.
abbrev pub one_due : String
one_due = "P|1|1\nR|rr|0\nA|1|#4|#1\nW|0\nS|1|0\nG|1\n"

abbrev pub sessions : List SessionCase
sessions =
    session "nothing is due up to Q"
    one_due
    "Q|3\n" "X|0|0\n" ∷
    session "what is due at Q's time is made"
    one_due
    "Q|4\n" "O|4|1|1\nX|0|4\n" ∷
    session "a due instant is joined with the inputs of its time"
    one_due
    "I|4|0|7\nQ|9\n" "O|4|1|7\nX|0|4\n" ∷
    session "every due instant up to Q is made"
    "P|0|1\nR|r|0\nA|0|#3|0 #1 +\nW|0\nG|0\n"
    "Q|9\n" "O|3|0|1\nO|6|0|2\nO|9|0|3\nX|0|9\n" ∷
    session "every due instant between calls is made"
    "P|1|1\nR|rr|0\nA|1|#3|1 #1 +\nW|1\nG|0\n"
    "I|6|0|1\nI|7|0|1\nQ|8\n" "O|3|1|1\nO|6|1|2\nX|0|7\n" ∷
    session "Q below the present moment makes no call"
    one_due
    "I|6|0|5\nQ|1\n" "O|4|1|1\nO|6|1|5\nX|0|6\n" ∷
    session "neighbours of equal time form one call"
    "P|2|1\nR|rrr|0\nW|0\nS|2|0 1 +\nG|0\n"
    "I|5|0|3\nI|5|1|4\nI|6|0|1\nQ|6\n" "O|5|2|7\nO|6|2|5\nX|0|6\n" ∷
    session "one call is refused as a whole, after the due instants before it"
    one_due
    "I|6|0|5\nI|6|0|6\nQ|9\n" "O|4|1|1\nX|11|4\n" ∷
    session "times that fall are 9"
    one_due
    "I|6|0|5\nI|5|0|6\nQ|9\n" "O|4|1|1\nO|6|1|5\nX|9|6\n" ∷
    session "an input at 0 is 9"
    one_due
    "I|0|0|5\nQ|9\n" "X|9|0\n" ∷
    session "an empty trace: the start is made and printed"
    "P|0|1\nR|r|0\nS|0|#1\nE\n"
    "" "O|0|0|1\nX|2|0\n" ∷
    session "a first line out of form: the start is made and printed"
    "P|0|1\nR|r|0\nS|0|#1\nE\n"
    "Z\n" "O|0|0|1\nX|2|0\n" ∷
    session "a start that stops ends the session before the trace"
    "P|0|0\nR|-|0\nF|0\nE\n"
    "Z\n" "X|15|0\n" ∷
    session "a line after Q is 2, after Q's due instants"
    one_due
    "Q|5\nI|6|0|5\n" "O|4|1|1\nX|2|4\n" ∷
    session "a begun line after Q is 2, after Q's due instants"
    one_due
    "Q|5\nI" "O|4|1|1\nX|2|4\n" ∷
    session "a second Q is a line after Q"
    one_due
    "I|6|0|5\nQ|9\nQ|9\n" "O|4|1|1\nO|6|1|5\nX|2|6\n" ∷
    session "no Q is 2, after the call of the lines before"
    one_due
    "I|6|0|5\n" "O|4|1|1\nO|6|1|5\nX|2|6\n" ∷
    session "a line out of form is 2, after the call of the lines before"
    one_due
    "I|6|0|5\nI|6|0|-0\nQ|9\n" "O|4|1|1\nO|6|1|5\nX|2|6\n" ∷
    session "if the call of the lines before is refused, its code stands"
    one_due
    "I|0|0|5\nI|0|9|5\nI|bad\nQ|9\n" "X|9|0\n" ∷
    session "Q without its line feed is out of form: nothing due is made"
    one_due
    "Q|4" "X|2|0\n" ∷
    session "an input without its line feed is not in the call"
    one_due
    "I|6|0|5\nI|7|0|6" "O|4|1|1\nO|6|1|5\nX|2|6\n" ∷
    session "a stop ends the session at the moment of the last finished instant"
    "P|1|1\nR|rr|0\nW|0\nA|1|0|#1\nG|0\n"
    "I|2|0|3\nI|4|0|0\nI|9|0|1\nQ|9\n" "X|16|2\n" ∷
    session "a refused listing has its number"
    "P|0|1\nR|r|0\nS|1|#1\nE\n"
    "Q|9\n" "X|4|0\n" ∷
    session "sums, differences and products wrap, and < is signed"
    "P|0|11\nR|rrrrrrrrrrr|0\nS|0|#2147483647 #1 +\nS|1|#-2147483648 #1 -\nS|2|#65536 #65536 *\nS|3|#-2147483648 #-1 *\nS|4|#46341 #46341 *\nS|5|#-1 #0 <\nS|6|#0 #-1 <\nS|7|#5 #5 <\nS|8|#7 #9 -\nS|9|#-2147483648 #2147483647 <\nS|10|#1 #2 #3 #4 #5 #6 #7 #8 - - - - - - -\nE\n"
    "Q|0\n" "O|0|0|-2147483648\nO|0|1|2147483647\nO|0|2|0\nO|0|3|-2147483648\nO|0|4|-2147479015\nO|0|5|1\nO|0|6|0\nO|0|7|0\nO|0|8|-2\nO|0|9|1\nO|0|10|-4\nX|0|0\n" ∷ []

pub sessions_print_as_stated : printed_in sessions ≡ expected_in sessions
unfolding printed_in expected_in
sessions_print_as_stated = refl

-- ── "allowance 10,000" ─────────────────────────────────────────────────────────
-- The start and every instant that a session makes have it. (Starts of 10,000 and of 10,001 steps: walk_cases SessionCases; instants: walk_laws SessionAllowance.)
pub the_start_has_10000_steps : (listing : Listing) (sc : Script) → play_all listing sc ≡ and_then (played 0 0 (start_on listing 10000)) (play listing sc)
unfolding play_all
the_start_has_10000_steps listing sc = refl

pub each_instant_has_10000_steps : (listing : Listing) (t : ℕ) (inputs : List Write) (s : State)
    → call_from listing t inputs s ≡ played s.now t (instant_from listing s t inputs 10000)
unfolding call_from
each_instant_has_10000_steps listing t inputs s = refl
