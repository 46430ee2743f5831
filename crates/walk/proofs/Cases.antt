-- Cases of the walk: listings with calls and what is to be seen of them, derived from document 01.
-- Here the form of a case, and the tables on slips, visits and waiting writes.
use mathlib.Core.Path.{◌≡◌, refl}
use mathlib.Core.Bool.{cond, false, true}
use mathlib.Core.List.{List, [], ◌∷◌, map}
use Prim.Native.Nat.{ℕ}
use Prim.Native.Char.{code}
use Prim.Native.String as Str
use Prim.Native.String.{String}
use lib.Dec.{eqb}
use Rattle.walk.specs.Instant.{Write, never, moment}
use Rattle.walk.specs.Runs.{InstantCall}
use Rattle.walk.specs.Evaluation.{Seen, calls_quoted}
use Rattle.walk.specs.Paper.{press, tick, did, turned_away}

-- ── the form of a case ────────────────────────────────────────────────────────────────────────────
-- Texts are written as document 01 shows them: "fields parted by one tab (shown here as `|`)".
unfoldable pub shown : String → String
shown Str.[] = Str.[]
shown (Str.◌∷◌ character text) = Str.◌∷◌ (cond (eqb (code character) (code "|")) "\t" character) (shown text)

-- A call with what is to be seen of it.
pub record Exchange : Type 0 where
  pub call : InstantCall
  pub seen : Seen

-- What a case shows, a listing, the start's allowance, what is to be seen of the start, and the calls after it.
pub record Case : Type 0 where
  pub shows : String
  pub listing : String
  pub allowance : ℕ
  pub start : Seen
  pub exchanges : List Exchange

-- The answers that the definitions give, and those of the case.
unfoldable pub given : List Case → List (List Seen)
unfolding calls_quoted shown
given [] = []
given (c ∷ cs) =
    calls_quoted (shown c.listing) c.allowance (map (λ (e : Exchange). e.call) c.exchanges) ∷ given cs

unfoldable pub expected : List Case → List (List Seen)
expected [] = []
expected (c ∷ cs) = (c.start ∷ map (λ (e : Exchange). e.seen) c.exchanges) ∷ expected cs

-- ── short ways to write cases ─────────────────────────────────────────────────────────────────────
abbrev pub case_with : ℕ → String → String → Seen → List Exchange → Case
case_with allowance shows listing start exchanges =
    record { shows = shows; listing = listing; allowance = allowance; start = start; exchanges = exchanges }

abbrev pub case : String → String → Seen → List Exchange → Case
case = case_with 10000

infix 85 ◌⇒◌
abbrev pub ◌⇒◌ : InstantCall → Seen → Exchange
c ⇒ s = record { call = c; seen = s }

infix 90 ◌≔◌
abbrev pub ◌≔◌ : ℕ → ℕ → Write
n ≔ v = record { number = n; value = v }

-- Any call; one whose memories are too short; a press of input 0 with allowance 10,000.
abbrev pub call : ℕ → List Write → ℕ → InstantCall
call t inputs allowance = record { long_enough = true; time = t; inputs = inputs; allowance = allowance }

abbrev pub too_short_lem : ℕ → List Write → ℕ → InstantCall
too_short_lem t inputs allowance = record { long_enough = false; time = t; inputs = inputs; allowance = allowance }

abbrev pub pressed : ℕ → ℕ → InstantCall
pressed t v = press t v 10000

-- ── "Slips that a queue invites" ──────────────────────────────────────────────────────────────────
abbrev pub slips : List Case
slips =
    case "room used again within an instant shows neither the dead routine's mark nor its waiting write"
    "P|0|1\nR|r|0\nF|1\nF|2 0\nE\nR|-|1\nS|0|#5\nA|0|#2|#6\nE\nR|r|1\nS|0|@1 1 + #100 +\nW|1\nS|0|#1\nE\n"
    (did 7 (0 ≔ 100 ∷ []) never) (tick 2 ⇒ did 0 [] never ∷ []) ∷
    case "an earlier sibling is not woken, neither late nor in the next instant"
    "P|1|1\nR|rr|1\nF|1 2 1|2 0 2\nE\nR|rr|0\nW|0\nS|1|1 #1 +\nG|0\nR|rr|0\nW|0\nS|1|#1\nG|0\n"
    (did 3 [] never) (pressed 1 1 ⇒ did 3 [] never ∷ pressed 2 1 ⇒ did 3 [] never ∷ tick 3 ⇒ did 0 [] never ∷ []) ∷
    case "a parent writes after its join at its own place: it wakes the later sibling alone"
    "P|1|2\nR|rrr|1\nF|1 3 1|2 0 3|1 3 2\nE\nR|rr|0\nW|0\nS|1|1 #1 +\nG|0\nR|rr|0\nF|3 0|3 0\nS|1|#1\nE\nR|r|0\nW|0\nE\n"
    (did 6 [] never) (pressed 9 4 ⇒ did 7 (2 ≔ 1 ∷ []) never ∷ tick 10 ⇒ did 0 [] never ∷ []) ∷
    case "a wait on one name twice is passed once"
    "P|1|1\nR|rr|0\nW|0 0\nS|1|1 #1 +\nG|0\n"
    (did 1 [] never) (pressed 1 4 ⇒ did 3 (1 ≔ 1 ∷ []) never ∷ pressed 2 4 ⇒ did 3 (1 ≔ 2 ∷ []) never ∷ []) ∷
    case "a replaced waiting write is not due at its old moment, the new one being later"
    "P|0|1\nR|r|0\nA|0|#5|#1\nA|0|#7|#2\nE\n"
    (did 3 [] (moment 7)) (tick 5 ⇒ did 0 [] (moment 7) ∷ tick 8 ⇒ turned_away 10 ∷ tick 7 ⇒ did 0 (0 ≔ 2 ∷ []) never ∷ []) ∷
    case "a replaced waiting write is not due at its old moment, the new one being earlier"
    "P|0|1\nR|r|0\nA|0|#7|#1\nA|0|#5|#2\nE\n"
    (did 3 [] (moment 5)) (tick 6 ⇒ turned_away 10 ∷ tick 5 ⇒ did 0 (0 ≔ 2 ∷ []) never ∷ tick 7 ⇒ did 0 [] never ∷ []) ∷
    case "a join is made though the last child ends before its first sleep"
    "P|0|1\nR|r|0\nF|1|1\nS|0|#3\nE\nR|-|0\nE\n"
    (did 5 (0 ≔ 3 ∷ []) never) [] ∷
    case "a join is made in the instant in which the last child ends"
    "P|1|1\nR|rr|0\nF|1 0|2\nS|1|#3\nE\nR|r|0\nW|0\nE\nR|-|0\nE\n"
    (did 3 [] never) (pressed 4 1 ⇒ did 3 (1 ≔ 3 ∷ []) never ∷ []) ∷ []

pub slips_are_avoided : given slips ≡ expected slips
unfolding given expected
slips_are_avoided = refl

-- ── rules 2 and 3: the visit, a routine's run, marks, names and values ────────────────────────────
abbrev pub visits : List Case
visits =
    case "a wait reached now sleeps, though the call wrote its name"
    "P|1|1\nR|rr|0\nW|0\nW|0\nS|1|#1\nE\n"
    (did 1 [] never) (pressed 1 1 ⇒ did 1 [] never ∷ pressed 2 1 ⇒ did 2 (1 ≔ 1 ∷ []) never ∷ []) ∷
    case "a wait reached now sleeps, though the routine itself wrote its name"
    "P|0|1\nR|r|1\nS|1|#1\nW|1\nS|0|#1\nE\n"
    (did 2 [] never) (tick 3 ⇒ did 0 [] never ∷ []) ∷
    case "a write wakes a later sibling, which waits on two names"
    "P|1|1\nR|rr|1\nF|1 0 2|2 0 2 1\nE\nR|rr|0\nW|0\nS|1|0\nE\nR|rrr|0\nW|2 1\nS|2|1\nE\n"
    (did 3 [] never) (pressed 6 9 ⇒ did 5 (1 ≔ 9 ∷ []) never ∷ []) ∷
    case "outputs rise by number, with their final values; one not written is not listed"
    "P|1|3\nR|rrrr|0\nS|3|#7\nS|1|#5\nS|3|#8\nE\n"
    (did 4 (1 ≔ 5 ∷ 3 ≔ 8 ∷ []) never) [] ∷
    case "all v values are copied before the first child runs"
    "P|0|1\nR|r|1\nS|1|#4\nF|1 1|2 1 0\nE\nR|r|0\nS|0|#9\nE\nR|vr|0\nS|1|0\nE\n"
    (did 7 (0 ≔ 4 ∷ []) never) [] ∷
    case "a v holds the passed value, is not written, and is the child's own"
    "P|0|3\nR|rrr|1\nS|3|#4\nF|1 3 0 1\nS|2|3\nE\nR|vrr|0\nS|1|0\nS|2|@0\nS|0|#9\nE\n"
    (did 8 (0 ≔ 4 ∷ 1 ≔ 0 ∷ 2 ≔ 4 ∷ []) never) [] ∷
    case "a mark is 1 in the instant of the write alone"
    "P|2|1\nR|rrr|0\nS|2|@0\nW|0 1\nS|2|@0\nG|1\n"
    (did 2 (2 ≔ 0 ∷ []) never) (
    pressed 1 5 ⇒ did 3 (2 ≔ 1 ∷ []) never ∷
    call 2 (1 ≔ 5 ∷ []) 10000 ⇒ did 3 (2 ≔ 0 ∷ []) never ∷
    call 3 (0 ≔ 5 ∷ 1 ≔ 5 ∷ []) 10000 ⇒ did 3 (2 ≔ 1 ∷ []) never ∷ []) ∷
    case "the mark of an own variable is 1 in the instant of the write alone"
    "P|1|1\nR|rr|1\nS|2|#1\nS|1|@2\nW|0\nS|1|@2\nE\n"
    (did 3 (1 ≔ 1 ∷ []) never) (pressed 1 5 ⇒ did 2 (1 ≔ 0 ∷ []) never ∷ []) ∷
    case "routine 0 may be forked, as an ordinary child"
    "P|1|1\nR|rr|1\nU|0|2\nE\nS|2|#1\nF|0 2 1\nS|1|#5\nE\n"
    (did 7 (1 ≔ 5 ∷ []) never) [] ∷
    case "an input written by the program wakes and is marked, and is not listed"
    "P|1|1\nR|rr|0\nS|0|#3\nA|0|#2|#4\nS|1|@0\nW|0\nS|1|0\nE\n"
    (did 4 (1 ≔ 1 ∷ []) (moment 2)) (tick 2 ⇒ did 2 (1 ≔ 4 ∷ []) never ∷ []) ∷
    case "U goes if the value is 0, else not"
    "P|0|2\nR|rr|0\nU|#0|2\nS|0|#1\nU|#-1|4\nS|1|#1\nE\n"
    (did 4 (1 ≔ 1 ∷ []) never) [] ∷
    case "new children run in order"
    "P|0|1\nR|r|0\nF|1 0|2 0\nE\nR|r|0\nS|0|#3\nE\nR|r|0\nS|0|0 #2 *\nE\n"
    (did 6 (0 ≔ 6 ∷ []) never) [] ∷
    case "names lead through two forks to the environment and to the variables on the way"
    "P|1|1\nR|rr|1\nS|2|#5\nF|1 2 1\nE\nR|vr|1\nS|2|#20\nF|2 2 0 1\nE\nR|vrr|0\nS|1|0 1 +\nS|2|1 0 -\nE\n"
    (did 9 (1 ≔ 5 ∷ []) never) [] ∷ []

pub visits_go_as_stated : given visits ≡ expected visits
unfolding given expected
visits_go_as_stated = refl

-- ── rules 1 and 4: waiting writes ─────────────────────────────────────────────────────────────────
abbrev pub waiting_writes : List Case
waiting_writes =
    case "S leaves the waiting write there"
    "P|0|1\nR|r|0\nA|0|#5|#1\nS|0|#4\nE\n"
    (did 3 (0 ≔ 4 ∷ []) (moment 5)) (tick 5 ⇒ did 0 (0 ≔ 1 ∷ []) never ∷ []) ∷
    case "due writes are made and gone before the inputs are written, on the same variable too"
    "P|1|1\nR|rr|0\nA|0|#5|#8\nW|0\nS|1|0\nW|0\nS|1|#1\nE\n"
    (did 2 [] (moment 5)) (pressed 5 2 ⇒ did 2 (1 ≔ 2 ∷ []) never ∷ tick 6 ⇒ did 0 [] never ∷ []) ∷
    case "all that is due at t is made, and nothing else"
    "P|0|3\nR|rrr|0\nA|0|#4|#1\nA|1|#3|#2\nA|2|#4|#3\nE\n"
    (did 4 [] (moment 3)) (
    tick 4 ⇒ turned_away 10 ∷
    tick 3 ⇒ did 0 (1 ≔ 2 ∷ []) (moment 4) ∷
    tick 4 ⇒ did 0 (0 ≔ 1 ∷ 2 ≔ 3 ∷ []) never ∷
    tick 5 ⇒ did 0 [] never ∷ []) ∷
    case "main's own variable vanishes with its waiting write; the environment lives on after main's end"
    "P|1|1\nR|rr|1\nA|1|#5|#8\nA|2|#3|#1\nE\n"
    (did 3 [] (moment 5)) (
    pressed 4 7 ⇒ did 0 [] (moment 5) ∷
    tick 5 ⇒ did 0 (1 ≔ 8 ∷ []) never ∷
    tick 6 ⇒ did 0 [] never ∷ []) ∷
    case "an ended child's waiting write vanishes; a live child's is due though nobody waits on it"
    "P|1|0\nR|r|0\nF|1|2 0\nE\nR|-|1\nA|0|#3|#7\nE\nR|r|1\nA|1|#4|#7\nW|0\nE\n"
    (did 5 [] (moment 4)) (tick 5 ⇒ turned_away 10 ∷ tick 4 ⇒ did 0 [] never ∷ pressed 5 1 ⇒ did 2 [] never ∷ []) ∷
    case "a due write on a child's own variable wakes the child"
    "P|0|1\nR|r|0\nF|1 0\nE\nR|r|1\nA|1|#4|#6\nW|1\nS|0|1\nE\n"
    (did 3 [] (moment 4)) (tick 4 ⇒ did 3 (0 ≔ 6 ∷ []) never ∷ []) ∷
    case "the next moment due is the earliest of the environment, the routines and their children"
    "P|0|1\nR|r|1\nA|1|#9|#1\nA|0|#8|#2\nF|1|2\nE\nR|-|1\nA|0|#7|#3\nW|0\nE\nR|-|1\nA|0|#4|#5\nW|0\nE\n"
    (did 7 [] (moment 4)) (
    tick 4 ⇒ did 1 [] (moment 7) ∷
    tick 7 ⇒ did 2 [] (moment 8) ∷
    tick 8 ⇒ did 0 (0 ≔ 2 ∷ []) never ∷ []) ∷
    case "a write with an equal value is listed, at once or due"
    "P|0|2\nR|rr|0\nS|0|#0\nA|1|#2|#0\nE\n"
    (did 3 (0 ≔ 0 ∷ []) (moment 2)) (tick 2 ⇒ did 0 (1 ≔ 0 ∷ []) never ∷ []) ∷
    case "two names of one variable have one mark and one waiting write"
    "P|0|1\nR|r|0\nF|1 0 0\nE\nR|rr|0\nS|0|#2\nS|1|0 1 + @0 +\nA|1|#3|#1\nA|0|#1|0\nW|1 0\nS|1|1 #1 +\nE\n"
    (did 6 (0 ≔ 5 ∷ []) (moment 1)) (tick 1 ⇒ did 3 (0 ≔ 6 ∷ []) never ∷ tick 3 ⇒ did 0 [] never ∷ []) ∷
    case "a waiting write has the value and the delay of the moment of its A"
    "P|0|1\nR|r|1\nS|1|#5\nA|0|1|1\nS|1|#6\nW|0\nE\n"
    (did 4 [] (moment 5)) (tick 5 ⇒ did 1 (0 ≔ 5 ∷ []) never ∷ []) ∷ []

pub waiting_writes_go_as_stated : given waiting_writes ≡ expected waiting_writes
unfolding given expected
waiting_writes_go_as_stated = refl
