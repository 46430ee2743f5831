-- Cases of `/` and `%` and of the stop 18, derived from document 02, Change 2.
use mathlib.Core.Path.{◌≡◌, refl}
use mathlib.Core.List.{List, [], ◌∷◌}
use Prim.Native.String.{String}
use Rattle.walk.specs.Instant.{never, moment}
use Rattle.walk.specs.Paper.{tick, did, turned_away}
use Rattle.walk.proofs.SessionCases.{SessionCase, session, printed_in, expected_in, Prints}
use Rattle.walk.proofs.Cases.{Case, given, expected, case, case_with, ◌⇒◌, ◌≔◌, call, pressed}

-- ── "`/` and `%`, rounding toward zero, the remainder with the dividend's sign" ───────────────────
-- Two values are pressed at once; the outputs are their quotient and remainder.
abbrev pub shares : String
shares = "P|2|2\nR|rrrr|0\nW|0\nS|2|0 1 /\nS|3|0 1 %\nG|0\n"

abbrev pub quotients : List Case
quotients =
    case "7 by -2 is -3, and 1 is left; -7 by 2 is -3, and -1 is left"
    shares
    (did 1 [] never) (
    call 1 (0 ≔ 7 ∷ 1 ≔ 4294967294 ∷ []) 10000 ⇒ did 4 (2 ≔ 4294967293 ∷ 3 ≔ 1 ∷ []) never ∷
    call 2 (0 ≔ 4294967289 ∷ 1 ≔ 2 ∷ []) 10000 ⇒ did 4 (2 ≔ 4294967293 ∷ 3 ≔ 4294967295 ∷ []) never ∷
    call 3 (0 ≔ 4294967289 ∷ 1 ≔ 4294967294 ∷ []) 10000 ⇒ did 4 (2 ≔ 3 ∷ 3 ≔ 4294967295 ∷ []) never ∷ []) ∷
    case "-2147483648 divided by -1 wraps to itself and its remainder is 0: no stop"
    shares
    (did 1 [] never) (
    call 1 (0 ≔ 2147483648 ∷ 1 ≔ 4294967295 ∷ []) 10000 ⇒ did 4 (2 ≔ 2147483648 ∷ 3 ≔ 0 ∷ []) never ∷
    call 2 (0 ≔ 5 ∷ 1 ≔ 2147483648 ∷ []) 10000 ⇒ did 4 (2 ≔ 0 ∷ 3 ≔ 5 ∷ []) never ∷
    call 3 (0 ≔ 0 ∷ 1 ≔ 4294967295 ∷ []) 10000 ⇒ did 4 (2 ≔ 0 ∷ 3 ≔ 0 ∷ []) never ∷ []) ∷ []

pub quotients_come_as_stated : given quotients ≡ expected quotients
unfolding given expected
quotients_come_as_stated = refl

-- ── "18: is every divisor other than 0? Asked at `S` and `U` after 13, and at `A` before 16, delay first." ──
abbrev pub divisors : List Case
divisors =
    case "by 0 is 18, at `S`, and then 8"
    shares
    (did 1 [] never) (call 1 (0 ≔ 7 ∷ 1 ≔ 0 ∷ []) 10000 ⇒ turned_away 18 ∷ tick 2 ⇒ turned_away 8 ∷ []) ∷
    case_with 1 "13 before 18: no second step"
    "P|0|1\nR|r|0\nG|1\nS|0|#1 #0 /\nE\n"
    (turned_away 13) [] ∷
    case "18 at `U`, and of a remainder"
    "P|0|1\nR|r|0\nU|#1 #0 %|1\nE\n"
    (turned_away 18) [] ∷
    case "18 of the delay"
    "P|0|1\nR|r|0\nA|0|#1 #0 /|#1\nE\n"
    (turned_away 18) [] ∷
    case "18 of the value before 16: the delay is 0"
    "P|0|1\nR|r|0\nA|0|#0|#1 #0 /\nE\n"
    (turned_away 18) [] ∷
    case "18 of the value before 17"
    "P|1|1\nR|rr|0\nW|0\nA|1|0|#1 #0 %\nE\n"
    (did 1 [] never) (pressed 18446744073709551615 1 ⇒ turned_away 18 ∷ []) ∷
    case "16 if both expressions have a value"
    "P|0|1\nR|r|0\nA|0|#0 #3 /|#1 #1 /\nE\n"
    (turned_away 16) [] ∷
    case "every divisor met counts: the first is 0, the last is not"
    "P|0|1\nR|r|0\nS|0|#1 #0 / #2 /\nE\n"
    (turned_away 18) [] ∷
    case "a value that does not matter counts too"
    "P|0|1\nR|r|0\nS|0|#1 #0 / #0 *\nE\n"
    (turned_away 18) [] ∷
    case "a dividend of 0 is no divisor"
    "P|0|1\nR|r|0\nS|0|#0 #5 /\nE\n"
    (did 2 (0 ≔ 0 ∷ []) never) [] ∷
    case "an instruction that is not reached does not stop"
    "P|0|1\nR|r|0\nU|#0|2\nS|0|#1 #0 /\nE\n"
    (did 2 [] never) [] ∷
    case "18 is asked of what stands before the write"
    "P|0|1\nR|r|0\nS|0|#1\nS|0|#1 0 / #1 -\nE\n"
    (did 3 (0 ≔ 0 ∷ []) never) [] ∷
    case "what was written before in the instant is not reported"
    "P|1|1\nR|rr|0\nS|1|#7\nW|0\nS|1|#8\nS|1|#1 #0 /\nE\n"
    (did 2 (1 ≔ 7 ∷ []) never) (pressed 5 1 ⇒ turned_away 18 ∷ []) ∷ []

pub divisors_come_as_stated : given divisors ≡ expected divisors
unfolding given expected
divisors_come_as_stated = refl

-- "`X|code|moment`": the moment of the last finished instant
abbrev pub ends_with18 : SessionCase
ends_with18 =
    session "a session ends with 18 at the moment of the instant before"
    "P|1|1\nR|rr|0\nW|0\nS|1|#12 0 /\nG|0\n"
    "I|3|0|5\nI|7|0|0\nQ|9\n" "O|3|1|2\nX|18|3\n"

pub session_ends_with_18 : Prints ends_with18
unfolding printed_in expected_in
session_ends_with_18 = refl
