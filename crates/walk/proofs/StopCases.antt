-- Cases of the stops 13 to 17 and of the refusals 1 and 8 to 12, derived from document 01.
use mathlib.Core.Path.{◌≡◌, refl}
use mathlib.Core.List.{List, [], ◌∷◌}
use Prim.Native.String.{String}
use Rattle.walk.specs.Instant.{never, moment}
use Rattle.walk.specs.Paper.{press, tick, did, turned_away}
use Rattle.walk.proofs.Cases.{Case, given, expected, case, case_with, ◌⇒◌, ◌≔◌, call, too_short_lem, pressed}

-- ── "While running, before each instruction, the first no stops the machine" ──────────────────────
-- A press puts a waiting write with the pressed value for its delay.
abbrev pub delay_from_input : String
delay_from_input = "P|1|1\nR|rr|0\nW|0\nA|1|0|#1\nE\n"

abbrev pub stops : List Case
stops =
    case "the 64th live routine runs"
    "P|0|1\nR|r|0\nF|1 0|1 0|1 0|1 0|1 0|1 0|1 0\nE\nR|r|0\nF|2 0|2 0|2 0|2 0|2 0|2 0|2 0|2 0\nE\nR|r|0\nS|0|0 #1 +\nW|0\nE\n"
    (did 120 (0 ≔ 56 ∷ []) never) [] ∷
    case "a fork to 65 is 14, and a stopped machine is refused with 8 whatever the call"
    "P|0|1\nR|r|0\nF|1 0|1 0|1 0|1 0|1 0|1 0|1 0|3\nE\nR|r|0\nF|2 0|2 0|2 0|2 0|2 0|2 0|2 0|2 0\nE\nR|r|0\nS|0|0 #1 +\nW|0\nE\nR|-|0\nE\n"
    (turned_away 14) (press 0 7 0 ⇒ turned_away 8 ∷ []) ∷
    case "room freed by an end serves the next fork: eight times eight children"
    "P|0|0\nR|-|1\nF|1|1|1|1|1|1|1|1\nS|0|0 #1 +\nU|0 #8 <|4\nG|0\nE\nR|-|0\nE\n"
    (did 96 [] never) [] ∷
    case "with 56 live, seven that ended make room for eight in the same instant"
    "P|0|1\nR|r|0\nF|1 0|1 0|1 0|1 0|1 0|1 0|3 0\nE\nR|r|0\nF|2 0|2 0|2 0|2 0|2 0|2 0|2 0|2 0\nE\nR|r|0\nW|0\nE\nR|r|0\nF|4|4|4|4|4|4|4\nF|2 0|2 0|2 0|2 0|2 0|2 0|2 0|2 0\nE\nR|-|0\nE\n"
    (did 72 [] never) [] ∷
    case "with 57 live and seven new, of which none has ended, the first forks: 14"
    "P|0|1\nR|r|0\nF|1 0|1 0|1 0|1 0|1 0|1 0|3 0|5 0\nE\nR|r|0\nF|2 0|2 0|2 0|2 0|2 0|2 0|2 0|2 0\nE\nR|r|0\nW|0\nE\nR|r|0\nF|5 0|4|4|4|4|4|4\nE\nR|-|0\nE\nR|r|0\nF|4\nE\n"
    (turned_away 14) [] ∷
    case "all 63 children end in one instant, and 63 new ones are forked in it"
    "P|1|0\nR|r|0\nF|1 0|1 0|1 0|1 0|1 0|1 0|1 0\nF|1 0|1 0|1 0|1 0|1 0|1 0|1 0\nE\nR|r|0\nF|2 0|2 0|2 0|2 0|2 0|2 0|2 0|2 0\nE\nR|r|0\nW|0\nE\n"
    (did 64 [] never) (pressed 1 1 ⇒ did 127 [] never ∷ pressed 2 1 ⇒ did 64 [] never ∷ []) ∷
    case "with 64 asleep, the first that wakes and forks stops the machine"
    "P|1|0\nR|r|0\nF|1 0|1 0|1 0|1 0|1 0|1 0|1 0\nE\nR|r|0\nF|2 0|2 0|2 0|2 0|2 0|2 0|2 0|2 0\nE\nR|r|0\nW|0\nF|3\nE\nR|-|0\nE\n"
    (did 64 [] never) (pressed 1 1 ⇒ turned_away 14 ∷ tick 2 ⇒ turned_away 8 ∷ []) ∷
    case "level 9 forks"
    "P|0|1\nR|r|0\nF|1 0\nE\nR|r|0\nS|0|0 #1 +\nU|0 #10 <|4\nF|1 0\nE\nE\n"
    (did 41 (0 ≔ 10 ∷ []) never) [] ∷
    case_with 11 "level 10 is 15"
    "P|0|0\nR|-|0\nF|0\nE\n"
    (turned_away 15) [] ∷
    case_with 10 "13 before 15: no 11th step"
    "P|0|0\nR|-|0\nF|0\nE\n"
    (turned_away 13) [] ∷
    case "14 before 15: 61 live at level 10, and six new"
    "P|0|0\nR|-|0\nF|0|1|1|1|1|1\nE\nR|-|1\nW|0\nE\n"
    (turned_away 14) [] ∷
    case "51 live at level 10, and five new, are 15"
    "P|0|0\nR|-|0\nF|0|1|1|1|1\nE\nR|-|1\nW|0\nE\n"
    (turned_away 15) [] ∷
    case "a routine woken at level 9 forks, and all join"
    "P|1|1\nR|rr|0\nF|1 0 1\nE\nR|rr|0\nS|1|1 #1 +\nU|1 #9 <|4\nF|1 0 1\nE\nW|0\nF|2\nE\nR|-|0\nE\n"
    (did 28 (1 ≔ 9 ∷ []) never) (pressed 1 1 ⇒ did 12 [] never ∷ []) ∷
    case "a routine woken at level 10 does not fork: 15"
    "P|1|1\nR|rr|0\nF|1 0 1\nE\nR|rr|0\nS|1|1 #1 +\nU|1 #10 <|4\nF|1 0 1\nE\nW|0\nF|2\nE\nR|-|0\nE\n"
    (did 31 (1 ≔ 10 ∷ []) never) (pressed 1 1 ⇒ turned_away 15 ∷ []) ∷
    case "at moment 2 to the 64 minus 1, delay 1 is 17"
    delay_from_input
    (did 1 [] never) (pressed 18446744073709551615 1 ⇒ turned_away 17 ∷ []) ∷
    case "at the last moment delay 0 is 16"
    delay_from_input
    (did 1 [] never) (pressed 18446744073709551615 0 ⇒ turned_away 16 ∷ []) ∷
    case "16 before 17: at the last moment delay -1 is 16"
    delay_from_input
    (did 1 [] never) (pressed 18446744073709551615 4294967295 ⇒ turned_away 16 ∷ []) ∷
    case "a write due at moment 2 to the 64 minus 1 is made"
    delay_from_input
    (did 1 [] never) (
    pressed 18446744073709551614 1 ⇒ did 2 [] (moment 18446744073709551615) ∷
    tick 18446744073709551615 ⇒ did 0 (1 ≔ 1 ∷ []) never ∷
    tick 18446744073709551615 ⇒ turned_away 9 ∷ []) ∷
    case "a write due at moment 2 to the 64 is 17"
    delay_from_input
    (did 1 [] never) (pressed 18446744073709551614 2 ⇒ turned_away 17 ∷ []) ∷
    case "the longest delay is taken"
    delay_from_input
    (did 1 [] never) (pressed 1 2147483647 ⇒ did 2 [] (moment 2147483648) ∷ []) ∷
    case "the least number, below 0, is 16"
    delay_from_input
    (did 1 [] never) (pressed 1 2147483648 ⇒ turned_away 16 ∷ []) ∷
    case_with 1 "13 before 16: no second step"
    "P|0|1\nR|r|0\nS|0|#1\nA|0|#0|#5\nE\n"
    (turned_away 13) [] ∷
    case_with 2 "16: the second step is there"
    "P|0|1\nR|r|0\nS|0|#1\nA|0|#0|#5\nE\n"
    (turned_away 16) [] ∷
    case_with 55 "13 before 14: no 56th step"
    "P|0|1\nR|r|0\nF|1 0|1 0|1 0|1 0|1 0|1 0|1 0|3\nE\nR|r|0\nF|2 0|2 0|2 0|2 0|2 0|2 0|2 0|2 0\nE\nR|r|0\nW|0\nE\nR|-|0\nE\n"
    (turned_away 13) [] ∷
    case_with 56 "14: the 56th step is there"
    "P|0|1\nR|r|0\nF|1 0|1 0|1 0|1 0|1 0|1 0|1 0|3\nE\nR|r|0\nF|2 0|2 0|2 0|2 0|2 0|2 0|2 0|2 0\nE\nR|r|0\nW|0\nE\nR|-|0\nE\n"
    (turned_away 14) [] ∷
    case_with 2 "exactly the allowance is enough"
    "P|0|1\nR|r|0\nS|0|#1\nE\n"
    (did 2 (0 ≔ 1 ∷ []) never) [] ∷
    case_with 1 "one step fewer is 13, and nothing is listed"
    "P|0|1\nR|r|0\nS|0|#1\nE\n"
    (turned_away 13) [] ∷
    case "waking and joining take no step: three for three ends"
    "P|1|0\nR|r|0\nF|1 0|1 0\nE\nR|r|0\nW|0\nE\n"
    (did 3 [] never) (press 1 1 3 ⇒ did 3 [] never ∷ []) ∷
    case "no step is taken where nobody wakes"
    "P|2|0\nR|rr|0\nW|0\nE\n"
    (did 1 [] never) (call 1 (1 ≔ 1 ∷ []) 1 ⇒ did 0 [] never ∷ press 2 1 1 ⇒ did 1 [] never ∷ []) ∷
    case_with 1000 "a loop without a wait is 13"
    "P|0|0\nR|-|0\nG|0\n"
    (turned_away 13) (tick 3 ⇒ turned_away 8 ∷ []) ∷ []

pub stops_come_as_stated : given stops ≡ expected stops
unfolding given expected
stops_come_as_stated = refl

-- ── the refusals of an instant call, and the start's 12 ───────────────────────────────────────────
-- Output 2 is due at 5, and takes the value of the first press.
abbrev pub two_inputs : String
two_inputs = "P|2|1\nR|rrr|0\nA|2|#5|#1\nW|0\nS|2|0\nW|0\nE\n"

abbrev pub refusals : List Case
refusals =
    case "1, 9, 10, 11, 12: the first no counts, and a refused call leaves the machine as it is"
    two_inputs
    (did 2 [] (moment 5)) (
    too_short_lem 0 (2 ≔ 7 ∷ []) 0 ⇒ turned_away 1 ∷
    call 0 (2 ≔ 7 ∷ []) 0 ⇒ turned_away 9 ∷
    call 6 (2 ≔ 7 ∷ []) 0 ⇒ turned_away 10 ∷
    call 5 (2 ≔ 7 ∷ []) 0 ⇒ turned_away 11 ∷
    press 5 7 0 ⇒ turned_away 12 ∷
    press 5 7 1000001 ⇒ turned_away 12 ∷
    press 5 7 1000000 ⇒ did 2 (2 ≔ 7 ∷ []) never ∷ []) ∷
    case "11: input numbers below i and strictly rising"
    two_inputs
    (did 2 [] (moment 5)) (
    call 1 (0 ≔ 1 ∷ 0 ≔ 2 ∷ []) 10000 ⇒ turned_away 11 ∷
    call 1 (1 ≔ 1 ∷ 0 ≔ 2 ∷ []) 10000 ⇒ turned_away 11 ∷
    call 1 (0 ≔ 1 ∷ 2 ≔ 2 ∷ []) 10000 ⇒ turned_away 11 ∷
    call 1 (4294967295 ≔ 1 ∷ []) 10000 ⇒ turned_away 11 ∷
    call 1 (0 ≔ 1 ∷ 1 ≔ 2 ∷ []) 10000 ⇒ did 2 (2 ≔ 1 ∷ []) (moment 5) ∷ []) ∷
    case "9: the present moment and earlier ones"
    two_inputs
    (did 2 [] (moment 5)) (
    tick 0 ⇒ turned_away 9 ∷
    tick 3 ⇒ did 0 [] (moment 5) ∷
    tick 3 ⇒ turned_away 9 ∷
    tick 2 ⇒ turned_away 9 ∷
    tick 4 ⇒ did 0 [] (moment 5) ∷ []) ∷
    case "10: after the due moment, and not at it"
    two_inputs
    (did 2 [] (moment 5)) (tick 6 ⇒ turned_away 10 ∷ tick 5 ⇒ did 0 (2 ≔ 1 ∷ []) never ∷ tick 6 ⇒ did 0 [] never ∷ []) ∷
    case "12: the allowance is 1 to 1,000,000"
    two_inputs
    (did 2 [] (moment 5)) (
    call 1 [] 0 ⇒ turned_away 12 ∷
    call 1 [] 1 ⇒ did 0 [] (moment 5) ∷
    call 2 [] 1000000 ⇒ did 0 [] (moment 5) ∷
    call 3 [] 1000001 ⇒ turned_away 12 ∷ []) ∷
    case_with 0 "12: a start with allowance 0"
    two_inputs
    (turned_away 12) [] ∷
    case_with 1000001 "12: a start with allowance 1,000,001"
    two_inputs
    (turned_away 12) [] ∷
    case_with 1000000 "a start with allowance 1,000,000 goes through"
    two_inputs
    (did 2 [] (moment 5)) [] ∷
    case "after a stop 1, then 8, whatever else is wrong"
    "P|1|1\nR|rr|0\nW|0\nS|1|#1\nA|1|0|#2\nE\n"
    (did 1 [] never) (
    pressed 3 0 ⇒ turned_away 16 ∷
    too_short_lem 4 (0 ≔ 0 ∷ []) 0 ⇒ turned_away 1 ∷
    pressed 4 1 ⇒ turned_away 8 ∷
    call 0 (7 ≔ 0 ∷ []) 0 ⇒ turned_away 8 ∷ []) ∷
    case "11: with no inputs there is no input number"
    "P|0|1\nR|r|0\nE\n"
    (did 1 [] never) (pressed 4 7 ⇒ turned_away 11 ∷ tick 4 ⇒ did 0 [] never ∷ []) ∷ []

pub refusals_come_as_stated : given refusals ≡ expected refusals
unfolding given expected
refusals_come_as_stated = refl
