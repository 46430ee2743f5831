-- More cases of the session: the form of a trace's lines, steps with sums, the longest texts, derived from document 01.
use mathlib.Core.Path.{◌≡◌, refl}
use mathlib.Core.List.{List, [], ◌∷◌}
use Prim.Native.Nat.{ℕ}
use lib.ListN.{replicate}
use Rattle.listing.specs.Bytes.{Bytes}
use Rattle.walk.specs.Session.{printed, session_of}
use Rattle.walk.specs.Evaluation.{session_quoted}
use Rattle.walk.proofs.SessionCases.{SessionCase, session, printed_in, quoted, expected_in, Prints, one_due}

-- ── the form of a trace's lines ───────────────────────────────────────────────────────────────────
abbrev pub forms : List SessionCase
forms =
    session "a value has no number sign before it"
    one_due
    "I|6|0|-5\nQ|9\n" "O|4|1|1\nO|6|1|-5\nX|0|6\n" ∷
    session "the least value has form"
    one_due
    "I|6|0|-2147483648\nQ|9\n" "O|4|1|1\nO|6|1|-2147483648\nX|0|6\n" ∷
    session "a value below the least is out of form"
    one_due
    "I|6|0|-2147483649\nQ|9\n" "X|2|0\n" ∷
    session "a value of 2 to the 31 is out of form"
    one_due
    "I|6|0|2147483648\nQ|9\n" "X|2|0\n" ∷
    session "an input at 2 to the 64 is out of form"
    one_due
    "I|18446744073709551616|0|1\nQ|9\n" "X|2|0\n" ∷
    session "Q at 2 to the 64 is out of form"
    one_due
    "Q|18446744073709551616\n" "X|2|0\n" ∷
    session "Q at 2 to the 64 minus 1 has form, and is reached"
    "P|1|1\nR|rr|0\nW|0\nA|1|0|#1\nE\n"
    "I|18446744073709551614|0|1\nQ|18446744073709551615\n" "O|18446744073709551615|1|1\nX|0|18446744073709551615\n" ∷
    session "an input number of 32 bits has form and is 11"
    one_due
    "I|6|4294967295|5\nQ|9\n" "O|4|1|1\nX|11|4\n" ∷
    session "Q has one field"
    one_due
    "Q|9|9\n" "X|2|0\n" ∷
    session "Q has a time"
    one_due
    "Q\n" "X|2|0\n" ∷
    session "an input line has three fields, not two"
    one_due
    "I|6|0\nQ|9\n" "X|2|0\n" ∷
    session "nor four"
    one_due
    "I|6|0|1|1\nQ|9\n" "X|2|0\n" ∷
    session "no leading zero"
    one_due
    "I|06|0|1\nQ|9\n" "X|2|0\n" ∷
    session "no plus"
    one_due
    "I|6|0|+1\nQ|9\n" "X|2|0\n" ∷
    session "no number sign"
    one_due
    "I|6|0|#1\nQ|9\n" "X|2|0\n" ∷
    session "no space"
    one_due
    "I|6 |0|1\nQ|9\n" "X|2|0\n" ∷
    session "no second tab"
    one_due
    "I||6|0|1\nQ|9\n" "X|2|0\n" ∷
    session "no empty line"
    one_due
    "\nQ|9\n" "X|2|0\n" ∷
    session "no carriage return"
    one_due
    "Q|9\r\n" "X|2|0\n" ∷
    session "no other letter"
    one_due
    "P|6|0|1\nQ|9\n" "X|2|0\n" ∷
    session "an input number of 33 bits is out of form"
    one_due
    "I|6|4294967296|5\nQ|9\n" "X|2|0\n" ∷ []

pub forms_are_as_stated : printed_in forms ≡ expected_in forms
unfolding printed_in expected_in
forms_are_as_stated = refl

-- ── "allowance 10,000" ────────────────────────────────────────────────────────────────────────────
-- 4,999 turns of `S` and `U` are 9,998 steps; `G` and `E` make 10,000, and one `G` more 10,001.
pub start_of_10000_steps_with_sums_goes_through : Prints (session "a start of 10,000 steps goes through"
    "P|0|1\nR|r|0\nS|0|0 #1 +\nU|#4998 0 <|0\nG|3\nE\n"
    "Q|9\n" "O|0|0|4999\nX|0|0\n")
unfolding printed_in expected_in
start_of_10000_steps_with_sums_goes_through = refl

pub start_of_10001_steps_with_sums_is_13 : Prints (session "a start of 10,001 steps is 13"
    "P|0|1\nR|r|0\nS|0|0 #1 +\nU|#4998 0 <|0\nG|3\nG|4\nE\n"
    "Q|9\n" "X|13|0\n")
unfolding printed_in expected_in
start_of_10001_steps_with_sums_is_13 = refl

-- 909 turns of eleven instructions, but for the last `G`, are 9,998 steps; `S` before and `E` after make 10,000, and one `G` more 10,001.
pub start_of_10000_steps_goes_through : Prints (session "a start of 10,000 steps goes through"
    "P|0|1\nR|r|0\nS|0|#909\nG|2\nG|3\nG|4\nG|5\nG|6\nG|7\nG|8\nG|9\nS|0|0 #1 -\nU|0|12\nG|1\nE\n"
    "Q|9\n" "O|0|0|0\nX|0|0\n")
unfolding printed_in expected_in
start_of_10000_steps_goes_through = refl

pub start_of_10001_steps_is_13 : Prints (session "a start of 10,001 steps is 13"
    "P|0|1\nR|r|0\nS|0|#909\nG|2\nG|3\nG|4\nG|5\nG|6\nG|7\nG|8\nG|9\nS|0|0 #1 -\nU|0|12\nG|1\nG|13\nE\n"
    "Q|9\n" "X|13|0\n")
unfolding printed_in expected_in
start_of_10001_steps_is_13 = refl

-- ── "Before loading, a listing over 49,152 bytes has code 3, else a trace over 49,152 code 2." ────
-- So many spaces.
abbrev pub spaces : ℕ → Bytes
spaces n = replicate n 32

-- The start of the second listing would write output 0.
pub long-texts-are-refused :
    printed (session_of (spaces 49153) (spaces 49153)) ∷ printed (session_of (quoted "P|0|1\nR|r|0\nS|0|#1\nE\n") (spaces 49153)) ∷ []
    ≡ quoted "X|3|0\n" ∷ quoted "X|2|0\n" ∷ []
unfolding session_quoted quoted
long-texts-are-refused = refl

-- 49,152 bytes are not over: such a listing is loaded (and out of form), with such a trace the start is made.
pub longest-texts-are-taken :
    printed (session_of (spaces 49152) []) ∷
    printed (session_of (quoted "P|0|1\nR|r|0\nS|0|#1\nE\n") (spaces 49152)) ∷ []
    ≡ quoted "X|2|0\n" ∷ quoted "O|0|0|1\nX|2|0\n" ∷ []
unfolding session_quoted quoted
longest-texts-are-taken = refl
