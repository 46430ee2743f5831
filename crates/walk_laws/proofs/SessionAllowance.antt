-- "allowance 10,000", of an instant: 4,999 turns of `S` and `U` are 9,998 steps; `G` and `W` make 10,000, and one `G` more 10,001.
use mathlib.Core.Path.{refl}
use Rattle.walk.proofs.SessionCases.{session, printed_in, expected_in, Prints}

pub instant_of_10000_steps_goes_through : Prints (session "an instant of 10,000 steps goes through"
    "P|1|1\nR|rr|0\nW|0\nS|1|1 #1 +\nU|#4998 1 <|1\nG|0\n"
    "I|7|0|1\nQ|9\n" "O|7|1|4999\nX|0|7\n")
unfolding printed_in expected_in
instant_of_10000_steps_goes_through = refl

pub instant_of_10001_steps_is_13 : Prints (session "an instant of 10,001 steps is 13"
    "P|1|1\nR|rr|0\nW|0\nS|1|1 #1 +\nU|#4998 1 <|1\nG|4\nG|0\n"
    "I|7|0|1\nQ|9\n" "X|13|0\n")
unfolding printed_in expected_in
instant_of_10001_steps_is_13 = refl
