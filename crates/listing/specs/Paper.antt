-- Listings A and B of document 01, "Sessions on paper": their texts and what they say.
use Rattle.std.specs.Prelude.{List, [], ◌∷◌, ℕ}
use Prim.Native.String.{String}
use Rattle.listing.specs.Listing.{literal, value_of, Call, Instruction, assign, schedule, jump, wait, fork, end, by_reference, Routine, Listing}

-- "Listing A: `P|1|1`, `R|rr|0`, `W|0`, `S|1|#1`, `A|1|#60000|#0`, `W|1`, `G|0`."
unfoldable pub text_a : String
text_a = "P\t1\t1\nR\trr\t0\nW\t0\nS\t1\t#1\nA\t1\t#60000\t#0\nW\t1\nG\t0\n"

-- "Listing B: `P|1|1`; `R|rr|1`, `F|1 0 2|2 2 1`, `E`; `R|rr|0`, `W|0`, `S|1|0`, `E`; `R|rr|0`, `W|0`, `S|1|#7`, `E`."
unfoldable pub text_b : String
text_b = "P\t1\t1\nR\trr\t1\nF\t1 0 2\t2 2 1\nE\nR\trr\t0\nW\t0\nS\t1\t0\nE\nR\trr\t0\nW\t0\nS\t1\t#7\nE\n"

-- a routine with two arguments by reference
abbrev pub two_references : ℕ → List Instruction → Routine
two_references locals code = record { kinds = by_reference ∷ by_reference ∷ []; locals = locals; code = code }

-- a call with two arguments
abbrev pub call_with : ℕ → ℕ → ℕ → Call
call_with routine m n = record { callee = routine; arguments = m ∷ n ∷ [] }

unfoldable pub listing_a : Listing
listing_a = record {
  inputs = 1;
  outputs = 1;
  routines = two_references 0 (
      wait (0 ∷ [])
      ∷ assign 1 (literal 1 ∷ [])
      ∷ schedule 1 (literal 60000 ∷ []) (literal 0 ∷ [])
      ∷ wait (1 ∷ [])
      ∷ jump 0 ∷ []) ∷ [];
}

unfoldable pub listing_b : Listing
listing_b = record {
  inputs = 1;
  outputs = 1;
  routines =
      two_references 1 (fork (call_with 1 0 2 ∷ call_with 2 2 1 ∷ []) ∷ end ∷ [])
      ∷ two_references 0 (wait (0 ∷ []) ∷ assign 1 (value_of 0 ∷ []) ∷ end ∷ [])
      ∷ two_references 0 (wait (0 ∷ []) ∷ assign 1 (literal 7 ∷ []) ∷ end ∷ []) ∷ [];
}
