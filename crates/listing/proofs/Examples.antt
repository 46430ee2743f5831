-- Loading by computation: listings A and B, and a table of texts with the number and place that document 01 gives each.
use mathlib.Core.Path.{◌≡◌, refl}
use mathlib.Core.Bool.{true}
use mathlib.Core.List.{List, [], ◌∷◌, ◌++◌, map}
use Prim.Native.Nat.{ℕ, zero, suc}
use Prim.Native.String.{String}
use lib.ListN.{replicate}
use Rattle.listing.specs.Lists.{first_no}
use Rattle.listing.specs.Bytes.{Bytes, bytes_of}
use Rattle.listing.specs.Listing.{Instruction, jump, wait, fork, end, Line, opens, instruction}
use Rattle.listing.specs.Limits.{limit_answers}
use Rattle.listing.specs.Text.{text_of}
use Rattle.listing.specs.Load.{loading_number, loading_place, loading, Loads}
use Rattle.listing.specs.WellFormed.{well_formed}
use Rattle.listing.specs.Evaluation.{load, write}
use Rattle.listing.specs.Paper.{text_a, text_b, listing_a, listing_b}
use Rattle.listing.proofs.Determine.{loads_exactly_if}

-- ── listings A and B ─────────────────────────────────────────────────────────────
pub A-loads : Loads (bytes_of text_a) listing_a
unfolding load bytes_of text_a listing_a
A-loads = refl

pub B-loads : Loads (bytes_of text_b) listing_b
unfolding load bytes_of text_b listing_b
B-loads = refl

pub A-is_written : text_of listing_a ≡ bytes_of text_a
unfolding write bytes_of text_a listing_a
A-is_written = refl

pub B-is_written : text_of listing_b ≡ bytes_of text_b
unfolding write bytes_of text_b listing_b
B-is_written = refl

pub A-is_well_formed : well_formed listing_a ≡ true
A-is_well_formed = ((loads_exactly_if (bytes_of text_a) listing_a).0 A-loads).1

pub B-is_well_formed : well_formed listing_b ≡ true
B-is_well_formed = ((loads_exactly_if (bytes_of text_b) listing_b).0 B-loads).1

-- ── a text, and the number and place that loading it gives ───────────────────────
record Case : Type 0 where
  pub text : Bytes
  pub number : ℕ
  pub place : ℕ

infix 70 ◌gives◌at◌
◌gives◌at◌ : String → ℕ → ℕ → Case
◌gives◌at◌ text number place = record { text = bytes_of text; number = number; place = place }

cases : List Case
cases =
    -- question 2: a line feed closes each line
    "" gives 2 at 1
    ∷ "P\t0\t0" gives 2 at 1
    ∷ "\n" gives 2 at 1
    ∷ "P\t0\t0\nR\t-\t0\nE" gives 2 at 3
    ∷ "P\t0\t0\nR\t-\t0\nE\n\n" gives 2 at 4
    ∷ "P\t0\t0\nR\t-\t0\nX\nE" gives 2 at 3
    -- question 2: where `P` and `R` stand
    ∷ "R\t-\t0\nE\n" gives 2 at 1
    ∷ "E\n" gives 2 at 1
    ∷ "P\t0\t0\nE\n" gives 2 at 2
    ∷ "P\t0\t0\nP\t0\t0\n" gives 2 at 2
    ∷ "P\t0\t0\nR\t-\t0\nP\t0\t0\nE\n" gives 2 at 3
    -- question 2: fields by one tab, pieces by one space, a letter alone
    ∷ "P\t0\t0\t0\n" gives 2 at 1
    ∷ "P\t0\n" gives 2 at 1
    ∷ "P 0 0\n" gives 2 at 1
    ∷ "P\t\t0\n" gives 2 at 1
    ∷ "p\t0\t0\n" gives 2 at 1
    ∷ "PP\t0\t0\n" gives 2 at 1
    ∷ "P\t0 0\t0\n" gives 2 at 1
    ∷ "P\t0\t0\r\n" gives 2 at 1
    ∷ "P\t0\t0\nR\t-\t1\nW\t0  0\nE\n" gives 2 at 3
    ∷ "P\t0\t0\nR\t-\t1\nW\t0 \nE\n" gives 2 at 3
    ∷ "P\t0\t0\nR\t-\t1\nW\t\t0\nE\n" gives 2 at 3
    ∷ "P\t0\t0\nR\t-\t0\nE\t\n" gives 2 at 3
    ∷ "P\t0\t0\nR\t-\t0\nX\n" gives 2 at 3
    -- question 2: figures
    ∷ "P\t00\t0\n" gives 2 at 1
    ∷ "P\t-1\t0\n" gives 2 at 1
    ∷ "P\t+1\t0\n" gives 2 at 1
    ∷ "P\t1a\t0\n" gives 2 at 1
    ∷ "P\t0\t0\nR\t-\t01\nE\n" gives 2 at 2
    ∷ "P\t0\t0\nR\t-\t0\nG\t00\n" gives 2 at 3
    -- question 2: kinds
    ∷ "P\t0\t0\nR\t\t0\nE\n" gives 2 at 2
    ∷ "P\t0\t0\nR\t-r\t0\nE\n" gives 2 at 2
    ∷ "P\t0\t0\nR\t--\t0\nE\n" gives 2 at 2
    ∷ "P\t1\t0\nR\tR\t0\nE\n" gives 2 at 2
    ∷ "P\t2\t0\nR\tr r\t0\nE\n" gives 2 at 2
    -- question 2: pieces of an expression
    ∷ "P\t0\t0\nR\t-\t1\nS\t0\t#2147483648\nE\n" gives 2 at 3
    ∷ "P\t0\t0\nR\t-\t1\nS\t0\t#-2147483649\nE\n" gives 2 at 3
    ∷ "P\t0\t0\nR\t-\t1\nS\t0\t#4294967296\nE\n" gives 2 at 3
    ∷ "P\t0\t0\nR\t-\t1\nS\t0\t#-0\nE\n" gives 2 at 3
    ∷ "P\t0\t0\nR\t-\t1\nS\t0\t#00\nE\n" gives 2 at 3
    ∷ "P\t0\t0\nR\t-\t1\nS\t0\t#+1\nE\n" gives 2 at 3
    ∷ "P\t0\t0\nR\t-\t1\nS\t0\t#\nE\n" gives 2 at 3
    ∷ "P\t0\t0\nR\t-\t1\nS\t0\t#-\nE\n" gives 2 at 3
    ∷ "P\t0\t0\nR\t-\t1\nS\t0\t@\nE\n" gives 2 at 3
    ∷ "P\t0\t0\nR\t-\t1\nS\t0\t@#1\nE\n" gives 2 at 3
    ∷ "P\t0\t0\nR\t-\t1\nS\t0\t-1\nE\n" gives 2 at 3
    ∷ "P\t0\t0\nR\t-\t1\nS\t0\t#1 +1\nE\n" gives 2 at 3
    ∷ "P\t0\t0\nR\t-\t1\nS\t0\t0 0 //\nE\n" gives 2 at 3
    ∷ "P\t0\t0\nR\t-\t1\nS\t0\t0 0 %%\nE\n" gives 2 at 3
    ∷ "P\t0\t0\nR\t-\t1\nS\t-0\t#1\nE\n" gives 2 at 3
    -- question 2: an expression leaves one value and never holds more than 8
    ∷ "P\t0\t0\nR\t-\t1\nS\t0\t\nE\n" gives 2 at 3
    ∷ "P\t0\t0\nR\t-\t1\nS\t0\t#1 #2\nE\n" gives 2 at 3
    ∷ "P\t0\t0\nR\t-\t1\nS\t0\t0 +\nE\n" gives 2 at 3
    ∷ "P\t0\t0\nR\t-\t1\nS\t0\t+ 0 0\nE\n" gives 2 at 3
    ∷ "P\t0\t0\nR\t-\t1\nS\t0\t0 + 0\nE\n" gives 2 at 3
    ∷ "P\t0\t0\nR\t-\t1\nS\t0\t0 - 0\nE\n" gives 2 at 3
    ∷ "P\t0\t0\nR\t-\t1\nS\t0\t0 * 0\nE\n" gives 2 at 3
    ∷ "P\t0\t0\nR\t-\t1\nS\t0\t0 < 0\nE\n" gives 2 at 3
    ∷ "P\t0\t0\nR\t-\t1\nS\t0\t/ 0\nE\n" gives 2 at 3
    ∷ "P\t0\t0\nR\t-\t1\nS\t0\t0 /\nE\n" gives 2 at 3
    ∷ "P\t0\t0\nR\t-\t1\nS\t0\t0 % 0\nE\n" gives 2 at 3
    ∷ "P\t0\t0\nR\t-\t1\nS\t0\t0 0 0 0 0 0 0 0 0 / / / / % % % %\nE\n" gives 2 at 3
    ∷ "P\t0\t0\nR\t-\t1\nS\t0\t#1 #1 #1 #1 #1 #1 #1 #1 #1 + + + + + + + +\nE\n" gives 2 at 3
    ∷ "P\t0\t0\nR\t-\t1\nS\t0\t@0 @0 @0 @0 @0 @0 @0 @0 @0 - - - - - - - -\nE\n" gives 2 at 3
    ∷ "P\t0\t0\nR\t-\t1\nS\t0\t0 0 0 0 0 0 0 0 + 0 0 + + + + + + + +\nE\n" gives 2 at 3
    ∷ "P\t0\t0\nR\t-\t1\nS\t0\t0 0 0 0 0 0 0 0 0 + + + + + + + +\nE\n" gives 2 at 3
    ∷ "P\t0\t0\nR\t-\t1\nS\t0\t0 0 0 0 0 0 0 0 + + + + + + +\nE\n" gives 0 at 0
    ∷ "P\t0\t0\nR\t-\t1\nS\t0\t0 0 0 0 0 0 0 0 / / / % % % %\nE\n" gives 0 at 0
    -- question 2: 1 to 4 names, 1 to 8 children
    ∷ "P\t0\t0\nR\t-\t1\nW\nE\n" gives 2 at 3
    ∷ "P\t0\t0\nR\t-\t1\nW\t0 0 0 0 0\nE\n" gives 2 at 3
    ∷ "P\t0\t0\nR\t-\t1\nW\t0 0 0 0\nE\n" gives 0 at 0
    ∷ "P\t0\t0\nR\t-\t0\nF\nE\n" gives 2 at 3
    ∷ "P\t0\t0\nR\t-\t0\nF\t0\t0\t0\t0\t0\t0\t0\t0\t0\nE\n" gives 2 at 3
    ∷ "P\t0\t0\nR\t-\t0\nF\t0\t0\t0\t0\t0\t0\t0\t0\nE\n" gives 0 at 0
    -- question 3: 16 names a routine; no figure wraps
    ∷ "P\t0\t0\nR\t-\t4294967296\nE\n" gives 3 at 2
    ∷ "P\t0\t0\nR\t-\t17\nE\n" gives 3 at 2
    ∷ "P\t0\t0\nR\t-\t16\nE\n" gives 0 at 0
    ∷ "P\t17\t0\nR\trrrrrrrrrrrrrrrrr\t0\nE\n" gives 3 at 2
    ∷ "P\t9\t7\nR\trrrrrrrrrrrrrrrr\t0\nE\n" gives 0 at 0
    -- question 4: main as stated; no figure and no sum wraps
    ∷ "P\t0\t0\n" gives 4 at 1
    ∷ "P\t17\t3\n" gives 4 at 1
    ∷ "P\t1\t1\nR\tr\t0\nE\n" gives 4 at 2
    ∷ "P\t1\t1\nR\trv\t0\nE\n" gives 4 at 2
    ∷ "P\t0\t0\nR\tr\t0\nE\n" gives 4 at 2
    ∷ "P\t4294967297\t0\nR\tr\t0\nE\n" gives 4 at 2
    ∷ "P\t4294967295\t2\nR\tr\t0\nE\n" gives 4 at 2
    ∷ "P\t1\t0\nR\t-\t0\nG\t5\n" gives 4 at 2
    -- question 4: names, jumps, routines, argument counts
    ∷ "P\t0\t0\nR\t-\t1\nS\t1\t#-2147483648 0 <\nE\n" gives 4 at 3
    ∷ "P\t0\t0\nR\t-\t1\nS\t0\t1\nE\n" gives 4 at 3
    ∷ "P\t0\t0\nR\t-\t1\nS\t0\t@1\nE\n" gives 4 at 3
    ∷ "P\t0\t0\nR\t-\t1\nA\t0\t1\t#1\nE\n" gives 4 at 3
    ∷ "P\t0\t0\nR\t-\t1\nA\t0\t#1\t1\nE\n" gives 4 at 3
    ∷ "P\t0\t0\nR\t-\t1\nA\t1\t#1\t#1\nE\n" gives 4 at 3
    ∷ "P\t0\t0\nR\t-\t1\nU\t1\t0\nE\n" gives 4 at 3
    ∷ "P\t0\t0\nR\t-\t1\nU\t0\t2\nE\n" gives 4 at 3
    ∷ "P\t0\t0\nR\t-\t1\nW\t0 1\nE\n" gives 4 at 3
    ∷ "P\t0\t0\nR\t-\t0\nG\t1\n" gives 4 at 3
    ∷ "P\t0\t0\nR\t-\t0\nG\t4294967296\n" gives 4 at 3
    ∷ "P\t0\t0\nR\t-\t0\nF\t1\nE\n" gives 4 at 3
    ∷ "P\t0\t0\nR\t-\t0\nF\t4294967296\nE\n" gives 4 at 3
    ∷ "P\t0\t0\nR\t-\t1\nF\t0 0\nE\n" gives 4 at 3
    ∷ "P\t0\t0\nR\t-\t1\nF\t1\nE\nR\tr\t0\nE\n" gives 4 at 3
    ∷ "P\t0\t0\nR\t-\t1\nF\t1 1\nE\nR\tr\t0\nE\n" gives 4 at 3
    -- question 5: every routine has a line, the last `E` or `G`
    ∷ "P\t0\t0\nR\t-\t1\n" gives 5 at 2
    ∷ "P\t0\t0\nR\t-\t1\nW\t0\n" gives 5 at 3
    ∷ "P\t0\t0\nR\t-\t0\nE\nR\tv\t0\nR\t-\t0\nE\n" gives 5 at 4
    ∷ "P\t0\t0\nR\t-\t1\nE\nU\t0\t0\n" gives 5 at 4
    ∷ "P\t0\t0\nR\t-\t1\nS\t0\t#1\n" gives 5 at 3
    ∷ "P\t0\t0\nR\t-\t1\nA\t0\t#1\t#1\n" gives 5 at 3
    ∷ "P\t0\t0\nR\t-\t0\nF\t0\n" gives 5 at 3
    ∷ "P\t0\t0\nR\t-\t1\nW\t0\nR\t-\t0\n" gives 5 at 3
    ∷ "P\t0\t0\nR\t-\t0\nG\t0\n" gives 0 at 0
    -- each question is put to the whole listing before the next
    ∷ "P\t0\t0\nR\t-\t17\nE\nX\n" gives 2 at 4
    ∷ "P\t0\t0\nR\t-\t0\nG\t7\nR\t-\t17\nE\n" gives 3 at 4
    ∷ "P\t0\t0\nR\t-\t0\nR\t-\t0\nG\t7\n" gives 4 at 4
    -- allowed
    ∷ "P\t0\t0\nR\t-\t0\nE\n" gives 0 at 0
    ∷ "P\t1\t0\nR\tr\t1\nW\t0 0\nF\t1 0 0\t1 0 1\t0 1\nE\nE\nR\trv\t0\nG\t0\nR\tvvv\t0\nE\n" gives 0 at 0
    ∷ "P\t0\t1\nR\tr\t0\nS\t0\t#-2147483648 #2147483647 - @0 *\nE\n" gives 0 at 0
    ∷ "P\t1\t1\nR\trr\t0\nS\t1\t0 1 /\nS\t0\t#7 #-2 %\nE\n" gives 0 at 0
    ∷ []

-- ── longer texts ─────────────────────────────────────────────────────────────────
repeated : ℕ → String → Bytes
repeated zero text = []
repeated (suc n) text = bytes_of text ++ repeated n text

case : Bytes → ℕ → ℕ → Case
case text number place = record { text = text; number = number; place = place }

long_cases : List Case
long_cases =
    -- 64 routines
    case (bytes_of "P\t0\t0\n" ++ repeated 64 "R\t-\t0\nE\n") 0 0
    ∷ case (bytes_of "P\t0\t0\n" ++ repeated 65 "R\t-\t0\nE\n") 3 130
    -- 512 instructions in all; a limit passed late comes before a name that is not there
    ∷ case (bytes_of "P\t0\t0\nR\t-\t0\n" ++ repeated 512 "E\n") 0 0
    ∷ case (bytes_of "P\t0\t0\nR\t-\t0\n" ++ repeated 513 "E\n") 3 515
    ∷ case (bytes_of "P\t0\t0\nR\t-\t0\n" ++ repeated 513 "W\t0\n") 3 515
    -- a name of a thousand digits has form
    ∷ case (bytes_of "P\t0\t0\nR\t-\t1\nS\t" ++ repeated 1000 "7" ++ bytes_of "\t#1\nE\n") 4 3
    -- a byte 0
    ∷ case (bytes_of "P\t0\t0\nR\t-\t0\nE" ++ 0 ∷ 10 ∷ []) 2 3
    -- a byte that is not ASCII
    ∷ case (bytes_of "P\t0\t0\nR\t-\t0\nE" ++ 200 ∷ 10 ∷ []) 2 3
    ∷ []

-- what loading each text into a table that is long enough gives
found : Case → ℕ × ℕ
found case = let outcome = loading true case.text in (loading_number outcome, loading_place outcome)

stated : Case → ℕ × ℕ
stated case = (case.number, case.place)

the_cases_agree : map found (cases ++ long_cases) ≡ map stated (cases ++ long_cases)
unfolding cases long_cases ◌gives◌at◌ repeated case found stated bytes_of load loading_number loading_place
the_cases_agree = refl

-- ── limits on lines given as records ─────────────────────────────────────────────
-- a fork of 8 children with 16 arguments each has 136 pieces
big_fork : Instruction
big_fork = fork (replicate 8 (record { callee = 0; arguments = replicate 16 0 }))

-- 30 such forks and 4 waits on 4 names have 4,096 pieces
many_pieces : List Line
many_pieces = map instruction (replicate 30 big_fork ++ replicate 4 (wait (replicate 4 0)))

-- the place, where the bytes of the lines are as given
passed_at : List Bytes → List Line → ℕ
passed_at texts lines = first_no (limit_answers texts lines)

limits-agree :
    passed_at (replicate 35 []) (many_pieces ++ instruction end ∷ [])
    ∷ passed_at (replicate 35 []) (many_pieces ++ instruction (jump 0) ∷ [])
    -- 49,152 bytes with the line feeds; then the line that holds byte 49,153
    ∷ passed_at (replicate 24575 0 ∷ replicate 24575 0 ∷ []) (replicate 2 (instruction end))
    ∷ passed_at (replicate 24575 0 ∷ replicate 24575 0 ∷ [] ∷ []) (replicate 3 (instruction end))
    ∷ passed_at (replicate 24575 0 ∷ replicate 24576 0 ∷ [] ∷ []) (replicate 3 (instruction end))
    -- of several limits the first line where any is passed counts
    ∷ passed_at (replicate 49152 0 ∷ [] ∷ []) (instruction end ∷ opens [] 17 ∷ [])
    ∷ passed_at ([] ∷ replicate 49152 0 ∷ []) (opens [] 17 ∷ instruction end ∷ [])
    ∷ [] ≡ 0 ∷ 35 ∷ 0 ∷ 3 ∷ 2 ∷ 1 ∷ 1 ∷ []
unfolding passed_at many_pieces big_fork limit_answers load
limits-agree = refl
