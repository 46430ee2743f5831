-- What the walk sees of a board's calls is told by what they were handed, if table and machine are long enough: no call changes a length.
use mathlib.Core.Path.{◌≡◌, refl, sym, ap, ap₂, ◌∙◌}
use mathlib.Core.Bool.{Bool, true, ◌&&◌}
use mathlib.Core.List.{List, [], ◌∷◌, ◌++◌, map}
use Prim.Native.Nat.{ℕ, suc, ◌+◌, ◌-◌, ◌≤◌}
use lib.Dec.{leb, eqb}
use lib.ListN.{length, drop, replicate, length-append, length-drop, length-replicate}
use borrow.Author.Tests.{le-leb}
use native.Mathlib.Omega.{arith}
use Rattle.walk.specs.Calls.{Layout, memory_words, output_places, halted_words, later_words, Outcome, MachineAfter, untouched, halts, runs, inputs_of, start_long_enough, instant_long_enough}
use Rattle.walk.specs.Runs.{InstantCall}
use Rattle.walk.specs.Boards.{BoardCall, BoardCalls, no_more, and_then, CallArguments, arguments_of, as_instant_call, as_instant_calls}

unfoldable pub seen_as : CallArguments → InstantCall
seen_as a =
    record {
      long_enough = (leb output_places (length a.numbers) && leb output_places (length a.values)) && eqb (length a.in_numbers) (length a.in_values);
      time = a.time;
      inputs = inputs_of a.in_numbers a.in_values;
      allowance = a.allowance;
    }

behind : (n : ℕ) (words : List ℕ) (first : List ℕ) → length first ≡ n → n ≤ length words → length (first ++ drop n words) ≡ length words
behind n words first e h = length-append first (drop n words) ∙ (let l = length-drop n words in let sum : length first + length (drop n words) ≡ length words = omega (arith, l, e, h) in sum)

halted_length : (k n : ℕ) → length (k ∷ replicate n 0) ≡ suc n
halted_length k n = ap suc (length-replicate {A = ℕ} n 0)

pub length_stays : {layout : Layout} {table before after : List ℕ} {o : Outcome} → memory_words ≤ length before → MachineAfter layout table before after o →
    length after ≡ length before
unfolding halted_words
length_stays h (untouched e) = ap (λ (w : List ℕ). length w) e
length_stays {before = before} h (halts {k = k} e) = ap (λ (w : List ℕ). length w) e ∙ behind memory_words before (k ∷ replicate 12287 0) (halted_length k 12287) h
length_stays h (runs t r z a b) = a

both_long : (table machine : List ℕ) (c : BoardCall) → memory_words ≤ length table → memory_words ≤ length machine →
    as_instant_call table machine c ≡ seen_as (arguments_of c)
unfolding as_instant_call arguments_of seen_as instant_long_enough start_long_enough
both_long table machine c h k = rw (le-leb memory_words (length table) h, le-leb memory_words (length machine) k)

pub calls_seen : {layout : Layout} (table machine : List ℕ) (cs : List BoardCall) → memory_words ≤ length table → memory_words ≤ length machine →
    BoardCalls layout table machine cs → as_instant_calls table machine cs ≡ map (λ (a : CallArguments). seen_as a) (map arguments_of cs)
unfolding as_instant_calls
calls_seen table machine _ h k no_more = refl
calls_seen table machine _ h k (and_then {c = c} {cs = cs} p small rest) =
    let l = length_stays k p.machine_is in
    ap₂ ◌∷◌ (both_long table machine c h k) (calls_seen table c.machine_after cs h (omega (arith, l, k)) rest)
