-- Words of 32 bits, put together: a memory's first words, and the words that stay behind them.
use mathlib.Core.Path.{◌≡◌, refl, sym, ap, ◌∙◌}
use mathlib.Core.Bool.{true}
use mathlib.Core.List.{List, [], ◌∷◌, ◌++◌}
use mathlib.Core.Option.{some}
use Prim.Native.Nat.{ℕ, zero, suc, ◌+◌, ◌-◌, ◌≤◌, ◌<◌}
use lib.ListN.{length, get_or, drop, replicate, length-append, length-drop, get_or-append}
use lib.Seq.{take_at, drop_at, get_or-drop, get_or-take}
use native.Mathlib.Omega.{arith}
use Rattle.listing.specs.Listing.{Listing}
use Rattle.walk.specs.State.{State}
use Rattle.walk.specs.Question7.{IsState}
use Rattle.walk.specs.Calls.{Words32, Layout, running, is_stop, halted_words, memory_words, first_words, later_words}
use Rattle.board_promises.specs.Exact.{ExactMachine, MachineWords}
use Rattle.walk_laws.proofs.Answers.{stop_is_word}

pub words_of_both : (xs ys : List ℕ) → Words32 xs → Words32 ys → Words32 (xs ++ ys)
words_of_both [] ys a b k = b k
words_of_both (x ∷ xs) ys a b zero = a 0
words_of_both (x ∷ xs) ys a b (suc k) = words_of_both xs ys (λ j. a (suc j)) b k

pub words_behind : (n : ℕ) (words : List ℕ) → Words32 words → Words32 (drop n words)
words_behind n words small k = rw (get_or-drop n words k 0) (small (n + k))

zeros_are_words : (n : ℕ) → Words32 (replicate n 0)
zeros_are_words zero k = omega arith
zeros_are_words (suc n) zero = omega arith
zeros_are_words (suc n) (suc k) = zeros_are_words n k

number_then : (k : ℕ) (words : List ℕ) → k < 4294967296 → Words32 words → Words32 (k ∷ words)
number_then k words h small zero = h
number_then k words h small (suc j) = small j

pub halted_are_words : (k : ℕ) → is_stop k ≡ true → Words32 (halted_words k)
unfolding halted_words
halted_are_words k h = number_then k (replicate 12287 0) (stop_is_word k h) (zeros_are_words 12287)

-- A memory that is long enough can hold any state of the walk: words for it, and behind them what stood there.
pub record Holding (layout : Layout) (listing : Listing) (before : List ℕ) (s : State) : Type 0 where
  pub after : List ℕ
  pub reads : layout.read_machine listing (first_words after) ≡ some (running s)
  pub first : get_or after 0 0 ≡ 0
  pub long : length after ≡ length before
  pub later : later_words after ≡ later_words before
  pub words32 : Words32 after

module _ (layout : Layout) (listing : Listing) (exact : ExactMachine layout listing) where
  put_before : (before words : List ℕ) (s : State) → memory_words ≤ length before → Words32 before → length words ≡ memory_words → Words32 words →
      layout.read_machine listing words ≡ some (running s) → Holding layout listing before s
  put_before before words s enough small long words32 reads =
      let back : first_words (words ++ later_words before) ≡ words = take_at words (later_words before) memory_words long in
      record {
        after = words ++ later_words before;
        reads = rw back reads;
        first = get_or-append words (later_words before) 0 0 (omega (arith, long)) ∙ exact.running_first words s reads;
        long = length-append words (later_words before) ∙ lengths;
        later = drop_at words (later_words before) memory_words long;
        words32 = words_of_both words (later_words before) words32 (words_behind memory_words before small);
      }
    where
      lengths : length words + length (later_words before) ≡ length before
      lengths = let behind = length-drop memory_words before in omega (arith, behind, long, enough)

  pub memory_holds : (before : List ℕ) (s : State) → memory_words ≤ length before → Words32 before → IsState listing s → Holding layout listing before s
  memory_holds before s enough small h =
      let w = exact.state_every s h in put_before before w.words s enough small w.long w.words32 w.reads
