-- From words in place to the scan, and from the tests to question 7's answer.
use mathlib.Core.Path.{◌≡◌, refl}
use mathlib.Core.Bool.{Bool, true, false}
use mathlib.Core.List.{List}
use Prim.Native.Nat.{ℕ, ◌+◌}
use native.Mathlib.Omega.{arith}
use lib.ListN.{get_or}
use Rattle.walk.specs.Instant.{environment_size}
use Rattle.table.specs.Decode.{word, table_listing}
use Rattle.machine.specs.Words.{words_in_place, running_words}
use Rattle.machine.specs.ReadMachine.{stopped_words, machine_by, read_machine}
use Rattle.machine.specs.Due.{due_at, words_due}
use Rattle.machine.proofs.MachineWords.{words_due_is_next_due}
use Rattle.machine.proofs.InPlace.{knows_place_lem, in_place}
use Rattle.machine.proofs.PassingWordsHold.{Words32, own_rests}
use Rattle.machine_words.specs.Tests.{Dues}
use Rattle.machine_check_slots.specs.Kept.{words_kept}
use Rattle.table_child_fields.specs.Tables.{TableBounds}
use Rattle.machine_check_paths.specs.Scan.{Ready, whole}
use Rattle.machine_check.specs.Answer.{answer_of, check_of, dues_left}
use Rattle.machine_check.specs.declared.MachineCheck.TheVariants.{NotAState, Stopped, Running}

pub size_of : (w : List ℕ) → word w 0 + word w 1 ≡ environment_size (table_listing w)
unfolding environment_size table_listing
size_of w = refl

pub ready : (w m : List ℕ) → TableBounds w → Words32 m → words_in_place (environment_size (table_listing w)) m ≡ true → Ready w m
ready w m T s e = record {
  table = T;
  few = (in_place m (environment_size (table_listing w)) e).few;
  slot = λ k h. (knows_place_lem m (get_or m 3 0) k h (in_place m (environment_size (table_listing w)) e).places).0;
  rests = λ k h. own_rests m s (environment_size (table_listing w)) e k h;
}

module _ (w m : List ℕ) (size : ℕ) (e : size ≡ environment_size (table_listing w)) where
  pub not_in_place : words_in_place size m ≡ false → running_words (table_listing w) m ≡ false
  unfolding running_words
  not_in_place f = rw (← e, f)

  pub running_by_tree : (b : Bool) → words_in_place size m ≡ true → whole w m ≡ b → running_words (table_listing w) m ≡ b
  unfolding running_words
  running_by_tree b f g = rw (← e, f, g)

  pub due_of_listing : (t : ℕ) → due_at t ≡ words_due size m → due_at t ≡ words_due (environment_size (table_listing w)) m
  due_of_listing t f = rw (← e) f

  pub dues_of_listing : (dues : List ℕ) → Dues size m dues → Dues (environment_size (table_listing w)) m dues
  dues_of_listing dues f = rw (← e) f

  pub kept_of_listing : (before after : List ℕ) → after ≡ words_kept size m before → after ≡ words_kept (environment_size (table_listing w)) m before
  kept_of_listing before after f = rw (← e) f

-- Only a state has the answer that it runs.
pub stopped_not_running : {A : Type 0} {k d : ℕ} → Stopped k ≡ Running d → A
stopped_not_running e = let z : ◌≡◌ {A = ℕ} 0 1 = cc in absurd (omega arith)

pub none_not_running : {A : Type 0} {d : ℕ} → NotAState ≡ Running d → A
none_not_running e = let z : ◌≡◌ {A = ℕ} 0 1 = cc in absurd (omega arith)

pub answer_stopped : (w m : List ℕ) (k : ℕ) → k ≡ get_or m 0 0 → stopped_words m ≡ true → check_of (Stopped k) ≡ answer_of (read_machine (table_listing w) m)
unfolding read_machine machine_by answer_of check_of
answer_stopped w m k a e = rw (e, a)

pub answer_running : (w m : List ℕ) (t : ℕ) → Words32 m → stopped_words m ≡ false → running_words (table_listing w) m ≡ true →
    due_at t ≡ words_due (environment_size (table_listing w)) m → check_of (Running t) ≡ answer_of (read_machine (table_listing w) m)
unfolding read_machine machine_by answer_of check_of
answer_running w m t small e f g = rw (e, f, words_due_is_next_due (table_listing w) m small f, g)

pub answer_none : (w m : List ℕ) → stopped_words m ≡ false → running_words (table_listing w) m ≡ false → check_of NotAState ≡ answer_of (read_machine (table_listing w) m)
unfolding read_machine machine_by answer_of check_of
answer_none w m e f = rw (e, f)

pub stopped_leaves : (w m dues : List ℕ) → stopped_words m ≡ true → dues ≡ dues_left (table_listing w) m dues
unfolding dues_left
stopped_leaves w m dues e = rw e

pub tests_leave : (w m dues : List ℕ) → stopped_words m ≡ false → words_kept (environment_size (table_listing w)) m dues ≡ dues_left (table_listing w) m dues
unfolding dues_left
tests_leave w m dues e = rw e
