-- Question 7 exactly: a machine's words are read exactly if they are the stopped form or the layout of one state of the walk.
use mathlib.Core.Path.{◌≡◌, refl}
use mathlib.Core.Bool.{true}
use mathlib.Core.List.{List}
use mathlib.Core.Logic.{◌↔◌}
use mathlib.Core.Option.{Option, none, some}
use Prim.Native.Nat.{ℕ}
use lib.ListN.{length}
use native.Mathlib.Omega.{arith}
use Rattle.listing.specs.Listing.{Listing}
use Rattle.walk.specs.State.{State}
use Rattle.walk.specs.Calls.{Words32, Machine, halted, running}
use Rattle.machine.specs.ReadMachine.{read_machine}
use Rattle.machine.specs.Limits.{WithinLimits}
use Rattle.machine.specs.Question7.{IsMachine, stopped_form, one_state}
use Rattle.machine.proofs.MachineWords.{read_is_laid_out, laid_out_is_read, halted_words_are_read, read_halted_is_the_stopped_form}

module _ (listing : Listing) (L : WithinLimits listing) (w : List ℕ) (long : length w ≡ 12288) (small : Words32 w) where
  what_is_read : (m : Machine) → read_machine listing w ≡ some m → IsMachine listing w
  what_is_read (halted k) e = let p = read_halted_is_the_stopped_form listing w k long e in stopped_form k p.0 p.1
  what_is_read (running s) e = let p = read_is_laid_out listing w s small e in one_state s p.state p.slots p.distinct (p.words long)

  machine_is_read : IsMachine listing w → (m : Machine) × (read_machine listing w ≡ some m)
  machine_is_read (stopped_form k e f) = (halted k, rw f (halted_words_are_read listing k e))
  machine_is_read (one_state s h slots S f) = (running s, rw f (laid_out_is_read listing L s h slots S))

  pub question_7_exactly_if : ((m : Machine) × (read_machine listing w ≡ some m)) ↔ IsMachine listing w
  question_7_exactly_if = (λ p. what_is_read p.0 p.1, machine_is_read)

  pub no_machine_exactly_if : (read_machine listing w ≡ none) ↔ ¬ IsMachine listing w
  no_machine_exactly_if = (λ e i. both e (machine_is_read i), λ h. go (read_machine listing w) refl h)
    where
      both : read_machine listing w ≡ none → (m : Machine) × (read_machine listing w ≡ some m) → ⊥
      both e (m, f) = let z : ◌≡◌ {A = ℕ} 0 1 = cc in omega arith

      go : (o : Option Machine) → read_machine listing w ≡ o → ¬ IsMachine listing w → o ≡ none
      go none e h = refl
      go (some m) e h = absurd (h (what_is_read m e))
