use mathlib.Core.Path.{◌≡◌}
use lib.ListN.{length}
use Rattle.machine_words.specs.Tests.{SlotDues}
use Rattle.machine_check_slots.proofs.SlotLaws.{SlotsLeft}
use Rattle.machine_check_slots.specs.Kept.{slots_kept}
use Rattle.machine_check_slots.proofs.slots_hold.Given as goal

abbrev pub invariant-loop-s : goal.invariant-loop-s
invariant-loop-s l =
    SlotsLeft l.n l.present.0 l.m l.due l.found l.s × (length l.dues ≡ 65) × SlotDues l.s l.m l.initial.dues l.dues
    × (slots_kept l.n l.present.0 l.m l.s l.dues ≡ slots_kept l.n l.present.0 l.m 64 l.initial.dues)
