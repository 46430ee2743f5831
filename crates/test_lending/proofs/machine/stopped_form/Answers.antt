use mathlib.Core.Path.{◌≡◌}
use Prim.Native.Nat.{◌≤◌}
use lib.ListN.{length, get_or}
use borrow.Author.Rules.{rules}
use Rattle.test_cases.proofs.Telling.{tells_same, all_words}
use Rattle.test_lending.proofs.machine.stopped_form.Goals as goal

pub returns-then-machine-number : goal.returns-then-machine-number
returns-then-machine-number c =
    let long : 12288 ≤ length c.args.machine.now = search rules in
    let first : get_or c.args.machine.now 0 0 ≡ c.args.number = search rules in
    tells_same (λ e. record { long_enough_lem = long; first = first; others = e }) (λ f. f.others) (all_words 0 _ c.all_are.ensures)
