-- `engine_queue::flag` meets its contract.
use mathlib.Core.Path.{◌≡◌, refl, ◌∙◌}
use mathlib.Core.Bool.{not}
use Prim.Native.Nat.{ℕ, zero, suc}
use lib.Dec.{eqb, eqb-suc-zero}
use mir.Val.{bool_byte}
use Rattle.engine_queue.specs.Queue.{flag_of}
use Rattle.engine_queue.proofs.flag.Goals as goal

some_is_one : (due : ℕ) → bool_byte (not (eqb due 0)) ≡ flag_of due
unfolding flag_of
some_is_one zero = refl
some_is_one (suc due) = rw (eqb-suc-zero due)

pub returns : goal.returns
returns c = c.from.ensures ∙ some_is_one c.args.due
