-- `engine_finish::places::clear_header` meets its contract.
use mathlib.Core.Path.{◌≡◌, ap, ◌∙◌}
use Prim.Native.Nat.{ℕ}
use borrow.Author.Rules.{rules}
use lib.ListN.{length, take, replicate, length-take}
use native.Mathlib.Omega.{arith}
use Rattle.engine_finish.proofs.PlaceTurns.{first_zero}
use Rattle.engine_finish.proofs.places.clear_header.Goals as goal

pub slice_bounds-fill-end-2 : goal.slice_bounds-fill-end-2
slice_bounds-fill-end-2 c = simp length-take (omega arith)

pub returns : goal.returns
returns c =
    let long : length (take 328 c.args.m.now) ≡ 328 = simp length-take (omega arith) in
    first_zero 328 (search rules) (c.fill.ensures.after (λ y e. e) ∙ ap (λ (n : ℕ). replicate n 0) long)
