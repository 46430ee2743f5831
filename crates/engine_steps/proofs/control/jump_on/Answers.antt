-- `engine_steps::control::jump_on` meets its contract.
use borrow.Author.Rules.{rules}
use Rattle.engine_steps.specs.Outcome.{Onwards}
use Rattle.engine_steps.proofs.Going.{jumps, now_at, still_in}
use Rattle.engine_steps.proofs.control.jump_on.Goals as goal

pub returns : goal.returns
unfolding Onwards
returns c =
    λ listing moment.
    let p = c.set_place.ensures in
    (now_at c.args.k p c.requires.1, still_in c.args.k p c.requires.1, jumps c.args.k p c.requires.1 listing moment)
