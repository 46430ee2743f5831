-- `session_replay::from_phase::end_with` meets its contract.
use native.Mathlib.Omega.{arith}
use Rattle.session_replay.proofs.EndPrinted.{end_printed}
use borrow.Author.Rules.{rules}
use Rattle.session_replay.proofs.from_phase.end_with.Goals as goal

pub shape_of-out : goal.shape_of-out
shape_of-out c = c.out-1.given

pub returns : goal.returns
returns c =
    let p = c.put_end_line-printed.ensures in
    end_printed _ _ _ _ _ (omega arith) p.0 p.1
