-- `table_child_fields::routines::line_at` meets its contract.
use Prim.Native.Nat.{◌+◌, ◌*◌, ◌<◌, ◌≤◌}
use mathlib.Core.Path.{◌∙◌}
use native.Mathlib.Omega.{arith}
use Rattle.table.specs.Decode.{word}
use Rattle.table_child_fields.proofs.TableLaws.{past_the_end, seen, line_past_lem, line_there}
use Rattle.table_child_fields.proofs.routines.line_at.Goals as goal

pub returns-then-lines-place : goal.returns-then-lines-place
returns-then-lines-place c =
    let h : word c.args.t.now (8 + 5 * c.args.r + 4) ≤ c.args.place = omega (arith, c.number-lines.ensures.0, c.if-lines-place.true) in
    (line_past_lem _ _ _ h, past_the_end c.args.t.now c.requires.2 c.args.r c.requires.1 c.args.place h)

pub returns : goal.returns
returns c =
    let a = c.args in
    let h : c.args.place < word c.args.t.now (8 + 5 * c.args.r + 4) = omega (arith, c.number-lines.ensures.0, c.if-lines-place.false) in
    (c.fetch.ensures ∙ line_there a.t.now a.r a.place h, rw c.fetch.ensures (seen a.t.now c.requires.2 a.r c.requires.1 a.place h))
