-- `explain_schedule_said::told::put_refused` meets its contract.
use mathlib.Core.Path.{ap, ◌∙◌}
use native.Mathlib.Omega.{arith}
use Rattle.session_print.proofs.LineBytes as line
use Rattle.listing.specs.Bytes.{Bytes}
use Rattle.explain_parts.specs.Parts.{part_of}
use Rattle.explain_schedule.specs.Faults.{fault_at}
use Rattle.explain_schedule_said.specs.Said.{told_line, refused_text}
use Rattle.explain_schedule_said.proofs.told.put_refused.Goals as goal

pub put_reasoned-requires : goal.put_reasoned-requires
put_reasoned-requires c =
    (omega (arith, c.put_place-a.ensures.1), c.requires, omega (arith, c.part_of-line.ensures.within, c.requires))

pub returns : goal.returns
unfolding refused_text
returns c =
    let a = c.args in
    let head = c.put_place-a.ensures in
    let told = c.put_reasoned.ensures in
    let is = c.part_of-line.ensures.is ∙ ap (part_of 10 a.text.now) c.saturating_sub.ensures in
    (line.then_bytes head.0 (line.same_bytes (ap (λ (l : Bytes). told_line l (fault_at a.text.now a.place l)) is) told.0), omega (arith, head.1, told.1))
