-- `machine_check_records::know_places` meets its contract.
use mathlib.Core.Path.{◌≡◌, sym, ◌∙◌}
use mathlib.Core.Bool.{true, false}
use native.Mathlib.Omega.{arith}
use Rattle.machine.specs.Words.{know_places}
use Rattle.machine_check_slots.proofs.Laws.{one_place}
use Rattle.machine_check_records.proofs.know_places.Goals as goal

pub returns-then-not-knows_place : goal.returns-then-not-knows_place
returns-then-not-knows_place c =
    let v = c.loop-k in
    sym (one_place _ v.k false c.loop-k-test.true (sym c.knows_place.ensures ∙ c.if-not-knows_place.true)) ∙ v.invariant.1

pub loop-k-preserved : goal.loop-k-preserved
loop-k-preserved c =
    let v = c.loop-k in
    (omega arith, sym (one_place _ v.k true c.loop-k-test.true (sym c.knows_place.ensures ∙ c.if-not-knows_place.false)) ∙ v.invariant.1)

pub returns : goal.returns
unfolding know_places
returns c =
    let v = c.loop-k in
    let z : v.k ≡ 0 = omega arith in
    rw z at v.invariant.1
