-- `text_place::take_piece` meets its contract.
use mathlib.Core.Path.{refl}
use Rattle.text_place.proofs.Passing as passing
use Rattle.text_place.proofs.place.take_piece.Goals as goal

pub closing_byte-stop-requires : goal.closing_byte-stop-requires
closing_byte-stop-requires c =
    let a = c.args in
    passing.next_in a.s.now a.place _ _ c.requires c.place_past-next.ensures refl

pub returns-then-stop-eq0 : goal.returns-then-stop-eq0
returns-then-stop-eq0 c =
    let a = c.args in
    passing.taken_open a.s.now a.place _ _ c.requires c.place_past-next.ensures c.closing_byte-stop.ensures c.if-stop-eq0.true

pub overflow_sub-result : goal.overflow_sub-result
overflow_sub-result c =
    let a = c.args in
    passing.next_past a.s.now a.place _ _ c.requires c.place_past-next.ensures c.closing_byte-stop.ensures c.if-stop-eq0.false

pub returns : goal.returns
returns c =
    let a = c.args in
    passing.taken_closed a.s.now a.place _ _ c.requires c.place_past-next.ensures c.closing_byte-stop.ensures c.if-stop-eq0.false
