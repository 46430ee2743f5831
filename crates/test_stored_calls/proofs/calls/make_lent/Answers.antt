use mathlib.Core.Path.{ap, ◌∙◌}
use Prim.Native.Nat.{ℕ}
use lib.ListN.{take}
use lib.Seq.{length_front}
use Rattle.test_lending.specs.Places.{lent_places}
use Rattle.test_stored_calls.specs.Calls.{call_outcome}
use Rattle.test_stored_calls.proofs.Making.{made}
use Rattle.test_stored_calls.proofs.calls.make_lent.Goals as goal

pub slice_bounds-library_call-end : goal.slice_bounds-library_call-end
slice_bounds-library_call-end c = c.lent-table_lent.ensures.0.1

pub slice_bounds-library_call-end-2 : goal.slice_bounds-library_call-end-2
slice_bounds-library_call-end-2 c = c.lent-machine_lent.ensures.0.0

pub slice_bounds-library_call-end-3 : goal.slice_bounds-library_call-end-3
slice_bounds-library_call-end-3 c = c.lent-machine_lent.ensures.0.1

pub slice_bounds-library_call-end-4 : goal.slice_bounds-library_call-end-4
slice_bounds-library_call-end-4 c = c.lent-news_lent.ensures.0.1

pub slice_bounds-library_call-end-5 : goal.slice_bounds-library_call-end-5
slice_bounds-library_call-end-5 c = c.lent-numbers_lent.ensures.0.0

pub slice_bounds-library_call-end-6 : goal.slice_bounds-library_call-end-6
slice_bounds-library_call-end-6 c = c.lent-numbers_lent.ensures.0.1

pub slice_bounds-library_call-end-7 : goal.slice_bounds-library_call-end-7
slice_bounds-library_call-end-7 c = c.lent-values_lent.ensures.0.0

pub slice_bounds-library_call-end-8 : goal.slice_bounds-library_call-end-8
slice_bounds-library_call-end-8 c = c.lent-values_lent.ensures.0.1

pub shape_of-machine : goal.shape_of-machine
shape_of-machine c =
    let s = c.library_call in
    length_front c.args.machine.now s.new.machine c.lent-machine_lent.result s.auto.machine

pub shape_of-numbers : goal.shape_of-numbers
shape_of-numbers c =
    let s = c.library_call in
    length_front c.args.numbers.now s.new.numbers c.lent-numbers_lent.result s.auto.numbers

pub shape_of-values : goal.shape_of-values
shape_of-values c =
    let s = c.library_call in
    length_front c.args.values.now s.new.values c.lent-values_lent.result s.auto.values

pub returns : goal.returns
returns c =
    let a = c.args in
    let t = a.table.now in
    let m = a.machine.now in
    let n = a.numbers.now in
    let v = a.values.now in
    let s = c.library_call in
    made a.call t m n v s.new.machine s.new.numbers s.new.values
    (λ (i j k l w : ℕ). call_outcome a.call (take i t) (take j m) a.ins.now (take w a.news.now) (take k n) (take l v))
    s.result c.lent-table_lent.result c.lent-machine_lent.result c.lent-numbers_lent.result c.lent-values_lent.result c.lent-news_lent.result _
    c.lent-table_lent.ensures.1 c.lent-machine_lent.ensures.1 c.lent-numbers_lent.ensures.1 c.lent-values_lent.ensures.1
    (c.lent-news_lent.ensures.1 ∙ ap (λ (k : ℕ). lent_places a.call.spoil 5 k a.news.now) c.saturating_sub.ensures)
    s.auto.machine s.ensures
