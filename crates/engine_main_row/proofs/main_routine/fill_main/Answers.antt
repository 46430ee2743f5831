-- `engine_main_row::main_routine::fill_main` meets its contract.
use mathlib.Core.Path.{sym, ap, subst, ◌∙◌}
use Prim.Native.Nat.{ℕ, ◌<◌}
use native.Mathlib.Omega.{arith}
use Rattle.walk.specs.Walk.{instruction_at}
use Rattle.table.specs.Decode.{size_of, table_listing}
use Rattle.engine_rows.specs.Records.{is_wait}
use Rattle.engine_main_row.proofs.MainNames.{main_there}
use Rattle.engine_main_row.proofs.MainRows.{main_reaches, main_filled}
use Rattle.engine_main_row.proofs.main_routine.fill_main.Goals as goal

pub place-place-requires : goal.place-place-requires
place-place-requires c = (c.requires.1, c.requires.2.slot)

pub wait_mark-asleep-requires : goal.wait_mark-asleep-requires
wait_mark-asleep-requires c =
    let a = c.args in
    (c.requires.0, main_there a.t.now c.requires.0, subst (λ (x : ℕ). x < size_of a.t.now 0) (sym c.place-place.ensures) c.requires.2.place)

pub main_parent-parent-requires : goal.main_parent-parent-requires
main_parent-parent-requires c = c.requires.0

pub put_working-requires : goal.put_working-requires
put_working-requires c = let P = c.main_parent-parent.ensures in (c.requires.1, c.requires.2.slot, omega (arith, P.slot), main_reaches P)

pub bind_main-requires : goal.bind_main-requires
bind_main-requires c = (c.requires.0, omega (arith, c.requires.1, c.put_working.ensures.size), c.requires.2.slot)

pub shape_of-m : goal.shape_of-m
shape_of-m c = omega (arith, c.put_working.ensures.size, c.bind_main.ensures.in_block.size)

pub returns : goal.returns
returns c =
    let a = c.args in
    main_filled c.wait_mark-asleep.result c.requires.2 c.main_parent-parent.ensures
    (c.wait_mark-asleep.ensures ∙ ap (λ (x : ℕ). is_wait (instruction_at (table_listing a.t.now) 0 x)) c.place-place.ensures) c.put_working.ensures c.bind_main.ensures
