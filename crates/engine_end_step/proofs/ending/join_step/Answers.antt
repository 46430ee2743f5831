-- `join_step` meets its contract.
use mathlib.Core.Path.{◌≡◌, refl, sym, ap, ◌∙◌}
use Prim.Native.Nat.{ℕ, suc, ◌+◌, ◌-◌}
use native.Mathlib.Numerals.{add-one}
use native.Mathlib.Omega.{arith}
use borrow.Author.Rules.{rules}
use Rattle.engine_rows.specs.Rows.{Row, with_children}
use Rattle.engine_blocks.specs.Blocks.{rows_of}
use Rattle.engine_steps.specs.declared.running.Running.{Running}
use Rattle.engine_end_step.proofs.Joining.{may_still_pop, children_asleep, joins_others, joins_last}
use Rattle.engine_end_step.proofs.ending.join_step.Goals as goal

pub overflow_add-next : goal.overflow_add-next
overflow_add-next c = let e = c.place-next.ensures in let n = c.requires.2 in record { fits = omega arith }

pub returns-then-children-eq1 : goal.returns-then-children-eq1
returns-then-children-eq1 c =
    let a = c.args in
    let u = a.running in
    let row = rows_of a.m.now a.parent in
    let next : c.place-next.result + 1 ≡ suc row.place = rw add-one (ap suc c.place-next.ensures) in
    let one : row.children ≡ 1 = sym c.children-children.ensures ∙ c.if-children-eq1.true in
    joins_last 0 c.set_children.ensures c.requires.1 (c.place-next.result + 1) c.set_place.ensures u
    (record { ready = u.ready; live = u.live; woken = u.woken; me = a.parent }) refl next one refl refl refl refl

pub next_ready-requires : goal.next_ready-requires
next_ready-requires c =
    let u = c.args.running in
    let k = c.one_less.result in
    may_still_pop (λ (r : Row). with_children r k) c.set_children-2.ensures (children_asleep k) u u refl refl c.requires.0

pub returns : goal.returns
returns c =
    let row = rows_of c.args.m.now c.args.parent in
    let count : c.children-children.result ≡ row.children = c.children-children.ensures in
    let less : c.one_less.result ≡ row.children - 1 = c.one_less.ensures ∙ ap (λ (x : ℕ). x - 1) count in
    joins_others c.one_less.result c.set_children-2.ensures c.requires.1 less (λ e. c.if-children-eq1.false (count ∙ e)) c.next_ready.ensures
