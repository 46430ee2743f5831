-- `machine_check_tree::scan::made_by` meets its contract.
use Prim.Native.Nat.{◌<◌}
use mathlib.Core.Path.{◌≡◌, refl, sym, ap, ◌∙◌}
use native.Mathlib.Omega.{arith}
use Rattle.machine_check_paths.specs.Scan.{record_of, fields_at}
use Rattle.machine_check_paths.proofs.ScanLaws.{level_below, level_unfit, picked_made, level_from, child_from, no_maker_made, frame_fits, maker_unfit, maker_fit}
use Rattle.table_child_fields.proofs.PickLaws.{picked}
use Rattle.machine_check_tree.proofs.scan.made_by.Goals as goal

pub returns-then-not-level_fits : goal.returns-then-not-level_fits
returns-then-not-level_fits c =
    let a = c.args in
    let e : c.number-level.result ≡ (record_of a.m.now a.k).level = level_from a.m.now a.k _ _ c.block_of-at.ensures.0 c.number-level.ensures.0 in
    let h = rw e at (sym c.level_fits.ensures ∙ c.if-not-level_fits.true) in (
      maker_unfit _ _ _ _ h,
      no_maker_made _ _ _ _ _ refl
          (level_unfit a.t.now a.m.now a.k a.p c.requires.2 c.requires.4 h),
    )

pub bounds-p-level : goal.bounds-p-level
bounds-p-level c =
    let b : c.number-level.result < c.args.p.depth = level_below _ _ _ (sym c.level_fits.ensures ∙ c.if-not-level_fits.false) in
    omega (arith, b, c.requires.4.room)

pub pick-requires : goal.pick-requires
pick-requires c =
    let a = c.args in
    let b : c.number-level.result < a.p.depth = level_below _ _ _ (sym c.level_fits.ensures ∙ c.if-not-level_fits.false) in
    (c.requires.0, frame_fits a.t.now a.m.now a.k a.p c.number-level.result c.requires.4 b)

pub returns : goal.returns
returns c =
    let a = c.args in
    let e : c.number-level.result ≡ (record_of a.m.now a.k).level = level_from a.m.now a.k _ _ c.block_of-at.ensures.0 c.number-level.ensures.0 in
    let f : c.number-child.result ≡ (record_of a.m.now a.k).child = child_from a.m.now a.k _ _ c.block_of-at.ensures.0 c.number-child.ensures.0 in
    let h = sym c.level_fits.ensures ∙ c.if-not-level_fits.false in (
      c.pick.ensures ∙ maker_fit _ _ _ _ _ _ e f h,
      picked_made a.t.now a.m.now a.k a.p c.requires.2 c.requires.4 (rw e at h)
          _ _ _ _ _ (ap (λ u. (fields_at a.p u).next) e) (ap (λ u. (fields_at a.p u).left) e) (ap (λ u. (fields_at a.p u).head) e) f (rw c.pick.ensures (picked _ _ _ _ _)),
    )
