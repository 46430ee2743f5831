-- `machine_check_paths::path::settle` meets its contract.
use Prim.Native.Nat.{◌<◌}
use mathlib.Core.Path.{◌≡◌, refl, ap, ◌∙◌}
use Rattle.std.proofs.Common.{Some}
use Rattle.machine_check_paths.specs.Scan.{record_of}
use Rattle.machine_check_paths.proofs.ScanLaws.{no_sleep, too_deep, level_from, child_from, place_from_lem}
use Rattle.machine_check_paths.proofs.StepLaws.{refused_step, waiting_step, forking_step, entered_fields, pushed_fields, settled_as, at_wait_path, at_other_path, at_deep_path, at_fork_path}
use Rattle.machine_check_paths.proofs.path.settle.Goals as goal

pub entered-q-requires : goal.entered-q-requires
entered-q-requires c =
    let a = c.args in
    let e : c.number-level.result ≡ (record_of a.m.now a.k).level = level_from a.m.now a.k _ _ c.block_of-at.ensures.0 c.number-level.ensures.0 in
    let s : c.number-level.result < 11 = rw e c.requires.5.shallow in
    (s, c.number-child.ensures.1)

pub returns-then-kind-eq-WAIT : goal.returns-then-kind-eq-WAIT
returns-then-kind-eq-WAIT c =
    let a = c.args in
    let e : c.number-level.result ≡ (record_of a.m.now a.k).level = level_from a.m.now a.k _ _ c.block_of-at.ensures.0 c.number-level.ensures.0 in
    let f : c.number-child.result ≡ (record_of a.m.now a.k).child = child_from a.m.now a.k _ _ c.block_of-at.ensures.0 c.number-child.ensures.0 in
    let g : c.number-place.result ≡ (record_of a.m.now a.k).place = place_from_lem a.m.now a.k _ _ c.block_of-at.ensures.0 c.number-place.ensures.0 in (
      at_wait_path _ _ _ c.if-kind-eq-WAIT.true ∙ settled_as _ _ _ a.p a.made _ _ _ _ _ e f g c.entered-q.ensures c.line_at-line.ensures.0,
      waiting_step a.t.now a.m.now a.k a.p a.made.routine a.made.head a.made.left
          c.requires.2 c.requires.3 c.requires.4 c.requires.5 c.requires.6
          _ (entered_fields _ _ _ _ _ _ _ _ e f c.entered-q.ensures) _ _ _ c.if-kind-eq-WAIT.true (rw g at c.line_at-line.ensures.1),
    )

pub returns-then-kind-ne-FORK : goal.returns-then-kind-ne-FORK
returns-then-kind-ne-FORK c =
    let a = c.args in
    let g : c.number-place.result ≡ (record_of a.m.now a.k).place = place_from_lem a.m.now a.k _ _ c.block_of-at.ensures.0 c.number-place.ensures.0 in
    let e : c.number-level.result ≡ (record_of a.m.now a.k).level = level_from a.m.now a.k _ _ c.block_of-at.ensures.0 c.number-level.ensures.0 in
    let f : c.number-child.result ≡ (record_of a.m.now a.k).child = child_from a.m.now a.k _ _ c.block_of-at.ensures.0 c.number-child.ensures.0 in (
      at_other_path _ _ _ c.if-kind-eq-WAIT.false c.if-kind-ne-FORK.true ∙ settled_as _ _ _ a.p a.made _ _ _ _ _ e f g c.entered-q.ensures c.line_at-line.ensures.0,
      refused_step _ _ _ _ refl
          (no_sleep a.t.now a.m.now a.k a.p a.made.routine a.made.head a.made.left
          c.requires.2 c.requires.3 c.requires.4 c.requires.5 c.requires.6
          _ _ _ c.if-kind-eq-WAIT.false c.if-kind-ne-FORK.true (rw g at c.line_at-line.ensures.1)),
    )

pub returns-then-level-gt9 : goal.returns-then-level-gt9
returns-then-level-gt9 c =
    let a = c.args in
    let e : c.number-level.result ≡ (record_of a.m.now a.k).level
    = level_from a.m.now a.k _ _ c.block_of-at.ensures.0 c.number-level.ensures.0 in
    let g : c.number-place.result ≡ (record_of a.m.now a.k).place = place_from_lem a.m.now a.k _ _ c.block_of-at.ensures.0 c.number-place.ensures.0 in
    let f : c.number-child.result ≡ (record_of a.m.now a.k).child = child_from a.m.now a.k _ _ c.block_of-at.ensures.0 c.number-child.ensures.0 in (
      at_deep_path _ _ _ c.if-kind-ne-FORK.false c.if-level-gt9.true ∙ settled_as _ _ _ a.p a.made _ _ _ _ _ e f g c.entered-q.ensures c.line_at-line.ensures.0,
      refused_step _ _ _ _ refl
          (too_deep a.t.now a.m.now a.k a.p a.made.routine a.made.head a.made.left
          c.requires.2 c.requires.3 c.requires.4 c.requires.5 c.requires.6
          _ _ _ c.if-kind-ne-FORK.false (rw e at c.if-level-gt9.true) (rw g at c.line_at-line.ensures.1)),
    )

pub returns : goal.returns
returns c =
    let a = c.args in
    let e : c.number-level.result ≡ (record_of a.m.now a.k).level
    = level_from a.m.now a.k _ _ c.block_of-at.ensures.0 c.number-level.ensures.0 in
    let f : c.number-child.result ≡ (record_of a.m.now a.k).child = child_from a.m.now a.k _ _ c.block_of-at.ensures.0 c.number-child.ensures.0 in
    let g : c.number-place.result ≡ (record_of a.m.now a.k).place = place_from_lem a.m.now a.k _ _ c.block_of-at.ensures.0 c.number-place.ensures.0 in (
      ap Some c.pushed.ensures ∙ at_fork_path _ _ _ c.if-kind-ne-FORK.false c.if-level-gt9.false ∙ settled_as _ _ _ a.p a.made _ _ _ _ _ e f g c.entered-q.ensures c.line_at-line.ensures.0,
      forking_step a.t.now a.m.now a.k a.p a.made.routine a.made.head a.made.left
          c.requires.2 c.requires.3 c.requires.4 c.requires.5 c.requires.6
          _ (entered_fields _ _ _ _ _ _ _ _ e f c.entered-q.ensures) _ _ _ (pushed_fields _ _ _ _ _ _ e c.pushed.ensures) (rw e at c.if-level-gt9.false) _ c.if-kind-ne-FORK.false (rw g at c.line_at-line.ensures.1),
    )
