-- `machine_check_tree::scan::step` meets its contract.
use mathlib.Core.Path.{◌≡◌, refl, sym, ◌∙◌}
use lib.ListN.{length}
use Rattle.walk.specs.Question7.{owned_by}
use Rattle.table.specs.Decode.{table_listing}
use Rattle.machine_check_paths.specs.Scan.{record_of}
use Rattle.machine_check_paths.proofs.ScanLaws.{size_from, wrong_size}
use Rattle.machine_check_paths.proofs.StepLaws.{refused_step, unmade_path, wrong_size_path, right_size_path}
use Rattle.machine_check_tree.proofs.scan.step.Goals as goal

pub returns-in_err-made : goal.returns-in_err-made
returns-in_err-made c =
    let a = c.args in
    let n = c.in_err-made.was in (
      c.from_residual.ensures ∙ unmade_path _ _ _ _ (sym n ∙ c.made_by.ensures.0),
      refused_step _ _ _ _ c.from_residual.ensures (c.made_by.ensures.1.no_maker_lem n),
    )

pub owned_by-owned-requires : goal.owned_by-owned-requires
owned_by-owned-requires c = (c.requires.0, (c.made_by.ensures.1.a_maker _ c.in_ok-made.was).there, c.requires.3.table.most)

pub returns-then-number-owned : goal.returns-then-number-owned
returns-then-number-owned c =
    let a = c.args in
    let e : c.number.result ≡ length (record_of a.m.now a.k).own = size_from a.m.now a.k _ _ c.block_of-at.ensures.0 c.number.ensures.0 in
    let C = c.made_by.ensures.1.a_maker _ c.in_ok-made.was in
    let h : length (record_of a.m.now a.k).own ≡ owned_by (table_listing a.t.now) c.in_ok-made.made.routine → ⊥ = λ z. c.if-number-owned.true (e ∙ z ∙ sym c.owned_by-owned.ensures) in (
      wrong_size_path _ _ _ _ _ (sym c.in_ok-made.was ∙ c.made_by.ensures.0) h,
      refused_step _ _ _ _ refl
          (wrong_size a.t.now a.m.now a.k a.p _ _ _ c.requires.2 c.requires.3 c.requires.4 C h),
    )

pub settle-requires : goal.settle-requires
settle-requires c =
    let a = c.args in
    let e : c.number.result ≡ length (record_of a.m.now a.k).own = size_from a.m.now a.k _ _ c.block_of-at.ensures.0 c.number.ensures.0 in
    let C = c.made_by.ensures.1.a_maker _ c.in_ok-made.was in
    (c.requires.0, c.requires.1, c.requires.2, c.requires.3, c.requires.4, C, sym e ∙ c.if-number-owned.false ∙ c.owned_by-owned.ensures)

pub returns : goal.returns
returns c =
    let a = c.args in
    let e : c.number.result ≡ length (record_of a.m.now a.k).own = size_from a.m.now a.k _ _ c.block_of-at.ensures.0 c.number.ensures.0 in (
      c.settle.ensures.0 ∙ right_size_path _ _ _ _ _ (sym c.in_ok-made.was ∙ c.made_by.ensures.0) (sym e ∙ c.if-number-owned.false ∙ c.owned_by-owned.ensures),
      c.settle.ensures.1,
    )
