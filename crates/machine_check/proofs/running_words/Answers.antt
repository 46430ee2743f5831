-- `machine_check::running_words` meets its contract. w is what is known after `words_in_place`.
use mathlib.Core.Path.{◌≡◌, sym, ◌∙◌}
use mathlib.Core.Bool.{true, false}
use native.Mathlib.Omega.{arith}
use Rattle.walk.specs.Instant.{environment_size}
use Rattle.table.specs.Decode.{table_listing}
use Rattle.machine.specs.Words.{words_in_place}
use Rattle.machine_words.proofs.TestLaws.{fails, fails_by, passes, not_both, has_failed, has_passed}
use Rattle.machine_check.proofs.FromQuestion6.{table_bounds}
use Rattle.machine_check.proofs.AnswerLaws.{size_of, ready, not_in_place, running_by_tree, due_of_listing, dues_of_listing, kept_of_listing}
use Rattle.machine_check.proofs.running_words.Goals as goal

pub returns-in_err-due : goal.returns-in_err-due
returns-in_err-due c =
    let e = c.environment_size-size.ensures ∙ size_of _ in
    let no = not_in_place _ _ _ e (has_failed _ _ _ c.words_in_place.ensures.0 c.in_err-due.was) in
    (fails_by _ _ c.from_residual.ensures no, not_both no, kept_of_listing _ _ _ e _ _ c.words_in_place.ensures.2)

pub tree_passes-requires : goal.tree_passes-requires
tree_passes-requires c =
    let a = c.args in
    let e : c.environment_size-size.result ≡ environment_size (table_listing a.t.now) = c.environment_size-size.ensures ∙ size_of a.t.now in
    let p : words_in_place (environment_size (table_listing a.t.now)) a.m.now ≡ true = rw e at (has_passed _ _ _ _ c.words_in_place.ensures.0 c.in_ok-due.was).0 in
    (c.requires.0, c.requires.1, ready a.t.now a.m.now (table_bounds a.t.now c.requires.2) (λ i. omega (arith, c.type_inv.m i)) p)

pub returns-then-not-tree_passes : goal.returns-then-not-tree_passes
returns-then-not-tree_passes c =
    let p = has_passed _ _ _ _ c.words_in_place.ensures.0 c.in_ok-due.was in
    let e = c.environment_size-size.ensures ∙ size_of _ in
    let no = running_by_tree _ _ _ e false p.0 (sym c.tree_passes.ensures ∙ c.if-not-tree_passes.true) in
    (fails _ _ no, not_both no, kept_of_listing _ _ _ e _ _ c.words_in_place.ensures.2)

pub returns : goal.returns
returns c =
    let p = has_passed _ _ _ _ c.words_in_place.ensures.0 c.in_ok-due.was in
    let e = c.environment_size-size.ensures ∙ size_of _ in (
      passes _ _ _ (running_by_tree _ _ _ e true p.0 (sym c.tree_passes.ensures ∙ c.if-not-tree_passes.false)) (due_of_listing _ _ _ e _ p.1),
      λ r. dues_of_listing _ _ _ e _ (c.words_in_place.ensures.1 p.0),
      kept_of_listing _ _ _ e _ _ c.words_in_place.ensures.2,
    )
