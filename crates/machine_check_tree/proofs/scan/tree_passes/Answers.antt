-- `machine_check_tree::scan::tree_passes` meets its contract.
use mathlib.Core.Path.{refl, sym}
use native.Mathlib.Omega.{arith}
use Rattle.machine_check_paths.proofs.StepLaws.{scan_begins, scan_ends}
use Rattle.machine_check_tree.proofs.scan.tree_passes.Goals as goal

pub loop-k-init : goal.loop-k-init
loop-k-init c = scan_begins _ _ _ c.requires.2.table refl refl refl

pub returns-in_default : goal.returns-in_default
returns-in_default c = sym (c.step.ensures.1.bad c.in_default.is)

pub loop-k-preserved : goal.loop-k-preserved
loop-k-preserved c = c.step.ensures.1.good _ c.in-Some.is

pub returns : goal.returns
returns c = scan_ends _ _ c.loop-k.k _ (omega (arith, c.loop-k-test.false, c.number-n.ensures.0)) c.loop-k.invariant
