-- `session_replay::from_phase::from_opening` meets its contract.
use mathlib.Core.Path.{refl}
use native.Mathlib.Omega.{arith}
use Rattle.session_replay.specs.Phases as phases
use Rattle.session_replay.proofs.FirstSteps.{refused_opens, done_opens}
use borrow.Author.Rules.{rules}
use Rattle.session_replay.proofs.from_phase.from_opening.Goals as goal

pub shape_of-out-then-listing-gt-BYTES : goal.shape_of-out-then-listing-gt-BYTES
shape_of-out-then-listing-gt-BYTES c = c.out-1.given

pub returns-then-listing-gt-BYTES : goal.returns-then-listing-gt-BYTES
returns-then-listing-gt-BYTES c = phases.FromOpening.long_listing (omega arith) refl c.end_with.ensures

pub shape_of-out-then-trace-gt-BYTES : goal.shape_of-out-then-trace-gt-BYTES
shape_of-out-then-trace-gt-BYTES c = c.out-then-trace-gt-BYTES-1.given

pub returns-then-trace-gt-BYTES : goal.returns-then-trace-gt-BYTES
returns-then-trace-gt-BYTES c = phases.FromOpening.long_trace (omega arith) (omega arith) refl c.end_with-then-trace-gt-BYTES.ensures

pub shape_of-table-in-Refused : goal.shape_of-table-in-Refused
shape_of-table-in-Refused c = c.table-1.given

pub shape_of-out : goal.shape_of-out
shape_of-out c = c.out-in-Refused-1.given

pub returns-in-Refused : goal.returns-in-Refused
returns-in-Refused c =
    let l = c.load-answer in
    let a = c.args in
    refused_opens a.listing.now a.trace.now a.table.now a.out.now l.new.table l.result (omega arith) (omega arith) l.ensures
    c.end_with-in-Refused.new.out c.end_with-in-Refused.result _ _ c.in-Refused.is c.end_with-in-Refused.ensures

pub shape_of-table-in-Done : goal.shape_of-table-in-Done
shape_of-table-in-Done c = c.table-1.given

pub returns-in-Done : goal.returns-in-Done
returns-in-Done c =
    let l = c.load-answer in
    let a = c.args in
    done_opens a.listing.now a.trace.now a.table.now a.out.now l.new.table l.result (omega arith) (omega arith) l.ensures c.in-Done.is
