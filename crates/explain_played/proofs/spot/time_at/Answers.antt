-- `explain_played::spot::time_at` meets its contract.
use mathlib.Core.Path.{sym, ap, ◌∙◌}
use lib.ListN.{get_or, drop}
use Rattle.walk.specs.Trace.{read_trace_line}
use Rattle.text_place.specs.Texts.{first_line, line_end}
use Rattle.text_place.specs.Places.{passed}
use Rattle.explain_played.proofs.Codes.{time_as, time_as_lem}
use Rattle.explain_played.proofs.spot.time_at.Goals as goal

pub returns-in-Input : goal.returns-in-Input
returns-in-Input c =
    let a = c.args in
    let s = a.trace.now in
    ap time_as (sym c.in-Input.is ∙ c.read_trace_line-read.ensures) ∙ time_as_lem (read_trace_line (first_line (drop a.at s))) (get_or s (line_end s a.at) 0) (passed s 0 (line_end s a.at))

pub returns-in-Last : goal.returns-in-Last
returns-in-Last c =
    let a = c.args in
    let s = a.trace.now in
    ap time_as (sym c.in-Last.is ∙ c.read_trace_line-read.ensures) ∙ time_as_lem (read_trace_line (first_line (drop a.at s))) (get_or s (line_end s a.at) 0) (passed s 0 (line_end s a.at))

pub returns-in-Bad : goal.returns-in-Bad
returns-in-Bad c =
    let a = c.args in
    let s = a.trace.now in
    ap time_as (sym c.in-Bad.is ∙ c.read_trace_line-read.ensures) ∙ time_as_lem (read_trace_line (first_line (drop a.at s))) (get_or s (line_end s a.at) 0) (passed s 0 (line_end s a.at))
