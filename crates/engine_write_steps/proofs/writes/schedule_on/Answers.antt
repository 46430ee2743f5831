-- `schedule_on` meets its contract.
use mathlib.Core.Path.{◌≡◌, refl, sym, ap, ◌∙◌}
use mathlib.Core.Bool.{true, false}
use Prim.Native.Nat.{ℕ, suc, ◌+◌, ◌*◌, ◌<◌}
use native.Mathlib.Omega.{arith}
use borrow.Author.Rules.{rules}
use borrow.Author.Tests.{not-true, not-false}
use Rattle.words.specs.Words.{is_positive}
use Rattle.words.specs.Moments.{later_at, stops_with, later_moment, later_of}
use Rattle.table.specs.Decode.{pieces_at}
use Rattle.engine_values.proofs.Values.{value_given, none_given}
use Rattle.engine_steps.specs.Outcome.{GoesOn, Onwards}
use Rattle.engine_rows.specs.Rows.{Row}
use Rattle.engine_blocks.specs.Blocks.{rows_of}
use native.Mathlib.Numerals.{add-one}
use Rattle.engine_write_steps.proofs.Writing.{place_named, routine_named}
use Rattle.engine_write_steps.proofs.Changing.{positive_some, later_at_lem, too_late, delay_fails, value_fails, delay_short, moment_late, schedules}
use Rattle.engine_write_steps.proofs.writes.schedule_on.Goals as goal

pub returns-then-delay-ge-NO_VALUE : goal.returns-then-delay-ge-NO_VALUE
unfolding Onwards
returns-then-delay-ge-NO_VALUE c =
    λ listing.
    let a = c.args in
    let v = c.evaluate-delay.result in
    delay_fails _ _ a.name a.present.0 (pieces_at a.t.now a.cells a.first) (pieces_at a.t.now (a.cells + 2 * a.first) a.second) listing
    (rw (none_given v c.if-delay-ge-NO_VALUE.true) at c.evaluate-delay.ensures.0)

pub returns-then-value-ge-NO_VALUE : goal.returns-then-value-ge-NO_VALUE
unfolding Onwards
returns-then-value-ge-NO_VALUE c =
    λ listing.
    let a = c.args in
    let delay = c.evaluate-delay.result in
    let v = c.evaluate-value.result in
    let small : delay < 4294967296 = omega (arith, c.if-delay-ge-NO_VALUE.false) in
    value_fails _ _ a.name delay a.present.0 (pieces_at a.t.now a.cells a.first) (pieces_at a.t.now (a.cells + 2 * a.first) a.second) listing
    (rw (value_given delay small) at c.evaluate-delay.ensures.0) (rw (none_given v c.if-value-ge-NO_VALUE.true) at c.evaluate-value.ensures.0)

pub returns-then-not-is_positive : goal.returns-then-not-is_positive
unfolding Onwards GoesOn
returns-then-not-is_positive c =
    λ listing.
    let a = c.args in
    let delay = c.evaluate-delay.result in
    let value = c.evaluate-value.result in
    let small : delay < 4294967296 = omega (arith, c.if-delay-ge-NO_VALUE.false) in
    let little : value < 4294967296 = omega (arith, c.if-value-ge-NO_VALUE.false) in
    let short : is_positive delay ≡ false = sym c.is_positive.ensures ∙ c.if-not-is_positive.true in
    delay_short a.me a.name delay value a.present.0 (pieces_at a.t.now a.cells a.first)
    (pieces_at a.t.now (a.cells + 2 * a.first) a.second) listing (rw (value_given delay small) at c.evaluate-delay.ensures.0)
    (rw (value_given value little) at c.evaluate-value.ensures.0) short

pub schedule_at-requires : goal.schedule_at-requires
schedule_at-requires c =
    let a = c.args in
    let delay = c.evaluate-delay.result in
    let due = c.in-At.moment.0 in
    let positive : is_positive delay ≡ true = sym c.is_positive.ensures ∙ c.if-not-is_positive.false in
    let e : later_at due ≡ later_moment a.present.0 delay = sym (ap later_of c.in-At.is) ∙ c.later_moment.ensures in
    let l = later_at_lem a.present.0 delay due e in
    let some = positive_some delay positive in
    let is = l.1 in
    (c.requires.0, omega arith)

pub returns-in-At : goal.returns-in-At
unfolding Onwards GoesOn
returns-in-At c =
    λ listing.
    let a = c.args in
    let delay = c.evaluate-delay.result in
    let value = c.evaluate-value.result in
    let small : delay < 4294967296 = omega (arith, c.if-delay-ge-NO_VALUE.false) in
    let little : value < 4294967296 = omega (arith, c.if-value-ge-NO_VALUE.false) in
    let due = c.in-At.moment.0 in
    let positive : is_positive delay ≡ true = sym c.is_positive.ensures ∙ c.if-not-is_positive.false in
    let e : later_at due ≡ later_moment a.present.0 delay = sym (ap later_of c.in-At.is) ∙ c.later_moment.ensures in
    let l = later_at_lem a.present.0 delay due e in
    let changed = c.schedule_at.ensures in
    let here = (rows_of a.m.now a.me).place in
    let next : a.place + 1 ≡ suc here = rw add-one (ap suc c.requires.0.runs.here) in (
      place_named changed 0 ∙ sym next,
      routine_named changed 0,
      schedules a.me a.name delay value a.present.0 (pieces_at a.t.now a.cells a.first)
          (pieces_at a.t.now (a.cells + 2 * a.first) a.second) listing (rw (value_given delay small) at c.evaluate-delay.ensures.0)
          (rw (value_given value little) at c.evaluate-value.ensures.0) positive due changed l.0 l.1,
    )

pub returns-in-TooLate : goal.returns-in-TooLate
unfolding Onwards GoesOn
returns-in-TooLate c =
    λ listing.
    let a = c.args in
    let delay = c.evaluate-delay.result in
    let value = c.evaluate-value.result in
    let small : delay < 4294967296 = omega (arith, c.if-delay-ge-NO_VALUE.false) in
    let little : value < 4294967296 = omega (arith, c.if-value-ge-NO_VALUE.false) in
    let positive : is_positive delay ≡ true = sym c.is_positive.ensures ∙ c.if-not-is_positive.false in
    let e : stops_with 17 ≡ later_moment a.present.0 delay = sym (ap later_of c.in-TooLate.is) ∙ c.later_moment.ensures in
    moment_late a.me a.name delay value a.present.0 (pieces_at a.t.now a.cells a.first)
    (pieces_at a.t.now (a.cells + 2 * a.first) a.second) listing (rw (value_given delay small) at c.evaluate-delay.ensures.0)
    (rw (value_given value little) at c.evaluate-value.ensures.0) positive (too_late a.present.0 delay e)
