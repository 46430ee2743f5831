-- `explain_schedule_said::reason::sentence_of` meets its contract.
use Prim.Native.Nat.{suc, ◌-◌}
use mathlib.Core.Path.{◌≡◌, refl, ◌∙◌}
use native.Mathlib.Omega.{arith}
use Rattle.listing.specs.Bytes.{bytes_of}
use Rattle.explain_said.proofs.ByNumber.{some_text, no_text}
use Rattle.explain_schedule.specs.declared.reasons.Reason.{Reason}
use Rattle.explain_schedule_said.specs.Reasons.{sentence}
use Rattle.explain_schedule_said.specs.Numbers.{number_texts}
use Rattle.explain_schedule_said.specs.declared.reason.TheConstants.{REASONS}
use Rattle.explain_schedule_said.proofs.reason.sentence_of.Goals as goal

pub returns-then-number-eq0-clause-is : goal.returns-then-number-eq0-clause-is
unfolding number_texts bytes_of
returns-then-number-eq0-clause-is c = rw c.if-number-eq0.true

pub returns-in-Some-clause-is : goal.returns-in-Some-clause-is
unfolding number_texts
returns-in-Some-clause-is c =
    let n = c.args.number in
    let later : n ≡ suc (n - 1) = omega (arith, c.if-number-eq0.false) in
    c.sentence.ensures.is
    ∙ some_text (λ (why : Reason). bytes_of (sentence why)) number_texts REASONS (bytes_of "nothing is wrong") refl n (n - 1) later _ c.in-Some.ensures

pub returns-in-None-clause-is : goal.returns-in-None-clause-is
unfolding number_texts
returns-in-None-clause-is c =
    let n = c.args.number in
    let later : n ≡ suc (n - 1) = omega (arith, c.if-number-eq0.false) in
    no_text (λ (why : Reason). bytes_of (sentence why)) number_texts REASONS (bytes_of "nothing is wrong") refl n (n - 1) later c.in-None.ensures
