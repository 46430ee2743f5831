-- `text_fields::kinds_of` meets its contract.
use Rattle.std.proofs.Common.{rules, ◌≡◌, ◌∙◌, sym, length, [], ◌∷◌, arith}
use Rattle.std.proofs.lemmas.Bool.{eqb-false}
use Rattle.text_fields.proofs.Letters.{kinds_none, kinds_dash, kinds_other, kinds_some}
use Rattle.text_fields.proofs.kinds.kinds_of.Goals as goal

pub returns-then-is_empty : goal.returns-then-is_empty
returns-then-is_empty c = sym (kinds_none c.args.letters.now (search rules))

pub returns-then-eq : goal.returns-then-eq
returns-then-eq c = sym (kinds_dash c.args.letters.now (search rules))

pub returns-then-not-are_kinds : goal.returns-then-not-are_kinds
returns-then-not-are_kinds c =
    let some_letter : length c.args.letters.now ≡ 0 → ⊥ = eqb-false _ 0 (sym c.is_empty.ensures ∙ c.if-is_empty.false) in
    let no_dash : c.args.letters.now ≡ 45 ∷ [] → ⊥ = λ z. grind arith in
    sym (kinds_other c.args.letters.now some_letter no_dash (sym c.are_kinds.ensures ∙ c.if-not-are_kinds.true))

pub returns : goal.returns
returns c =
    let some_letter : length c.args.letters.now ≡ 0 → ⊥ = eqb-false _ 0 (sym c.is_empty.ensures ∙ c.if-is_empty.false) in
    let no_dash : c.args.letters.now ≡ 45 ∷ [] → ⊥ = λ z. grind arith in
    rw c.are_references.ensures (sym (kinds_some c.args.letters.now some_letter no_dash (sym c.are_kinds.ensures ∙ c.if-not-are_kinds.false)))
