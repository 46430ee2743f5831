-- `machine_check_records::words_in_place` meets its contract.
use mathlib.Core.Path.{◌≡◌, sym, ◌∙◌}
use mathlib.Core.Bool.{false}
use Rattle.machine.specs.Words.{header_in_place}
use Rattle.machine_check_slots.proofs.Laws.{few_routines}
use Rattle.machine_words.proofs.TestLaws.{fails, not_both}
use Rattle.machine_check_slots.proofs.SlotLaws.{words_by_blocks, blocks_of_words}
use Rattle.machine_check_slots.proofs.KeptLaws.{header_unfit, header_fails, header_passes}
use borrow.Author.Rules.{rules}
use Rattle.machine_check_records.proofs.words_in_place.Goals as goal

pub returns-then-not-header_in_place : goal.returns-then-not-header_in_place
returns-then-not-header_in_place c =
    let a = c.args in
    let h : header_in_place a.m.now ≡ false = sym c.header_in_place.ensures ∙ c.if-not-header_in_place.true in
    let no = header_unfit a.size a.m.now h in
    (fails _ _ no, not_both no, header_fails _ _ _ h)

pub blocks_in_place-requires : goal.blocks_in_place-requires
blocks_in_place-requires c =
    let few = few_routines _ (sym c.header_in_place.ensures ∙ c.if-not-header_in_place.false) in
    search rules

pub returns : goal.returns
returns c =
    let h = sym c.header_in_place.ensures ∙ c.if-not-header_in_place.false in
    let b = c.blocks_in_place.ensures in
    (b.0 ∙ words_by_blocks _ _ h, λ e. b.1 (blocks_of_words _ _ e), b.2 ∙ header_passes _ _ _ h)
