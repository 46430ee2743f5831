-- `table_lines::hold_ports` meets its contract.
use Rattle.table_lines.proofs.Openings as openings
use Rattle.table_lines.proofs.opens.hold_ports.Goals as goal

pub word_field-inputs-requires : goal.word_field-inputs-requires
word_field-inputs-requires c = c.requires.0

pub word_field-outputs-requires : goal.word_field-outputs-requires
word_field-outputs-requires c = c.word_field-inputs.ensures.1

pub returns : goal.returns
returns c =
    let a = c.args in
    openings.ports_held a.s.now a.place a.stop c.requires.0 c.requires.1 _ c.word_field-inputs.ensures.0 _ c.word_field-outputs.ensures.0
