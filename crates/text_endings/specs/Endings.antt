-- What a record tells of a routine's end, for question 5.
use Rattle.std.specs.Prelude.{Bool, true, false, not}
use Rattle.text_jumps.specs.declared.record.Record.{Record}
use Rattle.text_jumps.specs.declared.record.Record.TheVariants as CV

-- a routine ends before this record, and may not
abbrev pub ends_badly : Bool → Record → Bool
ends_badly mayEnd (CV.Ports i o) = false
ends_badly mayEnd (CV.Opens arguments locals by_reference) = not mayEnd
ends_badly mayEnd (CV.Instruction pieces there last) = false

-- a routine may end with this record
abbrev pub may_end_with : Record → Bool
may_end_with (CV.Ports i o) = true
may_end_with (CV.Opens arguments locals by_reference) = false
may_end_with (CV.Instruction pieces there last) = last
