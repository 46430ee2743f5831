-- What the lines so far hold, against the limits of question 3.
use Rattle.std.specs.Prelude as P
use Rattle.std.specs.Prelude.{Some, None, cond, ◌&&◌, ℕ, ◌+◌, ◌≤◌, leb}
use Rattle.listing.specs.Limits.{byte_limit, routine_limit, instruction_limit, name_limit, piece_limit}
use Rattle.text_jumps.specs.declared.record.Record.{Record}
use Rattle.text_jumps.specs.declared.record.Record.TheVariants as CV
use Rattle.text_limits.specs.declared.counts.Counts.{Counts}

pub record WithinLimits (held : Counts) : Type 0 where
  pub routines : held.routines ≤ routine_limit
  pub instructions : held.instructions ≤ instruction_limit
  pub pieces : held.pieces ≤ piece_limit

abbrev pub count_opens : Counts → ℕ → ℕ → P.Option Counts
count_opens held arguments locals =
    cond (leb (held.routines + 1) routine_limit && leb (arguments + locals) name_limit)
    (Some (record { routines = held.routines + 1; instructions = held.instructions; pieces = held.pieces })) None

abbrev pub count_instruction : Counts → ℕ → P.Option Counts
count_instruction held pieces =
    cond (leb (held.instructions + 1) instruction_limit && leb (held.pieces + pieces) piece_limit)
    (Some (record { routines = held.routines; instructions = held.instructions + 1; pieces = held.pieces + pieces })) None

abbrev pub count_record : Counts → Record → P.Option Counts
count_record held (CV.Ports i o) = Some held
count_record held (CV.Opens arguments locals by_reference) = count_opens held arguments locals
count_record held (CV.Instruction pieces there last) = count_instruction held pieces

-- one line more, after which so many bytes are read
abbrev pub count_line : Counts → Record → ℕ → P.Option Counts
count_line held record' bytes = cond (leb bytes byte_limit) (count_record held record') None
