-- `session_files::turn` meets its contract: it makes one step, whose piece stands in the lent bytes.
use Rattle.session_replay.specs.Ending.{AsLong}
use Rattle.session_files.proofs.Room.{went_room}
use Rattle.session_files.proofs.Turning.{turned, piece_written, not_short}
use Rattle.session_files.proofs.turn.Goals as goal

pub slice_bounds-write_out-end : goal.slice_bounds-write_out-end
slice_bounds-write_out-end g c = went_room c.advance-answer.ensures c.in-Went.is

pub returns-in-Went : goal.returns-in-Went
returns-in-Went g c =
    let a = c.advance-answer.auto in
    let long : AsLong _ _ = record { table_is = a.table; machine_is_lem = a.machine; out_is = a.out } in
    record {
      step = turned c.advance-answer.ensures c.write_out-is_written.result c.in-Went.is long;
      bytes = piece_written c.advance-answer.ensures c.write_out-is_written.result c.in-Went.is long c.write_out-is_written.ensures;
    }

pub returns-in-TooShort : goal.returns-in-TooShort
returns-in-TooShort g c = not_short (rw c.in-TooShort.is at c.advance-answer.ensures) c.requires
