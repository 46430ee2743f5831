-- `test_files::put_ending` meets its contract.
use native.Mathlib.Omega.{arith}
use Rattle.listing.specs.Bytes.{bytes_of}
use Rattle.test_files.specs.Endings.{ending_line}
use Rattle.test_files.proofs.put_ending.Goals as goal

pub returns-in-Ended : goal.returns-in-Ended
unfolding ending_line bytes_of
returns-in-Ended c = let p = c.put_text.ensures in (rw c.in-Ended.is p.0, omega (arith, p.1))

pub returns-in-NotWritten : goal.returns-in-NotWritten
unfolding ending_line bytes_of
returns-in-NotWritten c = let p = c.put_text-in-NotWritten.ensures in (rw c.in-NotWritten.is p.0, omega (arith, p.1))

pub returns-in-NotRead : goal.returns-in-NotRead
unfolding ending_line bytes_of
returns-in-NotRead c = let p = c.put_text-in-NotRead.ensures in (rw c.in-NotRead.is p.0, omega (arith, p.1))
