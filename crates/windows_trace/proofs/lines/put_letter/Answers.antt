-- `windows_trace::put_letter` meets its contract.
use mathlib.Core.Path.{refl}
use Rattle.windows_trace.proofs.PutLines.{two_bytes}
use Rattle.windows_trace.proofs.lines.put_letter.Goals as goal

pub returns : goal.returns
returns c =
    let first = c.put_byte in
    (two_bytes _ _ _ 9 first.new.out _ first.ensures c.put_byte-2.ensures, refl)
