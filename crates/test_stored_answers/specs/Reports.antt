-- Two answers that differ, as lines.
use Rattle.std.specs.Prelude.{◌++◌}
use Rattle.listing.specs.Bytes.{Bytes, bytes_of, figure}
use Rattle.test_stored_answers.specs.declared.Report.{Report}

unfoldable pub figures_of : Report → Bytes
figures_of r =
    (bytes_of " number " ++ figure r.number)
    ++ ((bytes_of " steps " ++ figure r.steps) ++ ((bytes_of " listed " ++ figure r.listed) ++ (bytes_of " due " ++ figure r.due)))

-- a title and an answer
abbrev pub report_line : Bytes → Report → Bytes
report_line title r = title ++ (figures_of r ++ bytes_of "\n")

-- the answer expected and the one found
unfoldable pub report_lines : Report → Report → Bytes
report_lines expected found = report_line (bytes_of "expected") expected ++ report_line (bytes_of "found   ") found
