-- How a run ended, as a line.
use Rattle.std.specs.Prelude.{ℕ}
use Rattle.listing.specs.Bytes.{Bytes, bytes_of}
use Rattle.session_print.specs.Puts.{Puts}
use Rattle.session_files.specs.Turning.{FilesPlayed}
use Rattle.session_files.specs.declared.Ending.{Ending}
use Rattle.session_files.specs.declared.Ending.TheVariants.{Ended, NotWritten, NotRead}

unfoldable pub ending_line : Ending → Bytes
ending_line Ended = bytes_of "ended\n"
ending_line NotWritten = bytes_of "not written\n"
ending_line NotRead = bytes_of "not read\n"

-- two files were played, and how it ended was put
pub record EndingSaid (before after : Bytes) (count : ℕ) : Type 0 where
  pub ending : Ending
  pub played : FilesPlayed ending
  pub puts : Puts before 0 (ending_line ending) after count
