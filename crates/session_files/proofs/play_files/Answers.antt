-- `session_files::play_files` meets its contract.
use Rattle.std.proofs.KnownBytes.{Keeps-refl}
use Rattle.session_files.specs.Turning.{not_read, played, nothing, written}
use Rattle.session_files.proofs.play_files.Goals as goal

pub returns-in_default : goal.returns-in_default
returns-in_default g c = record { played = not_read; bytes = nothing (Keeps-refl _) }

pub returns-in_default-read_argument : goal.returns-in_default-read_argument
returns-in_default-read_argument g c = record { played = not_read; bytes = nothing (Keeps-refl _) }

pub returns : goal.returns
returns g c = record { played = played c.play.ensures.played; bytes = written c.play.ensures.played c.play.ensures.bytes }
