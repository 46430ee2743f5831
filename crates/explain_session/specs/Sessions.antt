-- What is said of a trace on a listing.
use Rattle.std.specs.Prelude.{ℕ, ◌≤◌, ◌<◌, length}
use Rattle.listing.specs.Bytes.{Bytes, bytes_of}
use Rattle.listing.specs.Limits.{byte_limit}
use Rattle.session_print.specs.Puts.{Puts}
use Rattle.explain_played.specs.Endings.{Ends}
use Rattle.explain_played.specs.declared.ending.Ended.{Ended}
use Rattle.explain_session.specs.Told.{plain_text, ended_text}

-- "else a trace over 49,152 code 2"; of another the end of the session is said
pub data SessionSaid (path trace listingPath listing before after : Bytes) (count : ℕ) : Type 0 where
  too_long : byte_limit < length trace →
      Puts before 0 (plain_text path (bytes_of ": The file is too long: a trace has at most 49,152 bytes. A session ends with code 2.\n")) after count → count ≤ 50000 →
      SessionSaid path trace listingPath listing before after count
  ends : {ended : Ended} → length trace ≤ byte_limit → Ends listing trace ended → Puts before 0 (ended_text path trace listingPath listing ended) after count → count ≤ 50000 →
      SessionSaid path trace listingPath listing before after count
