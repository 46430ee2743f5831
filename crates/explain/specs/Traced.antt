-- What the program says of a trace.
use Rattle.std.specs.Prelude.{◌≡◌, ℕ, Ok, Err}
use Rattle.listing.specs.Bytes.{Bytes, bytes_of}
use Rattle.session_print.specs.Puts.{Puts}
use Rattle.explain_session.specs.Sessions.{SessionSaid}
use Rattle.explain_listing.specs.Verdicts.{VerdictOn}
use Rattle.explain_listing.specs.Said.{named}
use Rattle.explain_listing.specs.declared.verdict.Refusal.TheVariants as RV

unfoldable pub unplayed : Bytes
unplayed = bytes_of ": It is not played: the listing does not load.\n"

-- a listing that loads is played; of another it is said that it does not load
pub data PlayedSaid (path trace listingPath listing before after : Bytes) (count : ℕ) : Type 0 where
  too_long : VerdictOn listing (Err RV.TooLong) → Puts before 0 (named path unplayed) after count → PlayedSaid path trace listingPath listing before after count
  fails : {number place : ℕ} → VerdictOn listing (Err (RV.Fails number place)) → Puts before 0 (named path unplayed) after count → PlayedSaid path trace listingPath listing before after count
  played : VerdictOn listing (Ok tt) → SessionSaid path trace listingPath listing before after count → PlayedSaid path trace listingPath listing before after count

-- of two files: nothing if one cannot be read; which bytes they have, std does not promise
pub data TraceSaid (path listingPath before after : Bytes) : ℕ → Type 0 where
  unread : after ≡ before → TraceSaid path listingPath before after 0
  read : {trace listing : Bytes} {count : ℕ} → PlayedSaid path trace listingPath listing before after count → TraceSaid path listingPath before after count
