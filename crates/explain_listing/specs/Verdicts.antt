-- What is said of a listing.
use Rattle.std.specs.Prelude.{◌≡◌, true, ℕ, ◌≤◌, ◌<◌, length, Result, Ok, Err}
use Rattle.listing.specs.Bytes.{Bytes}
use Rattle.listing.specs.Limits.{byte_limit}
use Rattle.listing.specs.Load.{loading, refused, Loads}
use Rattle.listing.specs.Questions.{listing_in}
use Rattle.explain_listing.specs.declared.verdict.Refusal.{Refusal}
use Rattle.explain_listing.specs.declared.verdict.Refusal.TheVariants as RV

-- "listing 49,152 bytes": a longer one is not loaded. Of another the defined outcome of loading is said, with its number and place.
pub data VerdictOn (text : Bytes) : Result (Unit {0}) Refusal → Type 0 where
  too_long : byte_limit < length text → VerdictOn text (Err RV.TooLong)
  loads : length text ≤ byte_limit → Loads text (listing_in text) → VerdictOn text (Ok tt)
  fails : {number place : ℕ} → length text ≤ byte_limit → loading true text ≡ refused number place → VerdictOn text (Err (RV.Fails number place))
