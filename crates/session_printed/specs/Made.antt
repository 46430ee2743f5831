-- What is printed of a call on the engine, and what the call leaves.
use Rattle.std.specs.Prelude.{◌≡◌, List, ◌++◌, ℕ, ◌≤◌, length, take, drop}
use Rattle.walk.specs.Calls.{inputs_of}
use Rattle.walk.specs.Events.{events_at}
use Rattle.walk.specs.Session.{write_lines, end_line}
use Rattle.session_calls.specs.Calls.{StartMade, InstantMade}
use Rattle.session_calls.specs.declared.clock.Clock.{Clock}
use Rattle.session_calls.specs.declared.calls.Called.{Called}
use Rattle.session_calls.specs.declared.calls.Called.TheVariants as Called
use Rattle.session_printed.specs.declared.calls.Made.{Made}
use Rattle.session_printed.specs.declared.calls.Made.TheVariants.{Ended, Went}

-- These n bytes are printed at the beginning of the lent bytes, and those behind them stay.
pub record Begins (before bytes after : List ℕ) (n : ℕ) : Type 0 where
  pub count : n ≡ length bytes
  pub fits : n ≤ length before
  pub is : after ≡ bytes ++ drop n before

-- What came of a call at t is printed: the `X` line with its number and the moment before it, or the lines of its writes.
pub data CalledPrinted : Called → (now t : ℕ) (numbers values before after : List ℕ) → Made → Type 0 where
  ended : {k n now t : ℕ} {numbers values before after : List ℕ} → Begins before (end_line k now) after n → CalledPrinted (Called.Ended k) now t numbers values before after (Ended n)
  went : {listed n now t : ℕ} {clock : Clock} {numbers values before after : List ℕ} →
      Begins before (write_lines (events_at t (inputs_of (take listed numbers) (take listed values)))) after n →
      CalledPrinted (Called.Went clock listed) now t numbers values before after (Went clock n)

-- The start, and what came of it is printed. The two lists of 16 outputs that the call is lent are local to it.
pub record StartPrinted (table machine out machine' out' : List ℕ) (made : Made) : Type 0 where
  pub numbers : List ℕ
  pub values : List ℕ
  pub numbers' : List ℕ
  pub values' : List ℕ
  pub called : Called
  pub call : StartMade table machine numbers values machine' numbers' values' called
  pub prints : CalledPrinted called 0 0 numbers' values' out out' made

-- The instant at t with these inputs, after the moment `now`, likewise.
pub record InstantPrinted (now t : ℕ) (in_numbers in_values table machine out machine' out' : List ℕ) (made : Made) : Type 0 where
  pub numbers : List ℕ
  pub values : List ℕ
  pub numbers' : List ℕ
  pub values' : List ℕ
  pub called : Called
  pub call : InstantMade t in_numbers in_values table machine numbers values machine' numbers' values' called
  pub prints : CalledPrinted called now t numbers' values' out out' made
