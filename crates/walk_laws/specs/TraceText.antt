-- The text of a trace (document 01, "The session"): what its lines are written as, and the whole.
use Rattle.std.specs.Prelude.{◌≡◌, Bool, true, false, ◌&&◌, not, List, [], ◌∷◌, ◌++◌, ℕ, ◌<◌, eqb, ltb}
use Prim.Native.Char.{code}
use Rattle.words.specs.Moments.{moment_range}
use Rattle.listing.specs.Lists.{all}
use Rattle.listing.specs.Bytes.{Bytes, line_feed, join}
use Rattle.listing.specs.Expressions.{word_range}
use Rattle.listing.specs.Form.{Field}
use Rattle.listing.specs.Text.{signed_figure, letter_field, figure_field, join_fields}
use Rattle.walk.specs.Instant.{Write}
use Rattle.walk.specs.Trace.{TraceLine, input_line, last_line_lem, out_of_form, Script, call_at, last_at, broken}

-- ── a line, without its line feed ─────────────────────────────────────────────────────────────────
-- "`I|time|input|value`"
unfoldable pub input_fields : ℕ → Write → List Field
input_fields time w = letter_field (code "I") ∷ figure_field time ∷ figure_field w.number ∷ (signed_figure w.value ∷ []) ∷ []

-- "`Q|time`"
unfoldable pub last_fields : ℕ → List Field
last_fields time = letter_field (code "Q") ∷ figure_field time ∷ []

-- "(64, 32 and signed 32 bits)": these bytes are the line of an input, its value a word.
pub record InputText (time : ℕ) (w : Write) (bytes : Bytes) : Type 0 where
  pub is : bytes ≡ join_fields (input_fields time w)
  pub time_fits : time < moment_range
  pub input_fits : w.number < word_range
  pub value_fits : w.value < word_range

-- These bytes are the last line.
pub record LastText (time : ℕ) (bytes : Bytes) : Type 0 where
  pub is : bytes ≡ join_fields (last_fields time)
  pub time_fits : time < moment_range

-- These bytes are the text of a line; they are out of form if they are the text of none.
unfoldable pub IsText : TraceLine → Bytes → Type 0
IsText (input_line time w) bytes = InputText time w bytes
IsText (last_line_lem time) bytes = LastText time bytes
IsText out_of_form bytes = ((time : ℕ) (w : Write) → ¬ InputText time w bytes) × ((time : ℕ) → ¬ LastText time bytes)

-- ── a whole trace ─────────────────────────────────────────────────────────────────────────────────
unfoldable pub input_lines : ℕ → List Write → List Bytes → List Bytes
input_lines time [] lines = lines
input_lines time (w ∷ ws) lines = join_fields (input_fields time w) ∷ input_lines time ws lines

-- The lines of calls: a line for each input, "and last `Q|time`".
unfoldable pub trace_lines : Script → List Bytes
trace_lines (call_at time ws rest) = input_lines time ws (trace_lines rest)
trace_lines (last_at time nothingAfter) = join_fields (last_fields time) ∷ []
trace_lines broken = []

-- "each line closed by a line feed": one between each two lines, and one after the last.
abbrev pub trace_text : Script → Bytes
trace_text calls = join line_feed (trace_lines calls ++ ([] ∷ []))

-- "neighbours of equal time forming one call": the next call, if any, has another time.
unfoldable pub apart : ℕ → Script → Bool
apart time (call_at u ws rest) = not (eqb time u)
apart time (last_at u nothingAfter) = true
apart time broken = true

unfoldable pub fits : Write → Bool
fits w = ltb w.number word_range && ltb w.value word_range

-- The calls of a trace in form: each has an input, and after them comes `Q` with nothing behind it.
pub data Whole : Script → Type 0 where
  last : {time : ℕ} → time < moment_range → Whole (last_at time true)
  call : {time : ℕ} {w : Write} {ws : List Write} {rest : Script} →
      time < moment_range → all fits (w ∷ ws) ≡ true → apart time rest ≡ true → Whole rest → Whole (call_at time (w ∷ ws) rest)

-- Do these calls come to `Q` with nothing behind it?
unfoldable pub come_to_last : Script → Bool
come_to_last (call_at time ws rest) = come_to_last rest
come_to_last (last_at time nothingAfter) = nothingAfter
come_to_last broken = false
