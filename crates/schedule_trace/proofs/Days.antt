-- A number of days, from the figure that was read.
use mathlib.Core.Path.{◌≡◌, refl}
use mathlib.Core.Option.{Option, none, some}
use Prim.Native.Nat.{ℕ, ◌≤◌}
use native.Mathlib.Omega.{arith}
use lib.ListN.{length}
use lib.Seq.{slice, take_all}
use Rattle.listing.specs.Bytes.{Bytes}
use Rattle.walk.specs.Trace.{read_below}
use Rattle.session_trace_lines.specs.Figures.{as_bounded, below_answer}
use Rattle.session_trace_lines.specs.declared.figure.Bounded.TheVariants.{Value, Bad}
use Rattle.session_trace_lines.proofs.Bounds.{below_fits}
use Rattle.schedule_trace.specs.Days.{or_none, days_of}

whole : (word : Bytes) → slice 0 (length word) word ≡ word
whole word = take_all (length word) word (omega arith)

value : (o : Option ℕ) (days : ℕ) → Value days ≡ as_bounded o → days ≡ or_none o
unfolding or_none
value none days e = absurd (let z : ◌≡◌ {A = ℕ} 0 1 = cc in omega arith)
value (some d) days e = cc

bad : (o : Option ℕ) → Bad ≡ as_bounded o → 0 ≡ or_none o
unfolding or_none
bad none e = refl
bad (some d) e = absurd (let z : ◌≡◌ {A = ℕ} 0 1 = cc in omega arith)

pub days_read : (word : Bytes) (days : ℕ) → Value days ≡ below_answer 10000 (slice 0 (length word) word) → (days ≡ days_of word) × (days ≤ 9999)
unfolding days_of
days_read word days e =
    let f : Value days ≡ below_answer 10000 word = rw (whole word) at e in
    (value (read_below 10000 word) days f, omega (arith, below_fits 10000 days word f))

pub no_days : (word : Bytes) → Bad ≡ below_answer 10000 (slice 0 (length word) word) → 0 ≡ days_of word
unfolding days_of
no_days word e = bad (read_below 10000 word) (rw (whole word) at e)
