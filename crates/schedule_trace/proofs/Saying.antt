-- Why no trace is printed, case by case.
use mathlib.Core.Path.{◌≡◌, refl}
use mathlib.Core.List.{◌++◌}
use Prim.Native.Nat.{ℕ}
use borrow.Author.Tests.{eq-eqb, ne_eqb}
use Rattle.listing.specs.Bytes.{Bytes, bytes_of, figure}
use Rattle.session_print.specs.Puts.{Puts}
use Rattle.schedule_trace.specs.Reasons.{too_long_lem, no_date, no_window, line_reason, why_none}

-- what the reason of a line begins with
abbrev pub front : ℕ → Bytes → Bytes
front line rest = bytes_of "schedule_trace: line " ++ (figure line ++ rest)

pub too_long : {before after : Bytes} {n : ℕ} (read line : ℕ) → read ≡ 262144 → Puts before 0 too_long_lem after n → Puts before 0 (why_none read line) after n
unfolding why_none
too_long read line e p = rw (eq-eqb read 262144 e) p

module _ (read line : ℕ) (d : read ≡ 262144 → ⊥) where
  pub printed : (before : Bytes) → line ≡ 0 → Puts before 0 (why_none read line) before 0
  unfolding why_none
  printed before e = rw (ne_eqb read 262144 d, eq-eqb line 0 e) (record { past = refl; stored = refl })

  pub no_date_lem : {before after : Bytes} {n : ℕ} → (line ≡ 0 → ⊥) → line ≡ 1 → Puts before 0 (front line no_date) after n → Puts before 0 (why_none read line) after n
  unfolding why_none line_reason
  no_date_lem z e p = rw (ne_eqb read 262144 d, ne_eqb line 0 z, eq-eqb line 1 e) p

  pub no_window_lem : {before after : Bytes} {n : ℕ} → (line ≡ 0 → ⊥) → (line ≡ 1 → ⊥) → Puts before 0 (front line no_window) after n
      → Puts before 0 (why_none read line) after n
  unfolding why_none line_reason
  no_window_lem z e p = rw (ne_eqb read 262144 d, ne_eqb line 0 z, ne_eqb line 1 e) p
