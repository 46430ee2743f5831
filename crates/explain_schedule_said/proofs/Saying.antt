-- What is said, by its cases.
use mathlib.Core.Path.{◌≡◌, sym, ◌∙◌}
use mathlib.Core.List.{[]}
use Prim.Native.Nat.{ℕ, ◌-◌, ◌≤◌, ◌<◌}
use lib.ListN.{length}
use borrow.Author.Tests.{lt-ltb, le-ltb, eq-eqb, ne_eqb}
use Rattle.listing.specs.Bytes.{Bytes, bytes_of, figure}
use Rattle.explain_parts.specs.Parts.{part_of}
use Rattle.schedule.specs.Form.{place19}
use Rattle.explain_schedule.specs.Faults.{fault_at, schedule_fault}
use Rattle.explain_schedule_said.specs.Numbers.{allowed_text}
use Rattle.explain_schedule_said.specs.Said.{plain_text, refused_text, schedule_text}

-- ── the figure behind a number ────────────────────────────────────────────────────
pub no_figure : (why allowed : ℕ) → why < 16 → [] ≡ allowed_text why allowed
unfolding allowed_text
no_figure why allowed h = rw (lt-ltb why 16 h)

pub some_figure : (why allowed : ℕ) → 16 ≤ why → figure allowed ≡ allowed_text why allowed
unfolding allowed_text
some_figure why allowed h = rw (le-ltb why 16 h)

-- ── a schedule ───────────────────────────────────────────────────────────────────
module _ (path text : Bytes) where
  pub long_said : 49152 < length text → plain_text path (bytes_of ": The file is too long: explain reads at most 49,152 bytes of a schedule.\n") ≡ schedule_text path text
  unfolding schedule_text
  long_said h = rw (lt-ltb 49152 (length text) h)

  module _ (place : ℕ) (h : length text ≤ 49152) (is : place ≡ place19 text) where
    pub fit_said : place ≡ 0 → plain_text path (bytes_of ": It fits.\n") ≡ schedule_text path text
    unfolding schedule_text
    fit_said e = rw (le-ltb 49152 (length text) h, eq-eqb (place19 text) 0 (sym is ∙ e))

    pub refused_said : (place ≡ 0 → ⊥) → refused_text path text place (fault_at text place (part_of 10 text (place - 1))) ≡ schedule_text path text
    unfolding schedule_text schedule_fault
    refused_said n = rw (le-ltb 49152 (length text) h, ← is, ne_eqb place 0 n)
