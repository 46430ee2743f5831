-- What is said, put piece by piece.
use mathlib.Core.Path.{◌≡◌, refl, ap}
use mathlib.Core.Bool.{Bool, true, false, cond, ◌||◌}
use mathlib.Core.List.{[], ◌∷◌, ◌++◌}
use Prim.Native.Nat.{ℕ, ◌-◌, ◌≤◌, ◌<◌}
use native.Mathlib.Omega.{arith}
use lib.Dec.{eqb, ltb}
use Rattle.std.specs.List.{list_any}
use borrow.Author.Tests.{lt-ltb, le-ltb}
use Rattle.listing.specs.Bytes.{Bytes, bytes_of, split, extend, join, figure}
use Rattle.session_print.specs.Puts.{Puts}
use Rattle.explain_parts.specs.Parts.{part_of}
use Rattle.explain_trace_said.specs.Reasons.{rule_texts, rule_text, joined_rules}
use Rattle.explain_trace_said.specs.Numbers.{allowed_text}
use Rattle.explain_trace_said.specs.Asked.{stands_in, asks, count_all, asked_line, asked_here_lem, room, more_text, asked_all, asked_text}

-- nothing is put
pub none_put : (l : Bytes) (at : ℕ) → Puts l at [] l at
none_put l at = record { past = omega arith; stored = refl }

-- the lines of the joined rules are the rules
pub rule_by_line : (t : Bytes) (k : ℕ) → t ≡ joined_rules → part_of 10 t k ≡ rule_text k
unfolding joined_rules rule_texts bytes_of split extend join
rule_by_line t k e = ap (λ (l : Bytes). part_of 10 l k) e

-- ── the figure behind a number ────────────────────────────────────────────────────
pub no_figure : (why allowed : ℕ) → why < 15 → [] ≡ allowed_text why allowed
unfolding allowed_text
no_figure why allowed h = rw (lt-ltb why 15 h)

pub some_figure : (why allowed : ℕ) → 15 ≤ why → figure allowed ≡ allowed_text why allowed
unfolding allowed_text
some_figure why allowed h = rw (le-ltb why 15 h)

-- ── how many more ────────────────────────────────────────────────────────────────
pub none_more : (seen : ℕ) → seen ≤ 8 → [] ≡ more_text seen
unfolding more_text
none_more seen h = rw (le-ltb 8 seen h)

pub some_more : (seen : ℕ) → 8 < seen → bytes_of "and at " ++ (figure (seen - 8) ++ bytes_of " more\n") ≡ more_text seen
unfolding more_text
some_more seen h = rw (lt-ltb 8 seen h)

-- ── a byte that stands in a text ─────────────────────────────────────────────────
pub stands_in_lem : (byte : ℕ) (l : Bytes) → list_any (λ b. eqb b byte) l ≡ stands_in byte l
unfolding stands_in
stands_in_lem byte [] = refl
stands_in_lem byte (b ∷ l) = ap (λ (t : Bool). eqb b byte || t) (stands_in_lem byte l)

-- ── a line at which it is asked, or not ──────────────────────────────────────────
module _ (path : Bytes) (stop : ℕ) (alone : Bool) (seen number : ℕ) (line : Bytes) where
  pub not_asked : asks stop line ≡ false → ([] ≡ asked_here_lem path stop alone seen number line) × (0 ≤ room stop seen line)
  unfolding asked_here_lem
  not_asked n = (rw n, omega arith)

  pub not_shown : 8 ≤ seen → [] ≡ asked_here_lem path stop alone seen number line
  unfolding asked_here_lem
  not_shown h = go (asks stop line)
    where
      go : (t : Bool) → [] ≡ cond t (cond (ltb seen 8) (asked_line path alone number line) []) []
      go true = rw (le-ltb seen 8 h)
      go false = refl

  pub asked_here : asks stop line ≡ true → seen < 8 → (asked_line path alone number line ≡ asked_here_lem path stop alone seen number line) × (1700 ≤ room stop seen line)
  unfolding asked_here_lem room
  asked_here is h = let few = lt-ltb seen 8 h in (rw (is, few), rw (is, few) (omega arith))

-- ── all lines ────────────────────────────────────────────────────────────────────
pub all_lines : (path listing : Bytes) (stop count : ℕ) → count ≡ count_all stop listing → asked_all path stop (eqb count 1) listing ≡ asked_text path listing stop
unfolding asked_text
all_lines path listing stop count is = rw is
