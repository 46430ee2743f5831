-- What is said of a trace, and which argument is the flag.
use mathlib.Core.Path.{◌≡◌, refl, sym}
use Prim.Native.Nat.{ℕ, ◌<◌, ◌≤◌}
use lib.Dec.{eqb}
use lib.ListN.{length, get_or, take}
use mathlib.Core.Bool.{true, false}
use borrow.Author.Tests.{eq-eqb, ne_eqb, lt-ltb, le-ltb}
use lib.Seq.{length-take-le}
use Rattle.listing.specs.Bytes.{Bytes}
use Rattle.explain_session.specs.Sessions.{SessionSaid, too_long, ends}
use Rattle.session_print.specs.Puts.{Puts}
use Rattle.explain_listing.specs.Said.{usage}
use Rattle.explain.specs.Arguments.{is_flag, at_end}
use Rattle.explain.specs.declared.arguments.Held.{Held}

-- so many bytes are the first so many
pub counted : (n : ℕ) (bytes : Bytes) → n ≤ length bytes → n ≡ length (take n bytes)
counted n bytes h = sym (length-take-le n bytes h)

-- ── a trace ──────────────────────────────────────────────────────────────
pub session_few : {path trace listingPath listing before after : Bytes} {count : ℕ} → SessionSaid path trace listingPath listing before after count → count ≤ 50000
session_few (too_long h p few) = few
session_few (ends h e p few) = few

-- ── an argument ──────────────────────────────────────────────────────────
pub other_length : (word : Bytes) → (length word ≡ 2 → ⊥) → false ≡ is_flag word
unfolding is_flag
other_length word n = rw (ne_eqb (length word) 2 n)

pub other_first : (word : Bytes) → length word ≡ 2 → (get_or word 0 0 ≡ 45 → ⊥) → false ≡ is_flag word
unfolding is_flag
other_first word e n = rw (eq-eqb (length word) 2 e, ne_eqb (get_or word 0 0) 45 n)

pub by_second : (word : Bytes) → length word ≡ 2 → get_or word 0 0 ≡ 45 → eqb (get_or word 1 0) 116 ≡ is_flag word
unfolding is_flag
by_second word e f = rw (eq-eqb (length word) 2 e, eq-eqb (get_or word 0 0) 45 f)

-- ── behind the last ──────────────────────────────────────────────────────
pub trace_to_come : {before after : Bytes} {n : ℕ} (count : ℕ) (held : Held) → held.flagged ≡ true → Puts before 0 usage after n
    → Puts before 0 (at_end count held) after n
unfolding at_end
trace_to_come count held h p = rw h p

pub no_argument : {before after : Bytes} {n : ℕ} (count : ℕ) (held : Held) → held.flagged ≡ false → count < 2 → Puts before 0 usage after n
    → Puts before 0 (at_end count held) after n
unfolding at_end
no_argument count held h few p = rw (h, lt-ltb count 2 few) p

pub all_said : (before : Bytes) (count : ℕ) (held : Held) → held.flagged ≡ false → 2 ≤ count → Puts before 0 (at_end count held) before 0
unfolding at_end
all_said before count held h some = rw (h, le-ltb count 2 some) (record { past = refl; stored = refl })
