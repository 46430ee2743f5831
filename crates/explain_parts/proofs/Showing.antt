-- Bytes shown one after another. Letters: at the place of the first, r the place past the last.
use mathlib.Core.Path.{◌≡◌, refl, sym, ap, ◌∙◌}
use mathlib.Core.Bool.{false, ◌&&◌}
use mathlib.Core.List.{[], ◌∷◌, ◌++◌, append-nil, append_assoc}
use Prim.Native.Nat.{ℕ, ◌+◌, ◌*◌, ◌≤◌, ◌<◌, ◌/◌, ◌%◌}
use native.Mathlib.Omega.{arith}
use native.Mathlib.Numerals.{add-one}
use lib.Dec.{leb, ltb}
use lib.ListN.{length, get_or, set, take}
use lib.Seq.{take-suc, take_all, length-take-le}
use Rattle.std.proofs.Common.{min}
use Rattle.std.proofs.lemmas.Bool.Decides.{nat_tests}
use borrow.Author.Tests.{ne_eqb, le-leb, lt-leb, lt-ltb, le-ltb}
use Rattle.listing.specs.Bytes.{Bytes}
use Rattle.session_print.specs.Puts.{Puts}
use Rattle.session_print.proofs.LineBytes.{same_bytes, then_bytes}
use Rattle.explain_parts.specs.Shown.{hex_digit, hexed, escaped, escaped_all, dots, shown}

-- ── a byte ───────────────────────────────────────────────────────────────────────
-- stores one behind another
two_put : {l m n : Bytes} {at x y : ℕ} → m ≡ set l at x → n ≡ set m (at + 1) y → Puts l at (x ∷ y ∷ []) n (at + 2)
two_put {l} {m} {n} {at} {x} {y} a b = record { past = omega arith; stored = b ∙ rw (a, add-one at) refl }

pub tab_put : {l m n : Bytes} {at : ℕ} (b : ℕ) → b ≡ 9 → m ≡ set l at 92 → n ≡ set m (at + 1) 116 → Puts l at (escaped b) n (at + 2)
unfolding escaped
tab_put b e p q = same_bytes (rw e) (two_put p q)

pub hex_put : {l m n o r : Bytes} {at d e : ℕ} (b : ℕ) → m ≡ set l at 92 → n ≡ set m (at + 1) 120 → o ≡ set n (at + 2) d → r ≡ set o (at + 3) e →
    d ≡ hex_digit (b / 16) → e ≡ hex_digit (b % 16) → Puts l at (hexed b) r (at + 4) × (at + 4 ≤ at + 4)
hex_put {l} {o = o} {r = r} {at = at} {d} {e} b p q u v f g =
    let last : r ≡ set o (at + 2 + 1) e = v ∙ ap (λ (k : ℕ). set o k e) (omega arith) in
    let four : Puts l at (92 ∷ 120 ∷ d ∷ e ∷ []) r (at + 2 + 2) = then_bytes (two_put p q) (two_put u last) in
    (record { past = omega arith; stored = four.stored ∙ rw (f, g) refl }, omega arith)

pub plain_shown : (b : ℕ) → (b ≡ 9 → ⊥) → 32 ≤ b → b ≤ 126 → b ∷ [] ≡ escaped b
unfolding escaped
plain_shown b n l h = rw (ne_eqb b 9 n, le-leb 32 b l, le-leb b 126 h)

hex_shown : (b : ℕ) → (b ≡ 9 → ⊥) → leb 32 b && leb b 126 ≡ false → hexed b ≡ escaped b
unfolding escaped
hex_shown b n e = rw (ne_eqb b 9 n, e)

pub above_shown : (b : ℕ) → (b ≡ 9 → ⊥) → 32 ≤ b → 126 < b → hexed b ≡ escaped b
above_shown b n l h = hex_shown b n (rw (le-leb 32 b l, lt-leb b 126 h))

pub below_shown : (b : ℕ) → (b ≡ 9 → ⊥) → b < 32 → hexed b ≡ escaped b
below_shown b n h = hex_shown b n (rw (lt-leb 32 b h))

-- ── several ──────────────────────────────────────────────────────────────────────
escaped_more : (a : Bytes) (b : ℕ) → escaped_all (a ++ (b ∷ [])) ≡ escaped_all a ++ escaped b
unfolding escaped_all
escaped_more [] b = append-nil (escaped b)
escaped_more (x ∷ a) b = ap (λ (l : Bytes). escaped x ++ l) (escaped_more a b) ∙ sym (append_assoc (escaped x) (escaped_all a) (escaped b))

-- so many bytes are shown by now
pub record Showing (before : Bytes) (at : ℕ) (bytes : Bytes) (after : Bytes) (past k : ℕ) : Type 0 where
  pub few : past ≤ at + 4 * k
  pub puts : Puts before at (escaped_all (take k bytes)) after past

pub showing_begun : (before : Bytes) (at : ℕ) (bytes : Bytes) → Showing before at bytes before at 0
unfolding escaped_all
showing_begun before at bytes = record { few = omega arith; puts = record { past = omega arith; stored = refl } }

pub showing_on : {before bytes m m₁ : Bytes} {at past next k : ℕ} → Showing before at bytes m past k → k < length bytes →
    Puts m past (escaped (get_or bytes k 0)) m₁ next × (next ≤ past + 4) → Showing before at bytes m₁ next (k + 1)
showing_on {bytes = bytes} {k = k} v h p =
    record {
      few = omega (arith, v.few, p.1);
      puts =
          same_bytes
          (sym (ap escaped_all (ap (λ (j : ℕ). take j bytes) (add-one k) ∙ take-suc bytes k 0 h) ∙ escaped_more (take k bytes) (get_or bytes k 0)))
          (then_bytes v.puts p.0);
    }

-- the first so many bytes, all of which are shown
module _ {before m : Bytes} {at past k : ℕ} (bytes : Bytes) (most few : ℕ) (is : few ≡ min most (length bytes)) (v : Showing before at (take few bytes) m past k)
    (h : length (take few bytes) ≤ k) (below : k ≤ length (take few bytes)) where
  size : length (take few bytes) ≡ few
  size = length-take-le few bytes (rw is (grind (arith, nat_tests)))

  pub shown_cut : {m₁ m₂ : Bytes} → most < length bytes → m₁ ≡ set m past 46 → m₂ ≡ set m₁ (past + 1) 46 →
      Puts before at (shown most bytes) m₂ (past + 2) × (past + 2 ≤ at + 4 * most + 2)
  unfolding shown dots
  shown_cut cut a b =
      let e : few ≡ most = is ∙ (grind (arith, nat_tests)) in
      let all = then_bytes v.puts (two_put a b) in
      (same_bytes (rw (lt-ltb most (length bytes) cut, take_all k (take few bytes) h, e)) all, omega (arith, v.few, size, e, below))

  pub shown_whole : length bytes ≤ most → Puts before at (shown most bytes) m past × (past ≤ at + 4 * most + 2)
  unfolding shown dots
  shown_whole all =
      let e : few ≡ length bytes = is ∙ (grind (arith, nat_tests)) in (same_bytes (whole e) v.puts, omega (arith, v.few, all, size, e, below))
    where
      whole : few ≡ length bytes → escaped_all (take k (take few bytes)) ≡ escaped_all (take most bytes) ++ dots (ltb most (length bytes))
      whole e =
          rw (le-ltb most (length bytes) all, take_all k (take few bytes) h, e, take_all (length bytes) bytes (omega arith), take_all most bytes all) (sym (append-nil (escaped_all bytes)))
