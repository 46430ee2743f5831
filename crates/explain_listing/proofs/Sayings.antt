-- What the program says, put piece by piece. Letters: at the place of the first byte, r the place past the last.
use mathlib.Core.Path.{◌≡◌, refl, sym, ap, ◌∙◌}
use Prim.Native.Nat.{ℕ, ◌+◌, ◌*◌, ◌≤◌}
use native.Mathlib.Omega.{arith}
use native.Mathlib.Numerals.{add-one}
use lib.ListN.{set}
use Rattle.listing.specs.Bytes.{Bytes, figure}
use Rattle.session_print.specs.Puts.{Puts}
use Rattle.session_print.proofs.LineBytes.{same_bytes, then_bytes, one_byte}
use Rattle.explain_listing.specs.Said.{rule_line, rules, verdict_line, VerdictSaid}
use Rattle.explain_listing.specs.Verdicts.{VerdictOn}
use Rattle.std.specs.Prelude.{Result}
use Rattle.explain_listing.specs.declared.verdict.Refusal.{Refusal}

-- ── a verdict ────────────────────────────────────────────────────────────
pub verdict_said : {path listing text before after : Bytes} {v w : Result (Unit {0}) Refusal} {r : ℕ} → VerdictOn listing v → v ≡ w → text ≡ verdict_line path listing w →
    Puts before 0 text after r → r ≤ 50000 → VerdictSaid path listing before after r
verdict_said {path} {listing} {v = v} on e t p few = record { verdict = v; is = on; puts = same_bytes (t ∙ ap (verdict_line path listing) (sym e)) p; few = few }

-- ── the rules, one after another ─────────────────────────────────────────────────
-- so many of them are put from a place on
pub record Ruling (before : Bytes) (first : ℕ) (after : Bytes) (at done : ℕ) : Type 0 where
  pub early : first ≤ 200
  pub few : at ≤ first + 350 * done
  pub puts : Puts before first (rules done) after at

pub ruling_begun : (before : Bytes) (first : ℕ) → first ≤ 200 → Ruling before first before first 0
unfolding rules
ruling_begun before first h = record { early = h; few = omega arith; puts = record { past = omega arith; stored = refl } }

pub ruling_on : {before m m₁ m₂ m₃ : Bytes} {first at a next done : ℕ} → Ruling before first m at done →
    Puts m at (figure (done + 1)) m₁ a × (a ≤ at + 20) → m₂ ≡ set m₁ a 32 → Puts m₂ (a + 1) (rule_line (done + 1)) m₃ next × (next ≤ a + 1 + 301) →
    Ruling before first m₃ next (done + 1)
unfolding rules
ruling_on {m₁ = m₁} {a = a} {done = done} v f e g =
    let one = then_bytes f.0 (then_bytes (one_byte m₁ a 32 _ e) g.0) in
    record {
      early = v.early;
      few = omega (arith, v.few, f.1, g.1);
      puts = same_bytes (simp add-one refl) (then_bytes v.puts one);
    }
