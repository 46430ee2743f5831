-- The lines of writes listed side by side, one after another.
-- Letters: ns numbers, vs values, k how many are printed.
use mathlib.Core.Path.{◌≡◌, refl, sym, ap, ◌∙◌}
use mathlib.Core.List.{List, [], ◌∷◌, ◌++◌, append_assoc, append-nil}
use Prim.Native.Nat.{ℕ, ◌+◌, ◌*◌, ◌≤◌}
use native.Mathlib.Omega.{arith}
use lib.ListN.{length}
use lib.Seq.{length-sets}
use Rattle.walk.specs.Calls.{inputs_of}
use Rattle.walk.specs.Events.{events_at}
use Rattle.walk.specs.Session.{write_line, write_lines}
use Rattle.session_print.specs.Puts.{Puts}
use Rattle.session_print.proofs.LineBytes.{then_bytes, same_bytes}

abbrev pub lines_of : ℕ → List ℕ → List ℕ → List ℕ
lines_of moment ns vs = write_lines (events_at moment (inputs_of ns vs))

lines_more : (moment n v : ℕ) (ns vs : List ℕ) → lines_of moment (n ∷ ns) (v ∷ vs) ≡ write_line (record { moment = moment; number = n; value = v }) ++ lines_of moment ns vs
unfolding inputs_of events_at write_lines
lines_more moment n v ns vs = refl

pub no_numbers : (moment : ℕ) (ns vs : List ℕ) → length ns ≡ 0 → lines_of moment ns vs ≡ []
unfolding inputs_of events_at write_lines
no_numbers moment [] vs e = refl
no_numbers moment (n ∷ ns) vs e = absurd (omega arith)

pub no_values : (moment : ℕ) (ns vs : List ℕ) → length vs ≡ 0 → lines_of moment ns vs ≡ []
unfolding inputs_of events_at write_lines
no_values moment [] [] e = refl
no_values moment (n ∷ ns) [] e = refl
no_values moment ns (v ∷ vs) e = absurd (omega arith)

-- the lines of the writes are put but for those of what is left of the two lists
pub record Putting (before : List ℕ) (at moment : ℕ) (ns vs out : List ℕ) (place : ℕ) (left_ns left_vs : List ℕ) : Type 0 where
  pub done : List ℕ
  pub all : lines_of moment ns vs ≡ done ++ lines_of moment left_ns left_vs
  pub few : place + 66 * length left_ns ≤ at + 66 * length ns
  pub puts : Puts before at done out place

pub putting_begun : (out : List ℕ) (at moment : ℕ) (ns vs : List ℕ) → Putting out at moment ns vs out at ns vs
putting_begun out at moment ns vs = record { done = []; all = refl; few = omega arith; puts = record { past = omega arith; stored = refl } }

pub putting_on : (before : List ℕ) (at moment : ℕ) (ns vs out : List ℕ) (place n v : ℕ) (left_ns left_vs : List ℕ) →
    Putting before at moment ns vs out place (n ∷ left_ns) (v ∷ left_vs) → (after : List ℕ) (next : ℕ) →
    Puts out place (write_line (record { moment = moment; number = n; value = v })) after next → next ≤ place + 66 → Putting before at moment ns vs after next left_ns left_vs
putting_on before at moment ns vs out place n v left_ns left_vs p after next puts h =
    record {
      done = p.done ++ write_line (record { moment = moment; number = n; value = v });
      all = p.all ∙ ap (λ (l : List ℕ). p.done ++ l) (lines_more moment n v left_ns left_vs) ∙ sym (append_assoc p.done _ _);
      few = omega (arith, p.few);
      puts = then_bytes p.puts puts;
    }

pub putting_done : {before : List ℕ} {at moment : ℕ} {ns vs out : List ℕ} {place : ℕ} {left_ns left_vs : List ℕ} →
    Putting before at moment ns vs out place left_ns left_vs → lines_of moment left_ns left_vs ≡ [] →
    Puts before at (lines_of moment ns vs) out place × (place ≤ at + 66 * length ns)
putting_done p e = (same_bytes (sym (p.all ∙ ap (λ (l : List ℕ). p.done ++ l) e ∙ append-nil p.done)) p.puts, omega (arith, p.few))

pub still_long : {before after bytes : List ℕ} {i j : ℕ} → Puts before i bytes after j → length after ≡ length before
still_long {before} {after} {bytes} {i} p = ap length p.stored ∙ length-sets before i bytes

pub ends : {k count : ℕ} → k ≤ count → count ≤ k → k ≡ count
ends h g = omega arith
