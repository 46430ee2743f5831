-- The lines of inputs listed side by side, one after another.
-- Letters: ms moments, is inputs, vs values, k how many are put.
use mathlib.Core.Path.{◌≡◌, refl, sym, ap, ◌∙◌}
use mathlib.Core.List.{List, [], ◌∷◌, ◌++◌, append_assoc, append-nil}
use Prim.Native.Nat.{ℕ, ◌+◌, ◌*◌, ◌≤◌, ◌<◌}
use native.Mathlib.Omega.{arith}
use native.Mathlib.Numerals.{add-one}
use lib.ListN.{length, get_or, set, take}
use lib.Seq.{take_all, take-suc, length-take-le}
use Rattle.listing.specs.Bytes.{figure}
use Rattle.schedule.specs.Edges.{Edge}
use Rattle.schedule.specs.Sentence.{edges_of}
use Rattle.session_print.specs.Puts.{Puts}
use Rattle.session_print.proofs.LineBytes.{then_bytes, same_bytes}
use Rattle.windows_trace.specs.Trace.{input_line, last_line_lem, trace_lines}

-- ── a line from its parts ─────────────────────────────────────────────────────────
pub input_line_is : (e : Edge) →
    (73 ∷ (9 ∷ [])) ++ ((figure e.moment ++ (9 ∷ [])) ++ ((figure e.input ++ (9 ∷ [])) ++ (figure e.value ++ (10 ∷ [])))) ≡ input_line e
unfolding input_line
input_line_is e = simp append_assoc

pub last_line_is : (moment : ℕ) → (81 ∷ (9 ∷ [])) ++ (figure moment ++ (10 ∷ [])) ≡ last_line_lem moment
unfolding last_line_lem
last_line_is moment = refl

pub two_bytes : (l : List ℕ) (i a b : ℕ) (between after : List ℕ) → between ≡ set l i a → after ≡ set between (i + 1) b → Puts l i (a ∷ (b ∷ [])) after (i + 2)
two_bytes l i a b between after e f =
    record { past = omega arith; stored = f ∙ ap (λ (m : List ℕ). set m (i + 1) b) e ∙ ap (λ (n : ℕ). set (set l i a) n b) (add-one i) }

-- ── lists joined ──────────────────────────────────────────────────────────────────
pub lines_append : (es fs : List Edge) → trace_lines (es ++ fs) ≡ trace_lines es ++ trace_lines fs
unfolding trace_lines
lines_append [] fs = refl
lines_append (e ∷ es) fs = ap (λ (l : List ℕ). input_line e ++ l) (lines_append es fs) ∙ sym (append_assoc (input_line e) (trace_lines es) (trace_lines fs))

one_line : (e : Edge) → trace_lines (e ∷ []) ≡ input_line e
unfolding trace_lines
one_line e = append-nil (input_line e)

edges_snoc : (ms is vs : List ℕ) (m i v : ℕ) → length ms ≡ length is → length ms ≡ length vs →
    edges_of (ms ++ (m ∷ [])) (is ++ (i ∷ [])) (vs ++ (v ∷ [])) ≡ edges_of ms is vs ++ (record { moment = m; input = i; value = v } ∷ [])
unfolding edges_of
edges_snoc [] [] [] m i v e f = refl
edges_snoc [] [] (y ∷ vs) m i v e f = absurd (omega arith)
edges_snoc [] (x ∷ is) vs m i v e f = absurd (omega arith)
edges_snoc (w ∷ ms) [] vs m i v e f = absurd (omega arith)
edges_snoc (w ∷ ms) (x ∷ is) [] m i v e f = absurd (omega arith)
edges_snoc (w ∷ ms) (x ∷ is) (y ∷ vs) m i v e f =
    ap (λ (l : List Edge). record { moment = w; input = x; value = y } ∷ l) (edges_snoc ms is vs m i v (omega arith) (omega arith))

-- ── the lines of the first k ──────────────────────────────────────────────────────
abbrev pub edges_to : List ℕ → List ℕ → List ℕ → ℕ → List Edge
edges_to ms is vs k = edges_of (take k ms) (take k is) (take k vs)

abbrev pub edge_at : List ℕ → List ℕ → List ℕ → ℕ → Edge
edge_at ms is vs k = record { moment = get_or ms k 0; input = get_or is k 0; value = get_or vs k 0 }

edges_more : (ms is vs : List ℕ) (k : ℕ) → k < length ms → k < length is → k < length vs → edges_to ms is vs (k + 1) ≡ edges_to ms is vs k ++ (edge_at ms is vs k ∷ [])
edges_more ms is vs k h g f =
    let n : length (take k ms) ≡ length (take k is) = length-take-le k ms (omega arith) ∙ sym (length-take-le k is (omega arith)) in
    let o : length (take k ms) ≡ length (take k vs) = length-take-le k ms (omega arith) ∙ sym (length-take-le k vs (omega arith)) in
    rw (add-one k, take-suc ms k 0 h, take-suc is k 0 g, take-suc vs k 0 f) (edges_snoc (take k ms) (take k is) (take k vs) _ _ _ n o)

lines_more : (ms is vs : List ℕ) (k : ℕ) → k < length ms → k < length is → k < length vs →
    trace_lines (edges_to ms is vs k) ++ input_line (edge_at ms is vs k) ≡ trace_lines (edges_to ms is vs (k + 1))
lines_more ms is vs k h g f =
    ap (λ (l : List ℕ). trace_lines (edges_to ms is vs k) ++ l) (sym (one_line (edge_at ms is vs k)))
    ∙ sym (lines_append (edges_to ms is vs k) (edge_at ms is vs k ∷ []))
    ∙ ap trace_lines (sym (edges_more ms is vs k h g f))

lines_none : (ms is vs : List ℕ) → trace_lines (edges_to ms is vs 0) ≡ []
unfolding edges_of trace_lines
lines_none ms is vs = refl

pub edges_all : (ms is vs : List ℕ) (k : ℕ) → k ≡ length ms → k ≡ length is → k ≡ length vs → edges_to ms is vs k ≡ edges_of ms is vs
edges_all ms is vs k e f g = rw (take_all k ms (omega arith), take_all k is (omega arith), take_all k vs (omega arith)) refl

-- k lines are put
pub record Putting (before : List ℕ) (ms is vs : List ℕ) (count : ℕ) (out : List ℕ) (place k : ℕ) : Type 0 where
  pub most : k ≤ count
  pub few : place ≤ 65 * k
  pub puts : Puts before 0 (trace_lines (edges_to ms is vs k)) out place

pub putting_begun : (out ms is vs : List ℕ) (count : ℕ) → Putting out ms is vs count out 0 0
putting_begun out ms is vs count =
    record {
      most = omega arith;
      few = omega arith;
      puts = same_bytes (sym (lines_none ms is vs)) (record { past = refl; stored = refl });
    }

pub putting_on : (before ms is vs : List ℕ) (count : ℕ) (out : List ℕ) (place k : ℕ) → Putting before ms is vs count out place k → k < count
    → k < length ms → k < length is → k < length vs → (after : List ℕ) (next : ℕ) → Puts out place (input_line (edge_at ms is vs k)) after next → next ≤ place + 65
    → Putting before ms is vs count after next (k + 1)
putting_on before ms is vs count out place k v l h g f after next p q =
    record {
      most = omega arith;
      few = omega (arith, v.few);
      puts = same_bytes (lines_more ms is vs k h g f) (then_bytes v.puts p);
    }
