-- A session that reads the trace makes the calls of just these inputs.
-- Letters: e an edge, es edges, t the last moment.
use mathlib.Core.Path.{◌≡◌, refl, ◌∙◌}
use mathlib.Core.Bool.{Bool, true, false}
use mathlib.Core.List.{List, [], ◌∷◌, ◌++◌, append_assoc, Memᴰ}
use mathlib.Core.Option.{some}
use Prim.Native.Nat.{ℕ, ◌*◌, ◌<◌}
use native.Mathlib.Omega.{arith}
use borrow.Author.Tests.{lt-ltb}
use Rattle.words.specs.Moments.{moment_range}
use Rattle.listing.specs.Bytes.{Bytes, line_feed, split, join, figure}
use Rattle.listing.specs.Text.{signed_figure, join_fields}
use Rattle.listing.specs.Questions.{closed_lines, unclosed}
use Rattle.listing.proofs.Splits.{split_at}
use Rattle.listing.proofs.Separators.{joined_free}
use Rattle.listing.proofs.Texts.{all_but_last-snoc, last_or-snoc}
use Rattle.walk.specs.Instant.{Write}
use Rattle.walk.specs.Trace.{with_line, script_of, script}
use Rattle.walk_laws.specs.TraceText.{input_fields, last_fields}
use Rattle.walk_laws.proofs.TraceLines.{input_fields_visible, last_fields_visible, input_text_is_read, last_text_is_read}
use Rattle.schedule.specs.Schedule.{Schedule}
use Rattle.schedule.specs.Edges.{Edge, edges_in}
use Rattle.schedule.specs.Union.{is_open}
use Rattle.schedule.specs.Sentence.{open_value}
use Rattle.schedule.specs.Members.{InSpan}
use Rattle.schedule_laws.proofs.Members.{member_in}
use Rattle.windows_trace.specs.Trace.{input_line, last_line_lem, trace_lines, hours_lines, calls_of}
use Rattle.windows_trace.proofs.InHours.{hours_joined}

abbrev write_of : Edge → Write
write_of e = record { number = e.input; value = e.value }

-- a line without its line feed
abbrev text : Edge → Bytes
text e = join_fields (input_fields e.moment (write_of e))

abbrev last_text : ℕ → Bytes
last_text t = join_fields (last_fields t)

-- an edge whose figures a trace can hold
pub record Fits (e : Edge) : Type 0 where
  pub moment_fits : e.moment < moment_range
  pub input_fits : e.input < 4294967296
  pub value_fits : e.value < 2147483648

abbrev pub AllFit : List Edge → Type 0
AllFit es = (e : Edge) → Memᴰ e es → Fits e

plain : (v : ℕ) → v < 2147483648 → figure v ≡ signed_figure v
unfolding signed_figure
plain v h = rw (lt-ltb v 2147483648 h)

line_is_lem : (e : Edge) → Fits e → input_line e ≡ text e ++ (line_feed ∷ [])
unfolding input_line input_fields join_fields join
line_is_lem e f = rw (plain e.value f.value_fits) (simp append_assoc)

last_is : (t : ℕ) → last_line_lem t ≡ last_text t ++ (line_feed ∷ [])
unfolding last_line_lem last_fields join_fields join
last_is t = refl

-- ── the trace's lines ─────────────────────────────────────────────────────────────
module _ (t : ℕ) (t-fits : t < moment_range) where
  abbrev trace : List Edge → Bytes
  trace es = trace_lines es ++ last_line_lem t

  lines : List Edge → List Bytes
  lines [] = last_text t ∷ []
  lines (e ∷ es) = text e ∷ lines es

  split_trace : (es : List Edge) → AllFit es → split line_feed (trace es) ≡ lines es ++ ([] ∷ [])
  unfolding trace_lines split lines
  split_trace [] f = rw (last_is t) (split_at [] (joined_free (last_fields t) (last_fields_visible t)))
  split_trace (e ∷ es) f =
      let w = write_of e in
      rw (line_is_lem e (f e (Memᴰ.head refl)), append_assoc, append_assoc)
      (split_at (trace es) (joined_free (input_fields e.moment w) (input_fields_visible e.moment w)) ∙ rw (split_trace es (λ d m. f d (Memᴰ.tail m))))

  script_of_lines : (es : List Edge) → AllFit es → script_of (lines es) true ≡ calls_of es t
  unfolding script_of with_line calls_of lines
  script_of_lines [] f = rw (last_text_is_read t (last_text t) (record { is = refl; time_fits = t-fits }))
  script_of_lines (e ∷ es) f =
      let g = f e (Memᴰ.head refl) in
      let h : e.value < 4294967296 = omega (arith, g.value_fits) in
      rw (
        input_text_is_read e.moment (write_of e) (text e) (record { is = refl; time_fits = g.moment_fits; input_fits = g.input_fits; value_fits = h }),
        script_of_lines es (λ d m. f d (Memᴰ.tail m)),
      )

  pub read_back : (es : List Edge) → AllFit es → script (trace_lines es ++ last_line_lem t) ≡ calls_of es t
  unfolding script closed_lines unclosed
  read_back es f =
      rw (split_trace es f, all_but_last-snoc (lines es) [], last_or-snoc [] (lines es) []) (script_of_lines es f)

-- ── a schedule's trace ────────────────────────────────────────────────────────────
small : (b : Bool) → open_value b < 2147483648
small true = omega arith
small false = omega arith

-- so many hours of a schedule, put hour by hour and then `Q`, ask for the schedule's inputs and no others
pub schedule_read_back : (s : Schedule) (hours : ℕ) → hours * 3600000 < moment_range →
    script (hours_lines (some s) hours ++ last_line_lem (hours * 3600000)) ≡ calls_of (edges_in s 0 (hours * 3600000)) (hours * 3600000)
schedule_read_back s hours h =
    let end = hours * 3600000 in
    rw (hours_joined s hours) (read_back end h (edges_in s 0 end) (λ e m. fit e (member_in s 0 end e m)))
  where
    fit : (e : Edge) → InSpan s 0 (hours * 3600000) e → Fits e
    fit e i = record {
      moment_fits = omega (arith, h, i.before);
      input_fits = omega (arith, i.is.input_below);
      value_fits = rw i.is.value_is (small (is_open s e.input e.moment));
    }
