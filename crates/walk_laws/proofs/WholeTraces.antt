-- A whole trace and its calls determine each other: "neighbours of equal time forming one call, and last `Q|time`".
use mathlib.Core.Path.{◌≡◌, refl, sym, ap, ◌∙◌}
use mathlib.Core.Bool.{Bool, true, false, ◌&&◌, not}
use mathlib.Core.List.{List, [], ◌∷◌, ◌++◌}
use mathlib.Core.Logic.{◌↔◌}
use Prim.Native.Nat.{ℕ, ◌<◌}
use lib.Dec.{eqb, ltb}
use borrow.Author.Tests.{lt-ltb, ltb-true, eqb-true, eq-eqb}
use Rattle.words.specs.Moments.{moment_range}
use Rattle.listing.specs.Lists.{all, is_empty, all_but_last, last_or}
use Rattle.listing.specs.Bytes.{Bytes, line_feed, split, join, bytes_of}
use Rattle.listing.specs.Expressions.{word_range}
use Rattle.listing.specs.Text.{join_fields}
use Rattle.listing.specs.Questions.{closed_lines, unclosed}
use Rattle.listing.specs.Evaluation.{write}
use Rattle.listing.proofs.Tests.{no_test, and_left, and_right, all_head, all_tail}
use Rattle.listing.proofs.Splits.{Free, free, All, none_left, also, split_join, split_has_part, join_split}
use Rattle.listing.proofs.Separators.{joined_free}
use Rattle.listing.proofs.Texts.{is_empty_lem, all_but_last-snoc, last_or-snoc}
use Rattle.walk.specs.Instant.{Write}
use Rattle.walk.specs.Trace.{TraceLine, input_line, last_line_lem, out_of_form, read_trace_line, Script, call_at, last_at, broken, join_input, with_input, with_line, script_of, script}
use Rattle.walk.specs.Evaluation.{session_quoted}
use Rattle.walk_laws.specs.TraceText as TraceText
use Rattle.walk_laws.specs.TraceText.{input_fields, InputText, LastText, IsText, input_lines, trace_lines, trace_text, apart, fits, Whole, last, call, come_to_last}
use Rattle.walk_laws.proofs.TraceLines.{input_fields_visible, last_fields_visible, line_read_is_text, input_text_is_read, last_text_is_read}

-- ── from the calls to their lines and back ────────────────────────────────────────────────────────
new_call : (time : ℕ) (w : Write) (rest : Script) → apart time rest ≡ true → with_input time w rest ≡ call_at time (w ∷ []) rest
unfolding apart with_input join_input
new_call time w (call_at u ws rest) h = go (eqb time u) h
  where
    go : (t : Bool) → not t ≡ true → join_input t time w u ws rest ≡ call_at time (w ∷ []) (call_at u ws rest)
    go true h = no_test h
    go false h = refl
new_call time w (last_at u nothingAfter) h = refl
new_call time w broken h = refl

module _ (time : ℕ) (h : time < moment_range) where
  input_line_read : (w : Write) → fits w ≡ true → read_trace_line (join_fields (input_fields time w)) ≡ input_line time w
  unfolding fits
  input_line_read w f =
      input_text_is_read time w _ (record {
        is = refl;
        time_fits = h;
        input_fits = ltb-true _ _ (and_left (ltb w.number word_range) (ltb w.value word_range) f);
        value_fits = ltb-true _ _ (and_right (ltb w.number word_range) (ltb w.value word_range) f);
      })

  inputs_read : (w : Write) (ws : List Write) (lines : List Bytes) (rest : Script) → script_of lines true ≡ rest → all fits (w ∷ ws) ≡ true → apart time rest ≡ true →
      script_of (input_lines time (w ∷ ws) lines) true ≡ call_at time (w ∷ ws) rest
  unfolding script_of input_lines with_line with_input join_input
  inputs_read w [] lines rest e a p = rw (input_line_read w (all_head fits w [] a), e) (new_call time w rest p)
  inputs_read w (next ∷ ws) lines rest e a p =
      rw (input_line_read w (all_head fits w (next ∷ ws) a), inputs_read next ws lines rest e (all_tail fits w (next ∷ ws) a) p, eq-eqb time time refl)

whole_lines_read : {calls : Script} → Whole calls → script_of (trace_lines calls) true ≡ calls
unfolding script_of trace_lines with_line
whole_lines_read (last {time = time} h) = rw (last_text_is_read time _ (record { is = refl; time_fits = h }))
whole_lines_read (call {time = time} {w = w} {ws = ws} {rest = rest} h a p r) = inputs_read time h w ws (trace_lines rest) rest (whole_lines_read r) a p

-- What is shown of lines (and of whether nothing stands after them) whose calls come to `Q`.
record LinesOf (lines : List Bytes) (ends : Bool) (calls : Script) : Type 0 where
  pub is : lines ≡ trace_lines calls
  pub closed : ends ≡ true
  pub whole : Whole calls

text_fits : {time : ℕ} {w : Write} {line : Bytes} → InputText time w line → fits w ≡ true
unfolding fits
text_fits t = rw (lt-ltb _ _ t.input_fits, lt-ltb _ _ t.value_fits)

alone_whole : {time : ℕ} {w : Write} {line : Bytes} {rest : Script} → InputText time w line → apart time rest ≡ true → Whole rest → Whole (call_at time (w ∷ []) rest)
unfolding all
alone_whole {w} t p r = call {w = w} {ws = []} t.time_fits (rw (text_fits t)) p r

joined_whole : {time u : ℕ} {w : Write} {ws : List Write} {rest : Script} → u ≡ time → fits w ≡ true → Whole (call_at u ws rest) → Whole (call_at time (w ∷ ws) rest)
unfolding all
joined_whole {w} e f (call {w = next} {ws = ws} h a p r) = rw (← e) (call {w = w} {ws = next ∷ ws} h (rw f a) p r)

module _ (line : Bytes) (lines : List Bytes) (ends : Bool) where
  after_last : (time : ℕ) → LastText time line → (is_empty lines && ends) ≡ true → LinesOf (line ∷ lines) ends (last_at time (is_empty lines && ends))
  unfolding trace_lines
  after_last time t f =
      let none : lines ≡ [] = is_empty_lem lines (and_left (is_empty lines) ends f) in
      record { is = rw (t.is, none); closed = and_right (is_empty lines) ends f; whole = rw f (last t.time_fits) }

  after_input : (time : ℕ) (w : Write) → InputText time w line → (rest : Script) → (come_to_last rest ≡ true → LinesOf lines ends rest) →
      come_to_last (with_input time w rest) ≡ true → LinesOf (line ∷ lines) ends (with_input time w rest)
  unfolding with_input join_input come_to_last apart trace_lines input_lines all
  after_input time w t (call_at u ws rest) back f = go (eqb time u) refl f
    where
      go : (x : Bool) → eqb time u ≡ x → come_to_last (join_input x time w u ws rest) ≡ true → LinesOf (line ∷ lines) ends (join_input x time w u ws rest)
      go true e f =
          let r = back f in
          let same : u ≡ time = sym (eqb-true time u e) in
          record { is = rw (t.is, r.is, same); closed = r.closed; whole = joined_whole same (text_fits t) r.whole }
      go false e f =
          let r = back f in
          record { is = rw (t.is, r.is); closed = r.closed; whole = alone_whole t (rw e) r.whole }
  after_input time w t (last_at u nothingAfter) back f =
      let r = back f in
      record { is = rw (t.is, r.is); closed = r.closed; whole = alone_whole t refl r.whole }
  after_input time w t broken back f = no_test f

  after_line : (read : TraceLine) → IsText read line → (rest : Script) → (come_to_last rest ≡ true → LinesOf lines ends rest) →
      come_to_last (with_line read (is_empty lines && ends) rest) ≡ true → LinesOf (line ∷ lines) ends (with_line read (is_empty lines && ends) rest)
  unfolding with_line come_to_last IsText
  after_line (input_line time w) t rest back f = after_input time w t rest back f
  after_line (last_line_lem time) t rest back f = after_last time t f
  after_line out_of_form t rest back f = no_test f

lines_back : (lines : List Bytes) (ends : Bool) → come_to_last (script_of lines ends) ≡ true → LinesOf lines ends (script_of lines ends)
unfolding script_of come_to_last
lines_back [] ends f = no_test f
lines_back (line ∷ lines) ends f =
    after_line line lines ends (read_trace_line line) (line_read_is_text line (read_trace_line line) refl) (script_of lines ends) (lines_back lines ends) f

-- ── from lines to the text and back ───────────────────────────────────────────────────────────────
input_lines_free : (time : ℕ) (ws : List Write) (lines : List Bytes) → All (Free line_feed) lines → All (Free line_feed) (input_lines time ws lines)
unfolding input_lines
input_lines_free time [] lines a = a
input_lines_free time (w ∷ ws) lines a = also (joined_free _ (input_fields_visible time w)) (input_lines_free time ws lines a)

lines_free : (calls : Script) → All (Free line_feed) (trace_lines calls)
unfolding trace_lines
lines_free (call_at time ws rest) = input_lines_free time ws (trace_lines rest) (lines_free rest)
lines_free (last_at time nothingAfter) = also (joined_free _ (last_fields_visible time)) none_left
lines_free broken = none_left

all_snoc : (lines : List Bytes) → All (Free line_feed) lines → All (Free line_feed) (lines ++ ([] ∷ []))
all_snoc [] none_left = also free none_left
all_snoc (line ∷ lines) (also f a) = also f (all_snoc lines a)

split_closed : (lines : List Bytes) → All (Free line_feed) lines → split line_feed (join line_feed (lines ++ ([] ∷ []))) ≡ lines ++ ([] ∷ [])
split_closed [] none_left = split_join [] [] (also free none_left)
split_closed (line ∷ lines) (also f a) = split_join line (lines ++ ([] ∷ [])) (also f (all_snoc lines a))

parts_snoc : (part : Bytes) (parts : List Bytes) → part ∷ parts ≡ all_but_last (part ∷ parts) ++ (last_or [] (part ∷ parts) ∷ [])
unfolding all_but_last last_or
parts_snoc part [] = refl
parts_snoc part (next ∷ parts) = rw (← parts_snoc next parts)

-- ── each determines the other ─────────────────────────────────────────────────────────────────────
whole_is_read : (calls : Script) → Whole calls → script (trace_text calls) ≡ calls
unfolding script closed_lines unclosed
whole_is_read calls w =
    rw (split_closed (trace_lines calls) (lines_free calls), all_but_last-snoc (trace_lines calls) [], last_or-snoc [] (trace_lines calls) []) (whole_lines_read w)

whole_comes_to_last : {calls : Script} → Whole calls → come_to_last calls ≡ true
unfolding come_to_last
whole_comes_to_last (last h) = refl
whole_comes_to_last (call h a p r) = whole_comes_to_last r

script_is_text : (trace : Bytes) → come_to_last (script trace) ≡ true → (trace ≡ trace_text (script trace)) × Whole (script trace)
unfolding script closed_lines unclosed
script_is_text trace f =
    let parts = split line_feed trace in
    let r = lines_back (all_but_last parts) (is_empty (last_or [] parts)) f in
    let p = split_has_part line_feed trace in
    let none : last_or [] parts ≡ [] = is_empty_lem (last_or [] parts) r.closed in
    let snoc : parts ≡ all_but_last parts ++ (last_or [] parts ∷ []) = rw p.is (parts_snoc p.head p.rest) in
    (sym (join_split line_feed trace) ∙ ap (join line_feed) (snoc ∙ cc (none, r.is)), r.whole)

-- A trace has these calls up to its `Q`, with nothing behind it, exactly if it is their text, its figures have their widths and neighbouring calls differ in time.
pub trace_reads_exactly_if : (trace : Bytes) (calls : Script) → ((script trace ≡ calls) × (come_to_last calls ≡ true)) ↔ ((trace ≡ trace_text calls) × Whole calls)
trace_reads_exactly_if trace calls = (
  λ h. rw (← h.0) (script_is_text trace (rw h.0 h.1)),
  λ h. (rw h.0 (whole_is_read calls h.1), whole_comes_to_last h.1),
)

-- The text of two calls: inputs 0 and 1 take 3 and -1 at 10, and input 0 takes 7 at 20; then `Q|70000`.
pub text-of-two-calls :
    trace_text (call_at 10 (record { number = 0; value = 3 } ∷ record { number = 1; value = 4294967295 } ∷ []) (call_at 20 (record { number = 0; value = 7 } ∷ []) (last_at 70000 true)))
    ≡ bytes_of "I\t10\t0\t3\nI\t10\t1\t-1\nI\t20\t0\t7\nQ\t70000\n"
unfolding session_quoted write trace_lines input_lines input_fields TraceText.last_fields
text-of-two-calls = refl
