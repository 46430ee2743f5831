-- The script of a trace, line by line.
use mathlib.Core.Path.{◌≡◌, refl, sym, ap, ◌∙◌}
use mathlib.Core.Bool.{Bool, true, false, ◌&&◌}
use mathlib.Core.List.{List, [], ◌∷◌, ◌++◌}
use Prim.Native.Nat.{ℕ, ◌+◌, ◌≤◌, ◌<◌}
use native.Mathlib.Omega.{arith}
use lib.Dec.{eqb}
use lib.ListN.{length, get_or, drop, drop_of_length-le}
use lib.Seq.{drop-cons, get_or-drop}
use borrow.Author.Tests.{lt-ltb, eqb-false, eqb-true}
use Rattle.listing.specs.Lists.{is_empty, all_but_last, last_or}
use Rattle.listing.specs.Bytes.{split}
use Rattle.listing.specs.Questions.{closed_lines, unclosed}
use Rattle.listing.proofs.Splits.{split_has_part, split_at, split_free}
use Rattle.walk.specs.Trace as W
use Rattle.walk.specs.Trace.{script, script_of, with_line, read_trace_line}
use Rattle.text_place.specs.Texts.{before, first_line, ends_line, line_end}
use Rattle.text_place.specs.Places.{passed}
use Rattle.text_place.specs.declared.place.Place.{Place}
use Rattle.text_place.proofs.Texts.{cut_at, no_cut, before_free}
use Rattle.text_place.proofs.Places.{drop_past, past_in}
use Rattle.text_records.proofs.Lines.{closed_more}
use Rattle.session_trace_lines.specs.Lines.{as_trace_line, line_answer}
use Rattle.session_trace.specs.Groups.{JoinsOn}
use Rattle.session_trace_lines.specs.declared.line.TraceLine.TheVariants as LV

-- ── the lines of a text from an offset on ────────────────────────────────────────
nowhere : ℕ → Bool
nowhere byte = false

before_nowhere : (l : List ℕ) → before nowhere l ≡ l
unfolding before nowhere
before_nowhere [] = refl
before_nowhere (b ∷ l) = rw (before_nowhere l)

clash : {A : Type 0} → ◌≡◌ {A = Bool} false true → A
clash e = absurd (let z : ◌≡◌ {A = ℕ} 0 1 = cc in omega arith)

module _ (s : List ℕ) (at : ℕ) where
  lines_more : get_or s (line_end s at) 0 ≡ 10 → split 10 (drop at s) ≡ first_line (drop at s) ∷ split 10 (drop (line_end s at + 1) s)
  unfolding nowhere
  lines_more e =
      let c = cut_at ends_line nowhere 10 (omega arith) refl refl (λ b h. clash h) (λ b h n. eqb-true b 10 h) (drop at s) (get_or-drop at s (length (first_line (drop at s))) 0 ∙ e) in
      let d : drop at s ≡ first_line (drop at s) ++ (10 ∷ drop (line_end s at + 1) s) =
      sym (before_nowhere (drop at s)) ∙ c ∙ rw (before_nowhere, drop_past s at (length (first_line (drop at s)))) in
      ap (split 10) d ∙ split_at _ (before_free ends_line 10 refl (drop at s))

  lines_last : (get_or s (line_end s at) 0 ≡ 10 → ⊥) → split 10 (drop at s) ≡ drop at s ∷ []
  unfolding nowhere
  lines_last n =
      let c : before nowhere (drop at s) ≡ first_line (drop at s) = no_cut ends_line nowhere 10 (omega arith) refl refl (λ b h. clash h) (λ b h n. eqb-true b 10 h) (drop at s) (λ e. n (sym (get_or-drop at s (length (first_line (drop at s))) 0) ∙ e)) in
      let d : drop at s ≡ first_line (drop at s) = sym (before_nowhere (drop at s)) ∙ c in
      ap (split 10) d ∙ split_free (before_free ends_line 10 refl (drop at s)) ∙ rw (← d)

  unclosed_more : get_or s (line_end s at) 0 ≡ 10 → unclosed (drop at s) ≡ unclosed (drop (line_end s at + 1) s)
  unfolding unclosed last_or
  unclosed_more e =
      let p = split_has_part 10 (drop (line_end s at + 1) s) in
      rw (lines_more e, p.is)

-- nothing stands at the end of the text, and something before it
abbrev nothing_at : List ℕ → ℕ → Bool
nothing_at s at = is_empty (closed_lines (drop at s)) && is_empty (unclosed (drop at s))

nothing_left : (s : List ℕ) (at : ℕ) → length s ≤ at → nothing_at s at ≡ true
unfolding closed_lines unclosed split all_but_last last_or
nothing_left s at h = rw (drop_of_length-le s h)

something_left : (s : List ℕ) (at : ℕ) → at < length s → nothing_at s at ≡ false
unfolding closed_lines unclosed all_but_last last_or
something_left s at h = go (eqb (get_or s (line_end s at) 0) 10) refl
  where
    go : (t : Bool) → eqb (get_or s (line_end s at) 0) 10 ≡ t → nothing_at s at ≡ false
    go true e = rw (closed_more s at (eqb-true _ 10 e))
    go false e = rw (lines_last s at (eqb-false _ 10 e), drop-cons s at 0 h)

nothing_after : (s : List ℕ) (at : ℕ) → at ≤ length s → nothing_at s at ≡ eqb at (length s)
nothing_after s at h = go (eqb at (length s)) refl
  where
    go : (t : Bool) → eqb at (length s) ≡ t → nothing_at s at ≡ t
    go true e = nothing_left s at (omega (arith, eqb-true at (length s) e))
    go false e = something_left s at (let n : at ≡ length s → ⊥ = eqb-false at (length s) e in omega arith)

-- ── the script from a line on ────────────────────────────────────────────────────
module _ (s : List ℕ) (at : ℕ) where
  script_more : get_or s (line_end s at) 0 ≡ 10
      → script (drop at s) ≡ with_line (read_trace_line (first_line (drop at s))) (eqb (line_end s at + 1) (length s)) (script (drop (line_end s at + 1) s))
  unfolding script script_of
  script_more e =
      let lt : line_end s at < length s = past_in s (line_end s at) 10 (omega arith) e in
      rw (closed_more s at e, unclosed_more s at e, ← nothing_after s (line_end s at + 1) (omega arith))

  -- without its line feed
  script_open : (get_or s (line_end s at) 0 ≡ 10 → ⊥) → script (drop at s) ≡ W.Script.broken
  unfolding script script_of closed_lines all_but_last
  script_open n = rw (lines_last s at n)

-- ── a line that was read ─────────────────────────────────────────────────────────
abbrev pub here : ℕ → Place
here at = record { offset = at; line = 0 }

feed_next : (s : List ℕ) (n e : ℕ) → get_or s e 0 ≡ 10 → passed s n e ≡ record { offset = e + 1; line = n + 1 }
feed_next s n e g = rw (lt-ltb e (length s) (past_in s e 10 (omega arith) g), g)

input_said : (t n v b : ℕ) (next : Place) (x : W.TraceLine) (stop : ℕ) (past : Place) → LV.Input t n v b next ≡ as_trace_line x stop past
    → (x ≡ W.TraceLine.input_line t (record { number = n; value = v })) × (stop ≡ b) × (past ≡ next)
input_said t n v b next (W.TraceLine.input_line u w) stop past e =
    let time-is : t ≡ u = cc in
    let number_is : n ≡ w.number = cc in
    let value_is : v ≡ w.value = cc in
    (rw (time-is, number_is, value_is), (cc), cc)
input_said t n v b next (W.TraceLine.last_line_lem u) stop past e = absurd (let z : ◌≡◌ {A = ℕ} 0 1 = cc in omega arith)
input_said t n v b next W.TraceLine.out_of_form stop past e = absurd (let z : ◌≡◌ {A = ℕ} 0 1 = cc in omega arith)

last_said : (t b : ℕ) (next : Place) (x : W.TraceLine) (stop : ℕ) (past : Place) → LV.Last t b next ≡ as_trace_line x stop past
    → (x ≡ W.TraceLine.last_line_lem t) × (stop ≡ b) × (past ≡ next)
last_said t b next (W.TraceLine.input_line u w) stop past e = absurd (let z : ◌≡◌ {A = ℕ} 0 1 = cc in omega arith)
last_said t b next (W.TraceLine.last_line_lem u) stop past e = ((cc), (cc), cc)
last_said t b next W.TraceLine.out_of_form stop past e = absurd (let z : ◌≡◌ {A = ℕ} 0 1 = cc in omega arith)

bad_said : (x : W.TraceLine) (stop : ℕ) (past : Place) → LV.Bad ≡ as_trace_line x stop past → x ≡ W.TraceLine.out_of_form
bad_said (W.TraceLine.input_line u w) stop past e = absurd (let z : ◌≡◌ {A = ℕ} 0 1 = cc in omega arith)
bad_said (W.TraceLine.last_line_lem u) stop past e = absurd (let z : ◌≡◌ {A = ℕ} 0 1 = cc in omega arith)
bad_said W.TraceLine.out_of_form stop past e = refl

module _ (s : List ℕ) (at : ℕ) where
  abbrev line_here : W.TraceLine
  line_here = read_trace_line (first_line (drop at s))

  abbrev stop_here : ℕ
  stop_here = get_or s (line_end s at) 0

  abbrev past_here : Place
  past_here = passed s 0 (line_end s at)

  pub from_bad : LV.Bad ≡ line_answer s (here at) → script (drop at s) ≡ W.Script.broken
  unfolding with_line
  from_bad e = go (eqb stop_here 10) refl
    where
      go : (t : Bool) → eqb stop_here 10 ≡ t → script (drop at s) ≡ W.Script.broken
      go true i = script_more s at (eqb-true stop_here 10 i) ∙ rw (bad_said line_here stop_here past_here e)
      go false i = script_open s at (eqb-false stop_here 10 i)

  pub from_input : (t n v b : ℕ) (next : Place) → LV.Input t n v b next ≡ line_answer s (here at) → b ≡ 10 → JoinsOn s at t n v next.offset
  unfolding with_line
  from_input t n v b next e f =
      let said = input_said t n v b next line_here stop_here past_here e in
      let fed : stop_here ≡ 10 = said.1 ∙ f in
      let moved : next.offset ≡ line_end s at + 1 = ap (λ (p : Place). p.offset) (sym said.2 ∙ feed_next s 0 (line_end s at) fed) in
      let lt : line_end s at < length s = past_in s (line_end s at) 10 (omega arith) fed in
      record {
        is = script_more s at fed ∙ rw (said.0, moved);
        forward = omega (arith, moved);
        inside = omega (arith, moved, lt);
      }

  pub input_open : (t n v b : ℕ) (next : Place) → LV.Input t n v b next ≡ line_answer s (here at) → (b ≡ 10 → ⊥) → script (drop at s) ≡ W.Script.broken
  input_open t n v b next e f =
      let said = input_said t n v b next line_here stop_here past_here e in script_open s at (λ (g : stop_here ≡ 10). f (sym said.1 ∙ g))

  pub from_last : (t b : ℕ) (next : Place) → LV.Last t b next ≡ line_answer s (here at) → b ≡ 10 → script (drop at s) ≡ W.Script.last_at t (eqb next.offset (length s))
  unfolding with_line
  from_last t b next e f =
      let said = last_said t b next line_here stop_here past_here e in
      let fed : stop_here ≡ 10 = said.1 ∙ f in
      let moved : next.offset ≡ line_end s at + 1 = ap (λ (p : Place). p.offset) (sym said.2 ∙ feed_next s 0 (line_end s at) fed) in
      script_more s at fed ∙ rw (said.0, moved)

  pub last_open : (t b : ℕ) (next : Place) → LV.Last t b next ≡ line_answer s (here at) → (b ≡ 10 → ⊥) → script (drop at s) ≡ W.Script.broken
  last_open t b next e f =
      let said = last_said t b next line_here stop_here past_here e in script_open s at (λ (g : stop_here ≡ 10). f (sym said.1 ∙ g))
