-- The lines of a trace, one after another.
use mathlib.Core.Path.{◌≡◌, refl, sym, ap, ◌∙◌}
use mathlib.Core.Bool.{Bool, true, false, cond, ◌&&◌}
use mathlib.Core.List.{[], ◌∷◌}
use Prim.Native.Nat.{ℕ, suc, ◌+◌, ◌-◌, ◌≤◌, ◌<◌}
use native.Mathlib.Omega.{arith}
use lib.Dec.{eqb}
use lib.ListN.{length, take, drop, drop_of_length-le, length-drop}
use lib.Seq.{length-take-le}
use borrow.Author.Tests.{eqb-true, eqb-false}
use Rattle.listing.specs.Lists.{is_empty, all_but_last, last_or}
use Rattle.listing.specs.Bytes.{Bytes, split}
use Rattle.listing.specs.Questions.{closed_lines, unclosed}
use Rattle.listing.proofs.Splits.{split_has_part}
use Rattle.walk.specs.Trace.{read_trace_line}
use Rattle.walk.specs.Trace as W
use Rattle.text_place.specs.Texts.{before}
use Rattle.text_place.specs.declared.place.Place.{Place}
use Rattle.explain_parts.specs.Parts.{first_part_lem, part_end}
use Rattle.explain_parts.proofs.Parts.{parts_on, parts_last}
use Rattle.session_trace_lines.specs.Lines.{as_trace_line}
use Rattle.session_trace_lines.specs.declared.line.TraceLine.{TraceLine}
use Rattle.session_trace_lines.specs.declared.line.TraceLine.TheVariants as LV
use Rattle.explain_trace.specs.Scans.{judge_input, judge_last, unformed, judge_line, end_fault, resume, fault_from, fault_of}
use Rattle.std.specs.Prelude.{Option, Some}
use Rattle.explain_fields.specs.Fields.{about}
use Rattle.explain_trace.specs.declared.reasons.Reason.TheVariants as WV
use Rattle.explain_trace.specs.declared.reasons.Reason.{Reason}
use Rattle.explain_trace.specs.declared.scan.TraceFault.{TraceFault}
use Rattle.explain_trace.specs.declared.scan.Judged.{Judged}
use Rattle.explain_trace.specs.declared.scan.Judged.TheVariants as JV

-- ── a line that was read ─────────────────────────────────────────────────────────
module _ (inputs line : ℕ) (bytes : Bytes) (nothingAfter : Bool) (time least : ℕ) where
  abbrev pub judge_as : TraceLine → Judged
  judge_as (LV.Input t number value stop next) = judge_input line inputs time least t number
  judge_as (LV.Last t stop next) = judge_last line nothingAfter
  judge_as LV.Bad = JV.Ends (Some (unformed line bytes WV.NoForm))

  pub judged_as : (x : W.TraceLine) (stop : ℕ) (next : Place) → judge_as (as_trace_line x stop next) ≡ judge_line inputs line bytes nothingAfter time least x
  unfolding judge_line
  judged_as (W.TraceLine.input_line t w) stop next = refl
  judged_as (W.TraceLine.last_line_lem t) stop next = refl
  judged_as W.TraceLine.out_of_form stop next = refl

-- ── the closed lines from an offset on, and what comes after them ────────────────
module _ (s : Bytes) (at end : ℕ) (inside : at ≤ length s) (e : end ≡ part_end 10 s at) where
  closed_on : end < length s → closed_lines (drop at s) ≡ first_part_lem 10 (drop at s) ∷ closed_lines (drop (end + 1) s)
  unfolding closed_lines all_but_last
  closed_on h = let p = split_has_part 10 (drop (end + 1) s) in rw (parts_on 10 s at end inside e h, p.is)

  unclosed_on : end < length s → unclosed (drop at s) ≡ unclosed (drop (end + 1) s)
  unfolding unclosed last_or
  unclosed_on h = let p = split_has_part 10 (drop (end + 1) s) in rw (parts_on 10 s at end inside e h, p.is)

  closed_last : end ≡ length s → closed_lines (drop at s) ≡ []
  unfolding closed_lines all_but_last
  closed_last h = rw (parts_last 10 s at end inside e h)

  unclosed_last : end ≡ length s → unclosed (drop at s) ≡ first_part_lem 10 (drop at s)
  unfolding unclosed last_or
  unclosed_last h = rw (parts_last 10 s at end inside e h)

-- nothing stands at the end of the text, and something before it
abbrev nothing_at : Bytes → ℕ → Bool
nothing_at s at = is_empty (closed_lines (drop at s)) && is_empty (unclosed (drop at s))

nothing_left : (s : Bytes) (at : ℕ) → length s ≤ at → nothing_at s at ≡ true
unfolding closed_lines unclosed split all_but_last last_or
nothing_left s at h = rw (drop_of_length-le s h)

some_bytes : (l : Bytes) → 0 < length l → is_empty l ≡ false
some_bytes [] h = absurd (let z : ⊥ = omega (arith, h) in z)
some_bytes (b ∷ l) h = refl

-- a part is no longer than its text
first_short : (l : Bytes) → length (first_part_lem 10 l) ≤ length l
unfolding before
first_short [] = omega arith
first_short (b ∷ l) = go (eqb b 10) (first_short l)
  where
    go : (t : Bool) → length (first_part_lem 10 l) ≤ length l → length (cond t [] (b ∷ first_part_lem 10 l)) ≤ suc (length l)
    go true i = omega arith
    go false i = omega (arith, i)

something_left : (s : Bytes) (at : ℕ) → at < length s → nothing_at s at ≡ false
something_left s at h = go (eqb (part_end 10 s at) (length s)) refl
  where
    go : (t : Bool) → eqb (part_end 10 s at) (length s) ≡ t → nothing_at s at ≡ false
    go true e =
        let all : part_end 10 s at ≡ length s = eqb-true (part_end 10 s at) (length s) e in
        rw (closed_last s at (part_end 10 s at) (omega (arith, h)) refl all, unclosed_last s at (part_end 10 s at) (omega (arith, h)) refl all)
        (some_bytes (first_part_lem 10 (drop at s)) (omega (arith, all, h)))
    go false e =
        let n : part_end 10 s at ≡ length s → ⊥ = eqb-false (part_end 10 s at) (length s) e in
        rw (closed_on s at (part_end 10 s at) (omega (arith, h)) refl (omega (arith, n, first_short (drop at s), length-drop at s, h)))

nothing_after : (s : Bytes) (at : ℕ) → at ≤ length s → nothing_at s at ≡ eqb at (length s)
nothing_after s at h = go (eqb at (length s)) refl
  where
    go : (t : Bool) → eqb at (length s) ≡ t → nothing_at s at ≡ t
    go true e = nothing_left s at (omega (arith, eqb-true at (length s) e))
    go false e = something_left s at (let n : at ≡ length s → ⊥ = eqb-false at (length s) e in omega (arith, n, h))

-- ── from line to line: what is found from an offset on is what is sought ─────────
pub record Scanning (inputs : ℕ) (s : Bytes) (at line time least : ℕ) : Type 0 where
  pub inside : at ≤ length s
  pub few : line ≤ at + 1
  pub same : fault_from inputs (unclosed (drop at s)) time least line (closed_lines (drop at s)) ≡ fault_of inputs s

pub scanning_begun : (inputs : ℕ) (s : Bytes) → Scanning inputs s 0 1 0 0
unfolding fault_of
scanning_begun inputs s = record { inside = omega arith; few = omega arith; same = refl }

module _ (inputs : ℕ) (s : Bytes) (at line time least end : ℕ) (v : Scanning inputs s at line time least) (e : end ≡ part_end 10 s at) where
  abbrev here : Bytes
  here = first_part_lem 10 (drop at s)

  abbrev later : ℕ → ℕ → Option (TraceFault Reason)
  later t next = fault_from inputs (unclosed (drop (end + 1) s)) t next (line + 1) (closed_lines (drop (end + 1) s))

  module _ (h : end < length s) (r : Judged) (is : r ≡ judge_line inputs line here (eqb (end + 1) (length s)) time least (read_trace_line here)) where
    one_line : resume r later ≡ fault_of inputs s
    unfolding fault_from
    one_line =
        let first = rw (unclosed_on s at end v.inside e h, closed_on s at end v.inside e h) at v.same in
        ap (λ (x : Judged). resume x later)
        (is ∙ ap (λ (t : Bool). judge_line inputs line here t time least (read_trace_line here)) (sym (nothing_after s (end + 1) (omega (arith, h)))))
        ∙ first

    pub scan_ends : (fault : Option (TraceFault Reason)) → r ≡ JV.Ends fault → fault ≡ fault_of inputs s
    unfolding resume
    scan_ends fault d = ap (λ (x : Judged). resume x later) (sym d) ∙ one_line

    pub scanning_on : (t next : ℕ) → r ≡ JV.Goes t next → Scanning inputs s (end + 1) (line + 1) t next
    unfolding resume
    scanning_on t next d =
        record {
          inside = omega (arith, h);
          few = omega (arith, v.few, e);
          same = ap (λ (x : Judged). resume x later) (sym d) ∙ one_line;
        }

  pub scanned : end ≡ length s → Some (end_fault line here) ≡ fault_of inputs s
  unfolding fault_from
  scanned h = rw (closed_last s at end v.inside e h, unclosed_last s at end v.inside e h) at v.same

-- ── what comes after the last line feed ──────────────────────────────────────────
pub nothing_there : (line : ℕ) (l : Bytes) → length l ≡ 0 → record { line = line; fault = about WV.NoLast } ≡ end_fault line l
unfolding end_fault
nothing_there line [] e = refl
nothing_there line (b ∷ l) e = absurd (let z : ⊥ = omega (arith, e) in z)

pub something_there : (line : ℕ) (l : Bytes) → (length l ≡ 0 → ⊥) → unformed line l WV.NoLineFeed ≡ end_fault line l
unfolding end_fault
something_there line [] n = absurd (n refl)
something_there line (b ∷ l) n = refl

-- a part of a short text is short
pub part_long : (s : Bytes) (at end : ℕ) → at ≤ end → end ≤ length s → length s ≤ 100000 → length (take (end - at) (drop at s)) ≤ 100000
part_long s at end r i h =
    let left = length-drop at s in
    let size = length-take-le (end - at) (drop at s) (omega (arith, left, r, i)) in
    omega (arith, size, r, i, h)
