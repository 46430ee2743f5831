-- Question 3, line by line.
use Rattle.std.specs.Prelude as P
use Rattle.std.specs.Prelude.{Some, None}
use mathlib.Core.Path.{◌≡◌, refl, sym, ap, ◌∙◌}
use mathlib.Core.Bool.{Bool, true, false, cond, ◌&&◌}
use mathlib.Core.List.{List, [], ◌∷◌, map}
use Prim.Native.Nat.{ℕ, suc, ◌+◌, ◌≤◌, min}
use native.Mathlib.Omega.{arith}
use native.Mathlib.Numerals.{add-one}
use lib.Dec.{leb}
use lib.ListN.{length, drop}
use borrow.Author.Tests.{le-leb, lt-leb, leb-true, leb-false}
use Rattle.listing.specs.Lists.{running_totals, both, first_no_from}
use Rattle.listing.specs.Bytes.{Bytes}
use Rattle.listing.specs.Limits.{byte_limit, routine_limit, instruction_limit, name_limit, piece_limit, bytes_on, routines_on, instructions_on, names_on, pieces_on, within, limit_answers}
use Rattle.listing.specs.Questions.{place2, place3, closed_lines}
use Rattle.listing.specs.Listing as L
use Rattle.text_place.specs.Texts.{first_line, line_end}
use Rattle.text_piece.specs.Pieces.{cap}
use Rattle.text_jumps.specs.Records.{as_record}
use Rattle.text_jumps.specs.declared.scope.Scope.{Scope}
use Rattle.text_jumps.specs.declared.record.Record.{Record}
use Rattle.text_records.proofs.Lines.{formed_whole, NextLine, records_whole, texts_end}
use Rattle.text_records.specs.Onward.{Formed, records_from}
use Rattle.text_limits.specs.Counting.{WithinLimits, count_line}
use Rattle.text_limits.specs.declared.counts.Counts.{Counts}

-- ── question 3, line by line ─────────────────────────────────────────────────────
unfoldable pub within_from : ℕ → ℕ → List ℕ → List Bool
within_from before limit counts = map (λ sum. leb sum limit) (running_totals before counts)

-- the answers for lines that come after so many bytes, routines, instructions and pieces
unfoldable pub answers_from : ℕ → Counts → List Bytes → List L.Line → List Bool
answers_from bytes held texts lines =
    both (within_from bytes byte_limit (map bytes_on texts))
    (both (within_from held.routines routine_limit (map routines_on lines))
    (both (within_from held.instructions instruction_limit (map instructions_on lines))
    (both (within_from held.pieces piece_limit (map pieces_on lines))
    (map (λ line. leb (names_on line) name_limit) lines))))

abbrev pub none_held : Counts
none_held = record { routines = 0; instructions = 0; pieces = 0 }

answers_whole : (texts : List Bytes) (lines : List L.Line) → answers_from 0 none_held texts lines ≡ limit_answers texts lines
unfolding answers_from within_from limit_answers within
answers_whole texts lines = refl

abbrev pub also : Counts → L.Line → Counts
also held l = record { routines = held.routines + routines_on l; instructions = held.instructions + instructions_on l; pieces = held.pieces + pieces_on l }

-- the answer for one line, with the bytes after it
abbrev pub answer : Counts → L.Line → ℕ → Bool
answer held l bytes =
    leb bytes byte_limit && (leb (held.routines + routines_on l) routine_limit && (leb (held.instructions + instructions_on l) instruction_limit
    && (leb (held.pieces + pieces_on l) piece_limit && leb (names_on l) name_limit)))

answers_more : (bytes : ℕ) (held : Counts) (text : Bytes) (texts : List Bytes) (l : L.Line) (lines : List L.Line)
    → answers_from bytes held (text ∷ texts) (l ∷ lines) ≡ answer held l (bytes + bytes_on text) ∷ answers_from (bytes + bytes_on text) (also held l) texts lines
unfolding answers_from within_from both running_totals
answers_more bytes held text texts l lines = refl

-- ── one line ─────────────────────────────────────────────────────────────────────
pub data Judged (held : Counts) (l : L.Line) (bytes : ℕ) : P.Option Counts → Type 0 where
  past : answer held l bytes ≡ false → Judged held l bytes None
  fits : {more : Counts} → answer held l bytes ≡ true → more ≡ also held l → WithinLimits more → Judged held l bytes (Some more)

clash : {A : Type 0} → ◌≡◌ {A = Bool} false true → A
clash e = absurd (let z : ◌≡◌ {A = ℕ} 0 1 = cc in omega arith)

and_no : (t : Bool) → (t && false) ≡ false
and_no true = refl
and_no false = refl

module _ (held : Counts) (bytes : ℕ) (w : WithinLimits held) where
  zero_more : (n : ℕ) → n + 0 ≡ n
  zero_more n = omega arith

  judge_ports : (i o : ℕ) (t : Bool) → leb bytes byte_limit ≡ t → Judged held (L.Line.ports i o) bytes (cond t (Some held) None)
  unfolding routines_on instructions_on pieces_on names_on
  judge_ports i o false e = past (rw e)
  judge_ports i o true e =
      fits {more = held}
      (rw (e, le-leb (held.routines + 0) routine_limit (omega (arith, w.routines)), le-leb (held.instructions + 0) instruction_limit (omega (arith, w.instructions)), le-leb (held.pieces + 0) piece_limit (omega (arith, w.pieces))))
      (rw (zero_more held.routines, zero_more held.instructions, zero_more held.pieces)) w

  judge_opens : (kinds : List L.Kind) (locals : ℕ) (t u v : Bool) → leb bytes byte_limit ≡ t → leb (held.routines + 1) routine_limit ≡ u → leb (length kinds + min locals cap) name_limit ≡ v
      → Judged held (L.Line.opens kinds locals) bytes (cond t (cond (u && v) (Some (record { routines = held.routines + 1; instructions = held.instructions; pieces = held.pieces })) None) None)
  unfolding routines_on instructions_on pieces_on names_on
  judge_opens kinds locals false u v a b c = past (rw a)
  judge_opens kinds locals true false v a b c = past (rw (a, b))
  judge_opens kinds locals true true false a b c =
      past (rw (a, b, lt-leb (length kinds + locals) name_limit (omega (arith, leb-false (length kinds + min locals cap) name_limit c)), le-leb (held.instructions + 0) instruction_limit (omega (arith, w.instructions)), le-leb (held.pieces + 0) piece_limit (omega (arith, w.pieces))))
  judge_opens kinds locals true true true a b c =
      fits {more = record { routines = held.routines + 1; instructions = held.instructions; pieces = held.pieces }}
      (rw (a, b, le-leb (length kinds + locals) name_limit (omega (arith, leb-true (length kinds + min locals cap) name_limit c)), le-leb (held.instructions + 0) instruction_limit (omega (arith, w.instructions)), le-leb (held.pieces + 0) piece_limit (omega (arith, w.pieces))))
      (rw (zero_more held.instructions, zero_more held.pieces))
      (record { routines = leb-true (held.routines + 1) routine_limit b; instructions = w.instructions; pieces = w.pieces })

  judge_instruction : (i : L.Instruction) (t u v : Bool) → leb bytes byte_limit ≡ t → leb (held.instructions + 1) instruction_limit ≡ u → leb (held.pieces + pieces_on (L.Line.instruction i)) piece_limit ≡ v
      → Judged held (L.Line.instruction i) bytes (cond t (cond (u && v) (Some (record { routines = held.routines; instructions = held.instructions + 1; pieces = held.pieces + pieces_on (L.Line.instruction i) })) None) None)
  unfolding routines_on instructions_on names_on
  judge_instruction i false u v a b c = past (rw a)
  judge_instruction i true false v a b c = past (rw (a, le-leb (held.routines + 0) routine_limit (omega (arith, w.routines)), b))
  judge_instruction i true true false a b c = past (rw (a, le-leb (held.routines + 0) routine_limit (omega (arith, w.routines)), b, c))
  judge_instruction i true true true a b c =
      fits {more = record { routines = held.routines; instructions = held.instructions + 1; pieces = held.pieces + pieces_on (L.Line.instruction i) }}
      (rw (a, le-leb (held.routines + 0) routine_limit (omega (arith, w.routines)), b, c))
      (rw (zero_more held.routines))
      (record { routines = w.routines; instructions = leb-true (held.instructions + 1) instruction_limit b; pieces = leb-true (held.pieces + pieces_on (L.Line.instruction i)) piece_limit c })

  pub judged : (rs : List L.Routine) (scope : Scope) (l : L.Line) → Judged held l bytes (count_line held (as_record rs scope l) bytes)
  unfolding pieces_on
  judged rs scope (L.Line.ports i o) = judge_ports i o (leb bytes byte_limit) refl
  judged rs scope (L.Line.opens kinds locals) =
      judge_opens kinds locals (leb bytes byte_limit) (leb (held.routines + 1) routine_limit) (leb (length kinds + min locals cap) name_limit) refl refl refl
  judged rs scope (L.Line.instruction i) =
      judge_instruction i (leb bytes byte_limit) (leb (held.instructions + 1) instruction_limit) (leb (held.pieces + pieces_on (L.Line.instruction i)) piece_limit) refl refl refl

-- ── the pass ─────────────────────────────────────────────────────────────────────
pub record Limiting (s : List ℕ) (at line : ℕ) (held : Counts) : Type 0 where
  pub formed : Formed s at line
  pub limits : WithinLimits held
  pub same : first_no_from line (answers_from at held (closed_lines (drop at s)) (records_from line (drop at s))) ≡ place3 s

pub limiting_begun : (s : List ℕ) → place2 s ≡ 0 → Limiting s 0 1 none_held
unfolding place3
limiting_begun s e =
    record {
      formed = formed_whole s e;
      limits = record { routines = omega arith; instructions = omega arith; pieces = omega arith };
      same = ap (first_no_from 1) (answers_whole (closed_lines s) (records_from 1 s) ∙ ap (limit_answers (closed_lines s)) (records_whole s));
    }

module _ (s : List ℕ) (at line : ℕ) (held : Counts) (v : Limiting s at line held) where
  pub limiting_done : length s ≤ at → place3 s ≡ 0
  unfolding answers_from within_from both first_no_from running_totals
  limiting_done h = sym v.same ∙ rw (texts_end s at h)

  module _ (n : NextLine s at line) (rs : List L.Routine) (scope : Scope) (r : Record) (bytes : ℕ) (i : r ≡ as_record rs scope n.line) (j : bytes ≡ line_end s at + 1)
      (o : P.Option Counts) (counted : o ≡ count_line held r bytes) where
    e : o ≡ count_line held (as_record rs scope n.line) (line_end s at + 1)
    e = counted ∙ ap (λ (q : Record). count_line held q bytes) i ∙ ap (count_line held (as_record rs scope n.line)) j

    bytes_are : at + bytes_on (first_line (drop at s)) ≡ line_end s at + 1
    bytes_are = omega arith

    unrolled : first_no_from line (answer held n.line (line_end s at + 1)
        ∷ answers_from (line_end s at + 1) (also held n.line) (closed_lines (drop (line_end s at + 1) s)) (records_from (line + 1) (drop (line_end s at + 1) s))) ≡ place3 s
    unrolled =
        let a = answers_more at held (first_line (drop at s)) (closed_lines (drop (line_end s at + 1) s)) n.line (records_from (line + 1) (drop (line_end s at + 1) s)) in
        ap (first_no_from line) (sym (a ∙ rw bytes_are)) ∙ ap (λ (ts : List Bytes). first_no_from line (answers_from at held ts (n.line ∷ records_from (line + 1) (drop (line_end s at + 1) s)))) (sym n.texts)
        ∙ ap (λ (ls : List L.Line). first_no_from line (answers_from at held (closed_lines (drop at s)) ls)) (sym n.records) ∙ v.same

    by_past : (p : P.Option Counts) → Judged held n.line (line_end s at + 1) p → p ≡ None → line ≡ place3 s
    unfolding first_no_from
    by_past _ (past f) i = (rw f at unrolled)
    by_past _ (fits t m w) i = absurd (let z : ◌≡◌ {A = ℕ} 0 1 = cc in omega arith)

    pub limit_passed : o ≡ None → line ≡ place3 s
    limit_passed i = by_past (count_line held (as_record rs scope n.line) (line_end s at + 1)) (judged held (line_end s at + 1) v.limits rs scope n.line) (sym e ∙ i)

    by_fit : (p : P.Option Counts) → Judged held n.line (line_end s at + 1) p → (more : Counts) → p ≡ Some more → Limiting s (line_end s at + 1) (line + 1) more
    unfolding first_no_from
    by_fit _ (past f) more i = absurd (let z : ◌≡◌ {A = ℕ} 0 1 = cc in omega arith)
    by_fit _ (fits {more = m} t q w) more i =
        let j : m ≡ more = cc in
        rw (← j) (record {
          formed = n.formed;
          limits = w;
          same = ap (λ (k : ℕ). first_no_from k (answers_from (line_end s at + 1) m (closed_lines (drop (line_end s at + 1) s)) (records_from (line + 1) (drop (line_end s at + 1) s)))) (add-one line)
              ∙ ap (λ (h : Counts). first_no_from (suc line) (answers_from (line_end s at + 1) h (closed_lines (drop (line_end s at + 1) s)) (records_from (line + 1) (drop (line_end s at + 1) s)))) q ∙ (rw t at unrolled);
        })

    pub limit_met : (more : Counts) → o ≡ Some more → Limiting s (line_end s at + 1) (line + 1) more
    limit_met more i = by_fit (count_line held (as_record rs scope n.line) (line_end s at + 1)) (judged held (line_end s at + 1) v.limits rs scope n.line) more (sym e ∙ i)

-- ── a text that passes no limit ──────────────────────────────────────────────────
module _ (s : List ℕ) (at line : ℕ) (held : Counts) (v : Limiting s at line held) (n : NextLine s at line) (met : place3 s ≡ 0) where
  no_scope : Scope
  no_scope = record { names = 0; size = 0 }

  here : P.Option Counts
  here = count_line held (as_record [] no_scope n.line) (line_end s at + 1)

  hold : (p : P.Option Counts) → Judged held n.line (line_end s at + 1) p → p ≡ here
      → ((also held n.line).routines ≤ 64) × (names_on n.line ≤ 16) × Limiting s (line_end s at + 1) (line + 1) (also held n.line)
  unfolding here
  hold _ (past f) i =
      absurd (let z : line ≡ place3 s = limit_passed s at line held v n [] no_scope (as_record [] no_scope n.line) (line_end s at + 1) refl refl None i refl in
      let y : ⊥ = omega (arith, z, met, v.formed.some_line) in y)
  hold _ (fits {more = m} t q w) i =
      let l = limit_met s at line held v n [] no_scope (as_record [] no_scope n.line) (line_end s at + 1) refl refl (Some m) i m refl in
      (rw q at w.routines, leb-true (names_on n.line) 16 (fifth (leb (line_end s at + 1) byte_limit) (leb (held.routines + routines_on n.line) routine_limit) (leb (held.instructions + instructions_on n.line) instruction_limit) (leb (held.pieces + pieces_on n.line) piece_limit) (leb (names_on n.line) 16) t), rw q at l)
    where
      fifth : (a b c d e : Bool) → (a && (b && (c && (d && e)))) ≡ true → e ≡ true
      fifth true true true true e h = h
      fifth true true true false e h = clash h
      fifth true true false d e h = clash h
      fifth true false c d e h = clash h
      fifth false b c d e h = clash h

  pub limits_hold : ((also held n.line).routines ≤ 64) × (names_on n.line ≤ 16) × Limiting s (line_end s at + 1) (line + 1) (also held n.line)
  unfolding here
  limits_hold = hold here (judged held (line_end s at + 1) v.limits [] no_scope n.line) refl
