-- Question 5, line by line.
use Rattle.std.specs.Prelude.{Some, None}
use mathlib.Core.Path.{◌≡◌, refl, sym, ap, ◌∙◌}
use mathlib.Core.Bool.{Bool, true, false, cond}
use mathlib.Core.List.{List, [], ◌∷◌, ◌++◌}
use Prim.Native.Nat.{ℕ, suc, ◌+◌, ◌-◌, ◌≤◌}
use native.Mathlib.Omega.{arith}
use lib.ListN.{length, drop}
use mathlib.Core.Bool.{not}
use Rattle.listing.specs.Lists.{is_empty, first_no_from, first_no}
use Rattle.listing.specs.Questions.{place2, place5, may_be_last, last_answers, routines_end, ending_answers, listing_in}
use Rattle.listing.specs.Listing as L
use Rattle.listing.specs.Listing.{code_of, routines_of, listing_of}
use Rattle.text_place.specs.Texts.{line_end}
use Rattle.text_jumps.specs.Records.{as_record}
use Rattle.text_jumps.specs.declared.scope.Scope.{Scope}
use Rattle.text_records.specs.Lines.{some_place}
use Rattle.text_records.proofs.Lines.{place_some, place_none, formed_whole, NextLine, records_whole, records_end}
use Rattle.text_records.specs.Onward.{Formed, records_from}
use Rattle.text_endings.specs.Endings.{ends_badly, may_end_with}
use Rattle.text_endings.proofs.Body.{NoPorts, none_left, opens_more, instruction_more, Body, body_empty, body_opens, body_of}

-- ── question 5, line by line: a line is judged with the one after it ─────────────
unfoldable pub ends_from : Bool → List L.Line → List Bool
ends_from mayEnd [] = mayEnd ∷ []
ends_from mayEnd (L.Line.ports i o ∷ lines) = true ∷ ends_from true lines
ends_from mayEnd (L.Line.opens kinds locals ∷ lines) = mayEnd ∷ ends_from false lines
ends_from mayEnd (L.Line.instruction i ∷ lines) = true ∷ ends_from (may_be_last i) lines

mutual
  unfolding ends_from code_of routines_of last_answers routines_end

  ends_opened : (lines : List L.Line) → NoPorts lines → ends_from false lines ≡ not (is_empty (code_of lines)) ∷ (last_answers (code_of lines) ++ routines_end (routines_of lines))
  ends_opened [] none_left = refl
  ends_opened (L.Line.opens kinds locals ∷ lines) (opens_more p) = rw (ends_opened lines p)
  ends_opened (L.Line.instruction i ∷ lines) (instruction_more p) = rw (ends_after i lines p)
  ends_opened (L.ports _ _ ∷ lines) x6 = elim x6 [ ]

  ends_after : (i : L.Instruction) (lines : List L.Line) → NoPorts lines → ends_from (may_be_last i) lines ≡ last_answers (i ∷ code_of lines) ++ routines_end (routines_of lines)
  ends_after i [] none_left = refl
  ends_after i (L.Line.opens kinds locals ∷ lines) (opens_more p) = rw (ends_opened lines p)
  ends_after i (L.Line.instruction j ∷ lines) (instruction_more p) = rw (ends_after j lines p)
  ends_after i (L.ports _ _ ∷ lines) x6 = elim x6 [ ]

ends_whole : (lines : List L.Line) → Body lines → first_no_from 0 (ends_from true lines) ≡ first_no (ending_answers (listing_of lines))
unfolding ends_from ending_answers listing_of routines_of routines_end first_no_from
ends_whole (L.Line.ports i o ∷ []) body_empty = refl
ends_whole (L.Line.ports i o ∷ (L.Line.opens kinds locals ∷ lines)) (body_opens p) = rw (ends_opened lines p)
ends_whole [] x' = elim x' [ ]
ends_whole (L.ports i o ∷ (L.ports _ _ ∷ lines)) x11 = elim x11 [ ]
ends_whole (L.ports i o ∷ (L.instruction _ ∷ lines)) x11 = elim x11 [ ]
ends_whole (L.opens _ _ ∷ _) x9 = elim x9 [ ]
ends_whole (L.instruction _ ∷ _) x9 = elim x9 [ ]

clash : {A : Type 0} → ◌≡◌ {A = Bool} false true → A
clash e = absurd (let z : ◌≡◌ {A = ℕ} 0 1 = cc in omega arith)

-- ── the pass ─────────────────────────────────────────────────────────────────────
pub record Ending (s : List ℕ) (at line : ℕ) (mayEnd : Bool) : Type 0 where
  pub formed : Formed s at line
  pub later : mayEnd ≡ false → 2 ≤ line
  pub same : first_no_from (line - 1) (ends_from mayEnd (records_from line (drop at s))) ≡ place5 s

pub ending_begun : (s : List ℕ) → place2 s ≡ 0 → Ending s 0 1 true
unfolding place5 listing_in
ending_begun s e =
    record {
      formed = formed_whole s e;
      later = λ f. clash (sym f);
      same = ends_whole (records_from 1 s) (body_of s e) ∙ ap (λ (ls : List L.Line). first_no (ending_answers (listing_of ls))) (records_whole s);
    }

module _ (s : List ℕ) (at line : ℕ) (mayEnd : Bool) (v : Ending s at line mayEnd) where
  done : length s ≤ at → cond mayEnd 0 (line - 1) ≡ place5 s
  unfolding ends_from first_no_from
  done h = go mayEnd (ap (λ (ls : List L.Line). first_no_from (line - 1) (ends_from mayEnd ls)) (sym (records_end s at line h)) ∙ v.same)
    where
      go : (t : Bool) → first_no_from (line - 1) (t ∷ []) ≡ place5 s → cond t 0 (line - 1) ≡ place5 s
      go true e = e
      go false e = e

  pub ending_fine : length s ≤ at → mayEnd ≡ true → None ≡ some_place (place5 s)
  ending_fine h e = place_none (place5 s) (sym (done h) ∙ rw e)

  pub ending_open : length s ≤ at → mayEnd ≡ false → Some (line - 1) ≡ some_place (place5 s)
  ending_open h e = place_some (line - 1) (place5 s) (let l : 2 ≤ line = v.later e in omega arith) (sym (sym (done h) ∙ rw e))

  module _ (n : NextLine s at line) (rs : List L.Routine) (scope : Scope) where
    unrolled : first_no_from (line - 1) (ends_from mayEnd (n.line ∷ records_from (line + 1) (drop (line_end s at + 1) s))) ≡ place5 s
    unrolled = ap (λ (ls : List L.Line). first_no_from (line - 1) (ends_from mayEnd ls)) (sym n.records) ∙ v.same

    badly : (l : L.Line) (rest : List L.Line) (m : Bool) → ends_badly m (as_record rs scope l) ≡ true → first_no_from (line - 1) (ends_from m (l ∷ rest)) ≡ line - 1
    unfolding ends_from first_no_from
    badly (L.Line.ports i o) rest m e = absurd (let z : ◌≡◌ {A = ℕ} 0 1 = cc in omega arith)
    badly (L.Line.opens kinds locals) rest true e = absurd (let z : ◌≡◌ {A = ℕ} 0 1 = cc in omega arith)
    badly (L.Line.opens kinds locals) rest false e = refl
    badly (L.Line.instruction i) rest m e = absurd (let z : ◌≡◌ {A = ℕ} 0 1 = cc in omega arith)

    well : (l : L.Line) (rest : List L.Line) (m : Bool) → ends_badly m (as_record rs scope l) ≡ false → first_no_from (line - 1) (ends_from m (l ∷ rest)) ≡ first_no_from (suc (line - 1)) (ends_from (may_end_with (as_record rs scope l)) rest)
    unfolding ends_from first_no_from
    well (L.Line.ports i o) rest m e = refl
    well (L.Line.opens kinds locals) rest true e = refl
    well (L.Line.opens kinds locals) rest false e = absurd (let z : ◌≡◌ {A = ℕ} 0 1 = cc in omega arith)
    well (L.Line.instruction i) rest m e = refl

    open_before : (l : L.Line) (m : Bool) → ends_badly m (as_record rs scope l) ≡ true → m ≡ false
    open_before (L.Line.ports i o) m e = clash e
    open_before (L.Line.opens kinds locals) true e = clash e
    open_before (L.Line.opens kinds locals) false e = refl
    open_before (L.Line.instruction i) m e = clash e

    pub ending_bad : ends_badly mayEnd (as_record rs scope n.line) ≡ true → Some (line - 1) ≡ some_place (place5 s)
    ending_bad e =
        place_some (line - 1) (place5 s) (let l : 2 ≤ line = v.later (open_before n.line mayEnd e) in omega arith)
        (sym (badly n.line (records_from (line + 1) (drop (line_end s at + 1) s)) mayEnd e) ∙ unrolled)

    pub ending_on : ends_badly mayEnd (as_record rs scope n.line) ≡ false → Ending s (line_end s at + 1) (line + 1) (may_end_with (as_record rs scope n.line))
    ending_on e =
        let k : suc (line - 1) ≡ line + 1 - 1 = omega (arith, v.formed.some_line) in
        record {
          formed = n.formed;
          later = λ f. omega (arith, v.formed.some_line);
          same = ap (λ (j : ℕ). first_no_from j (ends_from (may_end_with (as_record rs scope n.line)) (records_from (line + 1) (drop (line_end s at + 1) s)))) (sym k)
              ∙ sym (well n.line (records_from (line + 1) (drop (line_end s at + 1) s)) mayEnd e) ∙ unrolled;
        }
