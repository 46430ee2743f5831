-- The rows of a page, put one behind another, and a case's memory.
use mathlib.Core.Path.{◌≡◌, refl, sym, ap, subst, ◌∙◌}
use mathlib.Core.Bool.{Bool, true, false}
use mathlib.Core.List.{List, [], ◌∷◌, ◌++◌}
use Prim.Native.Nat.{ℕ, suc, zero, ◌+◌, ◌-◌, ◌*◌, ◌≤◌, ◌<◌}
use native.Mathlib.Omega.{arith}
use native.Mathlib.Numerals.{add-one}
use lib.ListN.{length, take, drop, replicate, length-replicate}
use lib.Seq.{length-take-le, take-append_seam}
use Rattle.listing.specs.Bytes.{Bytes, bytes_of, figure}
use Rattle.session_print.specs.Puts.{Puts}
use Rattle.session_print.proofs.LineBytes as line-bytes
use Rattle.page.specs.Call.{PageFigures}
use Rattle.page.specs.declared.Printed.{Printed}
use Rattle.test_cases.specs.Words.{Tells}
use Rattle.test_cases.proofs.Telling.{never}
use Rattle.test_stored_pages.specs.declared.cases.Case.{Case}
use Rattle.test_page_prints.specs.Prints.{Filled, RowsSaid, RowPut, RowsPut, CaseSaid, CaseRun, blank, shown, none, more}

-- ── a row ────────────────────────────────────────────────────────────────
-- as many bytes as the code cuts out
abbrev cut : Bytes → ℕ → ℕ → Bytes
cut page line n = take n (drop (line * 45) page)

abbrev text_length : ℕ → ℕ
text_length line = line * 45 + 45 - 1 - line * 45

abbrev row_length : ℕ → ℕ
row_length line = line * 45 + 45 - line * 45

cut_text : (page : Bytes) (line : ℕ) → cut page line (text_length line) ≡ cut page line 44
cut_text page line = let n : text_length line ≡ 44 = omega arith in ap (cut page line) n

cut_row : (page : Bytes) (line : ℕ) → cut page line (row_length line) ≡ cut page line 45
cut_row page line = let n : row_length line ≡ 45 = omega arith in ap (cut page line) n

pub row_blank : (page before : Bytes) (line at : ℕ) {r : Bool} → Tells r (Filled (cut page line (text_length line)) 32) → r ≡ true → RowPut page line before at before at
row_blank page before line at t h =
    record {
      text = [];
      said = blank (subst (λ (l : Bytes). Filled l 32) (cut_text page line) (t.means h));
      puts = record { past = omega arith; stored = refl };
      few = omega arith;
    }

pub row_shown : {before m m₁ after : Bytes} {at a b next : ℕ} (page : Bytes) (line : ℕ) {r : Bool} → Tells r (Filled (cut page line (text_length line)) 32) → r ≡ false
    → Puts before at (figure line) m a → Puts m a (bytes_of " ") m₁ b → Puts m₁ b (cut page line (row_length line)) after next → next ≤ at + 66
    → RowPut page line before at after next
row_shown page line t h one two three few =
    record {
      text = _;
      said = shown (λ filled. never (sym h ∙ t.whenever (subst (λ (l : Bytes). Filled l 32) (sym (cut_text page line)) filled)));
      puts = line-bytes.then_bytes one (line-bytes.then_bytes two (line-bytes.same_bytes (cut_row page line) three));
      few = few;
    }

-- ── the rows before a line ───────────────────────────────────────────────
pub record Rowing (page before : Bytes) (at : ℕ) (after : Bytes) (next line : ℕ) : Type 0 where
  pub text : Bytes
  pub said : RowsSaid page line text
  pub puts : Puts before at text after next
  pub few : next ≤ at + 66 * line
  pub most : line ≤ 60

pub rowing_begun : (page before : Bytes) (at : ℕ) → Rowing page before at before at 0
rowing_begun page before at = record { text = []; said = none; puts = record { past = omega arith; stored = refl }; few = omega arith; most = omega arith }

pub rowing_on : {page before m after : Bytes} {at next next' line : ℕ} → Rowing page before at m next line → line < 60 → RowPut page line m next after next'
    → Rowing page before at after next' (line + 1)
rowing_on {page = page} {line = line} v h p =
    record {
      text = v.text ++ p.text;
      said = subst (λ (k : ℕ). RowsSaid page k (v.text ++ p.text)) (sym (add-one line)) (more v.said p.said);
      puts = line-bytes.then_bytes v.puts p.puts;
      few = omega (arith, v.few, p.few);
      most = omega arith;
    }

pub rowing_done : {page before after : Bytes} {at next line : ℕ} → Rowing page before at after next line → 60 ≤ line → RowsPut page before at after next
rowing_done {page = page} {line = line} v h =
    let all : line ≡ 60 = omega (arith, v.most) in
    record { text = v.text; said = subst (λ (k : ℕ). RowsSaid page k v.text) all v.said; puts = v.puts; few = omega (arith, v.few, all) }

-- ── a case's memory ──────────────────────────────────────────────────────
pub take_filled : (n m byte : ℕ) → n ≤ m → take n (replicate m byte) ≡ replicate n byte
take_filled zero m byte h = refl
take_filled (suc n) zero byte h = absurd (omega arith)
take_filled (suc n) (suc m) byte h = ap (λ (l : List ℕ). byte ∷ l) (take_filled n m byte (omega arith))

-- the call has the first bytes of the memory that was filled, and the others stay
pub case_run : {case : Case} {moments outputs values lent filled before after : List ℕ} {result : Printed} {m count : ℕ}
    → PageFigures (take case.moments moments) (take case.outputs outputs) (take case.values values) case.page (take case.size filled) lent result
    → CaseSaid case.name result (take case.size (lent ++ drop case.size filled)) case.byte before after count
    → filled ≡ replicate m case.byte → case.size ≤ m → length lent ≡ length (take case.size filled)
    → CaseRun case moments outputs values (lent ++ drop case.size filled) before after count
case_run {case} {moments} {outputs} {values} {lent} {filled} {result = result} {m = m} figures said fills h same =
    let inside : case.size ≤ length filled = omega (arith, ap length fills, length-replicate m case.byte) in
    let long : length lent ≡ case.size = same ∙ length-take-le case.size filled inside in
    record {
      result = result;
      figures = subst (λ (l : List ℕ). PageFigures (take case.moments moments) (take case.outputs outputs) (take case.values values) case.page
          (replicate case.size case.byte) l result)
          (sym (ap (λ (n : ℕ). take n (lent ++ drop case.size filled)) (sym long) ∙ take-append_seam lent (drop case.size filled)))
          (subst (λ (l : List ℕ). PageFigures (take case.moments moments) (take case.outputs outputs) (take case.values values) case.page l lent result)
          (ap (take case.size) fills ∙ take_filled case.size m case.byte h) figures);
      said = said;
    }
