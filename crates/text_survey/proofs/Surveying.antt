-- The survey of the routines, and the instructions up to the next `R`.
use mathlib.Core.Path.{◌≡◌, refl, sym, ap, ◌∙◌}
use mathlib.Core.Bool.{true, false}
use mathlib.Core.List.{List, [], ◌∷◌, ◌++◌, map}
use Prim.Native.Nat.{ℕ, suc, ◌+◌, ◌-◌, ◌≤◌, ◌<◌, min}
use native.Mathlib.Omega.{arith}
use native.Mathlib.Numerals.{add-one}
use lib.ListN.{length, drop, take, replicate, take-append-drop}
use borrow.Author.Tests.{lt-ltb}
use lib.ListN.{set, length-set, length-take, length-map}
use lib.Seq.{take-suc-set, append_snoc, drop-set-lt, drop-drop}
use Rattle.listing.specs.Limits.{routines_on, names_on}
use Rattle.listing.specs.Questions.{place2, place3, listing_in}
use Rattle.listing.specs.Listing as L
use Rattle.listing.specs.Listing.{code_of, routines_of, listing_of}
use Rattle.text_place.specs.Texts.{line_end}
use Rattle.text_jumps.specs.Records.{as_record}
use Rattle.text_jumps.specs.declared.scope.Scope.{Scope}
use Rattle.text_records.proofs.Lines.{NextLine, records_whole, records_end}
use Rattle.text_records.specs.Onward.{Formed, records_from}
use Rattle.text_survey.specs.Surveys.{arity, SurveyFits, survey_of, survey_one, is_instruction}
use Rattle.text_limits.specs.declared.counts.Counts.{Counts}
use Rattle.text_survey.specs.declared.routines.Survey.{Survey}
use Rattle.text_limits.proofs.LimitPass.{Limiting, limiting_begun, limits_hold, none_held, also}
use Rattle.text_endings.proofs.Body.{Body, body_empty, body_opens, body_of}

-- ── the argument counts on lines ─────────────────────────────────────────────────
unfoldable pub arities : List L.Line → List ℕ
arities [] = []
arities (L.Line.ports i o ∷ lines) = arities lines
arities (L.Line.opens kinds locals ∷ lines) = length kinds ∷ arities lines
arities (L.Line.instruction i ∷ lines) = arities lines

arities_of : (lines : List L.Line) → map arity (routines_of lines) ≡ arities lines
unfolding arities routines_of
arities_of [] = refl
arities_of (L.Line.ports i o ∷ lines) = arities_of lines
arities_of (L.Line.opens kinds locals ∷ lines) = rw (arities_of lines)
arities_of (L.Line.instruction i ∷ lines) = arities_of lines

arities_whole : (lines : List L.Line) → Body lines → map arity (listing_of lines).routines ≡ arities lines
unfolding arities listing_of
arities_whole (L.Line.ports i o ∷ []) body_empty = arities_of []
arities_whole (L.Line.ports i o ∷ (L.Line.opens kinds locals ∷ lines)) (body_opens p) = arities_of (L.Line.opens kinds locals ∷ lines)
arities_whole [] x' = elim x' [ ]
arities_whole (L.ports i o ∷ (L.ports _ _ ∷ lines)) x11 = elim x11 [ ]
arities_whole (L.ports i o ∷ (L.instruction _ ∷ lines)) x11 = elim x11 [ ]
arities_whole (L.opens _ _ ∷ _) x9 = elim x9 [ ]
arities_whole (L.instruction _ ∷ _) x9 = elim x9 [ ]

-- ── the survey ───────────────────────────────────────────────────────────────────
one_less : (counts : List ℕ) (n : ℕ) → n < 64 → drop n counts ≡ replicate (64 - n) 0 → drop (n + 1) counts ≡ replicate (64 - (n + 1)) 0
one_less counts n lt e =
    let k : 64 - n ≡ suc (64 - (n + 1)) = omega arith in
    let d : drop 1 (drop n counts) ≡ drop (n + 1) counts = drop-drop 1 n counts in
    sym d ∙ ap (drop 1) e ∙ rw k

pub record Surveying (s : List ℕ) (at line : ℕ) (survey : Survey) : Type 0 where
  pub held : Counts
  pub limiting : Limiting s at line held
  pub fits : SurveyFits survey
  pub number : held.routines ≡ survey.routines
  pub so_far : take survey.routines survey.counts ++ arities (records_from line (drop at s)) ≡ map arity (listing_in s).routines
  pub behind : drop survey.routines survey.counts ≡ replicate (64 - survey.routines) 0

pub surveying_begun : (s : List ℕ) → place2 s ≡ 0 → Surveying s 0 1 (record { counts = replicate 64 0; routines = 0 })
unfolding listing_in
surveying_begun s e =
    record {
      held = none_held;
      limiting = limiting_begun s e;
      fits = record { long = refl; few = omega arith };
      number = refl;
      behind = refl;
      so_far = sym (ap (λ (ls : List L.Line). map arity (listing_of ls).routines) (sym (records_whole s)) ∙ arities_whole (records_from 1 s) (body_of s e));
    }

module _ (s : List ℕ) (at line : ℕ) (survey : Survey) (v : Surveying s at line survey) where
  pub surveyed : length s ≤ at → survey ≡ survey_of (listing_in s)
  unfolding arities
  surveyed h =
      let counts : take survey.routines survey.counts ≡ map arity (listing_in s).routines =
      sym (append_none (take survey.routines survey.counts)) ∙ ap (λ (ls : List L.Line). take survey.routines survey.counts ++ arities ls) (sym (records_end s at line h)) ∙ v.so_far in
      let number : survey.routines ≡ length (listing_in s).routines = omega (arith, ap length counts, length-take survey.routines survey.counts, v.fits.long, v.fits.few, length-map (listing_in s).routines arity) in
      let whole : survey.counts ≡ map arity (listing_in s).routines ++ replicate (64 - survey.routines) 0 = sym (take-append-drop survey.routines survey.counts) ∙ rw (counts, v.behind) in
      same_survey _ _ _ _ (whole ∙ rw number) number
    where
      append_none : (xs : List ℕ) → xs ++ [] ≡ xs
      append_none [] = refl
      append_none (x ∷ xs) = rw (append_none xs)

      same_survey : (a b : List ℕ) (m n : ℕ) → a ≡ b → m ≡ n → ◌≡◌ {A = Survey} (record { counts = a; routines = m }) (record { counts = b; routines = n })
      same_survey a b m n e f = rw (e, f)

  module _ (met : place3 s ≡ 0) (n : NextLine s at line) (rs : List L.Routine) (scope : Scope) where
    abbrev rest : List L.Line
    rest = records_from (line + 1) (drop (line_end s at + 1) s)

    step : (l : L.Line) → take survey.routines survey.counts ++ arities (l ∷ rest) ≡ map arity (listing_in s).routines
        → (also v.held l).routines ≤ 64 → names_on l ≤ 16 → Limiting s (line_end s at + 1) (line + 1) (also v.held l)
        → Surveying s (line_end s at + 1) (line + 1) (survey_one survey (as_record rs scope l))
    unfolding arities routines_on names_on
    step (L.Line.ports i o) e h k m = record { held = also v.held (L.Line.ports i o); limiting = m; fits = v.fits; number = omega (arith, v.number); so_far = e; behind = v.behind }
    step (L.Line.instruction i) e h k m = record { held = also v.held (L.Line.instruction i); limiting = m; fits = v.fits; number = omega (arith, v.number); so_far = e; behind = v.behind }
    step (L.Line.opens kinds locals) e h k m =
        let lt : survey.routines < 64 = omega (arith, v.number) in
        let small : min (length kinds) 100 ≡ length kinds = omega arith in
        let put : take (survey.routines + 1) (set survey.counts survey.routines (length kinds)) ≡ take survey.routines survey.counts ++ (length kinds ∷ []) =
        simp add-one (take-suc-set survey.counts survey.routines (length kinds) (omega (arith, v.fits.long))) in
        rw (lt-ltb survey.routines 64 lt, small) (record {
          held = also v.held (L.Line.opens kinds locals);
          limiting = m;
          fits = record { long = length-set survey.counts survey.routines (length kinds) ∙ v.fits.long; few = omega arith };
          number = omega (arith, v.number);
          so_far = ap (λ (xs : List ℕ). xs ++ arities rest) put ∙ append_snoc (take survey.routines survey.counts) (length kinds) (arities rest) ∙ e;
          behind = drop-set-lt (survey.routines + 1) survey.counts survey.routines (length kinds) (omega arith) ∙ one_less survey.counts survey.routines lt v.behind;
        })

    pub surveying_on : Surveying s (line_end s at + 1) (line + 1) (survey_one survey (as_record rs scope n.line))
    surveying_on =
        let h = limits_hold s at line v.held v.limiting n met in
        step n.line (ap (λ (ls : List L.Line). take survey.routines survey.counts ++ arities ls) (sym n.records) ∙ v.so_far) h.0 h.1 h.2

-- ── the instructions up to the next `R` ──────────────────────────────────────────
pub record Counting (s : List ℕ) (at₀ line₀ at line count : ℕ) : Type 0 where
  pub formed : Formed s at line
  pub after : at₀ + count ≤ at
  pub same : count + length (code_of (records_from line (drop at s))) ≡ length (code_of (records_from line₀ (drop at₀ s)))

pub counting_begun : (s : List ℕ) (at line : ℕ) → Formed s at line → Counting s at line at line 0
counting_begun s at line f = record { formed = f; after = omega arith; same = omega arith }

module _ (s : List ℕ) (at₀ line₀ at line count : ℕ) (v : Counting s at₀ line₀ at line count) where
  pub counting_done : length s ≤ at → count ≡ length (code_of (records_from line₀ (drop at₀ s)))
  unfolding code_of
  counting_done h = let e : length (code_of (records_from line (drop at s))) ≡ 0 = rw (records_end s at line h) in omega (arith, e, v.same)

  module _ (n : NextLine s at line) (rs : List L.Routine) (scope : Scope) where
    stops : (l : L.Line) (rest : List L.Line) → is_instruction (as_record rs scope l) ≡ false → length (code_of (l ∷ rest)) ≡ 0
    unfolding code_of
    stops (L.Line.ports i o) rest e = refl
    stops (L.Line.opens kinds locals) rest e = refl
    stops (L.Line.instruction i) rest e = absurd (let z : ◌≡◌ {A = ℕ} 0 1 = cc in omega arith)

    goes : (l : L.Line) (rest : List L.Line) → is_instruction (as_record rs scope l) ≡ true → length (code_of (l ∷ rest)) ≡ suc (length (code_of rest))
    unfolding code_of
    goes (L.Line.ports i o) rest e = absurd (let z : ◌≡◌ {A = ℕ} 0 1 = cc in omega arith)
    goes (L.Line.opens kinds locals) rest e = absurd (let z : ◌≡◌ {A = ℕ} 0 1 = cc in omega arith)
    goes (L.Line.instruction i) rest e = refl

    pub counting_over : is_instruction (as_record rs scope n.line) ≡ false → count ≡ length (code_of (records_from line₀ (drop at₀ s)))
    counting_over e = omega (arith, ap (λ (ls : List L.Line). length (code_of ls)) n.records, stops n.line (records_from (line + 1) (drop (line_end s at + 1) s)) e, v.same)

    pub counting_on : is_instruction (as_record rs scope n.line) ≡ true → Counting s at₀ line₀ (line_end s at + 1) (line + 1) (count + 1)
    counting_on e =
        record {
          formed = n.formed;
          after = omega (arith, v.after);
          same = omega (arith, ap (λ (ls : List L.Line). length (code_of ls)) n.records, goes n.line (records_from (line + 1) (drop (line_end s at + 1) s)) e, v.same);
        }
