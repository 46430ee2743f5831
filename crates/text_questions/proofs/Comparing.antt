-- Opening bytes: compared one after the other, and what a text without them is.
use Rattle.std.specs.Prelude.{Some}
use Rattle.std.specs.List.{starts_with}
use mathlib.Core.Path.{◌≡◌, refl, sym, ap, ◌∙◌}
use mathlib.Core.Bool.{Bool, true, false, cond, ◌&&◌}
use mathlib.Core.List.{List, [], ◌∷◌}
use mathlib.Core.Option.{Option, none, some}
use Prim.Native.Nat.{ℕ}
use native.Mathlib.Omega.{arith}
use lib.Dec.{eqb}
use lib.ListN.{length}
use Rattle.listing.specs.Listing.{Line, ports, opens, instruction}
use Rattle.listing.specs.Bytes.{join}
use Rattle.listing.specs.Form.{may_stand_on, read_line}
use Rattle.listing.specs.Text.{line_text, line_fields, join_fields}
use Rattle.listing.specs.Questions.{place2}
use Rattle.listing.proofs.Tests.{no_test, and_left, and_right}
use Rattle.listing.proofs.LinesBack.{line_back}
use Rattle.text_place.specs.Texts.{before, first_line, ends_line}
use Rattle.text_records.specs.Lines.{some_place}
use Rattle.text_records.specs.Onward.{place_from}
use Rattle.text_records.proofs.Lines.{place_some, place_whole, place_end, place_unread}
use Rattle.text_questions.specs.Opening.{begins_with}

-- ── byte by byte ─────────────────────────────────────────────────────────────────
pub begins_by : (opening s : List ℕ) → starts_with eqb s opening ≡ begins_with opening s
unfolding begins_with
begins_by [] s = refl
begins_by (byte ∷ opening) [] = refl
begins_by (byte ∷ opening) (first ∷ s) = ap (λ (t : Bool). eqb byte first && t) (begins_by opening s)

-- ── a text that opens otherwise ──────────────────────────────────────────────────
-- what the bytes before some byte begin with, the whole begins with
begins_first : (t : Bool) (b c : ℕ) (opening part text : List ℕ) → (begins_with opening part ≡ true → begins_with opening text ≡ true)
    → begins_with (b ∷ opening) (cond t [] (c ∷ part)) ≡ true → begins_with (b ∷ opening) (c ∷ text) ≡ true
unfolding begins_with
begins_first true b c opening part text rest h = no_test h
begins_first false b c opening part text rest h =
    rw (and_left (eqb b c) (begins_with opening part) h) (rest (and_right (eqb b c) (begins_with opening part) h))

begins_before : (test : ℕ → Bool) (opening text : List ℕ) → begins_with opening (before test text) ≡ true → begins_with opening text ≡ true
unfolding begins_with before
begins_before test [] text h = refl
begins_before test (b ∷ opening) [] h = h
begins_before test (b ∷ opening) (c ∷ text) h = begins_first (test c) b c opening (before test text) text (begins_before test opening text) h

ports_begin : (line : Line) → may_stand_on 1 line ≡ true → begins_with (80 ∷ (9 ∷ [])) (line_text line) ≡ true
unfolding may_stand_on begins_with join_fields line_fields join
ports_begin (ports i o) h = refl
ports_begin (opens kinds locals) h = no_test h
ports_begin (instruction i) h = no_test h

module _ (s : List ℕ) (otherwise : begins_with (80 ∷ (9 ∷ [])) s ≡ false) where
  unread : (o : Option Line) → read_line 1 (first_line s) ≡ o → read_line 1 (first_line s) ≡ none
  unread none e = e
  unread (some line) e =
      let b = line_back 1 (first_line s) line e in
      let h : begins_with (80 ∷ (9 ∷ [])) (first_line s) ≡ true = rw (← b.is) (ports_begin line b.stands) in
      no_test (sym otherwise ∙ begins_before ends_line (80 ∷ (9 ∷ [])) s h)

  by_length : (l : List ℕ) → s ≡ l → place_from 1 s ≡ 1
  by_length [] e = place_end s 0 1 (omega (arith, ap length e))
  by_length (b ∷ l) e = place_unread s 0 1 (omega (arith, ap length e)) (unread (read_line 1 (first_line s)) refl)

  pub out_of_form_lem : Some 1 ≡ some_place (place2 s)
  out_of_form_lem = place_some 1 (place2 s) (omega arith) (sym (by_length s refl) ∙ place_whole s)
