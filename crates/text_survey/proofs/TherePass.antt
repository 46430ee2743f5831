-- Question 4, line by line.
use Rattle.std.specs.Prelude.{Some, None}
use mathlib.Core.Path.{◌≡◌, refl, sym, ap, ◌∙◌}
use mathlib.Core.Bool.{Bool, true, false, ◌&&◌}
use mathlib.Core.List.{List, [], ◌∷◌, ◌++◌, map}
use Prim.Native.Nat.{ℕ, zero, suc, ◌+◌, ◌-◌, ◌≤◌, ◌<◌, min}
use native.Mathlib.Omega.{arith}
use native.Mathlib.Numerals.{add-one}
use lib.Dec.{eqb, ltb}
use lib.ListN.{length, get_or, drop, take}
use borrow.Author.Tests.{eq-eqb, ne_eqb, leb-true, ltb-true, ltb-false, eqb-false, eqb-true}
use lib.ListN.{replicate, length-append, length-map, get_or-map, length-replicate}
use lib.Seq.{take_at}
use Rattle.listing.specs.Lists.{all, first_no_from, first_no}
use Rattle.listing.specs.Form.{may_stand_on}
use Rattle.listing.specs.Limits.{names_on, instructions_on}
use Rattle.listing.specs.Questions.{place2, place3, place4, listing_in, records_of, argument_count, call_is_there, is_there, is_by_reference, opens_as_stated, routines_there, there_answers}
use Rattle.listing.specs.Listing as L
use Rattle.listing.specs.Listing.{code_of, routines_of, listing_of}
use Rattle.text_place.specs.Texts.{line_end}
use Rattle.text_piece.specs.Pieces.{cap}
use Rattle.text_jumps.specs.Records.{as_record, stand_ins}
use Rattle.text_jumps.specs.declared.scope.Scope.{Scope}
use Rattle.text_records.specs.Lines.{some_place}
use Rattle.text_records.proofs.Lines.{place_some, place_none, NextLine, next_line, records_whole, records_end}
use Rattle.text_records.specs.Onward.{records_from}
use Rattle.text_main.specs.Stated.{stated_if}
use Rattle.text_survey.specs.Surveys.{arity, survey_of, answers_here, moved_here_lem}
use Rattle.text_limits.specs.declared.counts.Counts.{Counts}
use Rattle.text_main.specs.declared.main_routine.Here.{Here}
use Rattle.text_survey.specs.declared.routines.Survey.{Survey}
use Rattle.text_limits.proofs.LimitPass.{Limiting, limiting_begun, limits_hold, none_held, also}
use Rattle.text_endings.proofs.Body.{NoPorts, none_left, opens_more, instruction_more, Body, body_empty, body_opens, body_of}

clash : {A : Type 0} → ◌≡◌ {A = Bool} false true → A
clash e = absurd (let z : ◌≡◌ {A = ℕ} 0 1 = cc in omega arith)

-- ── a call is there by the argument counts alone ─────────────────────────────────
count_by_arity : (rs : List L.Routine) (r : ℕ) → argument_count rs r ≡ get_or (map arity rs) r 0
unfolding argument_count
count_by_arity rs r = sym (get_or-map arity rs r (record { kinds = []; locals = 0; code = [] }))

module _ (rs qs : List L.Routine) (e : map arity rs ≡ map arity qs) (names : ℕ) where
  same_call : (call : L.Call) → call_is_there rs names call ≡ call_is_there qs names call
  unfolding call_is_there
  same_call call =
      let l : length rs ≡ length qs = sym (length-map rs arity) ∙ ap length e ∙ length-map qs arity in
      let a : argument_count rs call.callee ≡ argument_count qs call.callee = count_by_arity rs call.callee ∙ ap (λ (ks : List ℕ). get_or ks call.callee 0) e ∙ sym (count_by_arity qs call.callee) in
      rw (l, a)

  same_calls : (calls : List L.Call) → all (call_is_there rs names) calls ≡ all (call_is_there qs names) calls
  unfolding all
  same_calls [] = refl
  same_calls (c ∷ calls) = rw (same_call c, same_calls calls)

  same_there : (size : ℕ) (i : L.Instruction) → is_there rs names size i ≡ is_there qs names size i
  unfolding is_there
  same_there size (L.Instruction.assign n x) = refl
  same_there size (L.Instruction.schedule n d x) = refl
  same_there size (L.Instruction.branch x k) = refl
  same_there size (L.Instruction.jump k) = refl
  same_there size (L.Instruction.wait ns) = refl
  same_there size (L.Instruction.fork calls) = same_calls calls
  same_there size L.Instruction.end = refl

stand_in_arity : (counts : List ℕ) → map arity (stand_ins counts) ≡ counts
unfolding stand_ins
stand_in_arity [] = refl
stand_in_arity (k ∷ counts) = rw (length-replicate k L.Kind.by_reference, stand_in_arity counts)

-- ── question 4, line by line ─────────────────────────────────────────────────────
unfoldable pub there_from : L.Listing → Bool → ℕ → ℕ → List L.Line → List Bool
there_from g main names size [] = []
there_from g main names size (L.Line.ports i o ∷ lines) = true ∷ there_from g main names size lines
there_from g main names size (L.Line.opens kinds locals ∷ lines) =
    stated_if main (length kinds) (g.inputs + g.outputs) (all is_by_reference kinds) ∷ there_from g false (length kinds + locals) (length (code_of lines)) lines
there_from g main names size (L.Line.instruction i ∷ lines) = is_there g.routines names size i ∷ there_from g main names size lines

is_zero : ℕ → Bool
is_zero zero = true
is_zero (suc n) = false

stated_by : (g : L.Listing) (number : ℕ) (routine : L.Routine) → opens_as_stated g number routine ≡ stated_if (is_zero number) (length routine.kinds) (g.inputs + g.outputs) (all is_by_reference routine.kinds)
unfolding opens_as_stated is_zero
stated_by g zero routine = refl
stated_by g (suc n) routine = refl

there_routines : (g : L.Listing) (lines : List L.Line) → NoPorts lines → (number names size : ℕ)
    → map (is_there g.routines names size) (code_of lines) ++ routines_there g number (routines_of lines) ≡ there_from g (is_zero number) names size lines
unfolding there_from code_of routines_of routines_there is_zero
there_routines g [] none_left number names size = refl
there_routines g (L.Line.opens kinds locals ∷ lines) (opens_more p) number names size =
    rw (stated_by g number (record { kinds = kinds; locals = locals; code = code_of lines }), there_routines g lines p (suc number) (length kinds + locals) (length (code_of lines)))
there_routines g (L.Line.instruction i ∷ lines) (instruction_more p) number names size = rw (there_routines g lines p number names size)
there_routines g (L.ports _ _ ∷ lines) x5 number names size = elim x5 [ ]

-- a listing with a main
there_whole : (lines : List L.Line) → Body lines → (length (listing_of lines).routines ≡ 0 → ⊥) → there_from (listing_of lines) true 0 0 lines ≡ there_answers (listing_of lines)
unfolding there_from there_answers listing_of routines_of is_zero code_of
there_whole (L.Line.ports i o ∷ []) body_empty n = absurd (n refl)
there_whole (L.Line.ports i o ∷ (L.Line.opens kinds locals ∷ lines)) (body_opens p) n =
    ap (λ (answers : List Bool). true ∷ answers) (sym (there_routines (listing_of (L.Line.ports i o ∷ (L.Line.opens kinds locals ∷ lines))) (L.Line.opens kinds locals ∷ lines) (opens_more p) 0 0 0))
there_whole [] x'' n = elim x'' [ ]
there_whole (L.ports i o ∷ (L.ports _ _ ∷ lines)) x15 n = elim x15 [ ]
there_whole (L.ports i o ∷ (L.instruction _ ∷ lines)) x15 n = elim x15 [ ]
there_whole (L.opens _ _ ∷ _) x11 n = elim x11 [ ]
there_whole (L.instruction _ ∷ _) x11 n = elim x11 [ ]

-- and one without
no_main : (lines : List L.Line) → Body lines → length (listing_of lines).routines ≡ 0 → first_no (there_answers (listing_of lines)) ≡ 1
unfolding there_answers listing_of routines_of first_no_from
no_main (L.Line.ports i o ∷ []) body_empty e = refl
no_main (L.Line.ports i o ∷ (L.Line.opens kinds locals ∷ lines)) (body_opens p) e = absurd (let z : ⊥ = omega (arith, e) in z)
no_main [] x'' e = elim x'' [ ]
no_main (L.ports i o ∷ (L.ports _ _ ∷ lines)) x15 e = elim x15 [ ]
no_main (L.ports i o ∷ (L.instruction _ ∷ lines)) x15 e = elim x15 [ ]
no_main (L.opens _ _ ∷ _) x11 e = elim x11 [ ]
no_main (L.instruction _ ∷ _) x11 e = elim x11 [ ]

-- ── a routine has few instructions ───────────────────────────────────────────────
few_step : (s : List ℕ) (at line : ℕ) (held : Counts) → Limiting s at line held → place3 s ≡ 0
    → ((next : ℕ) (more : Counts) → Limiting s next (line + 1) more → at < next → more.instructions + length (code_of (records_from (line + 1) (drop next s))) ≤ 512)
    → held.instructions + length (code_of (records_from line (drop at s))) ≤ 512
unfolding code_of
few_step s at line held v met on = go (ltb at (length s)) refl
  where
    by_line : (l : L.Line) (rest : List L.Line) → (also held l).instructions + length (code_of rest) ≤ 512 → held.instructions + length (code_of (l ∷ rest)) ≤ 512
    by_line (L.Line.ports i o) rest h = omega (arith, v.limits.instructions)
    by_line (L.Line.opens kinds locals) rest h = omega (arith, v.limits.instructions)
    by_line (L.Line.instruction i) rest h = unfold instructions_on in omega (arith, h)

    go : (t : Bool) → ltb at (length s) ≡ t → held.instructions + length (code_of (records_from line (drop at s))) ≤ 512
    go false e = rw (records_end s at line (ltb-false at (length s) e)) (omega (arith, v.limits.instructions))
    go true e =
        let n = next_line s at line v.formed (ltb-true at (length s) e) in
        let h = limits_hold s at line held v n met in
        rw n.records (by_line n.line (records_from (line + 1) (drop (line_end s at + 1) s)) (on (line_end s at + 1) (also held n.line) h.2 (omega arith)))

few_code : (fuel : ℕ) (s : List ℕ) (at line : ℕ) (held : Counts) → Limiting s at line held → place3 s ≡ 0 → length s ≤ at + fuel
    → held.instructions + length (code_of (records_from line (drop at s))) ≤ 512
unfolding code_of
few_code zero s at line held v met b = rw (records_end s at line (omega arith)) (omega (arith, v.limits.instructions))
few_code (suc fuel) s at line held v met b = few_step s at line held v met (λ next more m h. few_code fuel s next (line + 1) more m met (omega arith))

-- ── the survey ───────────────────────────────────────────────────────────────────
module _ (listing : L.Listing) (survey : Survey) (e : survey ≡ survey_of listing) where
  pub all_counted : survey.routines ≡ length listing.routines
  all_counted = ap (λ (r : Survey). r.routines) e

  pub counts_are : take survey.routines survey.counts ≡ map arity listing.routines
  counts_are = rw e (take_at (map arity listing.routines) _ (length listing.routines) (length-map listing.routines arity))

  pub few_routines : length survey.counts ≡ 64 → survey.routines ≤ 64
  few_routines l =
      omega (arith, all_counted, ap (λ (r : Survey). length r.counts) e, length-append (map arity listing.routines) (replicate (64 - length listing.routines) 0), length-map listing.routines arity, length-replicate {A = ℕ} (64 - length listing.routines) 0)

-- ── the pass ─────────────────────────────────────────────────────────────────────
pub record There (s : List ℕ) (at line : ℕ) (here : Here) : Type 0 where
  pub held : Counts
  pub limiting : Limiting s at line held
  pub start : line ≡ 1 → at ≡ 0
  pub ports : 2 ≤ line → (here.inputs ≡ min (listing_in s).inputs cap) × (here.outputs ≡ min (listing_in s).outputs cap)
  pub same : first_no_from line (there_from (listing_in s) here.unopened here.names here.size (records_from line (drop at s))) ≡ place4 s

abbrev pub nowhere : Here
nowhere = record { inputs = 0; outputs = 0; unopened = true; names = 0; size = 0 }

module _ (s : List ℕ) (two : place2 s ≡ 0) (met : place3 s ≡ 0) where
  pub there_begun : (length (listing_in s).routines ≡ 0 → ⊥) → There s 0 1 nowhere
  unfolding place4 listing_in
  there_begun n =
      record {
        held = none_held;
        limiting = limiting_begun s two;
        start = λ e. refl;
        ports = λ h. absurd (let z : ⊥ = omega arith in z);
        same = ap (λ (ls : List L.Line). first_no_from 1 (there_from (listing_of (records_of s)) true 0 0 ls)) (records_whole s)
            ∙ ap (first_no_from 1) (there_whole (records_of s) (rw (records_whole s) at (body_of s two)) n);
      }

  pub main_missing : length (listing_in s).routines ≡ 0 → Some 1 ≡ some_place (place4 s)
  unfolding place4 listing_in
  main_missing e = place_some 1 (place4 s) (omega arith) (sym (no_main (records_of s) (rw (records_whole s) at (body_of s two)) e))

  module _ (at line : ℕ) (here : Here) (v : There s at line here) where
    pub there_done : length s ≤ at → None ≡ some_place (place4 s)
    unfolding there_from first_no_from
    there_done h = place_none (place4 s) (sym v.same ∙ ap (λ (ls : List L.Line). first_no_from line (there_from (listing_in s) here.unopened here.names here.size ls)) (records_end s at line h))

    module _ (n : NextLine s at line) (counts : List ℕ) (counted : counts ≡ map arity (listing_in s).routines) (scope : Scope) (names_are : scope.names ≡ here.names) (size_is : scope.size ≡ here.size) where
      abbrev rs : List L.Routine
      rs = stand_ins counts

      abbrev rest : List L.Line
      rest = records_from (line + 1) (drop (line_end s at + 1) s)

      abbrev followed : ℕ
      followed = length (code_of rest)

      limited : ((also v.held n.line).routines ≤ 64) × (names_on n.line ≤ 16) × Limiting s (line_end s at + 1) (line + 1) (also v.held n.line)
      limited = limits_hold s at line v.held v.limiting n met

      short : followed ≤ 512
      short = omega (arith, few_code (length s) s (line_end s at + 1) (line + 1) (also v.held n.line) limited.2 met (omega arith))

      same_arity : map arity rs ≡ map arity (listing_in s).routines
      same_arity = stand_in_arity counts ∙ counted

      stated_capped : (main : Bool) (k i o a b : ℕ) (t : Bool) → k ≤ 16 → a ≡ min i cap → b ≡ min o cap → stated_if main k (a + b) t ≡ stated_if main k (i + o) t
      stated_capped false k i o a b t h p q = refl
      stated_capped true k i o a b t h p q = ap (λ (u : Bool). u && t) (go (eqb k (i + o)) refl)
        where
          go : (u : Bool) → eqb k (i + o) ≡ u → eqb k (a + b) ≡ u
          go true e = eq-eqb k (a + b) (omega (arith, eqb-true k (i + o) e, p, q))
          go false e = ne_eqb k (a + b) (λ (z : k ≡ a + b). eqb-false k (i + o) e (omega (arith, z, p, q)))

      -- the answer that the code gives is the definition's, and so is the rest
      agrees : (l : L.Line) → may_stand_on line l ≡ true → names_on l ≤ 16
          → there_from (listing_in s) here.unopened here.names here.size (l ∷ rest)
          ≡ answers_here here (as_record rs scope l) ∷ there_from (listing_in s) (moved_here_lem followed here (as_record rs scope l)).unopened (moved_here_lem followed here (as_record rs scope l)).names (moved_here_lem followed here (as_record rs scope l)).size rest
      unfolding there_from may_stand_on names_on
      agrees (L.Line.ports i o) e h = refl
      agrees (L.Line.opens kinds locals) e h =
          let late : 2 ≤ line = leb-true 2 line e in
          let p = v.ports late in
          let a : min (length kinds) 100 + min (min locals cap) 100 ≡ length kinds + locals = omega arith in
          let b : min followed 1000 ≡ followed = omega (arith, short) in
          rw (a, b, stated_capped here.unopened (length kinds) (listing_in s).inputs (listing_in s).outputs here.inputs here.outputs (all is_by_reference kinds) (omega arith) p.0 p.1)
      agrees (L.Line.instruction i) e h =
          ap (λ (b : Bool). b ∷ there_from (listing_in s) here.unopened here.names here.size rest) (sym (same_there rs (listing_in s).routines same_arity here.names here.size i) ∙ rw (names_are, size_is))

      unrolled : first_no_from line (answers_here here (as_record rs scope n.line) ∷ there_from (listing_in s) (moved_here_lem followed here (as_record rs scope n.line)).unopened (moved_here_lem followed here (as_record rs scope n.line)).names (moved_here_lem followed here (as_record rs scope n.line)).size rest) ≡ place4 s
      unrolled =
          ap (first_no_from line) (sym (agrees n.line n.stands limited.1))
          ∙ ap (λ (ls : List L.Line). first_no_from line (there_from (listing_in s) here.unopened here.names here.size ls)) (sym n.records) ∙ v.same

      pub there_no : answers_here here (as_record rs scope n.line) ≡ false → Some line ≡ some_place (place4 s)
      unfolding first_no_from
      there_no e = place_some line (place4 s) v.limiting.formed.some_line (rw e at unrolled)

      ports_on : (l : L.Line) → may_stand_on line l ≡ true → (line ≡ 1 → listing_in s ≡ listing_of (l ∷ rest))
          → ((moved_here_lem followed here (as_record rs scope l)).inputs ≡ min (listing_in s).inputs cap) × ((moved_here_lem followed here (as_record rs scope l)).outputs ≡ min (listing_in s).outputs cap)
      unfolding may_stand_on listing_of
      ports_on (L.Line.ports i o) e f = let g = f (eqb-true line 1 e) in (rw g refl, rw g refl)
      ports_on (L.Line.opens kinds locals) e f = v.ports (leb-true 2 line e)
      ports_on (L.Line.instruction i) e f = v.ports (omega (arith, leb-true 3 line e))

      whole_listing : line ≡ 1 → listing_in s ≡ listing_of (n.line ∷ rest)
      unfolding listing_in
      whole_listing e =
          let z : at ≡ 0 = v.start e in
          ap listing_of (sym (records_whole s) ∙ ap (λ (k : ℕ). records_from k s) (sym e) ∙ ap (λ (a : ℕ). records_from line (drop a s)) (sym z) ∙ n.records)

      pub there_on : answers_here here (as_record rs scope n.line) ≡ true → There s (line_end s at + 1) (line + 1) (moved_here_lem followed here (as_record rs scope n.line))
      unfolding first_no_from
      there_on e =
          record {
            held = also v.held n.line;
            limiting = limited.2;
            start = λ (z : line + 1 ≡ 1). absurd (let w : ⊥ = omega (arith, z, v.limiting.formed.some_line) in w);
            ports = λ h. ports_on n.line n.stands whole_listing;
            same = ap (λ (k : ℕ). first_no_from k (there_from (listing_in s) (moved_here_lem followed here (as_record rs scope n.line)).unopened (moved_here_lem followed here (as_record rs scope n.line)).names (moved_here_lem followed here (as_record rs scope n.line)).size rest)) (add-one line)
                ∙ (rw e at unrolled);
          }
