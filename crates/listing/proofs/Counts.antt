-- Question 3 on the text of a listing: no line passes a limit exactly if the whole listing keeps within each.
use mathlib.Core.Path.{◌≡◌, refl, sym, ◌∙◌}
use mathlib.Core.Bool.{Bool, true, ◌&&◌}
use mathlib.Core.List.{List, [], ◌∷◌, ◌++◌, map}
use Prim.Native.Nat.{ℕ, ◌+◌, ◌≤◌}
use native.Mathlib.Omega.{arith}
use lib.Dec.{leb}
use lib.ListN.{length, drop, length-append, length-map}
use borrow.Author.Tests.{leb-true, le-leb}
use Rattle.listing.specs.Lists.{all, total, all_yes, both}
use Rattle.listing.specs.Bytes.{Bytes, line_feed, figure}
use Rattle.listing.specs.Listing.{Call, Instruction, assign, schedule, branch, jump, wait, fork, end, Line, instruction, Routine, Listing, name_count, routine_lines, lines_of}
use Rattle.listing.specs.Text.{piece_text, call_field, instruction_fields, line_text, lines_text, text_of}
use Rattle.listing.specs.Limits.{byte_limit, routine_limit, instruction_limit, name_limit, piece_limit, bytes_on, routines_on, instructions_on, names_on, call_pieces, instruction_pieces, pieces_on, within, limit_answers}
use Rattle.listing.specs.WellFormed.{routine_instructions, routine_pieces, meets_counts}
use Rattle.listing.proofs.Tests.{and_left, and_right}
use Rattle.listing.proofs.Answers.{yes_map, yes_both, both_yes, both_length, total_within, within_total, within_length}

-- ── what the lines hold in all ───────────────────────────────────────────────────
count_code : (on : Line → ℕ) (code : List Instruction) (rest : List Line)
    → total (map on (map instruction code ++ rest)) ≡ total (map (λ i. on (instruction i)) code) + total (map on rest)
unfolding total
count_code on [] rest = omega arith
count_code on (i ∷ code) rest = omega (arith, count_code on code rest)

none_each : (code : List Instruction) → total (map (λ i. 0) code) ≡ 0
unfolding total
none_each [] = refl
none_each (i ∷ code) = omega (arith, none_each code)

one_each : (code : List Instruction) → total (map (λ i. 1) code) ≡ length code
unfolding total
one_each [] = refl
one_each (i ∷ code) = omega (arith, one_each code)

routines_counted : (routines : List Routine) → total (map routines_on (routine_lines routines)) ≡ length routines
unfolding routine_lines routines_on total
routines_counted [] = refl
routines_counted (routine ∷ rest) =
    omega (arith, count_code routines_on routine.code (routine_lines rest), none_each routine.code, routines_counted rest)

instructions_counted : (routines : List Routine) → total (map instructions_on (routine_lines routines)) ≡ total (map routine_instructions routines)
unfolding routine_lines instructions_on total
instructions_counted [] = refl
instructions_counted (routine ∷ rest) =
    omega (arith, count_code instructions_on routine.code (routine_lines rest), one_each routine.code, instructions_counted rest)

pieces_counted : (routines : List Routine) → total (map pieces_on (routine_lines routines)) ≡ total (map routine_pieces routines)
unfolding routine_lines pieces_on total
pieces_counted [] = refl
pieces_counted (routine ∷ rest) = omega (arith, count_code pieces_on routine.code (routine_lines rest), pieces_counted rest)

pub bytes_counted : (lines : List Line) → total (map bytes_on (map line_text lines)) ≡ length (lines_text lines)
unfolding lines_text total
bytes_counted [] = refl
bytes_counted (line ∷ lines) = omega (arith, length-append (line_text line) (line_feed ∷ lines_text lines), bytes_counted lines)

few_names : Line → Bool
few_names line = leb (names_on line) name_limit

few_names_in_code : (code : List Instruction) (rest : List Line) → all few_names (map instruction code ++ rest) ≡ all few_names rest
unfolding all few_names names_on
few_names_in_code [] rest = refl
few_names_in_code (i ∷ code) rest = few_names_in_code code rest

names_counted : (routines : List Routine) → all few_names (routine_lines routines) ≡ all (λ routine. leb (name_count routine) name_limit) routines
unfolding all routine_lines few_names names_on
names_counted [] = refl
names_counted (routine ∷ rest) = rw (few_names_in_code routine.code (routine_lines rest), names_counted rest)

-- ── "pieces after the letters of instruction lines" ──────────────────────────────
call_pieces_lem : (calls : List Call) → total (map call_pieces calls) ≡ total (map length (map call_field calls))
unfolding total call_field
call_pieces_lem [] = refl
call_pieces_lem (call ∷ calls) = omega (arith, length-map call.arguments figure, call_pieces_lem calls)

-- what question 3 counts for an instruction are the pieces of its line's fields after the first
pub pieces_after_the_letter : (i : Instruction) → instruction_pieces i ≡ total (map length (drop 1 (instruction_fields i)))
unfolding instruction_pieces instruction_fields total
pieces_after_the_letter (assign n e) = omega (arith, length-map e piece_text)
pieces_after_the_letter (schedule n d e) = omega (arith, length-map d piece_text, length-map e piece_text)
pieces_after_the_letter (branch e k) = omega (arith, length-map e piece_text)
pieces_after_the_letter (jump k) = refl
pieces_after_the_letter (wait names) = omega (arith, length-map names figure)
pieces_after_the_letter (fork calls) = call_pieces_lem calls
pieces_after_the_letter end = refl

-- ── the limits, each of the whole listing ────────────────────────────────────────
pub record WithinLimits (listing : Listing) : Type 0 where
  pub routines : length listing.routines ≤ routine_limit
  pub instructions : total (map routine_instructions listing.routines) ≤ instruction_limit
  pub pieces : total (map routine_pieces listing.routines) ≤ piece_limit
  pub names : all (λ routine. leb (name_count routine) name_limit) listing.routines ≡ true

pub counts_met : (listing : Listing) → meets_counts listing ≡ true → WithinLimits listing
unfolding meets_counts
counts_met listing h =
    let a : Bool = leb (length listing.routines) routine_limit in
    let b : Bool = leb (total (map routine_instructions listing.routines)) instruction_limit in
    let c : Bool = leb (total (map routine_pieces listing.routines)) piece_limit in
    let d : Bool = all (λ routine. leb (name_count routine) name_limit) listing.routines in
    let abc = and_left (a && b && c) d h in
    let ab = and_left (a && b) c abc in
    record {
      routines = leb-true _ _ (and_left a b ab);
      instructions = leb-true _ _ (and_right a b ab);
      pieces = leb-true _ _ (and_right (a && b) c abc);
      names = and_right (a && b && c) d h;
    }

pub meets_counts_lem : (listing : Listing) → WithinLimits listing → meets_counts listing ≡ true
unfolding meets_counts
meets_counts_lem listing w =
    rw (le-leb _ routine_limit w.routines, le-leb _ instruction_limit w.instructions, le-leb _ piece_limit w.pieces, w.names)

-- ── the limits, line by line ─────────────────────────────────────────────────────
record LinesWithin (texts : List Bytes) (lines : List Line) : Type 0 where
  pub bytes : total (map bytes_on texts) ≤ byte_limit
  pub routines : total (map routines_on lines) ≤ routine_limit
  pub instructions : total (map instructions_on lines) ≤ instruction_limit
  pub pieces : total (map pieces_on lines) ≤ piece_limit
  pub names : all few_names lines ≡ true

module _ (texts : List Bytes) (lines : List Line) where
  within_answers : LinesWithin texts lines → all_yes (limit_answers texts lines) ≡ true
  unfolding limit_answers few_names
  within_answers w =
      yes_both _ _ (total_within byte_limit (map bytes_on texts) w.bytes)
      (yes_both _ _ (total_within routine_limit (map routines_on lines) w.routines)
      (yes_both _ _ (total_within instruction_limit (map instructions_on lines) w.instructions)
      (yes_both _ _ (total_within piece_limit (map pieces_on lines) w.pieces) (rw (yes_map few_names lines) w.names))))

  counted : (limit : ℕ) (on : Line → ℕ) → length (within limit (map on lines)) ≡ length lines
  counted limit on = within_length limit (map on lines) ∙ length-map lines on

  answers_within : length texts ≡ length lines → all_yes (limit_answers texts lines) ≡ true → LinesWithin texts lines
  unfolding limit_answers few_names
  answers_within l h =
      let r = within routine_limit (map routines_on lines) in
      let i = within instruction_limit (map instructions_on lines) in
      let p = within piece_limit (map pieces_on lines) in
      let n = map few_names lines in
      let lb = within_length byte_limit (map bytes_on texts) ∙ length-map texts bytes_on ∙ l in
      let lr = counted routine_limit routines_on in
      let li = counted instruction_limit instructions_on in
      let lp = counted piece_limit pieces_on in
      let ln : length n ≡ length lines = length-map lines few_names in
      let lpn = both_length p n (lp ∙ sym ln) ∙ lp in
      let lipn = both_length i (both p n) (li ∙ sym lpn) ∙ li in
      let lripn = both_length r (both i (both p n)) (lr ∙ sym lipn) ∙ lr in
      let a = both_yes (within byte_limit (map bytes_on texts)) (both r (both i (both p n))) (lb ∙ sym lripn) h in
      let b = both_yes r (both i (both p n)) (lr ∙ sym lipn) a.1 in
      let c = both_yes i (both p n) (li ∙ sym lpn) b.1 in
      let d = both_yes p n (lp ∙ sym ln) c.1 in
      record {
        bytes = within_total byte_limit (map bytes_on texts) a.0;
        routines = within_total routine_limit (map routines_on lines) b.0;
        instructions = within_total instruction_limit (map instructions_on lines) c.0;
        pieces = within_total piece_limit (map pieces_on lines) d.0;
        names = sym (yes_map few_names lines) ∙ d.1;
      }

-- ── and both ─────────────────────────────────────────────────────────────────────
module _ (listing : Listing) where
  pub limits_kept : WithinLimits listing → length (text_of listing) ≤ byte_limit → all_yes (limit_answers (map line_text (lines_of listing)) (lines_of listing)) ≡ true
  unfolding lines_of total routines_on instructions_on pieces_on all few_names names_on
  limits_kept w b =
      let rs = listing.routines in
      within_answers (map line_text (lines_of listing)) (lines_of listing) (record {
        bytes = omega (arith, bytes_counted (lines_of listing));
        routines = omega (arith, routines_counted rs);
        instructions = omega (arith, instructions_counted rs);
        pieces = omega (arith, pieces_counted rs);
        names = rw (names_counted rs) w.names;
      })

  pub kept_limits : all_yes (limit_answers (map line_text (lines_of listing)) (lines_of listing)) ≡ true
      → WithinLimits listing × (length (text_of listing) ≤ byte_limit)
  unfolding lines_of total routines_on instructions_on pieces_on all few_names names_on
  kept_limits h =
      let rs = listing.routines in
      let w = answers_within (map line_text (lines_of listing)) (lines_of listing) (length-map (lines_of listing) line_text) h in (
        record {
          routines = omega (arith, routines_counted rs, w.routines);
          instructions = omega (arith, instructions_counted rs, w.instructions);
          pieces = omega (arith, pieces_counted rs, w.pieces);
          names = rw (← names_counted rs) w.names;
        },
        omega (arith, bytes_counted (lines_of listing), w.bytes),
      )
