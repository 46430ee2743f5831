-- One line of the loop that writes a table.
use Rattle.std.specs.Prelude.{Some}
use mathlib.Core.Path.{◌≡◌, refl, sym, ap, ◌∙◌}
use mathlib.Core.Bool.{true}
use mathlib.Core.List.{List, [], ◌∷◌, ◌++◌, append-nil}
use mathlib.Core.Option.{Option, some}
use Prim.Native.Nat.{ℕ, ◌+◌, ◌*◌, ◌≤◌, ◌<◌}
use native.Mathlib.Omega.{arith}
use lib.ListN.{length, get_or, drop, length-append}
use borrow.Author.Tests.{eqb-true, leb-true}
use Rattle.listing.specs.Listing as L
use Rattle.listing.specs.Load.{Loads}
use Rattle.listing.specs.Form.{may_stand_on}
use Rattle.listing.specs.Questions.{listing_in}
use Rattle.table.specs.Areas.{table_words, all_code, all_cells, cell_words, words_of_each}
use Rattle.table.proofs.Lengths.{cells_append}
use Rattle.table.proofs.Append.{code_append}
use Rattle.table.proofs.Stands.{cells_room}
use Rattle.text_place.specs.Texts.{line_end}
use Rattle.text_place.specs.Places.{passed}
use Rattle.text_place.specs.declared.place.Place.{Place}
use Rattle.text_records.specs.Onward.{records_from}
use Rattle.text_jumps.specs.Records.{as_record, as_rest}
use Rattle.text_jumps.specs.declared.scope.Scope.{Scope}
use Rattle.text_fields.specs.declared.field.Read.{Read}
use Rattle.text_jumps.specs.declared.record.Record.{Record}
use Rattle.text_records.proofs.Lines.{NextLine, next_line}
use Rattle.call_load.specs.Growing.{opened_with, with_instruction, last_code_lem, with_line, with_lines}
use Rattle.table_lines.specs.Lines.{holds_of, words_after, Fits, Good, line_of, WritesLine, line_at}
use Rattle.table_progress.specs.Progress.{entered, advanced, words_in, Room}
use Rattle.call_load.specs.Writing.{place_of, progress_after, words_next, AllFit, Counted, Writing}
use Rattle.call_load.specs.Writing as W
use Rattle.table_lines.specs.declared.line.Holds.{Holds}
use Rattle.table_lines.specs.declared.line.Holds.TheVariants as HV
use Rattle.table_lines.specs.declared.line.WrittenLine.{WrittenLine}
use Rattle.table_progress.specs.declared.progress.Progress.{Progress}
use Rattle.call_load.proofs.Growing.{last_code, last_code_few, added, Grows, lines_grow}
use Rattle.call_load.proofs.Words.{ports_written, opens_written, instruction_written}
use Rattle.call_load.proofs.Beginning.{meets_all}

-- ── what each kind of line changes ───────────────────────────────────────────────
advanced_at : (p : Progress) (h : Holds) (next : Place) → (advanced p h next).place.offset ≡ next.offset
advanced_at p (HV.Ports i o) next = refl
advanced_at p (HV.Opens n b l) next = refl
advanced_at p (HV.Instruction n) next = refl

advanced_line : (p : Progress) (h : Holds) (next : Place) → (advanced p h next).place.line ≡ next.line
advanced_line p (HV.Ports i o) next = refl
advanced_line p (HV.Opens n b l) next = refl
advanced_line p (HV.Instruction n) next = refl

all_cells_one : (is : List L.Instruction) (i : L.Instruction) → length (all_cells (is ++ (i ∷ []))) ≡ length (all_cells is) + length (cell_words i)
unfolding all_cells words_of_each
all_cells_one is i = ap length (cells_append is (i ∷ [])) ∙ (length-append (all_cells is) (cell_words i ++ []) ∙ ap (λ (l : List ℕ). length (all_cells is) + length l) (append-nil (cell_words i)))

-- what the listing so far and the lines left hold together
pub record Ample (rs : List L.Routine) : Type 0 where
  pub routines : length rs ≤ 64
  pub code : length (all_code rs) ≤ 512
  pub cells : length (all_cells (all_code rs)) ≤ 8192

-- a line has been put into the table of l, which was written with progress p
pub record Put (p : Progress) (l : L.Listing) (x : L.Line) (holds : Holds) (t : List ℕ) : Type 0 where
  pub words : entered p holds t ≡ table_words (with_line l x)
  pub counted : (next : Place) → Counted (advanced p holds next) (with_line l x).routines
  pub few : words_in holds ≤ 9400
  pub opened : (next : Place) → 3 ≤ p.place.line + 1 → 1 ≤ (advanced p holds next).routines

module _ (t t₁ : List ℕ) (p : Progress) (l : L.Listing) (words : t ≡ table_words l) (c : Counted p l.routines) (h : Holds) where
  put_ports : (i o : ℕ) → h ≡ HV.Ports i o → t₁ ≡ t → p.place.line ≡ 1 → Put p l (L.Line.ports i o) h t₁
  unfolding with_line
  put_ports i o eh et first =
      rw (eh, et, words) (record {
        words = ports_written l i o;
        counted = λ next. record { routines = c.routines; instructions = c.instructions; cells = c.cells; code = c.code };
        few = omega arith;
        opened = λ next h. absurd (let z : ⊥ = omega (arith, h, first) in z);
      })

  put_opens : (kinds : List L.Kind) (locals : ℕ) → h ≡ holds_of (L.Line.opens kinds locals) → t₁ ≡ t
      → Ample (with_line l (L.Line.opens kinds locals)).routines → Put p l (L.Line.opens kinds locals) h t₁
  unfolding with_line all_code
  put_opens kinds locals eh et ample =
      let rs = l.routines in
      let one : List L.Routine = opened_with kinds locals ∷ [] in
      let n = length-append rs one in
      let code : all_code (rs ++ one) ≡ all_code rs = code_append rs one ∙ append-nil (all_code rs) in
      rw (eh, et, words) (record {
        words = rw (c.routines, c.instructions) (opens_written l kinds locals (omega (arith, n, ample.routines)));
        counted = λ next. record {
          routines = omega (arith, n, c.routines);
          instructions = c.instructions ∙ ap length (sym code);
          cells = c.cells ∙ ap (λ (is : List L.Instruction). length (all_cells is)) (sym code);
          code = ap length (sym (last_code rs (opened_with kinds locals)));
        };
        few = omega arith;
        opened = λ next h. omega arith;
      })

  put_instruction : (i : L.Instruction) → h ≡ holds_of (L.Line.instruction i) → t₁ ≡ words_after (L.Line.instruction i) (328 + 5 * p.instructions) (2888 + p.cells) t
      → 1 ≤ p.routines → Ample (with_line l (L.Line.instruction i)).routines → Put p l (L.Line.instruction i) h t₁
  unfolding with_line
  put_instruction i eh et some' ample =
      let rs = l.routines in
      let some : 1 ≤ length rs = omega (arith, some', c.routines) in
      let a = added rs i some in
      let code : length (all_code (with_instruction rs i)) ≡ length (all_code rs) + 1 = ap length a.code ∙ length-append (all_code rs) (i ∷ []) in
      let cells : length (all_cells (all_code (with_instruction rs i))) ≡ length (all_cells (all_code rs)) + length (cell_words i) =
      ap (λ (is : List L.Instruction). length (all_cells is)) a.code ∙ all_cells_one (all_code rs) i in
      let last : length (last_code_lem (with_instruction rs i)) ≡ length (last_code_lem rs) + 1 = ap length a.last ∙ length-append (last_code_lem rs) (i ∷ []) in
      rw (eh, et, words) (record {
        words = rw (c.routines, c.instructions, c.cells, c.code) (instruction_written l i some (omega (arith, a.routines, ample.routines)) (omega (arith, code, ample.code)) (omega (arith, cells, ample.cells)));
        counted = λ next. record {
          routines = c.routines ∙ sym a.routines;
          instructions = omega (arith, code, c.instructions);
          cells = omega (arith, cells, c.cells);
          code = omega (arith, last, c.code);
        };
        few = omega (arith, cells, ample.cells);
        opened = λ next h. some';
      })

  pub put_line : (x : L.Line) → h ≡ holds_of x → t₁ ≡ words_after x (328 + 5 * p.instructions) (2888 + p.cells) t → may_stand_on p.place.line x ≡ true → (3 ≤ p.place.line → 1 ≤ p.routines)
      → Ample (with_line l x).routines → Put p l x h t₁
  unfolding may_stand_on
  put_line (L.Line.ports i o) eh et stands opened ample = put_ports i o eh et (eqb-true p.place.line 1 stands)
  put_line (L.Line.opens kinds locals) eh et stands opened ample = put_opens kinds locals eh et ample
  put_line (L.Line.instruction i) eh et stands opened ample = put_instruction i eh et (opened (leb-true 3 p.place.line stands)) ample

-- of two records that were read
next_read : (l m : Read Record) → Some l ≡ Some m → l.next ≡ m.next
next_read l m e = let k : l ≡ m = cc in ap (λ (r : Read Record). r.next) k

-- ── the turn ─────────────────────────────────────────────────────────────────────
first_fits : {x : L.Line} {xs : List L.Line} → AllFit (x ∷ xs) → Fits x × AllFit xs
first_fits (W.AllFit.more f g) = (f, g)

module _ (s : List ℕ) (loads : Loads s (listing_in s)) (t : List ℕ) (p : Progress) (v : Writing s t p) where
  -- the counts are within the areas
  ample_if : (rs : List L.Routine) → Grows rs (listing_in s).routines → Ample rs
  ample_if rs g =
      let m = meets_all s loads in
      record {
        routines = omega (arith, g.routines, m.routine_count);
        code = omega (arith, g.code, m.instruction_count);
        cells = omega (arith, g.cells, cells_room (listing_in s) m);
      }

  pub ample_now : Ample v.so_far.routines
  ample_now = ample_if v.so_far.routines (rw (← v.left) (lines_grow v.so_far _))

  pub bounded : (p.routines ≤ 64) × (p.instructions ≤ 512) × (p.cells ≤ 8192) × (p.code ≤ 512)
  bounded =
      let a = ample_now in
      let c = v.counted in (
        omega (arith, a.routines, c.routines),
        omega (arith, a.code, c.instructions),
        omega (arith, a.cells, c.cells),
        omega (arith, a.code, c.code, last_code_few v.so_far.routines),
      )

  module _ (inside : p.place.offset < length s) where
    abbrev n : NextLine s p.place.offset p.place.line
    n = next_line s p.place.offset p.place.line v.formed inside

    abbrev rest : List L.Line
    rest = records_from (p.place.line + 1) (drop (line_end s p.place.offset + 1) s)

    abbrev grown : L.Listing
    grown = with_line v.so_far n.line

    left : with_lines grown rest ≡ listing_in s
    unfolding with_lines
    left = rw n.records at v.left

    fits : Fits n.line × AllFit rest
    fits = first_fits (rw n.records at v.fit)

    ample : Ample grown.routines
    ample = ample_if grown.routines (rw (← left) (lines_grow grown rest))

    pub good : Good (line_at s (place_of p))
    good = record { line = n.line; reads = n.read; fits = fits.0 }

    module _ (w : WrittenLine) (t₁ : List ℕ) (writes : WritesLine s (place_of p) (328 + 5 * p.instructions) (2888 + p.cells) t t₁ w) where
      put : Put p v.so_far n.line w.holds t₁
      put =
          let holds : w.holds ≡ holds_of n.line = ap (λ (r : WrittenLine). r.holds) writes.answer ∙ ap (λ (o : Option L.Line). holds_of (line_of o)) n.read in
          let words : t₁ ≡ words_after n.line (328 + 5 * p.instructions) (2888 + p.cells) t =
          writes.words ∙ ap (λ (o : Option L.Line). words_after (line_of o) (328 + 5 * p.instructions) (2888 + p.cells) t) n.read in
          put_line t t₁ p v.so_far v.words v.counted w.holds n.line holds words n.stands v.opened ample

      pub room : Room p w.holds
      room =
          let b = bounded in
          record { routines = b.0; instructions = b.1; cells = omega (arith, b.2); code = b.3; more = put.few }

      next_is_lem : w.next ≡ record { offset = line_end s p.place.offset + 1; line = p.place.line + 1 }
      next_is_lem =
          let scope : Scope = record { names = 0; size = 0 } in
          let a : as_rest [] scope (some n.line) (get_or s (line_end s p.place.offset) 0) (passed s p.place.line (line_end s p.place.offset)) ≡ Some (record { value = as_record [] scope n.line; stop = 10; next = record { offset = line_end s p.place.offset + 1; line = p.place.line + 1 } }) =
          rw n.read at (n.answer [] scope) in
          let e : passed s p.place.line (line_end s p.place.offset) ≡ record { offset = line_end s p.place.offset + 1; line = p.place.line + 1 } = next_read _ _ a in
          ap (λ (r : WrittenLine). r.next) writes.answer ∙ e

      module _ (t₂ : List ℕ) (q : Progress) (enters : t₂ ≡ entered p w.holds t₁) (advances : q ≡ advanced p w.holds w.next) where
        at_is : q.place.offset ≡ line_end s p.place.offset + 1
        at_is = ap (λ (r : Progress). r.place.offset) advances ∙ (advanced_at p w.holds w.next ∙ ap (λ (m : Place). m.offset) next_is_lem)

        line_is_lem : q.place.line ≡ p.place.line + 1
        line_is_lem = ap (λ (r : Progress). r.place.line) advances ∙ (advanced_line p w.holds w.next ∙ ap (λ (m : Place). m.line) next_is_lem)

        pub words_are : t₂ ≡ words_next s p t
        words_are = enters ∙ (ap (λ (r : WrittenLine). entered p r.holds t₁) writes.answer ∙ ap (entered p (holds_of (line_of (line_at s (place_of p))))) writes.words)

        pub progress_is : q ≡ progress_after s p
        progress_is = advances ∙ ap (λ (r : WrittenLine). advanced p r.holds r.next) writes.answer

        pub moved : p.place.offset < q.place.offset
        moved = omega (arith, at_is)

        pub turned : Writing s t₂ q
        turned =
            record {
              so_far = grown;
              words = enters ∙ put.words;
              counted = rw advances (put.counted w.next);
              formed = rw (at_is, line_is_lem) n.formed;
              left = rw (at_is, line_is_lem) left;
              fit = rw (at_is, line_is_lem) fits.1;
              opened = λ h. rw advances (put.opened w.next (omega (arith, h, line_is_lem)));
            }
